-- The items so far are copied.
use Rattle.std.proofs.Common.{◌≡◌, take, map}
use Rattle.nl_value.specs.Views.{plain}
use Rattle.nl_value.proofs.values.Items.copy.Given as goal

abbrev pub invariant-loop-value : goal.invariant-loop-value
invariant-loop-value l = l.copied ≡ map plain (take l.value-index l.value-items)
