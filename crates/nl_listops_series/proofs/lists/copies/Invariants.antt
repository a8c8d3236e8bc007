-- The values so far.
use Rattle.std.proofs.Common.{◌≡◌, map, take}
use Rattle.nl_value.specs.Views.{plain}
use Rattle.nl_listops_series.proofs.lists.copies.Given as goal

abbrev pub invariant-loop-value : goal.invariant-loop-value
invariant-loop-value l = map plain l.list.items ≡ map plain (take l.value-index l.values)
