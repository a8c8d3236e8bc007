use Rattle.std.proofs.Common.{◌≡◌, map, drop}
use Rattle.nl_value.specs.Views.{plain}
use Rattle.nl_listops.specs.Inputs.{numbers_in}
use Rattle.nl_listops.proofs.Listed.{behind}
use Rattle.nl_listops.proofs.inputs.numbers_in.Given as goal

abbrev pub invariant-loop-value : goal.invariant-loop-value
invariant-loop-value l = numbers_in (map plain l.values) ≡ behind l.numbers.items (numbers_in (map plain (drop l.value-index l.values)))
