use Rattle.std.proofs.Common.{◌≡◌, take}
use Rattle.nl_value.specs.Measures.{greatest}
use Rattle.nl_listops_series.proofs.repeats.greatest.Given as goal

abbrev pub invariant-loop-number : goal.invariant-loop-number
invariant-loop-number l = l.greatest ≡ greatest (take l.number-index l.numbers)
