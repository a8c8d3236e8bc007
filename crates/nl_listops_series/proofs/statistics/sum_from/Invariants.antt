use Rattle.std.proofs.Common.{◌≡◌, drop}
use Rattle.nl_listops_series.specs.Statistics.{sum_from}
use Rattle.nl_listops_series.proofs.statistics.sum_from.Given as goal

abbrev pub invariant-loop-number : goal.invariant-loop-number
invariant-loop-number l = sum_from l.fn.total l.numbers ≡ sum_from l.sum (drop l.number-index l.numbers)
