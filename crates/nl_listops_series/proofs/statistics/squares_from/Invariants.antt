use Rattle.std.proofs.Common.{◌≡◌, drop}
use Rattle.nl_listops_series.specs.Statistics.{squares_from}
use Rattle.nl_listops_series.proofs.statistics.squares_from.Given as goal

abbrev pub invariant-loop-number : goal.invariant-loop-number
invariant-loop-number l = squares_from l.mean l.fn.total l.numbers ≡ squares_from l.mean l.sum (drop l.number-index l.numbers)
