use Rattle.std.proofs.Common.{◌≡◌, take, fold}
use Rattle.nl_listops_series.specs.Statistics.{larger}
use Rattle.nl_listops_series.proofs.statistics.greatest.Given as goal

abbrev pub invariant-loop-number : goal.invariant-loop-number
invariant-loop-number l = l.greatest ≡ fold larger l.initial.greatest (take l.number-index l.others)
