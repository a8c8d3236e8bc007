use Rattle.std.proofs.Common.{◌≡◌, take, fold}
use Rattle.nl_listops_series.specs.Statistics.{lesser}
use Rattle.nl_listops_series.proofs.statistics.least.Given as goal

abbrev pub invariant-loop-number : goal.invariant-loop-number
invariant-loop-number l = l.least ≡ fold lesser l.initial.least (take l.number-index l.others)
