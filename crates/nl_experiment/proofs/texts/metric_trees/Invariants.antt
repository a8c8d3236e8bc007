use Rattle.std.proofs.Common.{◌≡◌, ◌+◌, length}
use Rattle.nl_experiment.specs.Texts.{metrics_from}
use Rattle.nl_experiment.proofs.Lone.{AreLeft}
use Rattle.nl_experiment.proofs.texts.metric_trees.Given as goal

-- the metrics are counted, and the trees so far, with those of the metrics that are left, are all
abbrev pub invariant-metrics : goal.invariant-metrics
invariant-metrics l = (l.number + length l.left ≡ length l.fn.metrics) × AreLeft l.program (l.number + 1) l.left l.trees (metrics_from 1 l.fn.metrics)

abbrev pub decreases-metrics : goal.decreases-metrics
decreases-metrics l = length l.left
