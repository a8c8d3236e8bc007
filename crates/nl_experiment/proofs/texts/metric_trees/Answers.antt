use Rattle.std.proofs.Common.{◌+◌, arith}
use Rattle.nl_tree.specs.Views.{plain}
use Rattle.nl_experiment.specs.Texts.{metrics_from}
use Rattle.nl_experiment.proofs.Lone.{counted_more, left_first, left_more}
use Rattle.nl_experiment.proofs.texts.metric_trees.Goals as goal

pub metrics-init : goal.metrics-init
metrics-init c = (omega arith, left_first c.args.program.now c.args.metrics.now c.empty-trees.result c.empty-trees.ensures)

pub metrics-preserved : goal.metrics-preserved
metrics-preserved c =
    let left = c.metrics.left.now in
    let rest = c.in-Some.behind.now in
    let text = c.in-Some.text.now in
    let first = c.in-Some.ensures.cases.0 in (
      counted_more left rest text c.metrics.number _ first c.metrics.invariant.0,
      left_more c.args.program.now (c.metrics.number + 1) left rest text c.metrics.trees c.push.new.self (plain c.in_ok-tree.tree) (metrics_from 1 c.args.metrics.now)
          first c.in_ok-tree.ensures.tree c.in_ok-push.ensures.ok c.metrics.invariant.1,
    )
