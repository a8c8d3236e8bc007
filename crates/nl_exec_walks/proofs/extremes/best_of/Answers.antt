-- The next answer's number may be better.
use Rattle.std.proofs.Common.{ap, ◌∙◌}
use Rattle.nl_exec_walks.specs.inner.Passes.{better}
use Rattle.nl_exec_walks.proofs.Passing.{best_so_far}
use Rattle.nl_exec_walks.proofs.extremes.best_of.Goals as goal

pub loop-answer-preserved : goal.loop-answer-preserved
loop-answer-preserved c =
    best_so_far c.args.up c.loop-answer.best c.args.answers.now c.loop-answer.answer-index c.answer-item.result c.better.result
    c.loop-answer-test.true c.answer-item.is c.loop-answer.invariant (c.better.ensures ∙ ap (better c.args.up c.loop-answer.best) c.count_of.ensures)
