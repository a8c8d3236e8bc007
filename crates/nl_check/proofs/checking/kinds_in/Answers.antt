use Rattle.std.proofs.Common.{[], ◌∷◌, ◌++◌, ap, ◌∙◌}
use Rattle.nl_check.proofs.Judged.{taken_more}
use Rattle.nl_check.proofs.checking.kinds_in.Goals as goal

pub loop-at-preserved : goal.loop-at-preserved
loop-at-preserved c = c.in_ok-push.ensures.items ∙ ap (λ xs. xs ++ c.in-Some.kinds ∷ []) c.loop-at.invariant ∙ taken_more c.args.program.now.kinds c.loop-at.at c.in-Some.kinds c.in-Some.ensures.value
