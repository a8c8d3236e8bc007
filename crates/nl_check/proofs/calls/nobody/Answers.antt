use Rattle.std.proofs.Common.{[], ◌∷◌, ◌++◌, ap, ◌∙◌}
use Rattle.nl_check.specs.inner.Calls.{nobody}
use Rattle.nl_check.proofs.Around.{nobody_more}
use Rattle.nl_check.proofs.calls.nobody.Goals as goal

pub loop-preserved : goal.loop-preserved
loop-preserved c = c.in_ok-push.ensures.items ∙ ap (λ xs. xs ++ c.empty.result ∷ []) c.loop.invariant ∙ ap (λ x. nobody c.loop.counter ++ x ∷ []) c.empty.ensures ∙ nobody_more c.loop.counter
