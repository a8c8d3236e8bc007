use Rattle.std.proofs.Common.{◌≡◌, ◌++◌, [], ◌∷◌, codes, ℤ, pos, ◌*ℤ◌, ap, ◌∙◌}
use Rattle.std.proofs.lemmas.Result.{IfOk-weaker}
use Rattle.nl_fixed.specs.Nouns.{Bytes}
use Rattle.nl_fixed.specs.Numbers.{one}
use Rattle.nl_agents.specs.Changes.{turtle_of}
use Rattle.nl_agents.specs.Names.{turtle_text, who_of}
use Rattle.nl_agents.specs.inner.Views.{counts_text}
use Rattle.nl_agents.proofs.Naming.{turtle_named}
use Rattle.nl_agents.proofs.view.View.turtle_name.Goals as goal

pub returns : goal.returns
returns g c =
    let w = g.S.Store.world c.args.self.now.store.now in
    let number : ℤ = pos (who_of w.rest c.args.turtle) *ℤ pos one in
    let text : Bytes → ℤ → Bytes = λ word who. codes "(" ++ word ++ counts_text (who ∷ []) ++ codes ")" in
    IfOk-weaker c.agent_name.result (λ (name : Bytes). name ≡ text c.singular-word.result.now c.who.result) (λ (name : Bytes). name ≡ turtle_text w.rest (turtle_of c.args.turtle w.rest))
    (λ name is.
    is ∙ ap (λ who. text c.singular-word.result.now who) c.who.ensures ∙ ap (λ word. text word number) c.singular-word.ensures
    ∙ turtle_named w c.args.turtle c.breed_of.result c.shape-stands.ensures.stands c.breed_of.ensures.value)
    c.agent_name.ensures
