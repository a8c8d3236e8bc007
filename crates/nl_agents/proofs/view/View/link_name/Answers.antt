use Rattle.std.proofs.Common.{◌≡◌, ◌++◌, [], ◌∷◌, codes, ℕ, ℤ, pos, ◌*ℤ◌, ap, ◌∙◌}
use Rattle.std.proofs.lemmas.Result.{IfOk-weaker}
use Rattle.nl_fixed.specs.Nouns.{Bytes}
use Rattle.nl_fixed.specs.Numbers.{one}
use Rattle.nl_agents.specs.Changes.{link_of}
use Rattle.nl_agents.specs.Names.{link_text, who_of}
use Rattle.nl_agents.specs.inner.Views.{counts_text}
use Rattle.nl_agents.proofs.Naming.{link_named}
use Rattle.nl_agents.proofs.view.View.link_name.Goals as goal

pub returns : goal.returns
returns g c =
    let w = g.S.Store.world c.args.self.now.store.now in
    let whole : ℕ → ℤ = λ serial. pos (who_of w.rest serial) *ℤ pos one in
    let text : Bytes → ℤ → ℤ → Bytes = λ word first second. codes "(" ++ word ++ counts_text (first ∷ second ∷ []) ++ codes ")" in
    let first = whole c.ends-end1.result.0 in
    let second = whole c.ends-end1.result.1 in
    IfOk-weaker c.agent_name.result (λ (name : Bytes). name ≡ text c.singular-word.result.now c.who.result c.who-2.result) (λ (name : Bytes). name ≡ link_text w.rest (link_of c.args.link w.rest))
    (λ name is.
    is ∙ ap (λ who. text c.singular-word.result.now who c.who-2.result) c.who.ensures
    ∙ ap (λ who. text c.singular-word.result.now first who) c.who-2.ensures
    ∙ ap (λ word. text word first second) c.singular-word.ensures
    ∙ link_named w c.args.link c.link_breed-breed.result.0 c.ends-end1.result.0 c.ends-end1.result.1
    c.link_breed-breed.ensures.value c.ends-end1.ensures.first c.ends-end1.ensures.second)
    c.agent_name.ensures
