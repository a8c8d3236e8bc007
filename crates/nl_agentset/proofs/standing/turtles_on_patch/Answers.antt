use Rattle.std.proofs.Common.{◌≡◌, [], ◌∷◌, ℕ, List, filter, ap, ◌∙◌}
use Rattle.std.proofs.lemmas.Result.{IfOk-weaker}
use Rattle.nl_value.specs.Nouns.{Serials}
use Rattle.nl_agents.specs.Changes.{turtle_of}
use Rattle.nl_agentset.specs.Places.{turtles_on}
use Rattle.nl_agentset_query.specs.Agents.{is_of, turtle_passes}
use Rattle.nl_agentset.proofs.OnPatches.{bred_on_one}
use Rattle.nl_agentset.proofs.standing.turtles_on_patch.Goals as goal

pub returns-clause-list : goal.returns-clause-list
returns-clause-list g c =
    let w = g.S.Store.world c.args.store.now in
    let kept : List ℕ → List ℕ = λ zs. filter (λ z. turtle_passes (λ t. is_of c.args.breed t.breed) (turtle_of z w.rest)) zs in
    IfOk-weaker c.bred.result (λ (turtles : Serials). turtles ≡ kept _) (λ (turtles : Serials). turtles ≡ turtles_on w.rest c.args.breed (c.args.patch ∷ []))
    (λ turtles is. is ∙ ap kept c.in_ok-members_on.ensures.list ∙ bred_on_one w c.args.breed c.args.patch c.shape-stands.ensures.stands)
    c.bred.ensures
