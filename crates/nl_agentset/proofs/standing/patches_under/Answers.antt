use Rattle.std.proofs.Common.{◌≡◌, ◌<◌, ℕ, List, All, sym, subst, ◌∙◌}
use Rattle.std.proofs.lemmas.Result.{IfOk-weaker}
use Rattle.nl_grid.specs.Geometry.{patches_of}
use Rattle.nl_agents.specs.Changes.{TurtleLives}
use Rattle.nl_agentset_query.proofs.Inside.{patch_members}
use Rattle.nl_agentset.proofs.Inside.{turtle_members}
use Rattle.nl_agentset.proofs.standing.patches_under.Goals as goal

pub patches_under_turtles-requires : goal.patches_under_turtles-requires
patches_under_turtles-requires g c =
    let w = g.S.Store.world c.args.store.now in
    subst (λ (zs : List ℕ). All (λ z. TurtleLives z w) zs) (sym c.in_ok-members.ensures.list) (turtle_members w c.args.set.now c.shape-stands.ensures.stands (sym c.kind.ensures ∙ c.in-Turtle.is))

pub returns-in-Patch-clause-inside : goal.returns-in-Patch-clause-inside
returns-in-Patch-clause-inside g c =
    let r = (g.S.Store.world c.args.store.now).rest in
    IfOk-weaker c.numbers_of.result (λ v. v.items ≡ c.in_ok-members.members) (λ v. All (λ patch. patch < patches_of r.shape) v.items)
    (λ v is. subst (λ (zs : List ℕ). All (λ patch. patch < patches_of r.shape) zs) (sym (is ∙ c.in_ok-members.ensures.list)) (patch_members r c.args.set.now (sym c.kind.ensures ∙ c.in-Patch.is)))
    c.numbers_of.ensures
