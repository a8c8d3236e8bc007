use Rattle.std.proofs.Common.{◌≡◌, ◌<◌, ℕ, List, filter, ◌∙◌}
use Rattle.std.proofs.lemmas.Result.{IfOk-weaker}
use Rattle.nl_value.specs.Nouns.{Serials}
use Rattle.nl_grid.specs.Geometry.{patches_of}
use Rattle.nl_agents.specs.Changes.{turtle_of}
use Rattle.nl_agentset.specs.Places.{turtles_on}
use Rattle.nl_agentset_query.specs.Agents.{is_of, turtle_passes}
use Rattle.nl_agentset.proofs.Found.{all_of_same}
use Rattle.nl_agentset.proofs.OnPatches.{bred_on_several, several_reads}
use Rattle.nl_agentset.proofs.standing.turtles_on.Goals as goal

pub turtles_gathered-requires : goal.turtles_gathered-requires
turtles_gathered-requires g c =
    let r = (g.S.Store.world c.args.store.now).rest in
    all_of_same (λ patch. patch < patches_of r.shape) c.args.patches.items c.in_order-each.result c.in_order-each.ensures.same c.requires

pub returns-clause-list : goal.returns-clause-list
returns-clause-list g c =
    let w = g.S.Store.world c.args.store.now in
    let kept : List ℕ → List ℕ = λ zs. filter (λ z. turtle_passes (λ t. is_of c.args.breed t.breed) (turtle_of z w.rest)) zs in
    IfOk-weaker c.bred.result (λ (turtles : Serials). turtles ≡ kept _) (λ (turtles : Serials). turtles ≡ turtles_on w.rest c.args.breed c.args.patches.items)
    (λ turtles is.
    is ∙ bred_on_several w c.args.breed c.args.patches.items c.in_order-each.result _ c.in_order-all.result c.shape-stands.ensures.stands
    c.in_order-each.ensures.same c.in_ok-found.ensures.turtles c.in_order-all.ensures.same c.in_order-all.ensures.ascending)
    c.bred.ensures

pub returns-in_err-found-clause-reads : goal.returns-in_err-found-clause-reads
returns-in_err-found-clause-reads g c =
    let r = (g.S.Store.world c.args.store.now).rest in
    several_reads r c.args.patches.items c.in_order-each.result c.args.steps.now c.turtles_gathered.new.steps
    c.in_order-each.ensures.same c.in_order-each.ensures.ascending c.requires c.turtles_gathered.ensures.reads

pub returns-clause-reads : goal.returns-clause-reads
returns-clause-reads g c =
    let r = (g.S.Store.world c.args.store.now).rest in
    several_reads r c.args.patches.items c.in_order-each.result c.args.steps.now c.turtles_gathered.new.steps
    c.in_order-each.ensures.same c.in_order-each.ensures.ascending c.requires c.turtles_gathered.ensures.reads
