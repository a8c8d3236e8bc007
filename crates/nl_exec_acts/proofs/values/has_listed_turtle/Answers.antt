use Rattle.std.proofs.Common.{sym, ◌∙◌}
use Rattle.nl_agents.specs.Changes.{turtle_lives}
use Rattle.nl_agents.specs.Members.{is_listed}
use Rattle.nl_exec_acts.proofs.Membership.{some_turtles_listed, both_then, both_else}
use Rattle.nl_exec_acts.proofs.values.has_listed_turtle.Goals as goal

pub returns-then-contains : goal.returns-then-contains
returns-then-contains g c =
    let w = g.S.Store.world c.args.store.now in
    let z = c.args.turtle in
    c.turtle_lives.ensures
    ∙ both_then (is_listed c.args.listed.now z) (turtle_lives w.rest z) _
    (some_turtles_listed w c.args.listed.now z c.shape-stands.ensures.stands c.as_slice-ascending.ensures.ascending)
    (sym c.contains.ensures ∙ c.if-contains.true)

pub returns-else-contains : goal.returns-else-contains
returns-else-contains g c =
    let w = g.S.Store.world c.args.store.now in
    let z = c.args.turtle in
    c.contains.ensures
    ∙ both_else (is_listed c.args.listed.now z) (turtle_lives w.rest z) _
    (some_turtles_listed w c.args.listed.now z c.shape-stands.ensures.stands c.as_slice-ascending.ensures.ascending)
    (sym c.contains.ensures ∙ c.if-contains.false)
