use Rattle.nl_agentset.proofs.Neighboring.{neighbors_are}
use Rattle.nl_agentset.proofs.links.neighbors_at.Goals as goal
use Rattle.std.proofs.Common.{ap, ◌∙◌}
use Rattle.std.specs.Prelude.{filter_map}
use Rattle.nl_agentset.proofs.Neighboring.{end_of}

pub returns-clause-turtles : goal.returns-clause-turtles
returns-clause-turtles g c =
    let w = g.S.Store.world c.args.store.now in
    neighbors_are w c.args.side c.args.breed c.args.turtle _ c.in_order.result c.shape-stands.ensures.stands
    (c.in_ok-ends.ensures ∙ ap (filter_map (end_of w c.args.side c.args.breed c.args.turtle)) c.in_ok-links.ensures.links) c.in_order.ensures.same c.in_order.ensures.ascending
