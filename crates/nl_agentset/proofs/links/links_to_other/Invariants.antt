use Rattle.std.proofs.Common.{◌≡◌, take, filter}
use Rattle.std.proofs.Common.{◌==◌}
use Rattle.nl_agents.specs.Changes.{link_of}
use Rattle.nl_agentset_query.specs.Agents.{link_passes}
use Rattle.nl_agentset.specs.Links.{other_end_of}
use Rattle.nl_agentset.proofs.links.links_to_other.Given as goal

abbrev pub invariant-loop-link : goal.invariant-loop-link
invariant-loop-link g l =
    let r = (g.S.Store.world l.store).rest in
    l.kept.items ≡ filter (λ link. link_passes (λ k. other_end_of l.turtle k == l.other) (link_of link r)) (take l.link-index l.links)
