use Rattle.std.proofs.Common.{◌≡◌, take, filter}
use Rattle.nl_agents.specs.Changes.{link_of}
use Rattle.nl_agentset_query.specs.Agents.{link_passes}
use Rattle.nl_agentset.specs.Links.{is_link_at}
use Rattle.nl_agentset.proofs.links.links_kept.Given as goal

abbrev pub invariant-loop-link : goal.invariant-loop-link
invariant-loop-link g l =
    let r = (g.S.Store.world l.store).rest in
    l.kept.items ≡ filter (λ link. link_passes (is_link_at l.side l.breed l.turtle) (link_of link r)) (take l.link-index l.links)
