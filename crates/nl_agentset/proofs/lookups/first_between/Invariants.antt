use Rattle.std.proofs.Common.{◌≡◌, find, drop}
use Rattle.nl_agents.specs.Changes.{link_of}
use Rattle.nl_agentset_query.specs.Agents.{link_passes}
use Rattle.nl_agentset.specs.Sets.{is_between}
use Rattle.nl_agentset.proofs.lookups.first_between.Given as goal

abbrev pub invariant-loop-link : goal.invariant-loop-link
invariant-loop-link g l =
    let r = (g.S.Store.world l.store).rest in
    find (λ link. link_passes (is_between l.breed l.first l.second) (link_of link r)) l.numbers
    ≡ find (λ link. link_passes (is_between l.breed l.first l.second) (link_of link r)) (drop l.link-index l.numbers)
