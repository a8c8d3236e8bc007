use Rattle.std.proofs.Common.{◌≡◌, take}
use Rattle.std.specs.Prelude.{filter_map, option_map}
use Rattle.nl_agents.specs.Changes.{link_of}
use Rattle.nl_agentset.specs.Links.{other_end_of}
use Rattle.nl_agentset.proofs.links.other_ends.Given as goal

abbrev pub invariant-loop-link : goal.invariant-loop-link
invariant-loop-link g l =
    let r = (g.S.Store.world l.store).rest in
    l.ends.items ≡ filter_map (λ link. option_map (other_end_of l.turtle) (link_of link r)) (take l.link-index l.numbers)
