use Rattle.std.proofs.Common.{◌≡◌, find, drop}
use Rattle.nl_agents.specs.Names.{living_of}
use Rattle.nl_agentset.specs.Links.{is_least}
use Rattle.nl_agentset.proofs.links.least_of.Given as goal

abbrev pub invariant-loop-link : goal.invariant-loop-link
invariant-loop-link g l =
    let w = living_of (g.S.Store.world l.view.store.now).rest in
    find (is_least w l.links) l.links ≡ find (is_least w l.links) (drop l.link-index l.links)
