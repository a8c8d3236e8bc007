use Rattle.std.proofs.Common.{◌≡◌, take, true, not}
use Rattle.std.specs.List.{list_all}
use Rattle.nl_value.specs.Living.{link_comes_before}
use Rattle.nl_agents.specs.Names.{living_of}
use Rattle.nl_agentset.proofs.links.is_least.Given as goal

abbrev pub invariant-loop-other : goal.invariant-loop-other
invariant-loop-other g l = list_all (λ other. not (link_comes_before (living_of (g.S.Store.world l.view.store.now).rest) other l.link)) (take l.other-index l.list) ≡ true
