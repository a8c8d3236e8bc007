use Rattle.std.proofs.Common.{◌≡◌, take, false}
use Rattle.std.specs.List.{list_any}
use Rattle.nl_agents.specs.Changes.{link_lives}
use Rattle.nl_agentset.proofs.sets.has_living_link.Given as goal

abbrev pub invariant-loop-number : goal.invariant-loop-number
invariant-loop-number g l = list_any (link_lives (g.S.Store.world l.store).rest) (take l.number-index l.numbers) ≡ false
