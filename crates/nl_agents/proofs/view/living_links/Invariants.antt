use Rattle.std.proofs.Common.{◌≡◌, take, filter}
use Rattle.nl_agents.specs.Changes.{link_lives}
use Rattle.nl_agents.proofs.view.living_links.Given as goal

abbrev pub invariant-loop-number : goal.invariant-loop-number
invariant-loop-number g l = l.living.items ≡ filter (link_lives (g.S.Store.world l.store).rest) (take l.number-index l.numbers)
