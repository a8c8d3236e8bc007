use Rattle.std.proofs.Common.{◌≡◌, take, filter}
use Rattle.nl_agents.specs.Changes.{turtle_lives}
use Rattle.nl_agents.proofs.view.living_turtles.Given as goal

abbrev pub invariant-loop-number : goal.invariant-loop-number
invariant-loop-number g l = l.living.items ≡ filter (turtle_lives (g.S.Store.world l.store).rest) (take l.number-index l.numbers)
