use Rattle.std.proofs.Common.{◌≡◌, take, filter}
use Rattle.nl_agentset_query.specs.inner.Regions.{is_kept}
use Rattle.nl_agentset_query.proofs.near.Region.turtles_of.Given as goal

abbrev pub invariant-loop-number : goal.invariant-loop-number
invariant-loop-number g l = l.kept.items ≡ filter (is_kept (g.S.Store.world l.store).rest l.self l.breed) (take l.number-index l.numbers)
