use Rattle.std.proofs.Common.{◌≡◌, take, filter}
use Rattle.nl_agents.specs.Changes.{turtle_of}
use Rattle.nl_agentset_query.specs.Agents.{is_of, turtle_passes}
use Rattle.nl_agentset.proofs.standing.bred.Given as goal

abbrev pub invariant-loop-number : goal.invariant-loop-number
invariant-loop-number g l =
    let r = (g.S.Store.world l.store).rest in
    l.kept.items ≡ filter (λ turtle. turtle_passes (λ t. is_of l.breed t.breed) (turtle_of turtle r)) (take l.number-index l.numbers)
