use Rattle.std.proofs.Common.{◌≡◌, ◌≤◌, ◌+◌, take, length}
use Rattle.std.specs.List.{flat_map}
use Rattle.nl_agents.specs.Members.{turtles_where, is_on}
use Rattle.nl_agentset.proofs.standing.turtles_gathered.Given as goal

abbrev pub invariant-loop-patch : goal.invariant-loop-patch
invariant-loop-patch g l =
    let r = (g.S.Store.world l.store).rest in
    (l.found.items ≡ flat_map (λ patch. turtles_where (is_on r patch) r) (take l.patch-index l.numbers))
    × (l.steps ≤ l.fn.steps + (length l.found.items + l.patch-index))
