use Rattle.nl_birth.specs.Births.{turtle_room, ordered_births}
use Rattle.nl_birth.proofs.Counting.{IsSoFar}
use Rattle.nl_birth.proofs.births.bear_all_in_order.Given as goal

abbrev pub invariant-loop-index : goal.invariant-loop-index
invariant-loop-index g l =
    let start = g.S.Store.world l.fn.store in
    IsSoFar (ordered_births l.breed l.count start) (turtle_room start) start.rest.turtles_given l.index (g.S.Store.world l.store) l.made
