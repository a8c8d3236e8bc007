use Rattle.nl_birth.specs.Births.{turtle_room, hatchings}
use Rattle.nl_birth.proofs.Counting.{IsSoFar}
use Rattle.nl_birth.proofs.births.bear_all_of.Given as goal

abbrev pub invariant-loop-index : goal.invariant-loop-index
invariant-loop-index g l =
    let start = g.S.Store.world l.fn.store in
    IsSoFar (hatchings l.breed l.parent l.at start) (turtle_room start) start.rest.turtles_given l._index (g.S.Store.world l.store) l.made
