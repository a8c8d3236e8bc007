use Rattle.nl_birth.specs.Births.{Scene, turtle_room, drawn_births}
use Rattle.nl_birth.proofs.Counting.{IsSoFar}
use Rattle.nl_birth.proofs.births.bear_all_drawn.Given as goal

abbrev pub invariant-loop-index : goal.invariant-loop-index
invariant-loop-index g l =
    let start : Scene = record { world = g.S.Store.world l.fn.store; stream = l.fn.stream } in
    let now : Scene = record { world = g.S.Store.world l.store; stream = l.stream } in
    IsSoFar (drawn_births l.breed l.at start) (turtle_room start.world) start.world.rest.turtles_given l._index now l.made
