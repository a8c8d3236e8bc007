-- The turtles so far.
use Rattle.nl_store.proofs.Copies.{TurtlesTaken}
use Rattle.nl_store.proofs.copying.copy_turtles.Given as goal

abbrev pub invariant-loop-serial : goal.invariant-loop-serial
invariant-loop-serial l = TurtlesTaken l.from l.into l.serial-index

abbrev pub ghosts-turtles_counted : goal.ghosts-turtles_counted
ghosts-turtles_counted a = record { name = a.blank.name; parts = a.blank.parts }
