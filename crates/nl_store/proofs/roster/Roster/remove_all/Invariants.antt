-- Only turtles are gone.
use Rattle.std.proofs.Common.{◌≡◌, length}
use Rattle.nl_store.proofs.roster.Roster.remove_all.Given as goal

abbrev pub invariant-loop-turtle : goal.invariant-loop-turtle
invariant-loop-turtle l = l.self ≡ record l.initial.self { turtles = l.self.turtles }

abbrev pub decreases-loop-turtle : goal.decreases-loop-turtle
decreases-loop-turtle l = length l.self.turtles
