-- The serials so far.
use Rattle.std.proofs.Common.{◌≡◌, map, take}
use Rattle.nl_plain.proofs.filling.fill_turtles.Given as goal

abbrev pub invariant-loop-turtle : goal.invariant-loop-turtle
invariant-loop-turtle l = l.into ≡ map (λ a. a.serial) (take l.turtle-index l.turtles)
