-- The agents so far.
use Rattle.std.proofs.Common.{◌≡◌, take}
use Rattle.nl_plain.proofs.copying.copy_turtles.Given as goal

abbrev pub invariant-loop-turtle : goal.invariant-loop-turtle
invariant-loop-turtle l = l.copied.items ≡ take l.turtle-index l.turtles
