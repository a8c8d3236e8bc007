-- The serials so far.
use Rattle.std.proofs.Common.{◌≡◌, map, filter, take}
use Rattle.nl_agents.specs.Members.{is_of_breed}
use Rattle.nl_plain.proofs.filling.fill_breed.Given as goal

abbrev pub invariant-loop-turtle : goal.invariant-loop-turtle
invariant-loop-turtle l = l.into ≡ map (λ a. a.serial) (filter (is_of_breed l.breed) (take l.turtle-index l.turtles))
