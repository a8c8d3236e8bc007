-- How many are so far.
use Rattle.std.proofs.Common.{◌≡◌, ◌≤◌, length, map, filter, take}
use Rattle.nl_agents.specs.Members.{is_of_breed}
use Rattle.nl_plain.proofs.filling.count_breed.Given as goal

abbrev pub invariant-loop-turtle : goal.invariant-loop-turtle
invariant-loop-turtle l =
    (l.count ≡ length (map (λ t. t.serial) (filter (is_of_breed l.breed) (take l.turtle-index l.turtles))))
    × (l.count ≤ l.turtle-index)
