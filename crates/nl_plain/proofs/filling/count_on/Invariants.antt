-- How many are so far.
use Rattle.std.proofs.Common.{◌≡◌, ◌≤◌, ◌==◌, length, map, filter, take}
use Rattle.nl_grid.specs.Geometry.{patch_at}
use Rattle.nl_plain.proofs.filling.count_on.Given as goal

abbrev pub invariant-loop-turtle : goal.invariant-loop-turtle
invariant-loop-turtle l =
    (l.count ≡ length (map (λ t. t.serial) (filter (λ t. patch_at l.shape t.at == l.patch) (take l.turtle-index l.turtles))))
    × (l.count ≤ l.turtle-index)
