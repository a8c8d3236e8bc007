-- The patches so far have their first values.
use Rattle.std.proofs.Common.{◌≡◌, ◌++◌, map, take, drop}
use Rattle.nl_agents.specs.Nouns.{Vars}
use Rattle.nl_agents.specs.World.{first_patch_vars}
use Rattle.nl_agents_ground.proofs.patches.reset_patches.Given as goal

abbrev pub invariant-loop-at : goal.invariant-loop-at
invariant-loop-at l =
    l.patches.items ≡ map (λ (vars : Vars). first_patch_vars l.layout) (take l.at l.initial.patches.items) ++ drop l.at l.initial.patches.items
