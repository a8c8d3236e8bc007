-- The patches so far.
use Rattle.std.proofs.Common.{◌≡◌, replicate}
use Rattle.nl_agents.specs.World.{first_patch_vars}
use Rattle.nl_agents_ground.proofs.patches.first_patches.Given as goal

abbrev pub invariant-loop : goal.invariant-loop
invariant-loop l = l.patches.items ≡ replicate l.counter (first_patch_vars l.layout)
