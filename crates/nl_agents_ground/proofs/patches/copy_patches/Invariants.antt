-- The agents so far.
use Rattle.std.proofs.Common.{◌≡◌, take}
use Rattle.nl_agents_ground.proofs.patches.copy_patches.Given as goal

abbrev pub invariant-loop-vars : goal.invariant-loop-vars
invariant-loop-vars l = l.copied.items ≡ take l.vars-index l.patches
