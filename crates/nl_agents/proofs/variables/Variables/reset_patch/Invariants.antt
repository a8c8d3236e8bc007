-- The slots so far have their first values.
use Rattle.std.proofs.Common.{◌≡◌, ◌++◌, take, drop}
use Rattle.nl_agents.specs.World.{first_patch_vars}
use Rattle.nl_agents.proofs.variables.Variables.reset_patch.Given as goal

abbrev pub invariant-loop-at : goal.invariant-loop-at
invariant-loop-at l =
    l.self ≡ take l.at (first_patch_vars l.layout) ++ drop l.at l.initial.self
