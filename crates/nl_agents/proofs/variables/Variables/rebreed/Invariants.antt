-- The entries so far are of the new breed.
use Rattle.std.proofs.Common.{◌≡◌, ◌++◌, take, drop}
use Rattle.nl_agents.specs.Changes.{bred_vars}
use Rattle.nl_agents.proofs.variables.Variables.rebreed.Given as goal

abbrev pub invariant-loop-at : goal.invariant-loop-at
invariant-loop-at l =
    l.self ≡ take l.at (bred_vars l.layout l.breed l.initial.self) ++ drop l.at l.initial.self
