-- What the slots so far have.
use Rattle.std.proofs.Common.{◌≡◌, take}
use Rattle.nl_agents_layout.specs.BuiltIn.{first_of_turtle}
use Rattle.nl_agents_layout.specs.Layouts.{turtle_owns}
use Rattle.nl_agents.specs.World.{first_vars}
use Rattle.nl_agents.proofs.variables.Variables.first_of_turtle.Given as goal

abbrev pub invariant-loop-slot : goal.invariant-loop-slot
invariant-loop-slot l =
    l.vars ≡ first_vars (turtle_owns l.layout l.breed) first_of_turtle (take l.slot-index l.layout.some_turtle)
