-- What the slots so far have.
use Rattle.std.proofs.Common.{◌≡◌, take}
use Rattle.nl_agents_layout.specs.BuiltIn.{first_of_link}
use Rattle.nl_agents_layout.specs.Layouts.{link_owns}
use Rattle.nl_agents.specs.World.{first_vars}
use Rattle.nl_agents.proofs.variables.Variables.first_of_link.Given as goal

abbrev pub invariant-loop-slot : goal.invariant-loop-slot
invariant-loop-slot l =
    l.vars ≡ first_vars (link_owns l.layout l.breed) first_of_link (take l.slot-index l.layout.some_link)
