-- What the slots so far have.
use Rattle.std.proofs.Common.{◌≡◌, map, take, Some}
use Rattle.nl_agents_layout.specs.BuiltIn.{first_of_patch}
use Rattle.nl_agents.proofs.variables.Variables.first_of_patch.Given as goal

abbrev pub invariant-loop-slot : goal.invariant-loop-slot
invariant-loop-slot l = l.vars ≡ map (λ slot. Some (first_of_patch slot)) (take l.slot-index l.layout.every_patch)
