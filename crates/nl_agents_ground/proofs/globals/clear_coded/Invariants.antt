-- The variables so far are cleared.
use Rattle.std.proofs.Common.{◌≡◌, ◌++◌, take, drop}
use Rattle.nl_agents.specs.Changes.{cleared_from}
use Rattle.nl_agents_ground.proofs.globals.clear_coded.Given as goal

abbrev pub invariant-loop-slot : goal.invariant-loop-slot
invariant-loop-slot l =
    l.globals ≡ take l.slot (cleared_from l.layout.coded 0 l.initial.globals) ++ drop l.slot l.initial.globals
