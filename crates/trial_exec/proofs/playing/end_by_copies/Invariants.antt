-- The text is open.
use Rattle.nl_exec.specs.Machines.{IsOpen}
use Rattle.trial_exec.proofs.playing.end_by_copies.Given as goal

abbrev pub invariant-loop : goal.invariant-loop
invariant-loop g l = IsOpen l.machine
