-- No text is open.
use Rattle.nl_exec.specs.Machines.{IsClosed}
use Rattle.trial_exec.proofs.playing.all_look_right.Given as goal

abbrev pub invariant-loop-reporter : goal.invariant-loop-reporter
invariant-loop-reporter g l = IsClosed l.machine
