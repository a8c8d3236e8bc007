-- The run has not ended.
use Rattle.nl_run.specs.Runs.{HasEnded}
use Rattle.trial_run.proofs.playing.ends_in_slices.Given as goal

abbrev pub invariant-loop : goal.invariant-loop
invariant-loop g l = HasEnded l.run → ⊥
