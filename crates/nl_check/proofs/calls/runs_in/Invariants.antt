use Rattle.std.proofs.Common.{◌≡◌, drop}
use Rattle.nl_check.specs.inner.Kinds.{meet}
use Rattle.nl_check.specs.inner.Calls.{runs_in}
use Rattle.nl_check.proofs.calls.runs_in.Given as goal

abbrev pub invariant-loop-step : goal.invariant-loop-step
invariant-loop-step l = meet l.all (runs_in (drop l.step-index l.steps)) ≡ runs_in l.steps
