use Rattle.std.proofs.Common.{◌≡◌, ◌++◌, drop}
use Rattle.nl_check.specs.inner.Calls.{calls_in}
use Rattle.nl_check.proofs.calls.put_calls.Given as goal

abbrev pub invariant-loop-step : goal.invariant-loop-step
invariant-loop-step l = l.calls.items ++ calls_in l.caller (drop l.step-index l.steps) ≡ l.initial.calls.items ++ calls_in l.caller l.steps
