use Rattle.std.proofs.Common.{◌≡◌, [], drop}
use Rattle.nl_check.specs.inner.Faults.{first_wrong}
use Rattle.nl_check.proofs.faults.first_wrong.Given as goal

-- what the steps that are left tell is what all tell
abbrev pub invariant-loop-step : goal.invariant-loop-step
invariant-loop-step l = first_wrong l.called l.reporter l.around.items l.left (drop l.step-index l.steps) ≡ first_wrong l.called l.reporter [] l.fn.first l.steps
