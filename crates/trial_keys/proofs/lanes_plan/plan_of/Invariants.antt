use Rattle.std.proofs.Common.{◌≡◌, length}
use Rattle.trial_keys.proofs.lanes_plan.plan_of.Given as goal

-- as many rows were taken over
abbrev pub invariant-loop-index : goal.invariant-loop-index
invariant-loop-index l = length l.planned.items ≡ l.index
