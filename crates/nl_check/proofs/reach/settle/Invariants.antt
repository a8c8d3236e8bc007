use Rattle.nl_check.specs.inner.Reach.{Settling, left_to_do}
use Rattle.nl_check.proofs.reach.settle.Given as goal

abbrev pub invariant-loop-place : goal.invariant-loop-place
invariant-loop-place l = Settling l.fn.own.items l.callers l.kinds.items l.work.items

abbrev pub decreases-loop-place : goal.decreases-loop-place
decreases-loop-place l = left_to_do l.kinds.items l.work.items
