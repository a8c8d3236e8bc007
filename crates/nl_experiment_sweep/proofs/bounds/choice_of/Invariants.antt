use Rattle.std.proofs.Common.{◌≡◌, length}
use Rattle.nl_experiment_sweep.specs.inner.Bounds.{choice_among}
use Rattle.nl_experiment_sweep.proofs.bounds.choice_of.Given as goal

-- no variable so far has the name
abbrev pub invariant-varied : goal.invariant-varied
invariant-varied l = choice_among l.fn.name l.left ≡ choice_among l.fn.name l.fn.varies

abbrev pub decreases-varied : goal.decreases-varied
decreases-varied l = length l.left
