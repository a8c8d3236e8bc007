use Rattle.std.proofs.Common.{length}
use Rattle.nl_experiment_sweep.specs.Varied.{AllHaveValues}
use Rattle.nl_experiment_sweep.proofs.tests.all_have_values.Given as goal

-- if those that are left have values, all have
abbrev pub invariant-varied : goal.invariant-varied
invariant-varied l = AllHaveValues l.left → AllHaveValues l.fn.varies

abbrev pub decreases-varied : goal.decreases-varied
decreases-varied l = length l.left
