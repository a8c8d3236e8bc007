use Rattle.std.proofs.Common.{ℕ, ◌<◌}
use Rattle.nl_grid.specs.Geometry.{IsWithinLimits}
use Rattle.nl_experiment_sweep.specs.Sweep.{plane_of_world}
use Rattle.nl_experiment_sweep.specs.inner.Bounds.{held, with_max_y}
use Rattle.nl_experiment_sweep.proofs.bounds.each_max_y.Given as goal

-- there is a world for each value so far
abbrev pub invariant-values : goal.invariant-values
invariant-values l = (i : ℕ) → i < l.index → IsWithinLimits (plane_of_world (with_max_y l.fn.world (held l.fn.max_y) i))
