use Rattle.std.proofs.Common.{ℕ, ◌<◌}
use Rattle.nl_experiment_sweep.specs.inner.Bounds.{EachMaxY, held, with_min_y}
use Rattle.nl_experiment_sweep.proofs.bounds.each_min_y.Given as goal

-- there are worlds for each value so far
abbrev pub invariant-values : goal.invariant-values
invariant-values l = (i : ℕ) → i < l.index → EachMaxY (with_min_y l.fn.world (held l.fn.min_y) i) (held l.fn.max_y)
