use Rattle.std.proofs.Common.{ℕ, ◌<◌}
use Rattle.nl_experiment_sweep.specs.inner.Bounds.{EachMaxX, held, with_min_x}
use Rattle.nl_experiment_sweep.proofs.bounds.each_min_x.Given as goal

-- there are worlds for each value so far
abbrev pub invariant-values : goal.invariant-values
invariant-values l = (i : ℕ) → i < l.index → EachMaxX (with_min_x l.fn.world (held l.fn.min_x) i) (held l.fn.max_x) (held l.fn.min_y) (held l.fn.max_y)
