use Rattle.std.proofs.Common.{ℕ, ◌<◌}
use Rattle.nl_experiment_sweep.specs.inner.Bounds.{EachMinY, held, with_max_x}
use Rattle.nl_experiment_sweep.proofs.bounds.each_max_x.Given as goal

-- there are worlds for each value so far
abbrev pub invariant-values : goal.invariant-values
invariant-values l = (i : ℕ) → i < l.index → EachMinY (with_max_x l.fn.world (held l.fn.max_x) i) (held l.fn.min_y) (held l.fn.max_y)
