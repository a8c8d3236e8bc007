use Rattle.std.proofs.Common.{ℕ, arith}
use Rattle.nl_grid.specs.Geometry.{IsWithinLimits}
use Rattle.nl_experiment_sweep.specs.Sweep.{plane_of_world}
use Rattle.nl_experiment_sweep.specs.inner.Bounds.{bound_count, held, with_max_y}
use Rattle.nl_experiment_sweep.specs.declared.worlds.World.{World}
use Rattle.nl_experiment_sweep.proofs.Each.{each_all, each_more, each_none, granted, refuted}
use Rattle.nl_experiment_sweep.proofs.bounds.each_max_y.Goals as goal

pub returns-then-not-is_world : goal.returns-then-not-is_world
returns-then-not-is_world c =
    let P : ℕ → Type 0 = λ i. IsWithinLimits (plane_of_world (with_max_y c.args.world (held c.args.max_y) i)) in
    let Q : World → Type 0 = λ w. IsWithinLimits (plane_of_world w) in
    each_none P (bound_count (held c.args.max_y)) c.values.index (omega (arith, c.values-test.true, c.count-index-end.ensures))
    (refuted Q c.is_world.result c.with_max_y-one.result (with_max_y c.args.world (held c.args.max_y) c.values.index) c.with_max_y-one.ensures c.is_world.ensures c.if-not-is_world.true)

pub values-preserved : goal.values-preserved
values-preserved c =
    let P : ℕ → Type 0 = λ i. IsWithinLimits (plane_of_world (with_max_y c.args.world (held c.args.max_y) i)) in
    let Q : World → Type 0 = λ w. IsWithinLimits (plane_of_world w) in
    each_more P c.values.index c.values.invariant
    (granted Q c.is_world.result c.with_max_y-one.result (with_max_y c.args.world (held c.args.max_y) c.values.index) c.with_max_y-one.ensures c.is_world.ensures c.if-not-is_world.false)

pub returns : goal.returns
returns c =
    let P : ℕ → Type 0 = λ i. IsWithinLimits (plane_of_world (with_max_y c.args.world (held c.args.max_y) i)) in
    each_all P (bound_count (held c.args.max_y)) c.values.index (omega (arith, c.values-test.false, c.count-index-end.ensures)) c.values.invariant
