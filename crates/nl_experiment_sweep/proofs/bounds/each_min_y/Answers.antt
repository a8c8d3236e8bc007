use Rattle.std.proofs.Common.{ℕ, arith}
use Rattle.nl_experiment_sweep.specs.inner.Bounds.{EachMaxY, bound_count, held, with_min_y}
use Rattle.nl_experiment_sweep.specs.declared.worlds.World.{World}
use Rattle.nl_experiment_sweep.proofs.Each.{each_all, each_more, each_none, granted, refuted}
use Rattle.nl_experiment_sweep.proofs.bounds.each_min_y.Goals as goal

pub returns-then-not-each_max_y : goal.returns-then-not-each_max_y
returns-then-not-each_max_y c =
    let P : ℕ → Type 0 = λ i. EachMaxY (with_min_y c.args.world (held c.args.min_y) i) (held c.args.max_y) in
    let Q : World → Type 0 = λ w. EachMaxY w (held c.args.max_y) in
    each_none P (bound_count (held c.args.min_y)) c.values.index (omega (arith, c.values-test.true, c.count-index-end.ensures))
    (refuted Q c.each_max_y.result c.with_min_y-one.result (with_min_y c.args.world (held c.args.min_y) c.values.index) c.with_min_y-one.ensures c.each_max_y.ensures c.if-not-each_max_y.true)

pub values-preserved : goal.values-preserved
values-preserved c =
    let P : ℕ → Type 0 = λ i. EachMaxY (with_min_y c.args.world (held c.args.min_y) i) (held c.args.max_y) in
    let Q : World → Type 0 = λ w. EachMaxY w (held c.args.max_y) in
    each_more P c.values.index c.values.invariant
    (granted Q c.each_max_y.result c.with_min_y-one.result (with_min_y c.args.world (held c.args.min_y) c.values.index) c.with_min_y-one.ensures c.each_max_y.ensures c.if-not-each_max_y.false)

pub returns : goal.returns
returns c =
    let P : ℕ → Type 0 = λ i. EachMaxY (with_min_y c.args.world (held c.args.min_y) i) (held c.args.max_y) in
    each_all P (bound_count (held c.args.min_y)) c.values.index (omega (arith, c.values-test.false, c.count-index-end.ensures)) c.values.invariant
