use Rattle.std.proofs.Common.{ℕ, arith}
use Rattle.nl_experiment_sweep.specs.inner.Bounds.{EachMinY, bound_count, held, with_max_x}
use Rattle.nl_experiment_sweep.specs.declared.worlds.World.{World}
use Rattle.nl_experiment_sweep.proofs.Each.{each_all, each_more, each_none, granted, refuted}
use Rattle.nl_experiment_sweep.proofs.bounds.each_max_x.Goals as goal

pub returns-then-not-each_min_y : goal.returns-then-not-each_min_y
returns-then-not-each_min_y c =
    let P : ℕ → Type 0 = λ i. EachMinY (with_max_x c.args.world (held c.args.max_x) i) (held c.args.min_y) (held c.args.max_y) in
    let Q : World → Type 0 = λ w. EachMinY w (held c.args.min_y) (held c.args.max_y) in
    each_none P (bound_count (held c.args.max_x)) c.values.index (omega (arith, c.values-test.true, c.count-index-end.ensures))
    (refuted Q c.each_min_y.result c.with_max_x-one.result (with_max_x c.args.world (held c.args.max_x) c.values.index) c.with_max_x-one.ensures c.each_min_y.ensures c.if-not-each_min_y.true)

pub values-preserved : goal.values-preserved
values-preserved c =
    let P : ℕ → Type 0 = λ i. EachMinY (with_max_x c.args.world (held c.args.max_x) i) (held c.args.min_y) (held c.args.max_y) in
    let Q : World → Type 0 = λ w. EachMinY w (held c.args.min_y) (held c.args.max_y) in
    each_more P c.values.index c.values.invariant
    (granted Q c.each_min_y.result c.with_max_x-one.result (with_max_x c.args.world (held c.args.max_x) c.values.index) c.with_max_x-one.ensures c.each_min_y.ensures c.if-not-each_min_y.false)

pub returns : goal.returns
returns c =
    let P : ℕ → Type 0 = λ i. EachMinY (with_max_x c.args.world (held c.args.max_x) i) (held c.args.min_y) (held c.args.max_y) in
    each_all P (bound_count (held c.args.max_x)) c.values.index (omega (arith, c.values-test.false, c.count-index-end.ensures)) c.values.invariant
