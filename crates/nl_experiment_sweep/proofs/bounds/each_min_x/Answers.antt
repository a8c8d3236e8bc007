use Rattle.std.proofs.Common.{ℕ, arith}
use Rattle.nl_experiment_sweep.specs.inner.Bounds.{EachMaxX, bound_count, held, with_min_x}
use Rattle.nl_experiment_sweep.specs.declared.worlds.World.{World}
use Rattle.nl_experiment_sweep.proofs.Each.{each_all, each_more, each_none, granted, refuted}
use Rattle.nl_experiment_sweep.proofs.bounds.each_min_x.Goals as goal

pub returns-then-not-each_max_x : goal.returns-then-not-each_max_x
returns-then-not-each_max_x c =
    let P : ℕ → Type 0 = λ i. EachMaxX (with_min_x c.args.world (held c.args.min_x) i) (held c.args.max_x) (held c.args.min_y) (held c.args.max_y) in
    let Q : World → Type 0 = λ w. EachMaxX w (held c.args.max_x) (held c.args.min_y) (held c.args.max_y) in
    each_none P (bound_count (held c.args.min_x)) c.values.index (omega (arith, c.values-test.true, c.count-index-end.ensures))
    (refuted Q c.each_max_x.result c.with_min_x-one.result (with_min_x c.args.world (held c.args.min_x) c.values.index) c.with_min_x-one.ensures c.each_max_x.ensures c.if-not-each_max_x.true)

pub values-preserved : goal.values-preserved
values-preserved c =
    let P : ℕ → Type 0 = λ i. EachMaxX (with_min_x c.args.world (held c.args.min_x) i) (held c.args.max_x) (held c.args.min_y) (held c.args.max_y) in
    let Q : World → Type 0 = λ w. EachMaxX w (held c.args.max_x) (held c.args.min_y) (held c.args.max_y) in
    each_more P c.values.index c.values.invariant
    (granted Q c.each_max_x.result c.with_min_x-one.result (with_min_x c.args.world (held c.args.min_x) c.values.index) c.with_min_x-one.ensures c.each_max_x.ensures c.if-not-each_max_x.false)

pub returns : goal.returns
returns c =
    let P : ℕ → Type 0 = λ i. EachMaxX (with_min_x c.args.world (held c.args.min_x) i) (held c.args.max_x) (held c.args.min_y) (held c.args.max_y) in
    each_all P (bound_count (held c.args.min_x)) c.values.index (omega (arith, c.values-test.false, c.count-index-end.ensures)) c.values.invariant
