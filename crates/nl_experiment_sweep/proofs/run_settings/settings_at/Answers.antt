use Rattle.std.proofs.Common.{arith}
use Rattle.nl_value.specs.Views.{plain}
use Rattle.nl_experiment_sweep.specs.Sweep.{settings_in}
use Rattle.nl_experiment_sweep.proofs.Radix.{settings_more, step}
use Rattle.nl_experiment_sweep.proofs.run_settings.settings_at.Goals as goal

pub nonzero_div-index : goal.nonzero_div-index
nonzero_div-index c =
    let s = step c.args.combination c.varied.others c.varied.left.now c.in-Some.vary.now c.in-Some.behind.now c.in-Some.ensures.cases.0 c.varied.invariant.1 c.varied.invariant.3 in
    rw c.count-others.ensures s.positive

pub nonzero_rem-index : goal.nonzero_rem-index
nonzero_rem-index c =
    let s = step c.args.combination c.varied.others c.varied.left.now c.in-Some.vary.now c.in-Some.behind.now c.in-Some.ensures.cases.0 c.varied.invariant.1 c.varied.invariant.3 in
    rw c.count.ensures s.some

pub value-requires-clause-values : goal.value-requires-clause-values
value-requires-clause-values c =
    let s = step c.args.combination c.varied.others c.varied.left.now c.in-Some.vary.now c.in-Some.behind.now c.in-Some.ensures.cases.0 c.varied.invariant.1 c.varied.invariant.3 in
    s.has

pub value-requires-clause-below : goal.value-requires-clause-below
value-requires-clause-below c =
    let s = step c.args.combination c.varied.others c.varied.left.now c.in-Some.vary.now c.in-Some.behind.now c.in-Some.ensures.cases.0 c.varied.invariant.1 c.varied.invariant.3 in
    rw (c.count-others.ensures, c.count.ensures) s.below

pub varied-preserved : goal.varied-preserved
varied-preserved c =
    let s = step c.args.combination c.varied.others c.varied.left.now c.in-Some.vary.now c.in-Some.behind.now c.in-Some.ensures.cases.0 c.varied.invariant.1 c.varied.invariant.3 in (
      settings_more c.args.combination _ c.varied.settings c.push.new.self (settings_in c.args.combination c.args.varies.now) c.varied.left.now c.in-Some.vary.now c.in-Some.behind.now
          c.in_ok-name.name (plain c.in_ok-value.value) c.in-Some.ensures.cases.0 c.varied.invariant.0 c.in_ok-name.ensures.ok c.in_ok-value.ensures (rw (c.count-others.ensures, c.count.ensures) s.index) c.in_ok-push.ensures.ok,
      rw c.count-others.ensures s.others_are,
      rw c.count-others.ensures (omega (arith, s.fewer, c.varied.invariant.2)),
      s.rest,
    )
