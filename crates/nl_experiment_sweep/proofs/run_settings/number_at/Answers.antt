use Rattle.std.proofs.Common.{◌≡◌, true, false, sym, ap, ◌∙◌, arith}
use Rattle.std.specs.Str.{bytes_eq}
use Rattle.nl_experiment_sweep.specs.Sweep.{settings_in}
use Rattle.nl_experiment_sweep.specs.Varied.{number_among}
use Rattle.nl_experiment_sweep.proofs.Radix.{number_found, number_passed, step}
use Rattle.nl_experiment_sweep.proofs.run_settings.number_at.Goals as goal

pub nonzero_div-index : goal.nonzero_div-index
nonzero_div-index c =
    let s = step c.args.combination c.varied.others c.varied.left.now c.in-Some.vary.now c.in-Some.behind.now c.in-Some.ensures.cases.0 c.varied.invariant.1 c.varied.invariant.3 in
    rw c.count-others.ensures s.positive

pub nonzero_rem-index : goal.nonzero_rem-index
nonzero_rem-index c =
    let s = step c.args.combination c.varied.others c.varied.left.now c.in-Some.vary.now c.in-Some.behind.now c.in-Some.ensures.cases.0 c.varied.invariant.1 c.varied.invariant.3 in
    rw c.count.ensures s.some

pub number-requires-clause-values : goal.number-requires-clause-values
number-requires-clause-values c =
    let s = step c.args.combination c.varied.others c.varied.left.now c.in-Some.vary.now c.in-Some.behind.now c.in-Some.ensures.cases.0 c.varied.invariant.1 c.varied.invariant.3 in
    s.has

pub number-requires-clause-below : goal.number-requires-clause-below
number-requires-clause-below c =
    let s = step c.args.combination c.varied.others c.varied.left.now c.in-Some.vary.now c.in-Some.behind.now c.in-Some.ensures.cases.0 c.varied.invariant.1 c.varied.invariant.3 in
    rw (c.count-others.ensures, c.count.ensures) s.below

pub returns-then-is_named : goal.returns-then-is_named
returns-then-is_named c =
    let s = step c.args.combination c.varied.others c.varied.left.now c.in-Some.vary.now c.in-Some.behind.now c.in-Some.ensures.cases.0 c.varied.invariant.1 c.varied.invariant.3 in
    let named : bytes_eq c.in-Some.vary.now.name c.args.name.now ≡ true = ap (λ n. bytes_eq n c.args.name.now) (sym c.as_bytes.ensures) ∙ sym c.is_named.ensures ∙ c.if-is_named.true in
    c.number.ensures ∙ number_found c.args.combination _ c.args.name.now (number_among c.args.name.now (settings_in c.args.combination c.args.varies.now)) c.varied.left.now c.in-Some.vary.now c.in-Some.behind.now c.in-Some.ensures.cases.0
    c.varied.invariant.0 named (rw (c.count-others.ensures, c.count.ensures) s.index)

pub varied-preserved : goal.varied-preserved
varied-preserved c =
    let s = step c.args.combination c.varied.others c.varied.left.now c.in-Some.vary.now c.in-Some.behind.now c.in-Some.ensures.cases.0 c.varied.invariant.1 c.varied.invariant.3 in
    let other : bytes_eq c.in-Some.vary.now.name c.args.name.now ≡ false = ap (λ n. bytes_eq n c.args.name.now) (sym c.as_bytes.ensures) ∙ sym c.is_named.ensures ∙ c.if-is_named.false in (
      number_passed c.args.combination c.args.name.now (number_among c.args.name.now (settings_in c.args.combination c.args.varies.now)) c.varied.left.now c.in-Some.vary.now c.in-Some.behind.now c.in-Some.ensures.cases.0 c.varied.invariant.0 other,
      rw c.count-others.ensures s.others_are,
      rw c.count-others.ensures (omega (arith, s.fewer, c.varied.invariant.2)),
      s.rest,
    )
