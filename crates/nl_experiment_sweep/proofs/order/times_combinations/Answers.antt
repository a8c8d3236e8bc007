use Rattle.std.proofs.Common.{◌≡◌, ◌*◌, ◌<◌, ◌^◌, true, nat_lt, arith}
use Rattle.std.proofs.lemmas.Bool.Decides.{nat_tests}
use Rattle.nl_experiment_sweep.specs.Sweep.{combinations}
use Rattle.nl_experiment_sweep.proofs.Radix.{product_done, product_large, product_more}
use Rattle.nl_experiment_sweep.proofs.order.times_combinations.Goals as goal

pub varied-preserved : goal.varied-preserved
varied-preserved c =
    let more = product_more c.varied.product (c.args.times * combinations c.args.varies.now) c.in-Some-checked_mul.more c.varied.left.now c.in-Some.vary.now c.in-Some.behind.now c.in-Some.ensures.cases.0
    c.varied.invariant.0 c.varied.invariant.1 (grind (arith, c.in-Some-checked_mul.ensures, c.count.ensures)) in
    (more.0, more.1, omega (arith, c.in-Some-checked_mul.ensures))

pub returns-in-None : goal.returns-in-None
returns-in-None c =
    rw (product_large c.varied.product (c.args.times * combinations c.args.varies.now) c.varied.left.now c.in-Some.vary.now c.in-Some.behind.now c.in-Some.ensures.cases.0
    c.varied.invariant.0 c.varied.invariant.1 (λ h. c.in-None.ensures (rw c.count.ensures h)))

pub returns : goal.returns
returns c =
    let is : c.varied.product ≡ c.args.times * combinations c.args.varies.now = product_done c.varied.product (c.args.times * combinations c.args.varies.now) c.varied.left.now c.in_default.ensures.cases c.varied.invariant.0 in
    let fits : c.varied.product < 2 ^ 64 = c.varied.invariant.2 in
    let test : nat_lt c.varied.product (2 ^ 64) ≡ true = grind (arith, nat_tests) in
    rw (← is, test)
