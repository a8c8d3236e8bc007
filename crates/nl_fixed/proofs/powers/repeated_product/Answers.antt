use Rattle.std.proofs.Common.{◌≡◌, sym, refl, arith}
use Rattle.std.proofs.lemmas.Result.{err_from_is_err_and}
use Rattle.nl_fixed.specs.Numbers.{repeated_product}
use Rattle.nl_fixed.proofs.PowerLemmas.{repeated_more, repeated_fault_later}
use Rattle.nl_fixed.proofs.powers.repeated_product.Goals as goal

pub loop-init : goal.loop-init
unfolding repeated_product
loop-init c = (omega arith, refl)

pub returns-in_err-power : goal.returns-in_err-power
returns-in_err-power c =
    let p = err_from_is_err_and c.from_residual.result c.from_residual.ensures.1 in
    let next = repeated_more _ _ _ _ c.loop.invariant.1 c.in_err-power.ensures.value in
    rw (p.1, p.2) (sym (repeated_fault_later _ _ _ _ (omega arith) next))

pub loop-preserved : goal.loop-preserved
loop-preserved c = (omega arith, repeated_more _ _ _ _ c.loop.invariant.1 c.in_ok-power.ensures.value)

pub returns : goal.returns
returns c =
    let all : c.args.times ≡ c.loop.counter = omega arith in
    rw all (sym c.loop.invariant.1)
