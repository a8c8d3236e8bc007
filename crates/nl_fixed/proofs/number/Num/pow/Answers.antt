use Rattle.std.proofs.Common.{◌/◌, ◌≡◌, pos, unsigned_abs, ◌∙◌, sym, ap, arith}
use Rattle.std.proofs.lemmas.Int.{ints}
use Rattle.std.proofs.lemmas.Result.{err_from_is_err_and}
use Rattle.nl_fixed.specs.Numbers.{one, and_next, quotient_of, repeated_product}
use Rattle.nl_fixed.proofs.PowerLemmas.{power_by_part, power_by_far, power_by_negative, power_by_other, power_fault}
use Rattle.nl_fixed.proofs.number.Num.pow.Goals as goal
use Rattle.nl_fixed.proofs.number.Num.pow.Goals.{then-size-ne0-via-then-size-ne0, then-size-ne0-via-else-size-ne0+then-size-gt-EXPONENT_LIMIT}

pub returns-then-size-ne0 : goal.returns-then-size-ne0
returns-then-size-ne0 c = elim c.then-size-ne0.branch [
  | then-size-ne0-via-then-size-ne0 w ↦ power_by_part _ _ (λ e. omega (arith, ints))
  | then-size-ne0-via-else-size-ne0+then-size-gt-EXPONENT_LIMIT w ↦ power_by_far _ _ (omega (arith, ints))
]

pub returns-in_err-power : goal.returns-in_err-power
returns-in_err-power c =
    let p = err_from_is_err_and c.from_residual.result c.from_residual.ensures.1 in
    let size : unsigned_abs c.args.exponent ≡ c.unsigned_abs-size.result = omega (arith, ints) in
    let fault = ap (λ n. repeated_product c.args.self (n / one)) size ∙ sym c.in_err-power.ensures in
    rw (p.1, p.2) (power_fault _ _ _ (omega (arith, ints)) (omega (arith, ints)) fault)

pub returns-then-exponent-lt0 : goal.returns-then-exponent-lt0
returns-then-exponent-lt0 c =
    let size : unsigned_abs c.args.exponent ≡ c.unsigned_abs-size.result = omega (arith, ints) in
    let power = ap (λ n. repeated_product c.args.self (n / one)) size ∙ sym c.in_ok-power.ensures in
    c.div.ensures
    ∙ sym (ap (λ r. and_next r (λ x. quotient_of (pos one) x)) power)
    ∙ power_by_negative _ _ (omega (arith, ints)) (omega (arith, ints)) (omega (arith, ints))

pub returns-else-exponent-lt0 : goal.returns-else-exponent-lt0
returns-else-exponent-lt0 c =
    let size : c.unsigned_abs-size.result ≡ unsigned_abs c.args.exponent = omega (arith, ints) in
    c.in_ok-power.ensures
    ∙ ap (λ n. repeated_product c.args.self (n / one)) size
    ∙ power_by_other _ _ (omega (arith, ints)) (omega (arith, ints)) (omega (arith, ints))
