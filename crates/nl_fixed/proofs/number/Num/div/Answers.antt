use Rattle.std.proofs.Common.{◌≡◌, pos, ◌*ℤ◌, neg_ℤ, unsigned_abs, to_z, ◌∙◌, arith}
use Rattle.std.specs.Int.{w128}
use Rattle.std.proofs.lemmas.Int.{ints}
use Rattle.nl_fixed.specs.Numbers.{one}
use Rattle.nl_fixed.proofs.Signs.{quotient_by_zero, quotient_by_negative, quotient_by_positive}
use Rattle.nl_fixed.proofs.Wide.{rounded_count}
use Rattle.nl_fixed.proofs.number.Num.div.Goals as goal
use Rattle.nl_fixed.proofs.number.Num.div.Goals.{then-other-lt0, else-other-lt0}

pub returns-then-other-eq0 : goal.returns-then-other-eq0
returns-then-other-eq0 c = quotient_by_zero _ _ (omega (arith, ints))

pub rounded_quotient-requires-clause-product : goal.rounded_quotient-requires-clause-product
rounded_quotient-requires-clause-product c = elim c.if-other-lt0.branch [ then-other-lt0 w ↦ omega (arith, ints) | else-other-lt0 w ↦ omega (arith, ints) ]

pub returns : goal.returns
returns c =
    let size : c.unsigned_abs.result ≡ unsigned_abs c.args.other = omega (arith, ints) in
    elim c.if-other-lt0.branch [
      | then-other-lt0 w ↦
          (let top : to_z w128 c.if-other-lt0.dividend-bits ≡ neg_ℤ (c.args.self *ℤ pos one) = omega (arith, ints) in
          c.number_of.ensures ∙ rounded_count _ _ _ _ _ (record { sfits = c.rounded_quotient.type_inv }) c.rounded_quotient.ensures top size ∙ quotient_by_negative _ _ (omega (arith, ints)))
      | else-other-lt0 w ↦
          (let top : to_z w128 c.if-other-lt0.dividend-bits ≡ c.args.self *ℤ pos one = omega (arith, ints) in
          c.number_of.ensures ∙ rounded_count _ _ _ _ _ (record { sfits = c.rounded_quotient.type_inv }) c.rounded_quotient.ensures top size ∙ quotient_by_positive _ _ (λ e. omega (arith, ints)) (omega (arith, ints)))
    ]
