use Rattle.std.proofs.Common.{◌≡◌, ◌∙◌, ap, arith}
use Rattle.std.specs.Int.{w128}
use Rattle.std.proofs.lemmas.Int.{ints, to_z-of_z}
use Rattle.nl_fixed.specs.Numbers.{as_number, one, rounded_quotient, product_of}
use Rattle.nl_fixed.proofs.Wide.{wide_product}
use Rattle.nl_fixed.proofs.PlacesLemmas.{overflows_exactly}
use Rattle.nl_fixed.proofs.number.Num.mul.Goals as goal

pub returns-clause-value : goal.returns-clause-value
unfolding product_of
returns-clause-value c =
    let first : c.from.result ≡ c.args.self = omega (arith, ints) in
    let second : c.from-2.result ≡ c.args.other = omega (arith, ints) in
    let product = wide_product _ _ _ _ first second (omega (arith, ints)) (omega (arith, ints)) in
    c.number_of.ensures ∙ ap as_number (to_z-of_z w128 _ (record { sfits = c.rounded_quotient.type_inv }) ∙ c.rounded_quotient.ensures ∙ ap (λ x. rounded_quotient x one) product)

pub returns-clause-overflow : goal.returns-clause-overflow
unfolding product_of
returns-clause-overflow c = rw (returns-clause-value c) (overflows_exactly _)
