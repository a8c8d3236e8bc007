use Rattle.std.proofs.Common.{◌≡◌, ◌*◌, ◌%◌, ℤ, pos, ◌*ℤ◌, to_z, of_z, w64, sym, ap, ap₂, ◌∙◌, arith}
use Rattle.std.specs.Int.{int_rem_euclid, w128}
use Rattle.std.proofs.lemmas.Int.{ints, to_z-of_z}
use Rattle.nl_fixed.specs.Numbers.{rounded_quotient}
use Rattle.nl_birth.specs.declared.looks.Looks.{Looks}
use Rattle.nl_birth.specs.Looks.{looks_in_order, heading_in_order}
use Rattle.nl_birth.proofs.Numbers.{primary_is, number_is}
use Rattle.nl_birth.proofs.looks.looks_in_order.Goals as goal

pub returns : goal.returns
unfolding looks_in_order heading_in_order
returns c =
    let turn : ℤ = pos 360000000 in
    let r = c.rem_euclid-heading in
    let from : to_z w128 (of_z w128 c.from.result) ≡ pos c.args.index = omega (arith, ints) in
    let fits = c.ranges.index in
    let product : to_z w128 (of_z w128 (pos (360000000 * c.args.index))) ≡ pos (360000000 * c.args.index) = omega (arith, ints) in
    let dividend = ap (λ z. to_z w128 (of_z w128 (turn *ℤ z))) from ∙ product in
    let quotient = to_z-of_z w128 c.rounded_quotient.result (record { sfits = c.rounded_quotient.type_inv }) ∙ c.rounded_quotient.ensures ∙ ap (λ z. rounded_quotient z c.args.count) dividend in
    let heading = r.ensures.value ∙ ap (λ z. int_rem_euclid z turn) quotient in
    let low = r.ensures.lower_bound in
    let high = r.ensures.upper_bound in
    let cast : to_z w64 (of_z w64 (to_z w128 (of_z w128 r.result))) ≡ r.result = omega (arith, ints, low, high) in
    let number = number_is (to_z w64 (of_z w64 (to_z w128 (of_z w128 r.result)))) c.unwrap.result (sym c.new.ensures ∙ c.unwrap.ensures) in
    let make : ℤ → ℤ → Looks = λ x y. record { color = x; heading = y } in
    ap₂ make (primary_is (c.args.index % 14) c.primary_color-color.result c.primary_color-color.ensures) (number ∙ cast ∙ heading)
