use Rattle.std.proofs.Common.{◌*◌, ◌≡◌, pos, ◌+ℤ◌, ◌*ℤ◌, to_z, of_z, ◌∙◌, arith}
use Rattle.std.specs.Int.{w128}
use Rattle.std.proofs.lemmas.Int.{ints, to_z-of_z}
use Rattle.nl_fixed.proofs.Wide.{rounded_is}
use Rattle.nl_fixed.proofs.arithmetic.rounded_quotient.Goals as goal

pub returns : goal.returns
returns c =
    let top : to_z w128 (of_z w128 (to_z w128 (of_z w128 (pos 2 *ℤ to_z w128 (of_z w128 c.args.p))) +ℤ to_z w128 (of_z w128 c.from.result))) ≡ pos 2 *ℤ c.args.p +ℤ pos c.args.q = omega (arith, ints) in
    let below : to_z w128 (of_z w128 (pos 2 *ℤ to_z w128 (of_z w128 c.from-2.result))) ≡ pos (2 * c.args.q) = omega (arith, ints) in
    to_z-of_z w128 _ (record { sfits = c.div_euclid.type_inv }) ∙ rounded_is _ _ _ c.args.p c.args.q c.div_euclid.ensures top below
