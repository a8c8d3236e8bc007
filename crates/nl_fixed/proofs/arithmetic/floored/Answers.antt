use Rattle.std.proofs.Common.{◌≡◌, pos, ◌-ℤ◌, neg_ℤ, ◌<ℤ◌, ◌≤ℤ◌, unsigned_abs, to_z, of_z, ◌∙◌, arith}
use Rattle.std.specs.Int.{w64}
use Rattle.std.proofs.lemmas.Int.{ints, to_z-of_z}
use Rattle.nl_fixed.proofs.Wide.{floored_negative, floored_positive}
use Rattle.nl_fixed.proofs.arithmetic.floored.Goals as goal

pub returns-then-b-lt0 : goal.returns-then-b-lt0
returns-then-b-lt0 c =
    let top : to_z w64 (of_z w64 (pos 0 -ℤ to_z w64 (of_z w64 c.args.a))) ≡ neg_ℤ c.args.a = omega (arith, ints) in
    let below : to_z w64 (of_z w64 (pos 0 -ℤ to_z w64 (of_z w64 c.args.b))) ≡ pos (unsigned_abs c.args.b) = omega (arith, ints) in
    let negative : c.args.b <ℤ pos 0 = omega (arith, ints) in
    to_z-of_z w64 _ (record { sfits = c.div_euclid.type_inv }) ∙ floored_negative _ _ _ c.args.a c.args.b c.div_euclid.ensures top below negative

pub returns-else-b-lt0 : goal.returns-else-b-lt0
returns-else-b-lt0 c =
    let top : to_z w64 (of_z w64 c.args.a) ≡ c.args.a = omega (arith, ints) in
    let below : to_z w64 (of_z w64 c.args.b) ≡ pos (unsigned_abs c.args.b) = omega (arith, ints) in
    let positive : pos 0 ≤ℤ c.args.b = omega (arith, ints) in
    to_z-of_z w64 _ (record { sfits = c.div_euclid-else-b-lt0.type_inv }) ∙ floored_positive _ _ _ c.args.a c.args.b c.div_euclid-else-b-lt0.ensures top below positive
