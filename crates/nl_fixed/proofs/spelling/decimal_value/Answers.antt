use Rattle.std.proofs.Common.{arith, ap, ◌∙◌}
use Rattle.std.proofs.lemmas.Int.{to_z-of_z}
use Rattle.nl_fixed.specs.Spelling.{signed}
use Rattle.nl_fixed.proofs.Scaled.{decimal_value_is}
use Rattle.nl_fixed.proofs.spelling.decimal_value.Goals as goal

pub returns : goal.returns
returns c =
    let fits = c.ranges.exponent in
    decimal_value_is c.args.negative c.args.whole.now c.args.fraction.now c.args.exponent c.with_sign-digits.result c.power_to_millionths.result c.scaled.result (omega arith)
    (c.with_sign-digits.ensures.value ∙ ap (signed c.args.negative) c.joined_digits.ensures.value) (simp to_z-of_z at c.power_to_millionths.ensures) (grind (arith, to_z-of_z))
