use Rattle.std.proofs.Common.{◌≡◌, to_z, of_z, ◌∙◌, ap, arith}
use Rattle.std.specs.Int.{w64}
use Rattle.std.proofs.lemmas.Int.{ints}
use Rattle.nl_fixed.specs.Numbers.{one, nearest_multiple}
use Rattle.nl_fixed.proofs.RoundingLemmas.{round_in_range}
use Rattle.nl_fixed.proofs.number.Num.round.Goals as goal

pub overflow_cast-result : goal.overflow_cast-result
overflow_cast-result c =
    let count : to_z w64 (of_z w64 c.self.inside.count) ≡ c.args.self = omega (arith, ints) in
    let is = c.nearest_multiple.ensures ∙ ap (λ x. nearest_multiple x one) count in
    let in_range = round_in_range c.args.self (omega (arith, ints)) in
    omega (arith, ints, in_range.low, in_range.high, is)

pub invariant_of-result : goal.invariant_of-result
invariant_of-result c =
    let count : to_z w64 (of_z w64 c.self.inside.count) ≡ c.args.self = omega (arith, ints) in
    let is = c.nearest_multiple.ensures ∙ ap (λ x. nearest_multiple x one) count in
    let in_range = round_in_range c.args.self (omega (arith, ints)) in
    record { low = omega (arith, ints, in_range.low, in_range.high, is); high = omega (arith, ints, in_range.low, in_range.high, is) }

pub returns : goal.returns
returns c =
    let count : to_z w64 (of_z w64 c.self.inside.count) ≡ c.args.self = omega (arith, ints) in
    let is = c.nearest_multiple.ensures ∙ ap (λ x. nearest_multiple x one) count in
    let in_range = round_in_range c.args.self (omega (arith, ints)) in
    omega (arith, ints, in_range.low, in_range.high, is)
