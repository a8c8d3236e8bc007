use Rattle.std.proofs.Common.{pos, ◌≡◌, ◌+ℤ◌, ◌-ℤ◌, to_z, of_z, ◌∙◌, sym, ap, arith}
use Rattle.std.specs.Int.{w64, int_rem_euclid}
use Rattle.std.proofs.lemmas.Int.{ints}
use Rattle.nl_grid.specs.Geometry.{begin_of, length_of, moved_inside}
use Rattle.nl_grid.proofs.AxisLemmas.{wrapped_within, wrapped_beyond, wrapped_is, wrapped_lies_inside, moved_is, moved_small, false_from_not, true_from_not}
use Rattle.nl_grid.proofs.axis.Axis.wrap.Goals as goal

pub returns-then-is_inside-clause-value : goal.returns-then-is_inside-clause-value
returns-then-is_inside-clause-value c = wrapped_within c.args.self c.args.at c.requires (c.is_inside.ensures.0 c.if-is_inside.true)

pub returns-then-not-self-clause-value : goal.returns-then-not-self-clause-value
returns-then-not-self-clause-value c = wrapped_beyond c.args.self c.args.at (false_from_not _ c.if-not-self.true) (λ inside. let is = c.is_inside.ensures.1 inside in let not = c.if-is_inside.false in cc)

pub number-requires : goal.number-requires
number-requires c =
    let past : to_z w64 (of_z w64 (to_z w64 (of_z w64 c.millionths.result) -ℤ to_z w64 (of_z w64 c.begin.result))) ≡ c.args.at -ℤ begin_of c.args.self = omega (arith, ints) in
    let length : to_z w64 (of_z w64 c.length.result) ≡ pos (length_of c.args.self) = omega (arith, ints) in
    let rest = c.rem_euclid.ensures.value ∙ ap (λ p. int_rem_euclid p (to_z w64 (of_z w64 c.length.result))) past ∙ ap (int_rem_euclid (c.args.at -ℤ begin_of c.args.self)) length in
    let sum : to_z w64 (of_z w64 (to_z w64 (of_z w64 c.begin-2.result) +ℤ to_z w64 (of_z w64 c.rem_euclid.result))) ≡ moved_inside c.args.self c.args.at = omega (arith, ints, rest, c.rem_euclid.ensures.upper_bound, moved_is c.args.self c.args.at) in
    omega (arith, ints, sum, moved_small c.args.self c.args.at c.requires)

pub returns-clause-value : goal.returns-clause-value
returns-clause-value c =
    let past : to_z w64 (of_z w64 (to_z w64 (of_z w64 c.millionths.result) -ℤ to_z w64 (of_z w64 c.begin.result))) ≡ c.args.at -ℤ begin_of c.args.self = omega (arith, ints) in
    let length : to_z w64 (of_z w64 c.length.result) ≡ pos (length_of c.args.self) = omega (arith, ints) in
    let rest = c.rem_euclid.ensures.value ∙ ap (λ p. int_rem_euclid p (to_z w64 (of_z w64 c.length.result))) past ∙ ap (int_rem_euclid (c.args.at -ℤ begin_of c.args.self)) length in
    wrapped_is c.args.self c.args.at c.number.result (true_from_not _ c.if-not-self.false) (omega (arith, ints, c.number.ensures, rest, c.rem_euclid.ensures.upper_bound, moved_is c.args.self c.args.at))

pub returns-clause-inside : goal.returns-clause-inside
returns-clause-inside c = wrapped_lies_inside c.args.self c.args.at c.number.result c.requires (sym (returns-clause-value c))
