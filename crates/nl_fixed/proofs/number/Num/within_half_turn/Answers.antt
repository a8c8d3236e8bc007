use Rattle.std.proofs.Common.{◌≡◌, pos, ◌-ℤ◌, to_z, of_z, ◌∙◌, ap, arith}
use Rattle.std.specs.Int.{w64, int_rem_euclid}
use Rattle.std.proofs.lemmas.Int.{ints}
use Rattle.nl_fixed.specs.Headings.{within_half_turn}
use Rattle.nl_fixed.proofs.HeadingLemmas.{within_is_within, within_is_apart}
use Rattle.nl_fixed.proofs.number.Num.within_half_turn.Goals as goal

pub returns-clause-value : goal.returns-clause-value
unfolding within_half_turn
returns-clause-value c =
    let count : to_z w64 (of_z w64 (pos 180000000 -ℤ to_z w64 (of_z w64 c.self.inside.count))) ≡ pos 180000000 -ℤ c.args.self = omega (arith, ints) in
    let rest = c.rem_euclid.ensures.value ∙ ap (λ z. int_rem_euclid z (pos 360000000)) count in
    let shown : to_z w64 (of_z w64 (pos 180000000 -ℤ to_z w64 (of_z w64 c.rem_euclid.result))) ≡ pos 180000000 -ℤ c.rem_euclid.result = omega (arith, ints, c.rem_euclid.ensures.lower_bound, c.rem_euclid.ensures.upper_bound) in
    shown ∙ ap (λ z. pos 180000000 -ℤ z) rest

pub returns-clause-within : goal.returns-clause-within
returns-clause-within c = rw (returns-clause-value c) (within_is_within _)

pub returns-clause-same : goal.returns-clause-same
returns-clause-same c = rw (returns-clause-value c) (within_is_apart _)
