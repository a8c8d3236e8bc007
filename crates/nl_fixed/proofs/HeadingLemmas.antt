-- Angles moved by whole turns, and products with sines.
use Rattle.std.proofs.Common.{◌≡◌, ℕ, ◌*◌, ◌≤◌, ℤ, pos, negsuc, ◌+ℤ◌, ◌-ℤ◌, ◌*ℤ◌, neg_ℤ, ◌≤ℤ◌, ◌<ℤ◌, unsigned_abs, arith, lit<}
use Rattle.std.proofs.lemmas.Int.{ints, unsigned_abs-mul}
use Rattle.std.proofs.Math.Nat.{mul-le-mul}
use Rattle.std.specs.Int.{int_div_euclid, int_rem_euclid}
use Rattle.nl_fixed.specs.Numbers.{IsInRange, one, rounded_quotient, product_of}
use Rattle.nl_fixed.specs.Sines.{IsUnit, sine_of, cosine_of}
use Rattle.nl_fixed.specs.Headings.{within_half_turn, IsWithinHalfTurn, AreTurnsApart, TurnsLeadWithin, WithinIsOnlyOne, FitsBeside, ProductsWithSinesFit, ProductsWithCosinesFit}
use Rattle.nl_fixed.proofs.Integers.{rounded_low, rounded_high}
use Rattle.nl_fixed.proofs.PlacesLemmas.{as_number_inside}
use Rattle.nl_fixed.proofs.Turns.{sines_are_units, cosines_are_units}

-- ---- turns

abbrev turn : ℕ
turn = 360000000

rest_low : (d : ℤ) → pos 0 ≤ℤ int_rem_euclid d (pos turn)
rest_low (pos a) = omega (arith, ints)
rest_low (negsuc a) = omega (arith, ints)

rest_high : (d : ℤ) → int_rem_euclid d (pos turn) <ℤ pos turn
rest_high (pos a) = omega (arith, ints)
rest_high (negsuc a) = omega (arith, ints)

rest_split : (d : ℤ) → d ≡ (pos turn *ℤ int_div_euclid d (pos turn)) +ℤ int_rem_euclid d (pos turn)
rest_split (pos a) = omega (arith, ints)
rest_split (negsuc a) = omega (arith, ints)

pub within_is_within : (angle : ℤ) → IsWithinHalfTurn (within_half_turn angle)
unfolding within_half_turn
within_is_within angle =
    let d : ℤ = pos 180000000 -ℤ angle in
    record { low = omega (arith, ints, rest_high d); high = omega (arith, ints, rest_low d) }

pub within_is_apart : (angle : ℤ) → AreTurnsApart angle (within_half_turn angle)
unfolding within_half_turn
within_is_apart angle =
    let d : ℤ = pos 180000000 -ℤ angle in
    record { turns = neg_ℤ (int_div_euclid d (pos turn)); are = omega (arith, ints, rest_split d) }

pub turns_lead_within : TurnsLeadWithin
turns_lead_within angle = (within_is_within angle, within_is_apart angle)

-- whole turns that are less than one turn are none
no_turn : (a b k : ℤ) → IsWithinHalfTurn a → IsWithinHalfTurn b → a ≡ b +ℤ (pos turn *ℤ k) → a ≡ b
no_turn a b k in_a in_b apart = omega (arith, ints, in_a.low, in_a.high, in_b.low, in_b.high)

pub within_is_only_one : WithinIsOnlyOne
within_is_only_one angle other within apart =
    let moved = within_is_apart angle in
    no_turn other (within_half_turn angle) (moved.turns -ℤ apart.turns) within (within_is_within angle) (omega (arith, ints, moved.are, apart.are))

-- ---- products with sines

-- the product of a count with a count from -1 to 1 is no farther from 0
product_near : (count unit : ℤ) → IsUnit unit → unsigned_abs (count *ℤ unit) ≤ unsigned_abs count * one
product_near count unit within =
    let size : unsigned_abs unit ≤ one = omega (arith, ints, within.0, within.1) in
    let same : unsigned_abs count ≤ unsigned_abs count = omega arith in
    rw unsigned_abs-mul (mul-le-mul same size)

-- and rounding it to counts doesn't move it past the first one
rounded_near : (p : ℤ) (n : ℕ) → unsigned_abs p ≤ n * one → unsigned_abs (rounded_quotient p one) ≤ n
rounded_near p n near = omega (arith, ints, rounded_low p one (lit< tt), rounded_high p one (lit< tt))

pub products_fit : (count unit : ℤ) → IsInRange count → IsUnit unit → FitsBeside count (product_of count unit)
unfolding product_of
products_fit count unit inside within =
    let near : unsigned_abs (rounded_quotient (count *ℤ unit) one) ≤ unsigned_abs count = rounded_near (count *ℤ unit) (unsigned_abs count) (product_near count unit within) in
    let fits : IsInRange (rounded_quotient (count *ℤ unit) one) = record { low = omega (arith, ints, inside.low, inside.high); high = omega (arith, ints, inside.low, inside.high) } in
    rw (as_number_inside (rounded_quotient (count *ℤ unit) one) fits) near

pub sines_fit : ProductsWithSinesFit
sines_fit count angle inside = products_fit count (sine_of angle) inside (sines_are_units angle)

pub cosines_fit : ProductsWithCosinesFit
cosines_fit count angle inside = products_fit count (cosine_of angle) inside (cosines_are_units angle)
