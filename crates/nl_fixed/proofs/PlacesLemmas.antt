-- Rounding to places, by the tests that the code makes of their number, and that it stays in the range.
use Rattle.std.proofs.Common.{ℕ, ◌+◌, ◌-◌, ◌*◌, ◌^◌, ◌<◌, ◌≤◌, ◌≡◌, Bool, true, false, cond, leb, ℤ, pos, negsuc, ◌-ℤ◌, ◌≤ℤ◌, ◌<ℤ◌, unsigned_abs, int_div, Ok, Err, ◌∙◌, sym, ap, refl, arith}
use Rattle.std.proofs.lemmas.Int.{ints}
use Rattle.std.proofs.lemmas.Bool.Decides.{nat_tests}
use Rattle.std.proofs.lemmas.Nat.{pow-add}
use Rattle.std.proofs.Math.Nat.{pow-le-pow_right}
use Rattle.nl_fixed.specs.declared.number.NumFault.TheVariants.{Overflow, Domain}
use Rattle.nl_fixed.specs.Numbers.{IsInRange, OverflowsExactly, one, limit, in_range, as_number, nearest_multiple, to_places, precision_of}
use Rattle.nl_fixed.proofs.RoundingLemmas.{nearest_in_range}

-- ---- as a number
pub as_number_inside : (count : ℤ) → IsInRange count → as_number count ≡ Ok count
unfolding as_number
as_number_inside count inside =
    let near : unsigned_abs count ≤ limit = omega (arith, ints) in
    let is : in_range count ≡ true = grind (arith, nat_tests) in
    rw is refl

pub as_number_outside : (count : ℤ) → limit < unsigned_abs count → as_number count ≡ Err Overflow
unfolding as_number
as_number_outside count far =
    let not_in : in_range count ≡ false = grind (arith, nat_tests) in
    rw not_in refl

-- a count that becomes a number is one exactly in range
by_test : (count : ℤ) (test : Bool) → in_range count ≡ test → OverflowsExactly (cond test (Ok count) (Err Overflow)) count
by_test count true is =
    let near : unsigned_abs count ≤ limit = grind (arith, nat_tests) in
    (refl, record { low = omega (arith, ints); high = omega (arith, ints) })
by_test count false is =
    let far : limit < unsigned_abs count = grind (arith, nat_tests) in
    (refl, λ inside. omega (arith, ints, inside.low, inside.high))

pub overflows_exactly : (count : ℤ) → OverflowsExactly (as_number count) count
unfolding as_number
overflows_exactly count = by_test count (in_range count) refl

-- ---- the powers of ten that are steps
pub ten_above_zero : (n : ℕ) → 0 < 10 ^ n
ten_above_zero n = let least : 0 ≤ n = omega arith in let some : 10 ^ 0 ≤ 10 ^ n = pow-le-pow_right {n = 10} (omega arith) least in omega arith

pub ten_narrow : (n : ℕ) → n ≤ 18 → 10 ^ n ≤ limit
ten_narrow n least = omega (arith, pow-le-pow_right {n = 10} (omega arith) least)

-- the range ends at a multiple of each
ten_divides : (n : ℕ) → n ≤ 18 → 10 ^ n * (9 * 10 ^ (18 - n)) ≡ limit
ten_divides n least =
    let parts = pow-add 10 n (18 - n) in
    let whole : n + (18 - n) ≡ 18 = omega arith in
    let together : 10 ^ n * 10 ^ (18 - n) ≡ 10 ^ 18 = sym parts ∙ ap (λ k. 10 ^ k) whole in
    grind (arith, together)

pub nearest_power_in_range : (count : ℤ) (n : ℕ) → n ≤ 18 → IsInRange count → IsInRange (nearest_multiple count (10 ^ n))
nearest_power_in_range count n least inside = nearest_in_range count (10 ^ n) (9 * 10 ^ (18 - n)) (ten_above_zero n) (ten_divides n least) inside

-- ---- the tests of the number of places
places_few : (count places : ℤ) → places <ℤ negsuc 11 → Err Domain ≡ to_places count places
unfolding to_places
places_few count (pos places) below = absurd (omega (arith, ints))
places_few count (negsuc places) below =
    let few : leb 12 places ≡ true = grind (arith, nat_tests) in
    rw few refl

places_many : (count places : ℤ) → pos 6 ≤ℤ places → Ok count ≡ to_places count places
unfolding to_places
places_many count (pos places) above =
    let many : leb 6 places ≡ true = grind (arith, nat_tests) in
    rw many refl
places_many count (negsuc places) above = absurd (omega (arith, ints))

places_between : (count places : ℤ) (n : ℕ) → negsuc 11 ≤ℤ places → places <ℤ pos 6 → pos n ≡ pos 6 -ℤ places → as_number (nearest_multiple count (10 ^ n)) ≡ to_places count places
unfolding to_places
places_between count (pos places) n low high is =
    let some : leb 6 places ≡ false = grind (arith, nat_tests) in
    let same : n ≡ 6 - places = omega (arith, ints) in
    rw (some, same) refl
places_between count (negsuc places) n low high is =
    let some : leb 12 places ≡ false = grind (arith, nat_tests) in
    let same : n ≡ 7 + places = omega (arith, ints) in
    rw (some, same) refl

-- ---- the same, for what the code made of the places
pub precision_few : (count places p : ℤ) → p ≡ int_div places (pos one) → p <ℤ negsuc 11 → Err Domain ≡ precision_of count places
unfolding precision_of
precision_few count places p is below = rw (← is) (places_few count p below)

pub precision_many : (count places p : ℤ) → p ≡ int_div places (pos one) → pos 6 ≤ℤ p → Ok count ≡ precision_of count places
unfolding precision_of
precision_many count places p is above = rw (← is) (places_many count p above)

pub precision_between : (count places p : ℤ) (step n : ℕ) → p ≡ int_div places (pos one) → negsuc 11 ≤ℤ p → p <ℤ pos 6 → pos n ≡ pos 6 -ℤ p → step ≡ 10 ^ n → as_number (nearest_multiple count step) ≡ precision_of count places
unfolding precision_of
precision_between count places p step n is low high steps power = rw (← is, power) (places_between count p n low high steps)
