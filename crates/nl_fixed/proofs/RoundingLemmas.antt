-- Rounding to multiples stays in the range where the range ends at a multiple, and what the code computes is exact.
use Rattle.std.proofs.Common.{ℕ, zero, suc, ◌*◌, ◌<◌, ◌≤◌, ◌≡◌, ℤ, pos, ◌*ℤ◌, neg_ℤ, unsigned_abs, int_div, FitsSigned, to_z, of_z, ◌∙◌, ap, refl, arith}
use Rattle.std.specs.Int.{w128, int_div_euclid}
use Rattle.std.proofs.lemmas.Int.{ints, to_z-of_z, by_lt_z}
use Rattle.nl_fixed.specs.Numbers.{IsInRange, one, limit, rounded_quotient, nearest_multiple, round_of, floor_of, int_of}
use Rattle.nl_fixed.proofs.Integers.{times_above, floor_low, floor_high, rounded_low, rounded_high}

-- a multiple near a count is not far out of range
nearest_size : (count : ℤ) (step : ℕ) → 0 < step → step ≤ limit → IsInRange count → unsigned_abs (nearest_multiple count step) ≤ 2 * limit
unfolding nearest_multiple
nearest_size count step some narrow in_range =
    omega (arith, ints, rounded_low count step some, rounded_high count step some)

-- the product that the code makes for it
pub nearest_product : (r s p count : ℤ) (step : ℕ) → r ≡ rounded_quotient p step → s ≡ pos step → p ≡ count → FitsSigned w128 r → 0 < step → step ≤ limit → IsInRange count → to_z w128 (of_z w128 r) *ℤ to_z w128 (of_z w128 s) ≡ nearest_multiple count step
unfolding nearest_multiple
nearest_product r s p count step is_r is_s is_p fits some narrow in_range =
    let first = to_z-of_z w128 r fits ∙ is_r ∙ ap (λ x. rounded_quotient x step) is_p in
    let second : to_z w128 (of_z w128 s) ≡ pos step = omega (arith, ints) in
    rw (first, second) refl

pub nearest_fits : (count : ℤ) (step : ℕ) → 0 < step → step ≤ limit → IsInRange count → FitsSigned w128 (nearest_multiple count step)
nearest_fits count step some narrow in_range = omega (arith, ints, nearest_size count step some narrow in_range)

-- the product by a negative number
times_negative : (q k : ℕ) → pos q *ℤ neg_ℤ (pos k) ≡ neg_ℤ (pos (q * k))
times_negative q zero = omega (arith, ints)
times_negative q (suc k) = refl

-- a whole number of steps reaches the end of the range: no nearest multiple lies beyond it
pub nearest_in_range : (count : ℤ) (step k : ℕ) → 0 < step → step * k ≡ limit → IsInRange count → IsInRange (nearest_multiple count step)
unfolding nearest_multiple
nearest_in_range count step k some whole in_range =
    let r = rounded_quotient count step in
    let low = rounded_low count step some in
    let high = rounded_high count step some in
    let least = times_negative step k in
    record {
      low = by_lt_z r (neg_ℤ (pos k)) (λ below. absurd (omega (arith, ints, times_above step r (neg_ℤ (pos k)) below)))
          (λ most. by_lt_z (neg_ℤ (pos k)) r (λ above. omega (arith, ints, times_above step (neg_ℤ (pos k)) r above)) (λ equal. let same : r ≡ neg_ℤ (pos k) = omega (arith, ints) in rw same (omega (arith, ints))));
      high = by_lt_z (pos k) r (λ above. absurd (omega (arith, ints, times_above step (pos k) r above)))
          (λ most. by_lt_z r (pos k) (λ below. omega (arith, ints, times_above step r (pos k) below)) (λ equal. let same : r ≡ pos k = omega (arith, ints) in rw same (omega (arith, ints))));
    }

pub round_in_range : (count : ℤ) → IsInRange count → IsInRange (round_of count)
round_in_range count in_range = nearest_in_range count one 9_000_000_000_000 (omega arith) (omega arith) in_range

-- the code's floor to whole numbers
pub floor_is : (r x count : ℤ) → r ≡ int_div_euclid x (pos one) → x ≡ count → r *ℤ pos one ≡ floor_of count
unfolding floor_of
floor_is r x count is top = ap (λ z. z *ℤ pos one) (is ∙ ap (λ z. int_div_euclid z (pos one)) top)

pub floor_in_range : (count : ℤ) → IsInRange count → IsInRange (floor_of count)
unfolding floor_of
floor_in_range count in_range =
    let low = floor_low count one (omega arith) in
    let high = floor_high count one (omega arith) in
    record { low = omega (arith, ints); high = omega (arith, ints) }

-- the code's cut to whole numbers
pub cut_is : (x count : ℤ) → x ≡ count → int_div x (pos one) *ℤ pos one ≡ int_of count
unfolding int_of
cut_is x count is = ap (λ z. int_div z (pos one) *ℤ pos one) is
