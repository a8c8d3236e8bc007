-- Whole numbers of either sign times a power of ten: what is far out of range, and what rounds to 0.
use Rattle.std.proofs.Common.{ℕ, ◌+◌, ◌*◌, ◌^◌, ◌<◌, ◌≤◌, ◌≡◌, ℤ, pos, negsuc, ◌+ℤ◌, ◌-ℤ◌, ◌*ℤ◌, unsigned_abs, Bool, true, Err, Result, List, ◌++◌, length, nat_le, arith, lit<}
use mir.Syntax.{w128}
use Rattle.std.specs.Int.{int_div_euclid}
use Rattle.std.specs.Int.RustNames.{FitsSigned}
use Rattle.std.proofs.lemmas.Int.{ints, unsigned_abs-mul, fits_signed_mul, fits_signed_from_abs}
use Rattle.std.proofs.lemmas.Bool.Decides.{nat_tests}
use Rattle.std.proofs.Math.Nat.{pow-le-pow_right, one-le-pow, mul-le-mul_left, mul-le-mul_right}
use Rattle.std.specs.Str.Parse.{digits_value}
use Rattle.nl_fixed.specs.declared.number.NumFault.{NumFault}
use Rattle.nl_fixed.specs.Spelling.{most_digits, signed, times_power_of_ten, decimal_value}
use Rattle.nl_fixed.specs.declared.number.NumFault.TheVariants.{Overflow}
use Rattle.nl_fixed.specs.Numbers.{as_number, limit, rounded_quotient}
use Rattle.nl_fixed.proofs.Integers.{rounded_only}

-- ---- powers of ten

pub ten_to_at_least : (k n : ℕ) → k ≤ n → 10 ^ k ≤ 10 ^ n
ten_to_at_least k n above = let ten : 0 < 10 = lit< tt in pow-le-pow_right ten above

pub within_power : (zeros : ℕ) → zeros ≤ 31 → 10 ^ zeros < 2 ^ 128
within_power zeros few = omega (arith, ten_to_at_least zeros 31 few)

pub FitsSigned-power : (zeros : ℕ) → zeros ≤ 31 → FitsSigned w128 (pos (10 ^ zeros))
FitsSigned-power zeros few =
    fits_signed_from_abs w128 (pos (10 ^ zeros)) (omega (arith, ten_to_at_least zeros 31 few))

-- ---- a quotient by a power of ten

-- what is less than a half of either sign rounds to 0
pub rounded_small : (n : ℤ) (q : ℕ) → 2 * unsigned_abs n < q → pos 0 ≡ rounded_quotient n q
rounded_small (pos a) q small = rounded_only (pos a) q (pos 0) (omega arith) (omega (arith, ints)) (omega (arith, ints))
rounded_small (negsuc a) q small = rounded_only (negsuc a) q (pos 0) (omega arith) (omega (arith, ints)) (omega (arith, ints))

pub divided_far : (n : ℤ) (places : ℕ) → unsigned_abs n < 10 ^ 30 → 31 < places → pos 0 ≡ rounded_quotient n (10 ^ places)
divided_far n places small far =
    let beyond : 32 ≤ places = omega arith in
    let wide = ten_to_at_least 32 places beyond in
    rounded_small n (10 ^ places) (omega (arith, small, wide))

pub divided_is : (n u r : ℤ) (q : ℕ) → u ≡ pos q → r ≡ int_div_euclid (pos 2 *ℤ n +ℤ u) (pos 2 *ℤ u) → r ≡ rounded_quotient n q
unfolding rounded_quotient
divided_is n u r q e f = rw e at f

-- ---- a product by a power of ten

pub out_of_range : (z : ℤ) → limit < unsigned_abs z → Err Overflow ≡ as_number z
unfolding as_number
out_of_range z far = grind (arith, nat_tests)

pub multiplied_far : (n : ℤ) (places : ℕ) → 0 < unsigned_abs n → 18 < places → Err Overflow ≡ as_number (n *ℤ pos (10 ^ places))
multiplied_far n places some far =
    let beyond : 19 ≤ places = omega arith in
    let wide = ten_to_at_least 19 places beyond in
    let more : 1 * 10 ^ places ≤ unsigned_abs n * 10 ^ places = mul-le-mul_right (10 ^ places) some in
    out_of_range (n *ℤ pos (10 ^ places)) (omega (arith, wide, more, unsigned_abs-mul n (pos (10 ^ places))))

pub multiplied_fits : (n u : ℤ) (places : ℕ) → unsigned_abs n ≤ limit → places ≤ 18 → u ≡ pos (10 ^ places) → FitsSigned w128 (n *ℤ u)
multiplied_fits n u places small few e =
    let within = ten_to_at_least places 18 few in
    fits_signed_mul w128 n u limit (10 ^ 18) small (rw e within) (lit< tt)

pub multiplied_large : (n : ℤ) (places : ℕ) → limit < unsigned_abs n → Err Overflow ≡ as_number (n *ℤ pos (10 ^ places))
multiplied_large n places large =
    let ten : 0 < 10 = lit< tt in
    let one : 1 ≤ 10 ^ places = one-le-pow places 10 ten in
    let more : unsigned_abs n * 1 ≤ unsigned_abs n * 10 ^ places = mul-le-mul_left (unsigned_abs n) one in
    out_of_range (n *ℤ pos (10 ^ places)) (omega (arith, more, unsigned_abs-mul n (pos (10 ^ places))))

-- ---- a word's value

pub decimal_value_is : (negative : Bool) (whole fraction : List ℕ) (exponent n power : ℤ) (r : Result ℤ NumFault) → length whole + length fraction ≤ most_digits → n ≡ signed negative (digits_value 10 (whole ++ fraction)) → power ≡ (pos 6 +ℤ exponent) -ℤ pos (length fraction) → r ≡ as_number (times_power_of_ten n power) → r ≡ decimal_value negative whole fraction exponent
decimal_value_is negative whole fraction exponent n power r few e f g =
    let fits : nat_le (length whole + length fraction) most_digits ≡ true = grind (arith, nat_tests) in rw (fits, ← e, ← f) g
