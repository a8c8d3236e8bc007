-- Powers, product by product, and by the tests that the code makes of the exponent.
use Rattle.std.proofs.Common.{ℕ, zero, suc, ◌+◌, ◌-◌, ◌*◌, ◌/◌, ◌%◌, ◌<◌, ◌≤◌, ◌≡◌, ◌≢◌, true, false, ℤ, pos, negsuc, ◌≤ℤ◌, ◌<ℤ◌, unsigned_abs, Result, Ok, Err, ◌∙◌, sym, ap, refl, arith, add-one}
use Rattle.std.proofs.lemmas.Int.{ints}
use Rattle.std.proofs.lemmas.Bool.Decides.{nat_tests}
use Rattle.nl_fixed.specs.declared.number.NumFault.{NumFault}
use Rattle.nl_fixed.specs.declared.number.NumFault.TheVariants.{Domain}
use Rattle.nl_fixed.specs.Numbers.{one, exponent_limit, is_exponent, and_next, product_of, quotient_of, repeated_product, whole_power, power_of}

-- one more product
pub repeated_more : (a : ℤ) (n : ℕ) (power : ℤ) (next : Result ℤ NumFault) → repeated_product a n ≡ Ok power → next ≡ product_of power a → repeated_product a (n + 1) ≡ next
unfolding repeated_product
repeated_more a n power next e is = rw (add-one) (ap (λ r. and_next r (λ p. product_of p a)) e ∙ sym is)

-- a fault stays
pub repeated_fault : (a : ℤ) (n k : ℕ) (fault : NumFault) → repeated_product a n ≡ Err fault → repeated_product a (k + n) ≡ Err fault
unfolding repeated_product
repeated_fault a n zero fault e = let same : zero + n ≡ n = omega arith in rw same e
repeated_fault a n (suc k) fault e =
    let more : suc k + n ≡ suc (k + n) = omega arith in
    rw more (ap (λ r. and_next r (λ p. product_of p a)) (repeated_fault a n k fault e))

pub repeated_fault_later : (a : ℤ) (n times : ℕ) (fault : NumFault) → n ≤ times → repeated_product a n ≡ Err fault → repeated_product a times ≡ Err fault
repeated_fault_later a n times fault h e =
    let split : times - n + n ≡ times = omega arith in
    rw split at (repeated_fault a n (times - n) fault e)

-- ---- the exponent, by the tests that the code makes of its size
exponent_yes : (e : ℤ) → unsigned_abs e % one ≡ 0 → unsigned_abs e ≤ exponent_limit * one → is_exponent e ≡ true
exponent_yes e whole near = grind (arith, nat_tests)

exponent_part : (e : ℤ) → unsigned_abs e % one ≢ 0 → is_exponent e ≡ false
exponent_part e part = grind (arith, nat_tests)

exponent_far : (e : ℤ) → exponent_limit * one < unsigned_abs e → is_exponent e ≡ false
exponent_far e far = grind (arith, nat_tests)

pub power_by_part : (a e : ℤ) → unsigned_abs e % one ≢ 0 → Err Domain ≡ power_of a e
unfolding power_of
power_by_part a e part = rw (exponent_part e part) refl

pub power_by_far : (a e : ℤ) → exponent_limit * one < unsigned_abs e → Err Domain ≡ power_of a e
unfolding power_of
power_by_far a e far = rw (exponent_far e far) refl

pub power_by_negative : (a e : ℤ) → unsigned_abs e % one ≡ 0 → unsigned_abs e ≤ exponent_limit * one → e <ℤ pos 0 → and_next (repeated_product a (unsigned_abs e / one)) (λ power. quotient_of (pos one) power) ≡ power_of a e
unfolding power_of whole_power
power_by_negative a (pos e) whole near below = absurd (omega (arith, ints))
power_by_negative a (negsuc e) whole near below = rw (exponent_yes (negsuc e) whole near) refl

pub power_by_other : (a e : ℤ) → unsigned_abs e % one ≡ 0 → unsigned_abs e ≤ exponent_limit * one → pos 0 ≤ℤ e → repeated_product a (unsigned_abs e / one) ≡ power_of a e
unfolding power_of whole_power
power_by_other a (pos e) whole near above = rw (exponent_yes (pos e) whole near) refl
power_by_other a (negsuc e) whole near above = absurd (omega (arith, ints))

-- a fault of the products is the power's, by an exponent of either sign
pub power_fault : (a e : ℤ) (fault : NumFault) → unsigned_abs e % one ≡ 0 → unsigned_abs e ≤ exponent_limit * one → repeated_product a (unsigned_abs e / one) ≡ Err fault → Err fault ≡ power_of a e
unfolding power_of whole_power
power_fault a (pos e) fault whole near is = rw (exponent_yes (pos e) whole near) (sym is)
power_fault a (negsuc e) fault whole near is = rw (exponent_yes (negsuc e) whole near, is) refl
