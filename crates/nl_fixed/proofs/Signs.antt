-- The definitions that go by the sign of a divisor, by the tests that the code makes of it.
use Rattle.std.proofs.Common.{ℕ, zero, suc, ◌≤◌, ◌≡◌, ◌≢◌, ℤ, pos, negsuc, ◌-ℤ◌, ◌*ℤ◌, neg_ℤ, ◌≤ℤ◌, ◌<ℤ◌, unsigned_abs, int_rem, Err, ap, refl, arith}
use Rattle.std.proofs.lemmas.Int.{ints, quot-rem}
use Rattle.std.proofs.Math.Nat.{div-le_self}
use Rattle.nl_fixed.specs.declared.number.NumFault.TheVariants.{ZeroDivide}
use Rattle.nl_fixed.specs.Numbers.{one, as_number, floor_quotient, cut_quotient, rounded_quotient, floor_of_ratio, quotient_of, modulo_of, remainder_of}

-- ---- the quotient
pub quotient_by_zero : (a b : ℤ) → b ≡ pos 0 → Err ZeroDivide ≡ quotient_of a b
unfolding quotient_of
quotient_by_zero a b e = rw e refl

pub quotient_by_negative : (a b : ℤ) → b <ℤ pos 0 → as_number (rounded_quotient (neg_ℤ (a *ℤ pos one)) (unsigned_abs b)) ≡ quotient_of a b
unfolding quotient_of
quotient_by_negative a (pos b) h = absurd (omega (arith, ints))
quotient_by_negative a (negsuc b) h = refl

pub quotient_by_positive : (a b : ℤ) → b ≢ pos 0 → pos 0 ≤ℤ b → as_number (rounded_quotient (a *ℤ pos one) (unsigned_abs b)) ≡ quotient_of a b
unfolding quotient_of
quotient_by_positive a (pos zero) n h = absurd (n refl)
quotient_by_positive a (pos (suc b)) n h = refl
quotient_by_positive a (negsuc b) n h = absurd (omega (arith, ints))

-- ---- the floor of a ratio
pub floor_by_negative : (a b : ℤ) → b <ℤ pos 0 → floor_quotient (neg_ℤ a) (unsigned_abs b) ≡ floor_of_ratio a b
unfolding floor_of_ratio
floor_by_negative a (pos b) h = absurd (omega (arith, ints))
floor_by_negative a (negsuc b) h = refl

pub floor_by_positive : (a b : ℤ) → pos 0 ≤ℤ b → floor_quotient a (unsigned_abs b) ≡ floor_of_ratio a b
unfolding floor_of_ratio
floor_by_positive a (pos b) h = refl
floor_by_positive a (negsuc b) h = absurd (omega (arith, ints))

floor_quotient_size : (a : ℤ) (q : ℕ) → unsigned_abs (floor_quotient a q) ≤ unsigned_abs a
floor_quotient_size (pos a) q = div-le_self a q
floor_quotient_size (negsuc a) q = omega (arith, div-le_self a q)

-- the floor of a ratio is no farther from 0 than the dividend
pub floor_of_ratio_size : (a b : ℤ) → unsigned_abs (floor_of_ratio a b) ≤ unsigned_abs a
unfolding floor_of_ratio
floor_of_ratio_size a (pos b) = floor_quotient_size a b
floor_of_ratio_size a (negsuc b) = omega (arith, ints, floor_quotient_size (neg_ℤ a) (suc b))

-- ---- what is left
pub modulo_by_zero : (a b : ℤ) → b ≡ pos 0 → Err ZeroDivide ≡ modulo_of a b
unfolding modulo_of
modulo_by_zero a b e = rw e refl

pub modulo_by_other : (a b : ℤ) → b ≢ pos 0 → as_number (a -ℤ (b *ℤ floor_of_ratio a b)) ≡ modulo_of a b
unfolding modulo_of
modulo_by_other a (pos zero) n = absurd (n refl)
modulo_by_other a (pos (suc b)) n = refl
modulo_by_other a (negsuc b) n = refl

pub remainder_by_zero : (a b : ℤ) → b ≡ pos 0 → Err ZeroDivide ≡ remainder_of a b
unfolding remainder_of
remainder_by_zero a b e = rw e refl

pub cut_rest : (a b : ℤ) → int_rem a b ≡ a -ℤ (b *ℤ cut_quotient a b)
cut_rest a b = omega (arith, ints, quot-rem a b)

pub remainder_by_other : (a b : ℤ) → b ≢ pos 0 → as_number (int_rem a b) ≡ remainder_of a b
unfolding remainder_of
remainder_by_other a (pos zero) n = absurd (n refl)
remainder_by_other a (pos (suc b)) n = ap as_number (cut_rest a (pos (suc b)))
remainder_by_other a (negsuc b) n = ap as_number (cut_rest a (negsuc b))
