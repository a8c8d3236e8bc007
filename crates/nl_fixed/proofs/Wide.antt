-- The steps of the arithmetic that are wider than a count fit 128 bits, and what the code computes there is exact.
use Rattle.std.proofs.Common.{ℕ, ◌*◌, ◌≤◌, ◌≡◌, ℤ, pos, ◌+ℤ◌, ◌-ℤ◌, ◌*ℤ◌, neg_ℤ, ◌≤ℤ◌, ◌<ℤ◌, unsigned_abs, FitsSigned, to_z, of_z, ◌∙◌, ap, arith}
use Rattle.std.specs.Int.{w128, int_div_euclid}
use Rattle.std.proofs.lemmas.Int.{ints, to_z-of_z, fits_signed_mul, unsigned_abs-mul}
use Rattle.std.proofs.Math.Nat.{mul-le-mul}
use Rattle.nl_fixed.specs.Numbers.{limit, IsInRange, as_number, rounded_quotient, floor_of_ratio}
use Rattle.nl_fixed.proofs.Signs.{floor_by_negative, floor_by_positive, floor_of_ratio_size}

-- how far a count is from 0
pub size_of_count : (a : ℤ) → IsInRange a → unsigned_abs a ≤ limit
size_of_count a in_range = omega (arith, ints)

pub range_of_size : (a : ℤ) → unsigned_abs a ≤ limit → IsInRange a
range_of_size a size = record { low = omega (arith, ints); high = omega (arith, ints) }

-- a product of two counts, as the code computes it
pub wide_product : (r s a b : ℤ) → r ≡ a → s ≡ b → IsInRange a → IsInRange b → to_z w128 (of_z w128 (to_z w128 (of_z w128 r) *ℤ to_z w128 (of_z w128 s))) ≡ a *ℤ b
wide_product r s a b is_a is_b in_a in_b =
    let first : to_z w128 (of_z w128 r) ≡ a = omega (arith, ints) in
    let second : to_z w128 (of_z w128 s) ≡ b = omega (arith, ints) in
    let fits = fits_signed_mul w128 a b limit limit (size_of_count a in_a) (size_of_count b in_b) (omega arith) in
    rw (first, second) (to_z-of_z w128 (a *ℤ b) fits)

pub product_size : (a b : ℤ) → IsInRange a → IsInRange b → unsigned_abs (a *ℤ b) ≤ limit * limit
product_size a b in_a in_b = rw unsigned_abs-mul (mul-le-mul (size_of_count a in_a) (size_of_count b in_b))

-- the code's rounding
pub rounded_is : (r x y p : ℤ) (q : ℕ) → r ≡ int_div_euclid x y → x ≡ (pos 2 *ℤ p) +ℤ pos q → y ≡ pos (2 * q) → r ≡ rounded_quotient p q
unfolding rounded_quotient
rounded_is r x y p q is top below = is ∙ ap (λ z. int_div_euclid z y) top ∙ ap (int_div_euclid (pos 2 *ℤ p +ℤ pos q)) below

-- a rounding that is passed on as a count
pub rounded_count : (r p x : ℤ) (q n : ℕ) → FitsSigned w128 r → r ≡ rounded_quotient p q → p ≡ x → q ≡ n → as_number (to_z w128 (of_z w128 r)) ≡ as_number (rounded_quotient x n)
rounded_count r p x q n fits is top below =
    ap as_number (to_z-of_z w128 r fits ∙ is ∙ ap (λ z. rounded_quotient z q) top ∙ ap (rounded_quotient x) below)

-- the code's floor of a ratio
pub floored_negative : (r x y a b : ℤ) → r ≡ int_div_euclid x y → x ≡ neg_ℤ a → y ≡ pos (unsigned_abs b) → b <ℤ pos 0 → r ≡ floor_of_ratio a b
floored_negative r x y a b is top below negative =
    is ∙ ap (λ z. int_div_euclid z y) top ∙ ap (int_div_euclid (neg_ℤ a)) below ∙ floor_by_negative a b negative

pub floored_positive : (r x y a b : ℤ) → r ≡ int_div_euclid x y → x ≡ a → y ≡ pos (unsigned_abs b) → pos 0 ≤ℤ b → r ≡ floor_of_ratio a b
floored_positive r x y a b is top below positive =
    is ∙ ap (λ z. int_div_euclid z y) top ∙ ap (int_div_euclid a) below ∙ floor_by_positive a b positive

-- the floor of a ratio of counts is no count out of range
pub floor_in_range : (r x y a b : ℤ) → r ≡ floor_of_ratio x y → x ≡ a → y ≡ b → IsInRange a → IsInRange r
floor_in_range r x y a b is top below in_a =
    let size : unsigned_abs r ≤ unsigned_abs x = rw is (floor_of_ratio_size x y) in
    let whole : unsigned_abs a ≤ limit = size_of_count a in_a in
    range_of_size r (omega (arith, ints))

-- what the code computes for what is left over a floor
pub left_over_floor : (r s t k a b : ℤ) → r ≡ a → s ≡ b → t ≡ k → k ≡ floor_of_ratio a b → IsInRange a → IsInRange b → IsInRange k → to_z w128 (of_z w128 (to_z w128 (of_z w128 r) -ℤ to_z w128 (of_z w128 (to_z w128 (of_z w128 s) *ℤ to_z w128 (of_z w128 t))))) ≡ a -ℤ (b *ℤ floor_of_ratio a b)
left_over_floor r s t k a b is_a is_b is_k floor in_a in_b in_k =
    let size = product_size b k in_b in_k in
    let left : to_z w128 (of_z w128 (to_z w128 (of_z w128 r) -ℤ (b *ℤ k))) ≡ a -ℤ (b *ℤ k) = omega (arith, ints) in
    rw (wide_product s t b k is_b is_k in_b in_k) (left ∙ ap (λ x. a -ℤ (b *ℤ x)) floor)
