-- Products of whole numbers of either sign against their order, and the floor of a quotient by its two bounds.
use Rattle.std.proofs.Common.{ℕ, ◌+◌, ◌*◌, ◌<◌, ◌≤◌, ◌≡◌, ℤ, pos, negsuc, ◌+ℤ◌, ◌-ℤ◌, ◌*ℤ◌, ◌≤ℤ◌, ◌<ℤ◌, arith}
use Rattle.std.proofs.lemmas.Int.{ints, by_lt_z}
use Rattle.std.proofs.Math.Nat.{div-add-mod', mod-lt, mul-le-mul_left, mul-add}
use borrow.Author.Differences.{up, down}
use Rattle.nl_fixed.specs.Numbers.{floor_quotient, rounded_quotient}

-- the product of a positive number by a greater one is greater by that number at least
pub times_above : (q : ℕ) (a b : ℤ) → a <ℤ b → ((pos q *ℤ a) +ℤ pos q) ≤ℤ (pos q *ℤ b)
times_above q a b h =
    let apart : up a + down b + 1 ≤ up b + down a = omega (arith, ints) in
    let wide : q * (up a + down b + 1) ≤ q * (up b + down a) = mul-le-mul_left q apart in
    omega (arith, ints, wide, mul-add q (up a + down b) 1, mul-add q (up a) (down b), mul-add q (up b) (down a))

-- ---- the floor: the multiple is at most the number, the next one is above, and no other does so
pub floor_low : (p : ℤ) (q : ℕ) → 0 < q → (pos q *ℤ floor_quotient p q) ≤ℤ p
floor_low (pos a) q h = omega (arith, ints, div-add-mod' a q)
floor_low (negsuc a) q h = omega (arith, ints, div-add-mod' a q, mod-lt a h)

pub floor_high : (p : ℤ) (q : ℕ) → 0 < q → p <ℤ ((pos q *ℤ floor_quotient p q) +ℤ pos q)
floor_high (pos a) q h = omega (arith, ints, div-add-mod' a q, mod-lt a h)
floor_high (negsuc a) q h = omega (arith, ints, div-add-mod' a q)

pub floor_only : (p : ℤ) (q : ℕ) (r s : ℤ) → (pos q *ℤ r) ≤ℤ p → p <ℤ ((pos q *ℤ r) +ℤ pos q) → (pos q *ℤ s) ≤ℤ p → p <ℤ ((pos q *ℤ s) +ℤ pos q) → r ≡ s
floor_only p q r s a b c d =
    by_lt_z r s (λ below. absurd (omega (arith, ints, times_above q r s below)))
    (λ least. by_lt_z s r (λ below. absurd (omega (arith, ints, times_above q s r below))) (λ most. omega (arith, ints)))

-- ---- the rounding: it is the one whole number r with 2p - q < 2q r and 2q r <= 2p + q
pub rounded_low : (p : ℤ) (q : ℕ) → 0 < q → ((pos 2 *ℤ p) -ℤ pos q) <ℤ (pos (2 * q) *ℤ rounded_quotient p q)
unfolding rounded_quotient
rounded_low p q h =
    let twice : 0 < 2 * q = omega arith in
    omega (arith, ints, floor_high (pos 2 *ℤ p +ℤ pos q) (2 * q) twice)

pub rounded_high : (p : ℤ) (q : ℕ) → 0 < q → (pos (2 * q) *ℤ rounded_quotient p q) ≤ℤ ((pos 2 *ℤ p) +ℤ pos q)
unfolding rounded_quotient
rounded_high p q h =
    let twice : 0 < 2 * q = omega arith in
    floor_low (pos 2 *ℤ p +ℤ pos q) (2 * q) twice

pub rounded_only : (p : ℤ) (q : ℕ) (r : ℤ) → 0 < q → ((pos 2 *ℤ p) -ℤ pos q) <ℤ (pos (2 * q) *ℤ r) → (pos (2 * q) *ℤ r) ≤ℤ ((pos 2 *ℤ p) +ℤ pos q) → r ≡ rounded_quotient p q
rounded_only p q r h low high =
    floor_only (pos 2 *ℤ p +ℤ pos q) (2 * q) r (rounded_quotient p q) high (omega (arith, ints)) (rounded_high p q h)
    (omega (arith, ints, rounded_low p q h))
