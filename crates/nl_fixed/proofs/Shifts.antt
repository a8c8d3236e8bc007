-- A quotient's rounding doesn't change where both numbers are multiplied by the same one.
use Rattle.std.proofs.Common.{ℕ, zero, suc, ◌+◌, ◌*◌, ◌^◌, ◌<◌, ◌≤◌, ◌≡◌, ℤ, pos, negsuc, ◌+ℤ◌, ◌-ℤ◌, ◌*ℤ◌, neg_ℤ, ◌≤ℤ◌, ◌<ℤ◌, lit<, arith, refl, ap, ◌∙◌}
use Rattle.std.proofs.lemmas.Int.{ints}
use Rattle.std.proofs.lemmas.Nat.{pow-add}
use Rattle.std.proofs.Math.IntN.{negsuc-*ℤ-pos}
use Rattle.std.proofs.Math.Nat.{mul-le-mul_right, mul_assoc}
use Rattle.nl_fixed.specs.Numbers.{rounded_quotient}
use Rattle.nl_fixed.specs.Spelling.{times_power_of_ten}
use Rattle.nl_fixed.proofs.Texts.{power_above}
use Rattle.nl_fixed.proofs.Integers.{rounded_low, rounded_high, rounded_only}

-- the order of sums of products, each multiplied by s
wider : (x y s : ℕ) → 0 < s → x < y → x * s < y * s
wider x y s some h = let more : suc x * s ≤ y * s = mul-le-mul_right s h in omega arith

scaled_low : (n r : ℤ) (q s : ℕ) → 0 < s → ((pos 2 *ℤ n) -ℤ pos q) <ℤ (pos (2 * q) *ℤ r) → ((pos 2 *ℤ (n *ℤ pos s)) -ℤ pos (q * s)) <ℤ (pos (2 * (q * s)) *ℤ r)
scaled_low (pos a) (pos b) q s some h =
    let below : 2 * a < 2 * q * b + q = omega (arith, ints) in
    let more = wider (2 * a) (2 * q * b + q) s some below in
    omega (arith, ints, more)
scaled_low (pos a) (negsuc b) q s some h =
    let below : 2 * a + 2 * q * (b + 1) < q = omega (arith, ints) in
    let more = wider (2 * a + 2 * q * (b + 1)) q s some below in
    omega (arith, ints, more)
scaled_low (negsuc a) (pos b) q s some h =
    let above : 0 < a + 1 = omega arith in
    let more = wider 0 (a + 1) s some above in
    omega (arith, ints, more)
scaled_low (negsuc a) (negsuc b) q s some h =
    let below : 2 * q * (b + 1) < 2 * (a + 1) + q = omega (arith, ints) in
    let more = wider (2 * q * (b + 1)) (2 * (a + 1) + q) s some below in
    omega (arith, ints, more)

scaled_high : (n r : ℤ) (q s : ℕ) → (pos (2 * q) *ℤ r) ≤ℤ ((pos 2 *ℤ n) +ℤ pos q) → (pos (2 * (q * s)) *ℤ r) ≤ℤ ((pos 2 *ℤ (n *ℤ pos s)) +ℤ pos (q * s))
scaled_high (pos a) (pos b) q s h =
    let below : 2 * q * b ≤ 2 * a + q = omega (arith, ints) in omega (arith, ints, mul-le-mul_right s below)
scaled_high (pos a) (negsuc b) q s h = omega (arith, ints)
scaled_high (negsuc a) (pos b) q s h =
    let below : 2 * q * b + 2 * (a + 1) ≤ q = omega (arith, ints) in omega (arith, ints, mul-le-mul_right s below)
scaled_high (negsuc a) (negsuc b) q s h =
    let below : 2 * (a + 1) ≤ 2 * q * (b + 1) + q = omega (arith, ints) in omega (arith, ints, mul-le-mul_right s below)

pub rounded_scaled : (n : ℤ) (q s : ℕ) → 0 < q → 0 < s → rounded_quotient n q ≡ rounded_quotient (n *ℤ pos s) (q * s)
rounded_scaled n q s above some =
    let both : 0 * s < q * s = wider 0 q s some above in
    rounded_only (n *ℤ pos s) (q * s) (rounded_quotient n q) (omega arith)
    (scaled_low n (rounded_quotient n q) q s some (rounded_low n q above)) (scaled_high n (rounded_quotient n q) q s (rounded_high n q above))

-- ---- powers of ten on both sides

rounded_by_one : (n : ℤ) → n ≡ rounded_quotient n 1
rounded_by_one (pos a) = rounded_only (pos a) 1 (pos a) (omega arith) (omega (arith, ints)) (omega (arith, ints))
rounded_by_one (negsuc a) = rounded_only (negsuc a) 1 (negsuc a) (omega arith) (omega (arith, ints)) (omega (arith, ints))

neg-times : (m y : ℕ) → neg_ℤ (pos m) *ℤ pos y ≡ neg_ℤ (pos (m * y))
neg-times zero y = let none : 0 * y ≡ 0 = omega arith in rw none refl
neg-times (suc m) y = negsuc-*ℤ-pos m y

times_times : (n : ℤ) (x y z : ℕ) → x * y ≡ z → (n *ℤ pos x) *ℤ pos y ≡ n *ℤ pos z
times_times (pos a) x y z e = rw (← e) (ap pos (mul_assoc a x y))
times_times (negsuc a) x y z e =
    rw (← e) (neg-times (suc a * x) y ∙ ap (λ m. neg_ℤ (pos m)) (mul_assoc (suc a) x y))

shifted_right : (n : ℤ) (a b c : ℕ) → b + c ≡ a → times_power_of_ten n (pos c) ≡ rounded_quotient (n *ℤ pos (10 ^ a)) (10 ^ b)
unfolding times_power_of_ten
shifted_right n a b c e =
    let powers : 10 ^ c * 10 ^ b ≡ 10 ^ a = omega (arith, pow-add 10 b c, ap (λ k. 10 ^ k) e) in
    let one : 0 < 1 = lit< tt in
    rounded_by_one (n *ℤ pos (10 ^ c)) ∙ rounded_scaled (n *ℤ pos (10 ^ c)) 1 (10 ^ b) one (power_above b)
    ∙ ap (λ p. rounded_quotient p (1 * 10 ^ b)) (times_times n (10 ^ c) (10 ^ b) (10 ^ a) powers) ∙ ap (rounded_quotient (n *ℤ pos (10 ^ a))) (omega arith)

shifted_left : (n : ℤ) (a b k : ℕ) → a + suc k ≡ b → times_power_of_ten n (negsuc k) ≡ rounded_quotient (n *ℤ pos (10 ^ a)) (10 ^ b)
unfolding times_power_of_ten
shifted_left n a b k e =
    let powers : 10 ^ suc k * 10 ^ a ≡ 10 ^ b = omega (arith, pow-add 10 a (suc k), ap (λ j. 10 ^ j) e) in
    rounded_scaled n (10 ^ suc k) (10 ^ a) (power_above (suc k)) (power_above a) ∙ ap (rounded_quotient (n *ℤ pos (10 ^ a))) powers

pub shifted : (n power : ℤ) (a b : ℕ) → power ≡ pos a -ℤ pos b → times_power_of_ten n power ≡ rounded_quotient (n *ℤ pos (10 ^ a)) (10 ^ b)
shifted n (pos c) a b e = shifted_right n a b c (omega (arith, ints))
shifted n (negsuc k) a b e = shifted_left n a b k (omega (arith, ints))
