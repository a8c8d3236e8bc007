-- What the formulas of the arithmetic mean: laws above the definitions, over counts of either sign without a bound.
use Rattle.std.specs.Prelude.{ℕ, ◌+◌, ◌*◌, ◌<◌, ◌≤◌, ◌≡◌, ◌≢◌, ℤ, pos, ◌+ℤ◌, ◌-ℤ◌, ◌*ℤ◌, neg_ℤ, ◌≤ℤ◌, ◌<ℤ◌, unsigned_abs, Ok, IsOk}
use Rattle.nl_fixed.specs.Numbers.{IsInRange, IsWhole, one, exponent_limit, and_next, rounded_quotient, product_of, quotient_of, modulo_of, remainder_of, power_of, whole_root, root_of, round_of, floor_of, ceiling_of, int_of}

-- ---- the rounding

-- r is nearest to p / q, a half upwards: p / q - 1/2 < r <= p / q + 1/2
pub record IsNearest (p : ℤ) (q : ℕ) (r : ℤ) : Type 0 where
  pub low : ((pos 2 *ℤ p) -ℤ pos q) <ℤ (pos (2 * q) *ℤ r)
  pub high : (pos (2 * q) *ℤ r) ≤ℤ ((pos 2 *ℤ p) +ℤ pos q)

-- the rounded quotient is nearest
abbrev pub RoundedIsNearest : Type 0
RoundedIsNearest = (p : ℤ) (q : ℕ) → 0 < q → IsNearest p q (rounded_quotient p q)

-- nothing else is
abbrev pub OnlyRoundedIsNearest : Type 0
OnlyRoundedIsNearest = (p : ℤ) (q : ℕ) (r : ℤ) → 0 < q → IsNearest p q r → r ≡ rounded_quotient p q

-- ---- what is left after a division

-- b times a whole number, and the rest, make a, and the rest is nearer to 0 than b
pub record Divides (a b rest : ℤ) : Type 0 where
  pub times : ℤ
  pub sum : a ≡ (b *ℤ times) +ℤ rest
  pub small : unsigned_abs rest < unsigned_abs b

-- the number is 0 or has the other's sign
pub record HasSign (rest other : ℤ) : Type 0 where
  pub above : pos 0 ≤ℤ other → pos 0 ≤ℤ rest
  pub below : other ≤ℤ pos 0 → rest ≤ℤ pos 0

-- `mod` leaves a rest with the divisor's sign, and has an answer for each divisor but 0
abbrev pub ModuloDivides : Type 0
ModuloDivides = (a b rest : ℤ) → modulo_of a b ≡ Ok rest → Divides a b rest × HasSign rest b

abbrev pub ModuloHasAnswer : Type 0
ModuloHasAnswer = (a b : ℤ) → IsInRange b → b ≢ pos 0 → IsOk (modulo_of a b)

-- `remainder` leaves a rest with the dividend's sign, and has an answer for each divisor but 0
abbrev pub RemainderDivides : Type 0
RemainderDivides = (a b rest : ℤ) → remainder_of a b ≡ Ok rest → Divides a b rest × HasSign rest a

abbrev pub RemainderHasAnswer : Type 0
RemainderHasAnswer = (a b : ℤ) → IsInRange b → b ≢ pos 0 → IsOk (remainder_of a b)

-- ---- roots

-- the square of a whole root is at most n, and no whole number with such a square is greater
abbrev pub WholeRootIsGreatest : Type 0
WholeRootIsGreatest = (n : ℕ) → (whole_root n * whole_root n ≤ n) × ((other : ℕ) → other * other ≤ n → other ≤ whole_root n)

-- root is the greatest count from 0 on whose square is at most the count, in millionths of millionths
pub record IsGreatestRoot (count root : ℤ) : Type 0 where
  pub least : pos 0 ≤ℤ root
  pub square : (root *ℤ root) ≤ℤ (count *ℤ pos one)
  pub greatest : (other : ℤ) → pos 0 ≤ℤ other → (other *ℤ other) ≤ℤ (count *ℤ pos one) → other ≤ℤ root

abbrev pub RootIsGreatest : Type 0
RootIsGreatest = (count root : ℤ) → root_of count ≡ Ok root → IsGreatestRoot count root

-- each number that isn't negative has one
abbrev pub RootHasAnswer : Type 0
RootHasAnswer = (count : ℤ) → IsInRange count → pos 0 ≤ℤ count → IsOk (root_of count)

-- ---- powers

-- the power of 0 is 1
abbrev pub PowerOfZero : Type 0
PowerOfZero = (a : ℤ) → power_of a (pos 0) ≡ Ok (pos one)

-- the next power is one more rounded product
abbrev pub PowerOfNext : Type 0
PowerOfNext = (a : ℤ) (n : ℕ) → n < exponent_limit → power_of a (pos ((n + 1) * one)) ≡ and_next (power_of a (pos (n * one))) (λ power. product_of power a)

-- the power of a negative exponent is the quotient of 1 by that of the positive one
abbrev pub PowerOfNegative : Type 0
PowerOfNegative = (a : ℤ) (n : ℕ) → 0 < n → n ≤ exponent_limit → power_of a (neg_ℤ (pos (n * one))) ≡ and_next (power_of a (pos (n * one))) (λ power. quotient_of (pos one) power)

-- ---- whole numbers

-- the four roundings give whole numbers less than 1 away: the floor from below, the ceiling from above, the cut from
-- the side of 0, and the nearest one at most a half away
pub record RoundsAround (count : ℤ) : Type 0 where
  pub floor_whole : IsWhole (floor_of count)
  pub floor_low : floor_of count ≤ℤ count
  pub floor_high : count <ℤ (floor_of count +ℤ pos one)
  pub ceiling_whole : IsWhole (ceiling_of count)
  pub ceiling_high : count ≤ℤ ceiling_of count
  pub ceiling_low : ceiling_of count <ℤ (count +ℤ pos one)
  pub int_whole : IsWhole (int_of count)
  pub int_above : pos 0 ≤ℤ count → int_of count ≡ floor_of count
  pub int_below : count ≤ℤ pos 0 → int_of count ≡ ceiling_of count
  pub round_whole : IsWhole (round_of count)
  pub round_low : ((pos 2 *ℤ count) -ℤ pos one) <ℤ (pos 2 *ℤ round_of count)
  pub round_high : (pos 2 *ℤ round_of count) ≤ℤ ((pos 2 *ℤ count) +ℤ pos one)

abbrev pub RoundingsAreAround : Type 0
RoundingsAreAround = (count : ℤ) → RoundsAround count
