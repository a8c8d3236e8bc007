-- Differences of headings: an angle moved by whole turns. An angle is a count of millionths of a degree.
use Rattle.std.specs.Prelude.{◌≡◌, ◌≤◌, ℤ, pos, ◌+ℤ◌, ◌-ℤ◌, ◌*ℤ◌, neg_ℤ, ◌≤ℤ◌, ◌<ℤ◌, unsigned_abs, Result, Ok, IsOkAnd}
use Rattle.std.specs.Int.{int_rem_euclid}
use Rattle.nl_fixed.specs.declared.number.NumFault.{NumFault}
use Rattle.nl_fixed.specs.Numbers.{IsInRange, and_next, difference_of, product_of}
use Rattle.nl_fixed.specs.Sines.{degrees, sine_of, cosine_of}

-- the angle moved by whole turns above -180 and up to 180 degrees: 180 - ((180 - angle) mod 360)
unfoldable pub within_half_turn : ℤ → ℤ
within_half_turn angle = degrees (pos 180) -ℤ int_rem_euclid (degrees (pos 180) -ℤ angle) (degrees (pos 360))

-- the first heading minus the second, so moved
unfoldable pub heading_difference_of : ℤ → ℤ → Result ℤ NumFault
heading_difference_of a b = and_next (difference_of a b) (λ angle. Ok (within_half_turn angle))

-- ---- laws

-- above -180 and up to 180 degrees
pub record IsWithinHalfTurn (angle : ℤ) : Type 0 where
  pub low : degrees (neg_ℤ (pos 180)) <ℤ angle
  pub high : angle ≤ℤ degrees (pos 180)

-- the angles are some whole turns apart, so they point in one direction
pub record AreTurnsApart (a b : ℤ) : Type 0 where
  pub turns : ℤ
  pub are : a ≡ b +ℤ (degrees (pos 360) *ℤ turns)

-- the moved angle is within half a turn, and points in the same direction
abbrev pub TurnsLeadWithin : Type 0
TurnsLeadWithin = (angle : ℤ) → IsWithinHalfTurn (within_half_turn angle) × AreTurnsApart angle (within_half_turn angle)

-- no other angle is and does
abbrev pub WithinIsOnlyOne : Type 0
WithinIsOnlyOne = (angle other : ℤ) → IsWithinHalfTurn other → AreTurnsApart angle other → other ≡ within_half_turn angle

-- the product is a number, no farther from 0 than the first factor
abbrev pub FitsBeside : ℤ → Result ℤ NumFault → Type 0
FitsBeside count product = IsOkAnd product (λ rounded. unsigned_abs rounded ≤ unsigned_abs count)

-- the product of a number with a sine or a cosine is such a product
abbrev pub ProductsWithSinesFit : Type 0
ProductsWithSinesFit = (count angle : ℤ) → IsInRange count → FitsBeside count (product_of count (sine_of angle))

abbrev pub ProductsWithCosinesFit : Type 0
ProductsWithCosinesFit = (count angle : ℤ) → IsInRange count → FitsBeside count (product_of count (cosine_of angle))
