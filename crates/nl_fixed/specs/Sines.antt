-- Sines, cosines, tangents and the arctangent, over a table of whole degrees. An angle is a count of millionths of a
-- degree, a sine or a cosine a count of millionths; whole degrees are numbers of their own.
use Rattle.std.specs.Prelude.{◌≡◌, ℕ, zero, suc, ◌-◌, ◌<◌, ℤ, pos, ◌+ℤ◌, ◌-ℤ◌, ◌*ℤ◌, ◌≤ℤ◌, ◌<ℤ◌, neg_ℤ, unsigned_abs, int_le, Bool, true, ◌&&◌, nat_le, if◌then◌else◌, List, [], ◌∷◌, slice_index, Result, Ok, Err}
use Rattle.std.specs.Int.{int_rem_euclid}
use Rattle.nl_fixed.specs.declared.number.NumFault.{NumFault}
use Rattle.nl_fixed.specs.declared.number.NumFault.TheVariants.{Domain}
use Rattle.nl_fixed.specs.Numbers.{one, rounded_quotient, quotient_of}

-- ---- the table

-- entries by whole degrees from 0 on, in millionths
abbrev pub Table : Type 0
Table = List ℕ

-- the sines of 0 to 90 degrees
unfoldable pub sines : Table
sines =
    0 ∷ 17452 ∷ 34899 ∷ 52336 ∷ 69756 ∷ 87156 ∷ 104528 ∷ 121869 ∷ 139173 ∷ 156434 ∷
    173648 ∷ 190809 ∷ 207912 ∷ 224951 ∷ 241922 ∷ 258819 ∷ 275637 ∷ 292372 ∷ 309017 ∷ 325568 ∷
    342020 ∷ 358368 ∷ 374607 ∷ 390731 ∷ 406737 ∷ 422618 ∷ 438371 ∷ 453990 ∷ 469472 ∷ 484810 ∷
    500000 ∷ 515038 ∷ 529919 ∷ 544639 ∷ 559193 ∷ 573576 ∷ 587785 ∷ 601815 ∷ 615661 ∷ 629320 ∷
    642788 ∷ 656059 ∷ 669131 ∷ 681998 ∷ 694658 ∷ 707107 ∷ 719340 ∷ 731354 ∷ 743145 ∷ 754710 ∷
    766044 ∷ 777146 ∷ 788011 ∷ 798636 ∷ 809017 ∷ 819152 ∷ 829038 ∷ 838671 ∷ 848048 ∷ 857167 ∷
    866025 ∷ 874620 ∷ 882948 ∷ 891007 ∷ 898794 ∷ 906308 ∷ 913545 ∷ 920505 ∷ 927184 ∷ 933580 ∷
    939693 ∷ 945519 ∷ 951057 ∷ 956305 ∷ 961262 ∷ 965926 ∷ 970296 ∷ 974370 ∷ 978148 ∷ 981627 ∷
    984808 ∷ 987688 ∷ 990268 ∷ 992546 ∷ 994522 ∷ 996195 ∷ 997564 ∷ 998630 ∷ 999391 ∷ 999848 ∷
    1000000 ∷ []

-- the sine of a whole degree up to 180: over 90 it is the entry of what is left to 180
unfoldable pub half_turn_sine : ℕ → ℕ
half_turn_sine d = if nat_le d 90 then slice_index sines d else slice_index sines (180 - d)

-- the sine of a whole degree below 360: above 180 it is the negative of the sine of 180 degrees less
unfoldable pub turn_sine : ℕ → ℤ
turn_sine d = if nat_le d 180 then pos (half_turn_sine d) else neg_ℤ (pos (half_turn_sine (d - 180)))

-- ---- angles

-- the angle of so many whole degrees
abbrev pub degrees : ℤ → ℤ
degrees d = d *ℤ pos one

-- the whole degree nearest to an angle, a half in the positive direction
unfoldable pub nearest_degree : ℤ → ℤ
nearest_degree angle = rounded_quotient angle one

-- a whole degree mod 360
unfoldable pub in_turn : ℤ → ℕ
in_turn d = unsigned_abs (int_rem_euclid d (pos 360))

-- the sine of the nearest whole degree
unfoldable pub sine_of : ℤ → ℤ
sine_of angle = turn_sine (in_turn (nearest_degree angle))

-- the cosine: the difference to 90 degrees is rounded, and not the angle
unfoldable pub cosine_of : ℤ → ℤ
cosine_of angle = sine_of (degrees (pos 90) -ℤ angle)

-- the tangent: the quotient, which has no answer where the cosine is 0
unfoldable pub tangent_of : ℤ → Result ℤ NumFault
tangent_of angle = quotient_of (sine_of angle) (cosine_of angle)

-- ---- the arctangent

-- every number below n passes a test
unfoldable pub every : (ℕ → Bool) → ℕ → Bool
every test zero = true
every test (suc n) = test n && every test n

-- the least number from k on that passes a test, among n numbers; k + n where none does
unfoldable pub least_from : (ℕ → Bool) → ℕ → ℕ → ℕ
least_from test k zero = k
least_from test k (suc n) = if test k then k else least_from test (suc k) n

-- how far the point (x, y) reaches in the direction of d degrees, with 0 along y and 90 along x
unfoldable pub reach : ℤ → ℤ → ℕ → ℤ
reach x y d = (x *ℤ sine_of (degrees (pos d))) +ℤ (y *ℤ cosine_of (degrees (pos d)))

-- (x, y) reaches nowhere farther than in the direction of d
abbrev pub is_greatest : ℤ → ℤ → ℕ → Bool
is_greatest x y d = every (λ e. int_le (reach x y e) (reach x y d)) 360

-- the angle of a point seen from 0 0: the least whole degree in whose direction it reaches farthest
unfoldable pub heading_of : ℤ → ℤ → Result ℤ NumFault
heading_of (pos zero) (pos zero) = Err Domain
heading_of x y = Ok (degrees (pos (least_from (is_greatest x y) 0 360)))

-- d is the least whole degree from 0 to 359 in whose direction (x, y) reaches farthest
pub record IsArctangent (x y : ℤ) (d : ℕ) : Type 0 where
  pub below : d < 360
  pub greatest : (e : ℕ) → e < 360 → reach x y e ≤ℤ reach x y d
  pub first : (e : ℕ) → e < d → reach x y e <ℤ reach x y d

-- the angle is that of a whole degree, which is the arctangent
abbrev pub IsHeading : ℤ → ℤ → ℤ → Type 0
IsHeading x y angle = (d : ℕ) × (angle ≡ degrees (pos d)) × IsArctangent x y d

abbrev pub IsOrigin : ℤ → ℤ → Type 0
IsOrigin x y = (x ≡ pos 0) × (y ≡ pos 0)

-- ---- laws

-- sines and cosines lie from -1 to 1
abbrev pub IsUnit : ℤ → Type 0
IsUnit value = (neg_ℤ (pos one) ≤ℤ value) × (value ≤ℤ pos one)

abbrev pub SinesAreUnits : Type 0
SinesAreUnits = (angle : ℤ) → IsUnit (sine_of angle)

abbrev pub CosinesAreUnits : Type 0
CosinesAreUnits = (angle : ℤ) → IsUnit (cosine_of angle)

-- a whole turn changes nothing
abbrev pub SinesRepeat : Type 0
SinesRepeat = (angle : ℤ) → sine_of (angle +ℤ degrees (pos 360)) ≡ sine_of angle

abbrev pub CosinesRepeat : Type 0
CosinesRepeat = (angle : ℤ) → cosine_of (angle +ℤ degrees (pos 360)) ≡ cosine_of angle

-- the sine of a whole degree and that of its negative are opposite
abbrev pub SinesAreOdd : Type 0
SinesAreOdd = (d : ℤ) → sine_of (degrees (neg_ℤ d)) ≡ neg_ℤ (sine_of (degrees d))

-- the sine of a whole degree is that of what is left to 180 degrees
abbrev pub SinesAreMirrored : Type 0
SinesAreMirrored = (d : ℤ) → sine_of (degrees (pos 180 -ℤ d)) ≡ sine_of (degrees d)

-- the cosine of a whole degree is the sine of a quarter turn more
abbrev pub CosinesAreSines : Type 0
CosinesAreSines = (d : ℤ) → cosine_of (degrees d) ≡ sine_of (degrees (pos 90 +ℤ d))

-- the cosine of a whole degree is that of its negative
abbrev pub CosinesAreEven : Type 0
CosinesAreEven = (d : ℤ) → cosine_of (degrees (neg_ℤ d)) ≡ cosine_of (degrees d)

-- a point has one arctangent at most
abbrev pub ArctangentsAgree : Type 0
ArctangentsAgree = (x y : ℤ) (d e : ℕ) → IsArctangent x y d → IsArctangent x y e → d ≡ e

-- every point but 0 0 has a heading, and it is that of its arctangent
abbrev pub HeadingsAreArctangents : Type 0
HeadingsAreArctangents = (x y : ℤ) → ¬ IsOrigin x y → (angle : ℤ) × (heading_of x y ≡ Ok angle) × IsHeading x y angle
