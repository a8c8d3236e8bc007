-- Fixed-point numbers. A number is a whole count of millionths, from -9*10^18 to 9*10^18. All that is said here is
-- said over unbounded whole numbers of either sign: an operation works on counts and gives a count, or the fault
-- that stands in its place.
use Rattle.std.specs.Prelude.{◌≡◌, ℕ, zero, suc, ◌+◌, ◌-◌, ◌*◌, ◌/◌, ◌%◌, ◌^◌, ℤ, pos, negsuc, ◌+ℤ◌, ◌-ℤ◌, ◌*ℤ◌, neg_ℤ, ◌≤ℤ◌, Bool, ◌&&◌, ◌==◌, nat_le, int_div, unsigned_abs, Option, Some, None, Result, Ok, Err, if◌then◌else◌}
use Rattle.std.specs.Int.{int_div_euclid}
use Rattle.nl_fixed.specs.declared.number.NumFault.{NumFault}
use Rattle.nl_fixed.specs.declared.number.NumFault.TheVariants.{Overflow, ZeroDivide, Domain}

-- ---- the range

-- how many millionths make 1
abbrev pub one : ℕ
one = 1_000_000

-- the greatest count; the least is its negative
abbrev pub limit : ℕ
limit = 9_000_000_000_000_000_000

-- the count is one of a number: as a fact, and as a test
pub record IsInRange (count : ℤ) : Type 0 where
  pub low : neg_ℤ (pos limit) ≤ℤ count
  pub high : count ≤ℤ pos limit

abbrev pub in_range : ℤ → Bool
in_range count = nat_le (unsigned_abs count) limit

-- the number of so many millionths, where it is in range
abbrev pub number_at : ℤ → Option ℤ
number_at count = if in_range count then Some count else None

-- a result of so many millionths: out of range it is Overflow
unfoldable pub as_number : ℤ → Result ℤ NumFault
as_number count = if in_range count then Ok count else Err Overflow

-- the result is the number of so many millionths exactly where that is in range, and Overflow exactly where it isn't
abbrev pub OverflowsExactly : Result ℤ NumFault → ℤ → Type 0
OverflowsExactly (Ok number) count = (number ≡ count) × IsInRange count
OverflowsExactly (Err fault) count = (fault ≡ Overflow) × ¬ IsInRange count

-- what comes of a result and of a next step, which is taken only where the result is no fault
abbrev pub and_next : Result ℤ NumFault → (ℤ → Result ℤ NumFault) → Result ℤ NumFault
and_next (Ok count) next = next count
and_next (Err fault) next = Err fault

-- ---- quotients of whole numbers

-- the greatest whole number that is at most p / q, for q above 0
abbrev pub floor_quotient : ℤ → ℕ → ℤ
floor_quotient p q = int_div_euclid p (pos q)

-- the whole number nearest to p / q, for q above 0, a half upwards: the floor of (2p + q) / (2q)
unfoldable pub rounded_quotient : ℤ → ℕ → ℤ
rounded_quotient p q = floor_quotient (pos 2 *ℤ p +ℤ pos q) (2 * q)

-- the greatest whole number that is at most a / b, for b of either sign but not 0
unfoldable pub floor_of_ratio : ℤ → ℤ → ℤ
floor_of_ratio a (pos b) = floor_quotient a b
floor_of_ratio a (negsuc b) = floor_quotient (neg_ℤ a) (suc b)

-- a / b cut toward 0
abbrev pub cut_quotient : ℤ → ℤ → ℤ
cut_quotient a b = int_div a b

-- ---- whole numbers

-- the number of a whole number
abbrev pub number_of_integer : ℤ → Result ℤ NumFault
number_of_integer n = as_number (n *ℤ pos one)

-- the count is one of a whole number: as a fact, and as a test
pub record IsWhole (count : ℤ) : Type 0 where
  pub number : ℤ
  pub is : count ≡ number *ℤ pos one

abbrev pub is_whole : ℤ → Bool
is_whole count = unsigned_abs count % one == 0

-- the whole number that is left without the fraction
abbrev pub whole_part : ℤ → ℤ
whole_part count = cut_quotient count (pos one)

-- the greatest whole part; the least is its negative
abbrev pub whole_limit : ℕ
whole_limit = 9_000_000_000_000

-- ---- sum, difference, product, quotient

unfoldable pub sum_of : ℤ → ℤ → Result ℤ NumFault
sum_of a b = as_number (a +ℤ b)

unfoldable pub difference_of : ℤ → ℤ → Result ℤ NumFault
difference_of a b = as_number (a -ℤ b)

unfoldable pub product_of : ℤ → ℤ → Result ℤ NumFault
product_of a b = as_number (rounded_quotient (a *ℤ b) one)

-- the count nearest to a / b; both signs change first where b is negative
unfoldable pub quotient_of : ℤ → ℤ → Result ℤ NumFault
quotient_of a (pos zero) = Err ZeroDivide
quotient_of a (pos (suc b)) = as_number (rounded_quotient (a *ℤ pos one) (suc b))
quotient_of a (negsuc b) = as_number (rounded_quotient (neg_ℤ (a *ℤ pos one)) (suc b))

-- a - b * floor (a / b): it has the sign of b
unfoldable pub modulo_of : ℤ → ℤ → Result ℤ NumFault
modulo_of a (pos zero) = Err ZeroDivide
modulo_of a b = as_number (a -ℤ b *ℤ floor_of_ratio a b)

-- a - b * (a / b cut toward 0): it has the sign of a
unfoldable pub remainder_of : ℤ → ℤ → Result ℤ NumFault
remainder_of a (pos zero) = Err ZeroDivide
remainder_of a b = as_number (a -ℤ b *ℤ cut_quotient a b)

-- ---- powers

-- 1 multiplied n times by a, each product rounded
unfoldable pub repeated_product : ℤ → ℕ → Result ℤ NumFault
repeated_product a zero = Ok (pos one)
repeated_product a (suc n) = and_next (repeated_product a n) (λ power. product_of power a)

-- the greatest exponent; the least is its negative
abbrev pub exponent_limit : ℕ
exponent_limit = 1_000

-- the count is that of a whole number, not beyond the greatest or the least exponent
abbrev pub is_exponent : ℤ → Bool
is_exponent count = is_whole count && nat_le (unsigned_abs count) (exponent_limit * one)

-- a to the power of the exponent, which is whole: by a negative one, the quotient of 1 by the power
unfoldable pub whole_power : ℤ → ℤ → Result ℤ NumFault
whole_power a (pos count) = repeated_product a (count / one)
whole_power a (negsuc count) = and_next (repeated_product a (suc count / one)) (λ power. quotient_of (pos one) power)

unfoldable pub power_of : ℤ → ℤ → Result ℤ NumFault
power_of a exponent = if is_exponent exponent then whole_power a exponent else Err Domain

-- ---- roots

-- the greatest whole number up to k whose square is at most n
unfoldable pub root_up_to : ℕ → ℕ → ℕ
root_up_to zero n = 0
root_up_to (suc k) n = if nat_le (suc k * suc k) n then suc k else root_up_to k n

-- the greatest whole number whose square is at most n
unfoldable pub whole_root : ℕ → ℕ
whole_root n = root_up_to n n

-- the square root, cut to millionths: the square of a count is one of millionths of millionths
unfoldable pub root_of : ℤ → Result ℤ NumFault
root_of (pos count) = as_number (pos (whole_root (count * one)))
root_of (negsuc count) = Err Domain

-- ---- rounding to places and to whole numbers

-- to the nearest multiple of so many millionths, a half upwards
unfoldable pub nearest_multiple : ℤ → ℕ → ℤ
nearest_multiple count step = rounded_quotient count step *ℤ pos step

-- to the nearest whole number, a half upwards
abbrev pub round_of : ℤ → ℤ
round_of count = nearest_multiple count one

-- to the greatest whole number that is not above
unfoldable pub floor_of : ℤ → ℤ
floor_of count = floor_quotient count one *ℤ pos one

-- to the least whole number that is not below
unfoldable pub ceiling_of : ℤ → ℤ
ceiling_of count = neg_ℤ (floor_of (neg_ℤ count))

-- toward 0
unfoldable pub int_of : ℤ → ℤ
int_of count = whole_part count *ℤ pos one

-- to so many decimal places: with 6 or more nothing is lost, and a negative number of places rounds to tens,
-- hundreds and so on, up to 10^12
unfoldable pub to_places : ℤ → ℤ → Result ℤ NumFault
to_places count (pos places) = if nat_le 6 places then Ok count else as_number (nearest_multiple count (10 ^ (6 - places)))
to_places count (negsuc places) = if nat_le 12 places then Err Domain else as_number (nearest_multiple count (10 ^ (7 + places)))

-- the places are cut toward 0 to a whole number
unfoldable pub precision_of : ℤ → ℤ → Result ℤ NumFault
precision_of count places = to_places count (whole_part places)
