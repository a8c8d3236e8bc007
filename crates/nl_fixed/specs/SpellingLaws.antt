-- What the spelling of numbers means: laws above the definitions.
use Rattle.std.specs.Prelude.{◌≡◌, ℕ, suc, ◌+◌, ◌^◌, ◌↔◌, ℤ, pos, negsuc, ◌*ℤ◌, true, ◌++◌, length, Some, None, Result, Ok, Err, nat_le, if◌then◌else◌}
use Rattle.std.specs.Str.Parse.{digits_value}
use Rattle.nl_fixed.specs.declared.number.NumFault.{NumFault}
use Rattle.nl_fixed.specs.declared.number.NumFault.TheVariants.{Overflow}
use Rattle.nl_fixed.specs.Nouns.{Bytes}
use Rattle.nl_fixed.specs.Numbers.{IsInRange, as_number, rounded_quotient}
use Rattle.nl_fixed.specs.Spelling.{Parts, IsSpelled, parts_of, is_number_form, exponent_value, signed, decimal_places, most_digits, read_of, number_text}

-- ---- the form of a number

-- the parts that are computed are those by which the word has the form
abbrev pub PartsFollowTheForm : Type 0
PartsFollowTheForm = (word : Bytes) (p : Parts) → (parts_of word ≡ Some p) ↔ IsSpelled word p

-- whether there are any is computed too
abbrev pub FormIsComputed : Type 0
FormIsComputed = (word : Bytes) → (is_number_form word ≡ true) ↔ ((p : Parts) × IsSpelled word p)

-- a word has the form in one way at most
abbrev pub PartsAreUnique : Type 0
PartsAreUnique = (word : Bytes) (p q : Parts) → IsSpelled word p → IsSpelled word q → p ≡ q

-- ---- the number that a word writes

-- by how many places an exponent moves the point to the right, and to the left
abbrev pub moves_right : ℤ → ℕ
moves_right (pos n) = n
moves_right (negsuc n) = 0

abbrev pub moves_left : ℤ → ℕ
moves_left (pos n) = 0
moves_left (negsuc n) = suc n

-- the word's digits are a whole number n with its sign, of which so many digits stand behind the point; the count is
-- the quotient of n with the zeros of the exponent and of a million, by 1 with the zeros of the places behind the point
abbrev pub rounded_value : Parts → Result ℤ NumFault
rounded_value p =
    if nat_le (length p.whole + length p.fraction) most_digits
    then as_number
    (rounded_quotient
    (signed p.minus (digits_value 10 (p.whole ++ p.fraction))
    *ℤ pos (10 ^ (decimal_places + moves_right (exponent_value p.exponent))))
    (10 ^ (length p.fraction + moves_left (exponent_value p.exponent))))
    else Err Overflow

-- a word that has the form of a number reads as its rounded value
abbrev pub WordsReadAsRounded : Type 0
WordsReadAsRounded = (word : Bytes) (p : Parts) → IsSpelled word p → read_of word ≡ Some (rounded_value p)

-- any other word reads as nothing
abbrev pub OthersReadAsNothing : Type 0
OthersReadAsNothing = (word : Bytes) → ((p : Parts) → IsSpelled word p → ⊥) → read_of word ≡ None

-- ---- the text of a number

-- it has the form of a number, and reads back as that number
abbrev pub TextsReadBack : Type 0
TextsReadBack = (count : ℤ) → IsInRange count → read_of (number_text count) ≡ Some (Ok count)

-- two numbers have different texts
abbrev pub TextsDiffer : Type 0
TextsDiffer = (a b : ℤ) → IsInRange a → IsInRange b → number_text a ≡ number_text b → a ≡ b
