-- How numbers are written: the form of a number's word, the number that it writes, and the text of a number.
use Rattle.std.specs.Prelude.{◌≡◌, ℕ, zero, suc, ◌+◌, ◌/◌, ◌%◌, ◌^◌, ◌<◌, ℤ, pos, negsuc, ◌+ℤ◌, ◌-ℤ◌, ◌*ℤ◌, neg_ℤ, Bool, true, false, ◌||◌, ◌&&◌, ◌==◌, if◌then◌else◌, nat_lt, nat_le, Option, Some, None, is_some, [], ◌∷◌, ◌++◌, length, take_while, drop, Result, Err}
use Rattle.std.specs.Char.{is_ascii_digit}
use Rattle.std.specs.Option.{option_map, option_to_list}
use Rattle.std.specs.List.{list_all, prefix_len}
use Rattle.std.specs.Fmt.{decimal}
use Rattle.std.specs.Str.Parse.{digits_value}
use Rattle.nl_fixed.specs.declared.number.NumFault.{NumFault}
use Rattle.nl_fixed.specs.declared.number.NumFault.TheVariants.{Overflow}
use Rattle.nl_fixed.specs.Nouns.{Bytes}
use Rattle.nl_fixed.specs.Numbers.{as_number, rounded_quotient, one}

-- the bytes that aren't digits: `-`, `+` and `.`
abbrev pub minus_sign : ℕ
minus_sign = 45

abbrev pub plus_sign : ℕ
plus_sign = 43

abbrev pub decimal_point : ℕ
decimal_point = 46

-- `e` or `E`, before an exponent
abbrev pub is_exponent_letter : ℕ → Bool
is_exponent_letter c = c == 101 || c == 69

abbrev pub is_sign : ℕ → Bool
is_sign c = c == minus_sign || c == plus_sign

abbrev pub all_digits : Bytes → Bool
all_digits ds = list_all is_ascii_digit ds

-- ---- the form of a number's word

-- an exponent: its letter, its sign, which may be left out, and its digits
pub record Exponent : Type 0 where
  pub letter : ℕ
  pub sign : Option ℕ
  pub digits : Bytes

-- a number's word: whether it begins with `-`, the digits before the point, whether there is a point, the digits after
-- it, and the exponent, which may be left out
pub record Parts : Type 0 where
  pub minus : Bool
  pub whole : Bytes
  pub point : Bool
  pub fraction : Bytes
  pub exponent : Option Exponent

abbrev pub exponent_word : Option Exponent → Bytes
exponent_word None = []
exponent_word (Some e) = e.letter ∷ (option_to_list e.sign ++ e.digits)

-- the word that has these parts
abbrev pub word_of : Parts → Bytes
word_of p =
    (if p.minus then minus_sign ∷ [] else [])
    ++ (p.whole ++ ((if p.point then decimal_point ∷ [] else []) ++ (p.fraction ++ exponent_word p.exponent)))

abbrev pub is_one_or_two : ℕ → Bool
is_one_or_two n = n == 1 || n == 2

-- an exponent has one or two digits
abbrev pub is_exponent_part : Option Exponent → Bool
is_exponent_part None = true
is_exponent_part (Some e) =
    is_exponent_letter e.letter
    && (list_all is_sign (option_to_list e.sign) && (all_digits e.digits && is_one_or_two (length e.digits)))

-- the word has the form of a number, and these are its parts: there is a digit before the exponent, and none stands
-- behind a point that isn't there
pub record IsSpelled (word : Bytes) (p : Parts) : Type 0 where
  pub joined : word ≡ word_of p
  pub whole : all_digits p.whole ≡ true
  pub fraction : all_digits p.fraction ≡ true
  pub unpointed : p.point ≡ false → p.fraction ≡ []
  pub some_digit : 0 < length p.whole + length p.fraction
  pub exponent : is_exponent_part p.exponent ≡ true

-- ---- the parts, computed

abbrev pub leading_digits : Bytes → Bytes
leading_digits bs = take_while is_ascii_digit bs

abbrev pub behind_digits : Bytes → Bytes
behind_digits bs = drop (prefix_len is_ascii_digit bs) bs

-- an exponent with this letter and sign, and digits as given
abbrev pub exponent_with : ℕ → Option ℕ → Bytes → Option (Option Exponent)
exponent_with letter sign ds =
    if all_digits ds && is_one_or_two (length ds)
    then Some (Some (record { letter = letter; sign = sign; digits = ds }))
    else None

abbrev pub signed_exponent : ℕ → Bytes → Option (Option Exponent)
signed_exponent letter [] = None
signed_exponent letter (c ∷ cs) = if is_sign c then exponent_with letter (Some c) cs else exponent_with letter None (c ∷ cs)

-- the exponent that the whole of these bytes is, if there are any
abbrev pub exponent_of : Bytes → Option (Option Exponent)
exponent_of [] = Some None
exponent_of (c ∷ cs) = if is_exponent_letter c then signed_exponent c cs else None

-- the parts, where what stands behind the digits is an exponent
abbrev pub ended : Bool → Bytes → Bool → Bytes → Bytes → Option Parts
ended minus whole point fraction rest =
    if nat_lt 0 (length whole + length fraction)
    then option_map (λ e. record { minus = minus; whole = whole; point = point; fraction = fraction; exponent = e }) (exponent_of rest)
    else None

abbrev pub pointed : Bool → Bytes → Bytes → Option Parts
pointed minus whole [] = ended minus whole false [] []
pointed minus whole (c ∷ cs) =
    if c == decimal_point
    then ended minus whole true (leading_digits cs) (behind_digits cs)
    else ended minus whole false [] (c ∷ cs)

abbrev pub unsigned_parts : Bool → Bytes → Option Parts
unsigned_parts minus bs = pointed minus (leading_digits bs) (behind_digits bs)

-- the parts of a word that has the form of a number
unfoldable pub parts_of : Bytes → Option Parts
parts_of [] = None
parts_of (c ∷ cs) = if c == minus_sign then unsigned_parts true cs else unsigned_parts false (c ∷ cs)

-- the word has the form of a number
unfoldable pub is_number_form : Bytes → Bool
is_number_form word = is_some (parts_of word)

-- ---- the number that a word writes

abbrev pub is_minus : Option ℕ → Bool
is_minus None = false
is_minus (Some c) = c == minus_sign

abbrev pub signed : Bool → ℕ → ℤ
signed minus n = if minus then neg_ℤ (pos n) else pos n

abbrev pub exponent_value : Option Exponent → ℤ
exponent_value None = pos 0
exponent_value (Some e) = signed (is_minus e.sign) (digits_value 10 e.digits)

-- the whole number nearest to n times a power of ten, a half upwards
unfoldable pub times_power_of_ten : ℤ → ℤ → ℤ
times_power_of_ten n (pos k) = n *ℤ pos (10 ^ k)
times_power_of_ten n (negsuc k) = rounded_quotient n (10 ^ suc k)

-- a count has so many decimal places
abbrev pub decimal_places : ℕ
decimal_places = 6

-- so many digits may stand before the exponent
abbrev pub most_digits : ℕ
most_digits = 30

-- the digits before the exponent are one whole number, n, whose last digits stand behind the point, so the word
-- writes n * 10^(exponent - digits behind the point); a million times that is the count
abbrev pub decimal_value : Bool → Bytes → Bytes → ℤ → Result ℤ NumFault
decimal_value minus whole fraction exponent =
    if nat_le (length whole + length fraction) most_digits
    then as_number
    (times_power_of_ten (signed minus (digits_value 10 (whole ++ fraction)))
    (pos decimal_places +ℤ exponent -ℤ pos (length fraction)))
    else Err Overflow

abbrev pub value_of : Parts → Result ℤ NumFault
value_of p = decimal_value p.minus p.whole p.fraction (exponent_value p.exponent)

-- the number that a word writes, or why there is none, where the word has the form of a number
unfoldable pub read_of : Bytes → Option (Result ℤ NumFault)
read_of word = option_map value_of (parts_of word)

-- ---- the text of a number

-- a number below 10^k with k digits, where it has fewer with zeros before them
unfoldable pub padded_digits : ℕ → ℕ → Bytes
padded_digits zero n = []
padded_digits (suc k) n = (48 + n / 10 ^ k) ∷ padded_digits k (n % 10 ^ k)

abbrev pub is_zero_digit : ℕ → Bool
is_zero_digit c = c == 48

unfoldable pub without_trailing_zeros : Bytes → Bytes
without_trailing_zeros [] = []
without_trailing_zeros (d ∷ ds) = if list_all is_zero_digit (d ∷ ds) then [] else d ∷ without_trailing_zeros ds

-- so many millionths, fewer than a million: a point and six digits, but for the zeros at their end, or nothing at all
abbrev pub fraction_text : ℕ → Bytes
fraction_text m = if m == 0 then [] else decimal_point ∷ without_trailing_zeros (padded_digits decimal_places m)

-- a number of so many millionths
abbrev pub magnitude_text : ℕ → Bytes
magnitude_text n = decimal (n / one) ++ fraction_text (n % one)

-- the text of the number with this count of millionths
unfoldable pub number_text : ℤ → Bytes
number_text (pos n) = magnitude_text n
number_text (negsuc n) = minus_sign ∷ magnitude_text (suc n)
