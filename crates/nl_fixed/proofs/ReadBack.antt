-- Every number's text has the form of a number and reads back as that number.
use Rattle.std.proofs.Common.{◌≡◌, ℕ, zero, suc, ◌+◌, ◌-◌, ◌*◌, ◌/◌, ◌%◌, ◌^◌, ◌<◌, ◌≤◌, ℤ, pos, negsuc, ◌+ℤ◌, ◌-ℤ◌, ◌*ℤ◌, Bool, true, false, ◌&&◌, ◌==◌, cond, List, [], ◌∷◌, ◌++◌, length, Some, None, Ok, refl, ap, sym, ◌∙◌, lit<, arith, append-nil}
use Rattle.std.specs.Char.{is_ascii_digit, digit_value}
use Rattle.std.specs.Fmt.{decimal}
use Rattle.std.specs.Option.{option_map}
use Rattle.std.specs.Str.Parse.{AllDigits, digits_value, digits_value_after}
use Rattle.std.proofs.lemmas.Bool.Decides.{nat_tests}
use Rattle.std.proofs.lemmas.Fmt.{decimal_is_IsNumeral, decimal_nonempty, length-decimal-le}
use Rattle.std.proofs.lemmas.Int.{ints}
use Rattle.std.proofs.Math.IntN.{negsuc-*ℤ-pos}
use Rattle.std.proofs.Math.Nat.{mod-lt, div-add-mod', pow-suc}
use Rattle.nl_fixed.specs.Numbers.{as_number, IsInRange, limit}
use Rattle.nl_fixed.specs.Spelling.{decimal_value, Parts, IsSpelled, all_digits, minus_sign, decimal_point, signed, times_power_of_ten, padded_digits, without_trailing_zeros, fraction_text, number_text, value_of, read_of}
use Rattle.nl_fixed.proofs.Digits.{digits_value_after-append}
use Rattle.nl_fixed.proofs.Forms.{parts_from_form}
use Rattle.nl_fixed.proofs.Scaled.{decimal_value_is}
use Rattle.nl_fixed.proofs.Texts.{power_above, first_digit_below, trimmed_nothing, trimmed_digit}

-- ---- the digits of the text

digit_from_value : (c : ℕ) → digit_value c < 10 → is_ascii_digit c ≡ true
digit_from_value c h = grind (arith, nat_tests)

both_pass : (p q : Bool) → p ≡ true → q ≡ true → (p && q) ≡ true
both_pass p q e f = grind arith

digits_from_values : (ds : List ℕ) → AllDigits 10 ds → all_digits ds ≡ true
digits_from_values [] h = refl
digits_from_values (d ∷ ds) h = both_pass _ _ (digit_from_value d h.0) (digits_from_values ds h.1)

written_digit : (q : ℕ) → q < 10 → (is_ascii_digit (48 + q) ≡ true) × (digit_value (48 + q) ≡ q)
written_digit q h = (grind (arith, nat_tests), grind (arith, nat_tests))

-- what a fraction's digits are: digits, not more than there are places, and the number when they follow others
pub record WritesFraction (k n : ℕ) (ds : List ℕ) : Type 0 where
  pub digits : all_digits ds ≡ true
  pub few : length ds ≤ k
  pub value : (a : ℕ) → digits_value_after 10 a ds * 10 ^ (k - length ds) ≡ a * 10 ^ k + n

writes_nothing : (k n : ℕ) (ds : List ℕ) → n ≡ 0 → ds ≡ [] → WritesFraction k n ds
writes_nothing k n ds e f = rw f (record {
  digits = refl;
  few = omega arith;
  value = λ a. let all : k - 0 ≡ k = omega arith in rw (all, e) (omega arith);
})

carried : (a q p r n : ℕ) → q * p + r ≡ n → (a * 10 + q) * p + r ≡ a * (p * 10) + n
carried a q p r n e = omega arith

writes_more : (k n q r : ℕ) (ds : List ℕ) → q < 10 → q * 10 ^ k + r ≡ n → WritesFraction k r ds → WritesFraction (suc k) n ((48 + q) ∷ ds)
writes_more k n q r ds small e w =
    let first = written_digit q small in
    record {
      digits = both_pass _ _ first.0 w.digits;
      few = let few = w.few in omega arith;
      value = λ a.
          let less : suc k - suc (length ds) ≡ k - length ds = omega arith in
          rw (less, first.1, pow-suc) (w.value (a * 10 + q) ∙ carried a q (10 ^ k) r n e);
    }

trimmed_writes : (k n : ℕ) → n < 10 ^ k → WritesFraction k n (without_trailing_zeros (padded_digits k n))
trimmed_writes zero n below = let none : n ≡ 0 = omega arith in rw none (writes_nothing zero 0 _ refl (trimmed_nothing zero))
trimmed_writes (suc k) zero below = writes_nothing (suc k) 0 _ refl (trimmed_nothing (suc k))
trimmed_writes (suc k) (suc m) below =
    let n = suc m in
    let some : 0 < suc m = omega arith in
    rw (trimmed_digit k (suc m) below some)
    (writes_more k (suc m) (suc m / 10 ^ k) (suc m % 10 ^ k) _ (first_digit_below k (suc m) below) (div-add-mod' (suc m) (10 ^ k))
    (trimmed_writes k (suc m % 10 ^ k) (mod-lt (suc m) (power_above k))))

-- ---- the value of the text

signed-times : (minus : Bool) (d q : ℕ) → signed minus d *ℤ pos q ≡ signed minus (d * q)
signed-times true zero q = let none : 0 * q ≡ 0 = omega arith in rw none refl
signed-times true (suc d) q = negsuc-*ℤ-pos d q
signed-times false d q = refl

in_range_number : (z : ℤ) → IsInRange z → as_number z ≡ Ok z
unfolding as_number
in_range_number z inside = grind (arith, ints, nat_tests)

-- digits whose places behind the point are no more than six: no rounding is needed
exact_value : (minus : Bool) (whole fraction : List ℕ) (n : ℕ) (z : ℤ) → length whole + length fraction ≤ 30 → length fraction ≤ 6 → digits_value 10 (whole ++ fraction) * 10 ^ (6 - length fraction) ≡ n → z ≡ signed minus n → IsInRange z → Ok z ≡ decimal_value minus whole fraction (pos 0)
unfolding times_power_of_ten
exact_value minus whole fraction n z few places value e inside =
    let d = digits_value 10 (whole ++ fraction) in
    let power : pos (6 - length fraction) ≡ (pos 6 +ℤ pos 0) -ℤ pos (length fraction) = omega (arith, ints) in
    let count : z ≡ signed minus d *ℤ pos (10 ^ (6 - length fraction)) = e ∙ ap (signed minus) (sym value) ∙ sym (signed-times minus d (10 ^ (6 - length fraction))) in
    decimal_value_is minus whole fraction (pos 0) (signed minus d) (pos (6 - length fraction)) (Ok z) few refl power (sym (in_range_number z inside) ∙ ap as_number count)

-- a word of these parts, without an exponent, reads as the number
reads_as : (word : List ℕ) (minus : Bool) (whole : List ℕ) (point : Bool) (fraction : List ℕ) (n : ℕ) (z : ℤ) → word ≡ cond minus (minus_sign ∷ []) [] ++ (whole ++ (cond point (decimal_point ∷ []) [] ++ (fraction ++ []))) → all_digits whole ≡ true → all_digits fraction ≡ true → (point ≡ false → fraction ≡ []) → 0 < length whole → length whole ≤ 20 → length fraction ≤ 6 → digits_value 10 (whole ++ fraction) * 10 ^ (6 - length fraction) ≡ n → z ≡ signed minus n → IsInRange z → read_of word ≡ Some (Ok z)
unfolding read_of
reads_as word minus whole point fraction n z e before behind none some short places value count inside =
    let p : Parts = record { minus = minus; whole = whole; point = point; fraction = fraction; exponent = None } in
    let spelled : IsSpelled word p = record { joined = e; whole = before; fraction = behind; unpointed = none; some_digit = omega arith; exponent = refl } in
    ap (option_map value_of) (parts_from_form word p spelled)
    ∙ ap Some (sym (exact_value minus whole fraction n z (omega arith) places value count inside))

decimal_digits : (w : ℕ) → w < 2 ^ 64 → all_digits (decimal w) ≡ true
decimal_digits w small = digits_from_values (decimal w) (decimal_is_IsNumeral w small).0.1

text_reads : (minus : Bool) (w m n : ℕ) (z : ℤ) → w < 2 ^ 64 → m < 10 ^ 6 → w * 1000000 + m ≡ n → z ≡ signed minus n → IsInRange z → read_of (cond minus (minus_sign ∷ []) [] ++ (decimal w ++ fraction_text m)) ≡ Some (Ok z)
text_reads minus w zero n z small below e count inside =
    let written = (decimal_is_IsNumeral w small).1 in
    let short = length-decimal-le 20 w (lit< tt) (omega arith) small in
    reads_as _ minus (decimal w) false [] n z refl (decimal_digits w small) refl (λ _. refl) (decimal_nonempty w small) short (omega arith)
    (rw (append-nil, written) (omega arith)) count inside
text_reads minus w (suc m) n z small below e count inside =
    let written = (decimal_is_IsNumeral w small).1 in
    let short = length-decimal-le 20 w (lit< tt) (omega arith) small in
    let fraction = without_trailing_zeros (padded_digits 6 (suc m)) in
    let f = trimmed_writes 6 (suc m) below in
    let test : (suc m == 0) ≡ false = grind (arith, nat_tests) in
    let text : fraction ++ [] ≡ fraction = append-nil fraction in
    let value = f.value w ∙ e in
    reads_as (cond minus (minus_sign ∷ []) [] ++ (decimal w ++ fraction_text (suc m))) minus (decimal w) true fraction n z
    (rw test (ap (λ bs. cond minus (minus_sign ∷ []) [] ++ (decimal w ++ (decimal_point ∷ bs))) (sym text))) (decimal_digits w small) f.digits (λ never. cc) (decimal_nonempty w small) short f.few
    (rw (digits_value_after-append, written) value) count inside

pub text_reads_back : (z : ℤ) → IsInRange z → read_of (number_text z) ≡ Some (Ok z)
unfolding number_text
text_reads_back (pos n) inside =
    let size : n ≤ limit = omega (arith, ints) in
    text_reads false (n / 1000000) (n % 1000000) n (pos n) (omega arith) (omega arith) (div-add-mod' n 1000000) refl inside
text_reads_back (negsuc n) inside =
    let size : suc n ≤ limit = omega (arith, ints) in
    text_reads true (suc n / 1000000) (suc n % 1000000) (suc n) (negsuc n) (omega arith) (omega arith) (div-add-mod' (suc n) 1000000) refl inside
