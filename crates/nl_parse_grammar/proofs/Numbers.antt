-- The form of a number, as a word's bytes have it and as a word table tells it; lowering letters keeps it.
use Rattle.std.proofs.Common.{◌≡◌, ℕ, suc, ◌+◌, ◌==◌, Bool, true, false, cond, ◌&&◌, ◌||◌, if◌then◌else◌, List, [], ◌∷◌, Option, Some, None, length, drop, refl, sym, ◌∙◌, ap, arith, take, nat_lt}
use Rattle.std.proofs.lemmas.Bool.Decides.{nat_tests}
use Rattle.std.specs.Prelude.{is_some}
use Rattle.std.specs.Char.{is_ascii_digit, to_ascii_lowercase}
use Rattle.std.specs.List.{prefix_len}
use Rattle.std.specs.Option.{option_map}
use Rattle.std.specs.Str.{str_to_ascii_lowercase}
use Rattle.nl_fixed.specs.Spelling.{Parts, Exponent, is_exponent_letter, is_sign, all_digits, is_one_or_two, leading_digits, behind_digits, exponent_with, signed_exponent, exponent_of, ended, pointed, unsigned_parts, parts_of}
use Rattle.nl_words.specs.Table.{begins_with, without_one, after_digits, is_short, is_exponent, is_unsigned_number, is_number}

-- ---- one byte

lower_digit : (b : ℕ) → is_ascii_digit (to_ascii_lowercase b) ≡ is_ascii_digit b
lower_digit b = grind (arith, nat_tests)

lower_point : (b : ℕ) → (to_ascii_lowercase b == 46) ≡ (b == 46)
lower_point b = grind (arith, nat_tests)

lower_minus : (b : ℕ) → (to_ascii_lowercase b == 45) ≡ (b == 45)
lower_minus b = grind (arith, nat_tests)

lower_plus : (b : ℕ) → (to_ascii_lowercase b == 43) ≡ (b == 43)
lower_plus b = grind (arith, nat_tests)

lower_letter : (b : ℕ) → ((to_ascii_lowercase b == 101) || (to_ascii_lowercase b == 69)) ≡ ((b == 101) || (b == 69))
lower_letter b = grind (arith, nat_tests)

-- ---- lowering

lowered_one : (test : ℕ → Bool) → ((b : ℕ) → test (to_ascii_lowercase b) ≡ test b) → (bs : List ℕ) → without_one test (str_to_ascii_lowercase bs) ≡ str_to_ascii_lowercase (without_one test bs)
lowered_one test same [] = refl
lowered_one test same (b ∷ bs) = ap (λ (x : Bool). if x then str_to_ascii_lowercase bs else str_to_ascii_lowercase (b ∷ bs)) (same b) ∙ at (test b)
  where
    at : (x : Bool) → (if x then str_to_ascii_lowercase bs else str_to_ascii_lowercase (b ∷ bs)) ≡ str_to_ascii_lowercase (if x then bs else b ∷ bs)
    at true = refl
    at false = refl

lowered_begins : (test : ℕ → Bool) → ((b : ℕ) → test (to_ascii_lowercase b) ≡ test b) → (bs : List ℕ) → begins_with test (str_to_ascii_lowercase bs) ≡ begins_with test bs
lowered_begins test same [] = refl
lowered_begins test same (b ∷ bs) = same b

lowered_digits : (bs : List ℕ) → after_digits (str_to_ascii_lowercase bs) ≡ str_to_ascii_lowercase (after_digits bs)
lowered_digits [] = refl
lowered_digits (b ∷ bs) =
    ap (λ (x : Bool). if x then after_digits (str_to_ascii_lowercase bs) else str_to_ascii_lowercase (b ∷ bs)) (lower_digit b) ∙ at (is_ascii_digit b) (lowered_digits bs)
  where
    at : (x : Bool) → after_digits (str_to_ascii_lowercase bs) ≡ str_to_ascii_lowercase (after_digits bs)
        → (if x then after_digits (str_to_ascii_lowercase bs) else str_to_ascii_lowercase (b ∷ bs)) ≡ str_to_ascii_lowercase (if x then after_digits bs else b ∷ bs)
    at true h = h
    at false h = refl

lowered_short : (bs : List ℕ) → is_short (str_to_ascii_lowercase bs) ≡ is_short bs
lowered_short [] = refl
lowered_short (b ∷ []) = lower_digit b
lowered_short (b ∷ c ∷ []) = ap (λ x. x && is_ascii_digit (to_ascii_lowercase c)) (lower_digit b) ∙ ap (λ x. is_ascii_digit b && x) (lower_digit c)
lowered_short (b ∷ c ∷ d ∷ bs) = refl

lower_sign : (b : ℕ) → ((to_ascii_lowercase b == 43) || (to_ascii_lowercase b == 45)) ≡ ((b == 43) || (b == 45))
lower_sign b = grind (arith, nat_tests)

lowered_exponent : (bs : List ℕ) → is_exponent (str_to_ascii_lowercase bs) ≡ is_exponent bs
lowered_exponent [] = refl
lowered_exponent (b ∷ bs) =
    ap (λ x. x && is_short (without_one (λ sign. (sign == 43) || (sign == 45)) (str_to_ascii_lowercase bs))) (lower_letter b)
    ∙ ap (λ x. ((b == 101) || (b == 69)) && x) (ap is_short (lowered_one (λ sign. (sign == 43) || (sign == 45)) lower_sign bs) ∙ lowered_short (without_one (λ sign. (sign == 43) || (sign == 45)) bs))

abbrev is_point : ℕ → Bool
is_point b = b == 46

abbrev unsigned_by : Bool → Bool → Bool → Bool → Bool → Bool
unsigned_by digit whole point fraction rest = if digit then whole else (point && fraction && rest)

unsigned_same : {a b c d e f g h i j : Bool} → a ≡ f → b ≡ g → c ≡ h → d ≡ i → e ≡ j → unsigned_by a b c d e ≡ unsigned_by f g h i j
unsigned_same p q r s t = cc

lowered_rest : (bs : List ℕ) → is_exponent (after_digits (without_one is_point (str_to_ascii_lowercase bs))) ≡ is_exponent (after_digits (without_one is_point bs))
lowered_rest bs =
    ap (λ x. is_exponent (after_digits x)) (lowered_one is_point lower_point bs) ∙ ap is_exponent (lowered_digits (without_one is_point bs))
    ∙ lowered_exponent (after_digits (without_one is_point bs))

lowered_unsigned : (bs : List ℕ) → is_unsigned_number (str_to_ascii_lowercase bs) ≡ is_unsigned_number bs
lowered_unsigned bs =
    let a = lowered_begins is_ascii_digit lower_digit bs in
    let b = ap (λ x. is_exponent (after_digits (without_one is_point x))) (lowered_digits bs) ∙ lowered_rest (after_digits bs) in
    let c = lowered_begins is_point lower_point bs in
    let d = ap (begins_with is_ascii_digit) (lowered_one is_point lower_point bs) ∙ lowered_begins is_ascii_digit lower_digit (without_one is_point bs) in
    let e = lowered_rest bs in
    unsigned_same a b c d e

pub lowered_number : (bs : List ℕ) → is_number (str_to_ascii_lowercase bs) ≡ is_number bs
lowered_number bs = ap is_unsigned_number (lowered_one (λ b. b == 45) lower_minus bs) ∙ lowered_unsigned (without_one (λ b. b == 45) bs)

-- ---- the two forms are one

drop_more : (x : Bool) (n : ℕ) (b : ℕ) (bs rest : List ℕ) → drop n bs ≡ rest → drop (cond x (1 + n) 0) (b ∷ bs) ≡ (if x then rest else b ∷ bs)
drop_more true n b bs rest h = let e : 1 + n ≡ suc n = omega arith in rw e h
drop_more false n b bs rest h = refl

behind_is : (bs : List ℕ) → behind_digits bs ≡ after_digits bs
behind_is [] = refl
behind_is (b ∷ bs) = drop_more (is_ascii_digit b) (prefix_len is_ascii_digit bs) b bs (after_digits bs) (behind_is bs)

or_swap : (a b : Bool) → (a || b) ≡ (b || a)
or_swap true true = refl
or_swap true false = refl
or_swap false true = refl
or_swap false false = refl

and_false : (a : Bool) → (a && false) ≡ false
and_false true = refl
and_false false = refl

and_true : (a : Bool) → (a && true) ≡ a
and_true true = refl
and_true false = refl

is_some_if : {A : Type 0} (b : Bool) (x : A) → is_some (if b then Some x else None) ≡ b
is_some_if true x = refl
is_some_if false x = refl

is_some_map : {A B : Type 0} (f : A → B) (o : Option A) → is_some (option_map f o) ≡ is_some o
is_some_map f (Some x) = refl
is_some_map f None = refl

short_is : (ds : List ℕ) → (all_digits ds && is_one_or_two (length ds)) ≡ is_short ds
short_is [] = refl
short_is (b ∷ []) = and_true (is_ascii_digit b && true) ∙ and_true (is_ascii_digit b)
short_is (b ∷ c ∷ []) = and_true (is_ascii_digit b && (is_ascii_digit c && true)) ∙ ap (λ x. is_ascii_digit b && x) (and_true (is_ascii_digit c))
short_is (b ∷ c ∷ d ∷ ds) = ap (λ x. all_digits (b ∷ c ∷ d ∷ ds) && x) (too_many (length ds)) ∙ and_false (all_digits (b ∷ c ∷ d ∷ ds))
  where
    too_many : (n : ℕ) → is_one_or_two (suc (suc (suc n))) ≡ false
    too_many n = grind (arith, nat_tests)

exponent_with_is : (letter : ℕ) (sign : Option ℕ) (ds : List ℕ) → is_some (exponent_with letter sign ds) ≡ is_short ds
exponent_with_is letter sign ds = is_some_if (all_digits ds && is_one_or_two (length ds)) _ ∙ short_is ds

signed_is : (letter : ℕ) (cs : List ℕ) → is_some (signed_exponent letter cs) ≡ is_short (without_one (λ sign. (sign == 43) || (sign == 45)) cs)
signed_is letter [] = refl
signed_is letter (c ∷ cs) =
    at (is_sign c) ∙ ap (λ (x : Bool). is_short (if x then cs else c ∷ cs)) (or_swap (c == 45) (c == 43))
  where
    at : (x : Bool) → is_some (if x then exponent_with letter (Some c) cs else exponent_with letter None (c ∷ cs)) ≡ is_short (if x then cs else c ∷ cs)
    at true = exponent_with_is letter (Some c) cs
    at false = exponent_with_is letter None (c ∷ cs)

exponent_is : (bs : List ℕ) → is_some (exponent_of bs) ≡ is_exponent bs
exponent_is [] = refl
exponent_is (b ∷ bs) = at (is_exponent_letter b) ∙ ap (λ x. is_exponent_letter b && x) (signed_is b bs)
  where
    at : (x : Bool) → is_some (if x then signed_exponent b bs else None) ≡ (x && is_some (signed_exponent b bs))
    at true = refl
    at false = refl

-- whether there are digits in front
take_more : (x : Bool) (n b : ℕ) (bs : List ℕ) → nat_lt 0 (length (take (cond x (1 + n) 0) (b ∷ bs))) ≡ x
take_more true n b bs = let e : 1 + n ≡ suc n = omega arith in rw e (grind (arith, nat_tests))
take_more false n b bs = refl

some_digits : (bs : List ℕ) → nat_lt 0 (length (leading_digits bs)) ≡ begins_with is_ascii_digit bs
some_digits [] = refl
some_digits (b ∷ bs) = take_more (is_ascii_digit b) (prefix_len is_ascii_digit bs) b bs

digits_twice : (bs : List ℕ) → after_digits (after_digits bs) ≡ after_digits bs
digits_twice [] = refl
digits_twice (b ∷ bs) = at (is_ascii_digit b) refl (digits_twice bs)
  where
    at : (x : Bool) → is_ascii_digit b ≡ x → after_digits (after_digits bs) ≡ after_digits bs → after_digits (if x then after_digits bs else b ∷ bs) ≡ (if x then after_digits bs else b ∷ bs)
    at true e h = h
    at false e h = ap (λ (x : Bool). if x then after_digits bs else b ∷ bs) e

abbrev with_exponent : Bool → List ℕ → Bool → List ℕ → Option Exponent → Parts
with_exponent minus whole point fraction e = record { minus = minus; whole = whole; point = point; fraction = fraction; exponent = e }

ended_is : (minus : Bool) (whole : List ℕ) (point : Bool) (fraction rest : List ℕ)
    → is_some (ended minus whole point fraction rest) ≡ (nat_lt 0 (length whole + length fraction) && is_exponent rest)
ended_is minus whole point fraction rest = at (nat_lt 0 (length whole + length fraction))
  where
    at : (x : Bool) → is_some (if x then option_map (with_exponent minus whole point fraction) (exponent_of rest) else None) ≡ (x && is_exponent rest)
    at true = is_some_map (with_exponent minus whole point fraction) (exponent_of rest) ∙ exponent_is rest
    at false = refl

more_digits : (n k : ℕ) → nat_lt 0 n ≡ true → nat_lt 0 (n + k) ≡ true
more_digits n k h = grind (arith, nat_tests, h)

and_first : (a b : Bool) → a ≡ true → (a && b) ≡ b
and_first true b h = refl
and_first false b h = cc

with_digits : (minus : Bool) (lead a : List ℕ) → nat_lt 0 (length lead) ≡ true → after_digits a ≡ a → is_some (pointed minus lead a) ≡ is_exponent (after_digits (without_one is_point a))
with_digits minus lead [] h e = ended_is minus lead false [] [] ∙ and_first _ (is_exponent []) (more_digits (length lead) 0 h)
with_digits minus lead (c ∷ cs) h e = at (c == 46)
  where
    at : (x : Bool) → is_some (if x then ended minus lead true (leading_digits cs) (behind_digits cs) else ended minus lead false [] (c ∷ cs)) ≡ is_exponent (after_digits (if x then cs else c ∷ cs))
    at true = ended_is minus lead true (leading_digits cs) (behind_digits cs) ∙ and_first _ (is_exponent (behind_digits cs)) (more_digits (length lead) _ h) ∙ ap is_exponent (behind_is cs)
    at false = ended_is minus lead false [] (c ∷ cs) ∙ and_first _ (is_exponent (c ∷ cs)) (more_digits (length lead) 0 h) ∙ ap is_exponent (sym e)

no_digits : (minus : Bool) (bs : List ℕ)
    → is_some (pointed minus [] bs) ≡ (begins_with is_point bs && begins_with is_ascii_digit (without_one is_point bs) && is_exponent (after_digits (without_one is_point bs)))
no_digits minus [] = ended_is minus [] false [] []
no_digits minus (c ∷ cs) = at (c == 46)
  where
    at : (x : Bool) → is_some (if x then ended minus [] true (leading_digits cs) (behind_digits cs) else ended minus [] false [] (c ∷ cs))
        ≡ (x && begins_with is_ascii_digit (if x then cs else c ∷ cs) && is_exponent (after_digits (if x then cs else c ∷ cs)))
    at true =
        ended_is minus [] true (leading_digits cs) (behind_digits cs)
        ∙ ap (λ n. nat_lt 0 n && is_exponent (behind_digits cs)) (omega arith)
        ∙ ap (λ x. x && is_exponent (behind_digits cs)) (some_digits cs)
        ∙ ap (λ ds. begins_with is_ascii_digit cs && is_exponent ds) (behind_is cs)
    at false = ended_is minus [] false [] (c ∷ cs)

no_lead : (bs : List ℕ) → begins_with is_ascii_digit bs ≡ false → (leading_digits bs ≡ []) × (after_digits bs ≡ bs)
no_lead [] h = (refl, refl)
no_lead (b ∷ bs) h = (ap (λ x. take (cond x (1 + prefix_len is_ascii_digit bs) 0) (b ∷ bs)) h, ap (λ (x : Bool). if x then after_digits bs else b ∷ bs) h)

unsigned_is : (minus : Bool) (bs : List ℕ) → is_some (unsigned_parts minus bs) ≡ is_unsigned_number bs
unsigned_is minus bs = ap (λ a. is_some (pointed minus (leading_digits bs) a)) (behind_is bs) ∙ at (begins_with is_ascii_digit bs) refl
  where
    at : (x : Bool) → begins_with is_ascii_digit bs ≡ x
        → is_some (pointed minus (leading_digits bs) (after_digits bs))
        ≡ unsigned_by x (is_exponent (after_digits (without_one is_point (after_digits bs)))) (begins_with is_point bs) (begins_with is_ascii_digit (without_one is_point bs)) (is_exponent (after_digits (without_one is_point bs)))
    at true e = with_digits minus (leading_digits bs) (after_digits bs) (some_digits bs ∙ e) (digits_twice bs)
    at false e = let n = no_lead bs e in ap (λ l. is_some (pointed minus l (after_digits bs))) n.0 ∙ ap (λ a. is_some (pointed minus [] a)) n.1 ∙ no_digits minus bs

-- A word has the form of a number exactly where it is told as one.
pub number_is : (bs : List ℕ) → is_some (parts_of bs) ≡ is_number bs
unfolding parts_of
number_is [] = refl
number_is (c ∷ cs) = at (c == 45)
  where
    at : (x : Bool) → is_some (if x then unsigned_parts true cs else unsigned_parts false (c ∷ cs)) ≡ is_unsigned_number (if x then cs else c ∷ cs)
    at true = unsigned_is true cs
    at false = unsigned_is false (c ∷ cs)
