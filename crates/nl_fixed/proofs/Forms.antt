-- The computed parts of a word are those that the form of a number asks for.
use Rattle.std.proofs.Common.{◌≡◌, ℕ, ◌+◌, ◌<◌, Bool, true, false, ◌&&◌, ◌==◌, cond, List, [], ◌∷◌, ◌++◌, length, Option, Some, None, nat_lt, arith, refl, ap, ◌∙◌, IfSome}
use Rattle.std.specs.Char.{is_ascii_digit}
use Rattle.std.specs.Option.{option_map, option_to_list}
use Rattle.std.specs.List.{list_all, prefix_len}
use Rattle.std.proofs.lemmas.Bool.Decides.{nat_tests}
use Rattle.std.proofs.lemmas.List.{take-append-drop}
use Rattle.std.proofs.Math.Seq.{take-append_seam, drop-append_seam}
use Rattle.nl_fixed.specs.Spelling.{Exponent, Parts, IsSpelled, exponent_word, all_digits, is_exponent_part, is_exponent_letter, is_sign, is_one_or_two, minus_sign, decimal_point, leading_digits, behind_digits, exponent_with, signed_exponent, exponent_of, ended, pointed, unsigned_parts, parts_of}
use Rattle.nl_fixed.proofs.Digits.{first_and_rest, list_all-take-prefix_len}

-- ---- digits with something behind them that isn't one

pub prefix_len-digits : {X : Type 0} (p : X → Bool) (xs ys : List X) → list_all p xs ≡ true → prefix_len p ys ≡ 0 → prefix_len p (xs ++ ys) ≡ length xs
prefix_len-digits p [] ys all none = none
prefix_len-digits p (x ∷ xs) ys all none =
    let both = first_and_rest (p x) (list_all p xs) all in
    let rest = prefix_len-digits p xs ys both.1 none in
    rw (both.0, rest) (omega arith)

pub leading-digits : (ds rest : List ℕ) → all_digits ds ≡ true → prefix_len is_ascii_digit rest ≡ 0 → leading_digits (ds ++ rest) ≡ ds
leading-digits ds rest all none = rw (prefix_len-digits is_ascii_digit ds rest all none) (take-append_seam ds rest)

pub behind-digits : (ds rest : List ℕ) → all_digits ds ≡ true → prefix_len is_ascii_digit rest ≡ 0 → behind_digits (ds ++ rest) ≡ rest
behind-digits ds rest all none = rw (prefix_len-digits is_ascii_digit ds rest all none) (drop-append_seam ds rest)

-- ---- single bytes

letter_no_digit : (c : ℕ) → is_exponent_letter c ≡ true → is_ascii_digit c ≡ false
letter_no_digit c h = grind (arith, nat_tests)

letter_no_point : (c : ℕ) → is_exponent_letter c ≡ true → (c == decimal_point) ≡ false
letter_no_point c h = grind (arith, nat_tests)

digit_no_sign : (c : ℕ) → is_ascii_digit c ≡ true → is_sign c ≡ false
digit_no_sign c h = grind (arith, nat_tests)

digit_no_minus : (c : ℕ) → is_ascii_digit c ≡ true → (c == minus_sign) ≡ false
digit_no_minus c h = grind (arith, nat_tests)

same_byte : (c d : ℕ) → (c == d) ≡ true → c ≡ d
same_byte c d h = grind (arith, nat_tests)

-- ---- an exponent's word

exponent_no_digit : (e : Option Exponent) → is_exponent_part e ≡ true → prefix_len is_ascii_digit (exponent_word e) ≡ 0
exponent_no_digit None h = refl
exponent_no_digit (Some e) h =
    let letter = (first_and_rest (is_exponent_letter e.letter) _ h).0 in
    rw (letter_no_digit e.letter letter) refl

exponent_with_is : (letter : ℕ) (sign : Option ℕ) (ds : List ℕ) → (all_digits ds && is_one_or_two (length ds)) ≡ true → exponent_with letter sign ds ≡ Some (Some (record { letter = letter; sign = sign; digits = ds }))
exponent_with_is letter sign ds h = rw h refl

signed_exponent_is : (letter : ℕ) (sign : Option ℕ) (ds : List ℕ) → list_all is_sign (option_to_list sign) ≡ true → (all_digits ds && is_one_or_two (length ds)) ≡ true → signed_exponent letter (option_to_list sign ++ ds) ≡ Some (Some (record { letter = letter; sign = sign; digits = ds }))
signed_exponent_is letter (Some c) ds one h =
    let is = (first_and_rest (is_sign c) true one).0 in rw is (exponent_with_is letter (Some c) ds h)
signed_exponent_is letter None [] one h = cc
signed_exponent_is letter None (d ∷ ds) one h =
    let digit = (first_and_rest (is_ascii_digit d) _ (first_and_rest (all_digits (d ∷ ds)) _ h).0).0 in
    rw (digit_no_sign d digit) (exponent_with_is letter None (d ∷ ds) h)

pub exponent_of-word : (e : Option Exponent) → is_exponent_part e ≡ true → exponent_of (exponent_word e) ≡ Some e
exponent_of-word None h = refl
exponent_of-word (Some e) h =
    let letter = first_and_rest (is_exponent_letter e.letter) _ h in
    let sign = first_and_rest (list_all is_sign (option_to_list e.sign)) _ letter.1 in
    rw letter.0 (signed_exponent_is e.letter e.sign e.digits sign.0 sign.1)

-- ---- the parts of a word that has the form

ended_is : (minus : Bool) (whole : List ℕ) (point : Bool) (fraction : List ℕ) (e : Option Exponent) → 0 < length whole + length fraction → is_exponent_part e ≡ true → ended minus whole point fraction (exponent_word e) ≡ Some (record { minus = minus; whole = whole; point = point; fraction = fraction; exponent = e })
ended_is minus whole point fraction e some h =
    let test : nat_lt 0 (length whole + length fraction) ≡ true = grind (arith, nat_tests) in
    rw (test, exponent_of-word e h) refl

unpointed_is : (minus : Bool) (whole : List ℕ) (e : Option Exponent) → 0 < length whole + 0 → is_exponent_part e ≡ true → pointed minus whole (exponent_word e) ≡ Some (record { minus = minus; whole = whole; point = false; fraction = []; exponent = e })
unpointed_is minus whole None some h = ended_is minus whole false [] None some h
unpointed_is minus whole (Some e) some h =
    let letter = (first_and_rest (is_exponent_letter e.letter) _ h).0 in
    rw (letter_no_point e.letter letter) (ended_is minus whole false [] (Some e) some h)

pointed_is : (minus : Bool) (whole : List ℕ) (point : Bool) (fraction : List ℕ) (e : Option Exponent) → all_digits fraction ≡ true → (point ≡ false → fraction ≡ []) → 0 < length whole + length fraction → is_exponent_part e ≡ true → pointed minus whole (cond point (decimal_point ∷ []) [] ++ (fraction ++ exponent_word e)) ≡ Some (record { minus = minus; whole = whole; point = point; fraction = fraction; exponent = e })
pointed_is minus whole true fraction e digits none some h =
    let no_digit = exponent_no_digit e h in
    rw (leading-digits fraction (exponent_word e) digits no_digit, behind-digits fraction (exponent_word e) digits no_digit) (ended_is minus whole true fraction e some h)
pointed_is minus whole false [] e digits none some h = unpointed_is minus whole e some h
pointed_is minus whole false (d ∷ ds) e digits none some h = let never = none refl in cc

tail_no_digit : (point : Bool) (fraction : List ℕ) (e : Option Exponent) → (point ≡ false → fraction ≡ []) → is_exponent_part e ≡ true → prefix_len is_ascii_digit (cond point (decimal_point ∷ []) [] ++ (fraction ++ exponent_word e)) ≡ 0
tail_no_digit true fraction e none h = refl
tail_no_digit false [] e none h = exponent_no_digit e h
tail_no_digit false (d ∷ ds) e none h = let never = none refl in cc

unsigned_is : (minus : Bool) (whole : List ℕ) (point : Bool) (fraction : List ℕ) (e : Option Exponent) → all_digits whole ≡ true → all_digits fraction ≡ true → (point ≡ false → fraction ≡ []) → 0 < length whole + length fraction → is_exponent_part e ≡ true → unsigned_parts minus (whole ++ (cond point (decimal_point ∷ []) [] ++ (fraction ++ exponent_word e))) ≡ Some (record { minus = minus; whole = whole; point = point; fraction = fraction; exponent = e })
unsigned_is minus whole point fraction e before behind none some h =
    let tail = cond point (decimal_point ∷ []) [] ++ (fraction ++ exponent_word e) in
    let no_digit = tail_no_digit point fraction e none h in
    rw (leading-digits whole tail before no_digit, behind-digits whole tail before no_digit) (pointed_is minus whole point fraction e behind none some h)

-- a word without a minus sign begins with another byte
unminus_is : (whole : List ℕ) (point : Bool) (fraction : List ℕ) (e : Option Exponent) → all_digits whole ≡ true → (point ≡ false → fraction ≡ []) → 0 < length whole + length fraction → parts_of (whole ++ (cond point (decimal_point ∷ []) [] ++ (fraction ++ exponent_word e))) ≡ unsigned_parts false (whole ++ (cond point (decimal_point ∷ []) [] ++ (fraction ++ exponent_word e)))
unfolding parts_of
unminus_is (d ∷ ds) point fraction e before none some =
    let digit = (first_and_rest (is_ascii_digit d) (all_digits ds) before).0 in rw (digit_no_minus d digit) refl
unminus_is [] true fraction e before none some = refl
unminus_is [] false [] e before none some = absurd (omega arith)
unminus_is [] false (d ∷ ds) e before none some = let never = none refl in cc

parts_is : (minus : Bool) (whole : List ℕ) (point : Bool) (fraction : List ℕ) (e : Option Exponent) → all_digits whole ≡ true → all_digits fraction ≡ true → (point ≡ false → fraction ≡ []) → 0 < length whole + length fraction → is_exponent_part e ≡ true → parts_of (cond minus (minus_sign ∷ []) [] ++ (whole ++ (cond point (decimal_point ∷ []) [] ++ (fraction ++ exponent_word e)))) ≡ Some (record { minus = minus; whole = whole; point = point; fraction = fraction; exponent = e })
unfolding parts_of
parts_is true whole point fraction e before behind none some h = unsigned_is true whole point fraction e before behind none some h
parts_is false whole point fraction e before behind none some h =
    unminus_is whole point fraction e before none some ∙ unsigned_is false whole point fraction e before behind none some h

pub parts_from_form : (word : List ℕ) (p : Parts) → IsSpelled word p → parts_of word ≡ Some p
parts_from_form word p s =
    rw s.joined (parts_is p.minus p.whole p.point p.fraction p.exponent s.whole s.fraction s.unpointed s.some_digit s.exponent)

-- ---- a word whose parts are computed has the form

both_are : (p q : Bool) → p ≡ true → q ≡ true → (p && q) ≡ true
both_are p q e f = grind arith

exponent_with_sound : (letter : ℕ) (sign : Option ℕ) (ds : List ℕ) (b : Bool) → (all_digits ds && is_one_or_two (length ds)) ≡ b → is_exponent_letter letter ≡ true → list_all is_sign (option_to_list sign) ≡ true → IfSome (exponent_with letter sign ds) (λ e. (letter ∷ (option_to_list sign ++ ds) ≡ exponent_word e) × (is_exponent_part e ≡ true))
exponent_with_sound letter sign ds true h l s = rw h (refl, both_are _ _ l (both_are _ _ s h))
exponent_with_sound letter sign ds false h l s = rw h tt

by_sign : (letter c : ℕ) (cs : List ℕ) → is_exponent_letter letter ≡ true → (b : Bool) → is_sign c ≡ b → IfSome (signed_exponent letter (c ∷ cs)) (λ e. (letter ∷ (c ∷ cs) ≡ exponent_word e) × (is_exponent_part e ≡ true))
by_sign letter c cs l true is = rw is (exponent_with_sound letter (Some c) cs (all_digits cs && is_one_or_two (length cs)) refl l (both_are _ _ is refl))
by_sign letter c cs l false is = rw is (exponent_with_sound letter None (c ∷ cs) (all_digits (c ∷ cs) && is_one_or_two (length (c ∷ cs))) refl l refl)

signed_exponent_sound : (letter : ℕ) (bs : List ℕ) → is_exponent_letter letter ≡ true → IfSome (signed_exponent letter bs) (λ e. (letter ∷ bs ≡ exponent_word e) × (is_exponent_part e ≡ true))
signed_exponent_sound letter [] l = tt
signed_exponent_sound letter (c ∷ cs) l = by_sign letter c cs l (is_sign c) refl

by_letter : (c : ℕ) (cs : List ℕ) (b : Bool) → is_exponent_letter c ≡ b → IfSome (exponent_of (c ∷ cs)) (λ e. (c ∷ cs ≡ exponent_word e) × (is_exponent_part e ≡ true))
by_letter c cs true is = rw is (signed_exponent_sound c cs is)
by_letter c cs false is = rw is tt

exponent_of_sound : (bs : List ℕ) → IfSome (exponent_of bs) (λ e. (bs ≡ exponent_word e) × (is_exponent_part e ≡ true))
exponent_of_sound [] = (refl, refl)
exponent_of_sound (c ∷ cs) = by_letter c cs (is_exponent_letter c) refl

spelled_by : (minus : Bool) (whole : List ℕ) (point : Bool) (fraction rest : List ℕ) (o : Option (Option Exponent)) → all_digits whole ≡ true → all_digits fraction ≡ true → (point ≡ false → fraction ≡ []) → 0 < length whole + length fraction → IfSome o (λ e. (rest ≡ exponent_word e) × (is_exponent_part e ≡ true)) → IfSome (option_map (λ (e : Option Exponent). let p : Parts = record { minus = minus; whole = whole; point = point; fraction = fraction; exponent = e } in p) o) (λ p. IsSpelled (cond minus (minus_sign ∷ []) [] ++ (whole ++ (cond point (decimal_point ∷ []) [] ++ (fraction ++ rest)))) p)
spelled_by minus whole point fraction rest None before behind none some h = tt
spelled_by minus whole point fraction rest (Some e) before behind none some h = record {
  joined = ap (λ bs. cond minus (minus_sign ∷ []) [] ++ (whole ++ (cond point (decimal_point ∷ []) [] ++ (fraction ++ bs)))) h.0;
  whole = before;
  fraction = behind;
  unpointed = none;
  some_digit = some;
  exponent = h.1;
}

by_some : (minus : Bool) (whole : List ℕ) (point : Bool) (fraction rest : List ℕ) → all_digits whole ≡ true → all_digits fraction ≡ true → (point ≡ false → fraction ≡ []) → (b : Bool) → nat_lt 0 (length whole + length fraction) ≡ b → IfSome (ended minus whole point fraction rest) (λ p. IsSpelled (cond minus (minus_sign ∷ []) [] ++ (whole ++ (cond point (decimal_point ∷ []) [] ++ (fraction ++ rest)))) p)
by_some minus whole point fraction rest before behind none true is =
    let some : 0 < length whole + length fraction = grind (arith, nat_tests) in
    rw is (spelled_by minus whole point fraction rest (exponent_of rest) before behind none some (exponent_of_sound rest))
by_some minus whole point fraction rest before behind none false is = rw is tt

-- the parts that are found are those of the word that was cut up
ended_sound : (minus : Bool) (whole : List ℕ) (point : Bool) (fraction rest : List ℕ) → all_digits whole ≡ true → all_digits fraction ≡ true → (point ≡ false → fraction ≡ []) → IfSome (ended minus whole point fraction rest) (λ p. IsSpelled (cond minus (minus_sign ∷ []) [] ++ (whole ++ (cond point (decimal_point ∷ []) [] ++ (fraction ++ rest)))) p)
ended_sound minus whole point fraction rest before behind none =
    by_some minus whole point fraction rest before behind none (nat_lt 0 (length whole + length fraction)) refl

by_point : (minus : Bool) (whole : List ℕ) (c : ℕ) (cs : List ℕ) → all_digits whole ≡ true → (b : Bool) → (c == decimal_point) ≡ b → IfSome (pointed minus whole (c ∷ cs)) (λ p. IsSpelled (cond minus (minus_sign ∷ []) [] ++ (whole ++ (c ∷ cs))) p)
by_point minus whole c cs before true is =
    let same = same_byte c decimal_point is in
    let found = ended_sound minus whole true (leading_digits cs) (behind_digits cs) before (list_all-take-prefix_len is_ascii_digit cs) (λ never. cc) in
    rw (is, same) (rw (take-append-drop (prefix_len is_ascii_digit cs) cs) at found)
by_point minus whole c cs before false is = rw is (ended_sound minus whole false [] (c ∷ cs) before refl (λ _. refl))

pointed_sound : (minus : Bool) (whole bs : List ℕ) → all_digits whole ≡ true → IfSome (pointed minus whole bs) (λ p. IsSpelled (cond minus (minus_sign ∷ []) [] ++ (whole ++ bs)) p)
pointed_sound minus whole [] before = ended_sound minus whole false [] [] before refl (λ _. refl)
pointed_sound minus whole (c ∷ cs) before = by_point minus whole c cs before (c == decimal_point) refl

unsigned_sound : (minus : Bool) (bs : List ℕ) → IfSome (unsigned_parts minus bs) (λ p. IsSpelled (cond minus (minus_sign ∷ []) [] ++ bs) p)
unsigned_sound minus bs =
    rw (take-append-drop (prefix_len is_ascii_digit bs) bs) at
    (pointed_sound minus (leading_digits bs) (behind_digits bs) (list_all-take-prefix_len is_ascii_digit bs))

by_minus : (c : ℕ) (cs : List ℕ) (b : Bool) → (c == minus_sign) ≡ b → IfSome (parts_of (c ∷ cs)) (λ p. IsSpelled (c ∷ cs) p)
unfolding parts_of
by_minus c cs true is =
    let same = same_byte c minus_sign is in rw (is, same) (unsigned_sound true cs)
by_minus c cs false is = rw is (unsigned_sound false (c ∷ cs))

parts_sound : (word : List ℕ) → IfSome (parts_of word) (λ p. IsSpelled word p)
unfolding parts_of
parts_sound [] = tt
parts_sound (c ∷ cs) = by_minus c cs (c == minus_sign) refl

pub form_from_parts : (word : List ℕ) (p : Parts) → parts_of word ≡ Some p → IsSpelled word p
form_from_parts word p e = rw e at (parts_sound word)
