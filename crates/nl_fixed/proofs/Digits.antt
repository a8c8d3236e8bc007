-- Lists of decimal digits: what they begin with, and the number that they write.
use Rattle.std.proofs.Common.{◌≡◌, ℕ, suc, ◌+◌, ◌-◌, ◌*◌, ◌^◌, ◌<◌, ◌≤◌, Bool, true, false, ◌&&◌, List, [], ◌∷◌, ◌++◌, length, get_or, take, drop, refl, ap, ◌∙◌, lit<, cond, arith, add-one, drop-cons}
use Rattle.std.specs.Char.{is_ascii_digit, digit_value}
use Rattle.std.specs.List.{list_all, prefix_len}
use Rattle.std.specs.Str.Parse.{digits_value_after}
use Rattle.std.proofs.lemmas.Bool.Decides.{nat_tests}
use Rattle.std.proofs.lemmas.List.Folds.{length-prefix_len}
use Rattle.std.proofs.lemmas.Nat.{pow-add}
use Rattle.std.proofs.Math.Nat.{one-le-pow, pow-suc, pow-le-pow_right, mul-le-mul_left, mul-le-mul_right}
use Rattle.nl_fixed.specs.Spelling.{all_digits}

passes_on : {X : Type 0} (p : X → Bool) (x : X) (xs : List X) (b : Bool) → p x ≡ b → list_all p (take (prefix_len p xs) xs) ≡ true → list_all p (take (cond b (1 + prefix_len p xs) 0) (x ∷ xs)) ≡ true
passes_on p x xs true passes rest = let more : 1 + prefix_len p xs ≡ suc (prefix_len p xs) = omega arith in rw (more, passes) rest
passes_on p x xs false passes rest = refl

pub list_all-take-prefix_len : {X : Type 0} (p : X → Bool) (xs : List X) → list_all p (take (prefix_len p xs) xs) ≡ true
list_all-take-prefix_len p [] = refl
list_all-take-prefix_len p (x ∷ xs) = passes_on p x xs (p x) refl (list_all-take-prefix_len p xs)

-- what a digit's byte is, and the digit
pub record IsDigit (c : ℕ) : Type 0 where
  pub low : 48 ≤ c
  pub high : c ≤ 57
  pub value : digit_value c ≡ c - 48

pub IsDigit-from_test : (c : ℕ) → is_ascii_digit c ≡ true → IsDigit c
IsDigit-from_test c h = record { low = grind (arith, nat_tests); high = grind (arith, nat_tests); value = grind (arith, nat_tests) }

pub first_and_rest : (p q : Bool) → (p && q) ≡ true → (p ≡ true) × (q ≡ true)
first_and_rest p q h = (grind arith, grind arith)

-- the digits from the index on are one digit and those behind it
pub record StepsOver (n : ℕ) (ds : List ℕ) (i : ℕ) : Type 0 where
  pub digit : IsDigit (get_or ds i 0)
  pub rest : all_digits (drop (i + 1) ds) ≡ true
  pub value : digits_value_after 10 n (drop i ds) ≡ digits_value_after 10 (n * 10 + (get_or ds i 0 - 48)) (drop (i + 1) ds)

pub steps_over : (n : ℕ) (ds : List ℕ) (i : ℕ) → i < length ds → all_digits (drop i ds) ≡ true → StepsOver n ds i
steps_over n ds i within digits =
    let cut : drop i ds ≡ get_or ds i 0 ∷ drop (i + 1) ds = rw (add-one) (drop-cons ds i 0 within) in
    let both = first_and_rest (is_ascii_digit (get_or ds i 0)) (all_digits (drop (i + 1) ds)) (rw cut at digits) in
    let digit = IsDigit-from_test (get_or ds i 0) both.0 in
    record { digit = digit; rest = both.1; value = rw cut (ap (λ d. digits_value_after 10 (n * 10 + d) (drop (i + 1) ds)) digit.value) }

-- ---- room for further digits

room_below_by : (a p most : ℕ) → 1 ≤ p → (a + 1) * (p * 10) ≤ most → a * 10 + 10 ≤ most
room_below_by a p most above room = omega (arith, mul-le-mul_left (a + 1) above)

room_more_by : (a d p most : ℕ) → d ≤ 9 → (a + 1) * (p * 10) ≤ most → (a * 10 + d + 1) * p ≤ most
room_more_by a d p most digit room = omega (arith, mul-le-mul_right p digit)

pub room_below : (a k most : ℕ) → (a + 1) * 10 ^ suc k ≤ most → a * 10 + 10 ≤ most
room_below a k most room =
    let ten : 0 < 10 = lit< tt in
    room_below_by a (10 ^ k) most (one-le-pow k 10 ten) (rw pow-suc at room)

pub room_more : (a d k most : ℕ) → d ≤ 9 → (a + 1) * 10 ^ suc k ≤ most → (a * 10 + d + 1) * 10 ^ k ≤ most
room_more a d k most digit room = room_more_by a d (10 ^ k) most digit (rw pow-suc at room)

pub all_digits-take : (n : ℕ) (bs : List ℕ) → n ≡ length (take (prefix_len is_ascii_digit bs) bs) → all_digits (take n bs) ≡ true
all_digits-take n bs e =
    let count = e ∙ length-prefix_len is_ascii_digit bs in rw count (list_all-take-prefix_len is_ascii_digit bs)

-- ---- digits one list after another

pub digits_value_after-append : (n : ℕ) (xs ys : List ℕ) → digits_value_after 10 n (xs ++ ys) ≡ digits_value_after 10 (digits_value_after 10 n xs) ys
digits_value_after-append n [] ys = refl
digits_value_after-append n (x ∷ xs) ys = digits_value_after-append (n * 10 + digit_value x) xs ys

-- two lists of digits that aren't more than thirty together leave room for each other
pub room_first : (k : ℕ) → k ≤ 30 → 1 * 10 ^ k ≤ 10 ^ 30
room_first k few = let ten : 0 < 10 = lit< tt in omega (arith, pow-le-pow_right ten few)

pub room_second : (n j k : ℕ) → j + k ≤ 30 → n + 1 ≤ 1 * 10 ^ j → (n + 1) * 10 ^ k ≤ 10 ^ 30
room_second n j k few below =
    let ten : 0 < 10 = lit< tt in
    let first : n + 1 ≤ 10 ^ j = omega arith in
    let both : (n + 1) * 10 ^ k ≤ 10 ^ j * 10 ^ k = mul-le-mul_right (10 ^ k) first in
    omega (arith, both, pow-add 10 j k, pow-le-pow_right ten few)
