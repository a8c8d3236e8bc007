-- The digits of a fraction: written one by one from the first until nothing is left.
use Rattle.std.proofs.Common.{◌≡◌, ℕ, zero, suc, ◌+◌, ◌*◌, ◌/◌, ◌%◌, ℤ, pos, negsuc, unsigned_abs, ◌^◌, ◌<◌, ◌-◌, ◌⊎◌, Bool, true, false, ◌&&◌, ◌==◌, List, [], ◌∷◌, ◌++◌, refl, lit<, arith, inl, inr, ⊎_elim, append_assoc, append-nil}
use lib.Signed.{lt_z}
use Rattle.std.specs.Fmt.{decimal}
use Rattle.std.specs.List.{list_all}
use Rattle.std.proofs.lemmas.Bool.Decides.{nat_tests}
use Rattle.std.proofs.Math.Nat.{one-le-pow, pow-suc, zero-div, zero-mod, mod-lt, div-add-mod', div-lt_iff_lt-mul}
use Rattle.nl_fixed.specs.Spelling.{padded_digits, is_zero_digit, without_trailing_zeros, decimal_point, minus_sign, fraction_text, number_text}

pub power_above : (k : ℕ) → 0 < 10 ^ k
power_above k = let ten : 0 < 10 = lit< tt in one-le-pow k 10 ten

-- ---- which padded digits are all zeros

pub all_zeros : (k : ℕ) → list_all is_zero_digit (padded_digits k 0) ≡ true
unfolding padded_digits
all_zeros zero = refl
all_zeros (suc k) = rw (zero-div (10 ^ k), zero-mod (10 ^ k)) (all_zeros k)

tested : (p q : Bool) → ((p ≡ false) ⊎ (q ≡ false)) → (p && q) ≡ false
tested p q h = grind arith

in_one_part : (q p r n : ℕ) → q * p + r ≡ n → 0 < n → (0 < q) ⊎ (0 < r)
in_one_part zero p r n e above = inr (omega arith)
in_one_part (suc q) p r n e above = inl (omega arith)

pub some_digit : (k n : ℕ) → n < 10 ^ k → 0 < n → list_all is_zero_digit (padded_digits k n) ≡ false
unfolding padded_digits
some_digit zero n below above = absurd (omega arith)
some_digit (suc k) n below above =
    let q = n / 10 ^ k in
    let r = n % 10 ^ k in
    let rest : r < 10 ^ k = mod-lt n (power_above k) in
    tested (is_zero_digit (48 + q)) (list_all is_zero_digit (padded_digits k r))
    (⊎_elim (λ (h : 0 < q). inl (grind (arith, nat_tests))) (λ (h : 0 < r). inr (some_digit k r rest h))
    (in_one_part q (10 ^ k) r n (div-add-mod' n (10 ^ k)) above))

-- ---- the digits that are left to write

pub trimmed_nothing : (k : ℕ) → without_trailing_zeros (padded_digits k 0) ≡ []
unfolding padded_digits without_trailing_zeros
trimmed_nothing zero = refl
trimmed_nothing (suc k) = rw (all_zeros (suc k)) refl

pub trimmed_digit : (k n : ℕ) → n < 10 ^ suc k → 0 < n → without_trailing_zeros (padded_digits (suc k) n) ≡ (48 + n / 10 ^ k) ∷ without_trailing_zeros (padded_digits k (n % 10 ^ k))
unfolding padded_digits without_trailing_zeros
trimmed_digit k n below above = rw (some_digit (suc k) n below above) refl

pub first_digit_below : (k n : ℕ) → n < 10 ^ suc k → n / 10 ^ k < 10
first_digit_below k n below =
    let bound : n < 10 * 10 ^ k = omega (arith, pow-suc 10 k) in (div-lt_iff_lt-mul (power_above k)).1 bound

-- what one more digit leaves to write
pub written_more : (written all : List ℕ) (places n : ℕ) → 0 < n → n < 10 ^ places → written ++ without_trailing_zeros (padded_digits places n) ≡ all → (written ++ (48 + n / 10 ^ (places - 1)) ∷ []) ++ without_trailing_zeros (padded_digits (places - 1) (n % 10 ^ (places - 1))) ≡ all
written_more written all zero n above below e = absurd (omega arith)
written_more written all (suc k) n above below e =
    let less : suc k - 1 ≡ k = omega arith in
    rw (less, append_assoc) (rw (trimmed_digit k n below above) at e)

pub digit_below : (n places unit : ℕ) → 0 < n → n < 10 ^ places → unit ≡ 10 ^ (places - 1) → n / unit < 10
digit_below n zero unit above below e = absurd (omega arith)
digit_below n (suc k) unit above below e =
    let less : suc k - 1 ≡ k = omega arith in
    rw (e, less) (first_digit_below k n below)

pub rest_below : (n k unit : ℕ) → unit ≡ 10 ^ k → n % unit < 10 ^ k
rest_below n k unit e = rw e (mod-lt n (power_above k))

pub written_all : (old start written : List ℕ) (places n m : ℕ) → n ≡ 0 → (m ≡ 0 → ⊥) → start ≡ old ++ decimal_point ∷ [] → written ++ without_trailing_zeros (padded_digits places n) ≡ start ++ without_trailing_zeros (padded_digits 6 m) → written ≡ old ++ fraction_text m
written_all old start written places n m done some e f =
    let test : (m == 0) ≡ false = grind (arith, nat_tests) in
    let g : written ++ without_trailing_zeros (padded_digits places 0) ≡ (old ++ decimal_point ∷ []) ++ without_trailing_zeros (padded_digits 6 m) = rw (← done, ← e) f in
    rw test (rw (trimmed_nothing places, append-nil, append_assoc) at g)

-- ---- the whole text

pub text_below : (z : ℤ) (n : ℕ) (out : List ℕ) → lt_z z (pos 0) ≡ true → n ≡ unsigned_abs z → out ≡ (minus_sign ∷ decimal (n / 1000000)) ++ fraction_text (n % 1000000) → out ≡ number_text z
unfolding number_text
text_below (pos k) n out below e f = absurd (grind (arith, nat_tests))
text_below (negsuc k) n out below e f = rw e at f

pub text_above : (z : ℤ) (n : ℕ) (out : List ℕ) → lt_z z (pos 0) ≡ false → n ≡ unsigned_abs z → out ≡ decimal (n / 1000000) ++ fraction_text (n % 1000000) → out ≡ number_text z
unfolding number_text
text_above (pos k) n out above e f = rw e at f
text_above (negsuc k) n out above e f = cc
