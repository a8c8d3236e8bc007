-- What is written of a number is the word of that number.
use Rattle.std.proofs.Common.{◌≡◌, ◌⊎◌, inl, inr, ℕ, suc, ◌<◌, ◌≤◌, ◌^◌, Bool, true, false, ◌&&◌, [], ◌∷◌, refl, ap, length, arith, rules, get_or}
use Rattle.std.specs.Prelude.{nat_lt, ◌==◌, not}
use Rattle.std.specs.Fmt.{decimal}
use Rattle.std.specs.Char.{is_ascii_digit}
use Rattle.std.proofs.lemmas.Bool.Decides.{nat_tests}
use Rattle.std.proofs.lemmas.Fmt.{digits_decimal, digits_value-decimal, decimal_digit, decimal_nonempty, first_decimal}
use Rattle.std.proofs.lemmas.Str.Parse.{IsNumeralModel, numerals_by_fold}
use Rattle.nl_fixed.specs.Nouns.{Bytes}
use Rattle.nl_experiment.specs.Numbers.{number_behind, number_of}
use Rattle.nl_cli.specs.Words.{are_digits, is_number}

own : IsNumeralModel (λ ds. are_digits ds ≡ true) number_of
own = numerals_by_fold _ (search rules) number_behind (search rules)

pub decimal_says : (n : ℕ) → n < 2 ^ 64 → number_of (decimal n) ≡ n
decimal_says n small = digits_value-decimal own n small

decimal_digits : (n : ℕ) → n < 2 ^ 64 → are_digits (decimal n) ≡ true
decimal_digits n small = digits_decimal own n small

both : (p q : Bool) → (p && q) ≡ true → p ≡ true
both true q h = refl
both false q h = h

not_zero : (n : ℕ) → 48 < n → not (n == 48) ≡ true
not_zero n h = let no : (n == 48) ≡ false = grind (arith, nat_tests) in rw no refl

by_first : (word : Bytes) → are_digits word ≡ true → 0 < length word → (length word ≡ 1) ⊎ (48 < get_or word 0 0) → is_number word ≡ true
by_first [] digits some first = let no : 0 < 0 → ⊥ = λ h. omega (arith, h) in absurd (no some)
by_first (digit ∷ []) digits some first = both (is_ascii_digit digit) true digits
by_first (digit ∷ next ∷ rest) digits some (inl one) = let no : suc (suc (length rest)) ≡ 1 → ⊥ = λ h. omega (arith, h) in absurd (no one)
by_first (digit ∷ next ∷ rest) digits some (inr large) = let no = not_zero digit large in rw (digits, no) refl

below_or : (n : ℕ) (b : Bool) → nat_lt n 10 ≡ b → (n < 10) ⊎ (10 ≤ n)
below_or n true h = inl (grind (arith, nat_tests))
below_or n false h = inr (grind (arith, nat_tests))

pub decimal_is_number : (n : ℕ) → n < 2 ^ 64 → is_number (decimal n) ≡ true
decimal_is_number n small = by_first (decimal n) (decimal_digits n small) (decimal_nonempty n small)
    (elim (below_or n (nat_lt n 10) refl) [
      | inl one ↦ inl (ap length (decimal_digit n one))
      | inr more ↦ inr (first_decimal n (omega (arith, more)) small)
    ])
