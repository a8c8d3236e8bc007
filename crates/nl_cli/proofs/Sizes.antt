-- Words that are numbers.
use Rattle.std.proofs.Common.{◌≡◌, ℕ, ◌+◌, ◌*◌, ◌-◌, ◌<◌, ◌≤◌, Bool, true, false, ◌&&◌, if◌then◌else◌, [], ◌∷◌, Some, None, refl, arith}
use Rattle.std.specs.Prelude.{nat_le, ◌==◌, not}
use Rattle.std.proofs.lemmas.Bool.{lt-leb}
use Rattle.nl_fixed.specs.Nouns.{Bytes}
use Rattle.nl_experiment.specs.Numbers.{AreDigits, number_behind}
use Rattle.nl_cli.specs.Words.{are_digits, is_number, size_among}

grows : (n : ℕ) (digits : Bytes) → n ≤ number_behind n digits
grows n [] = omega arith
grows n (digit ∷ digits) = omega (arith, grows (10 * n + (digit - 48)) digits)

neither : (first : Bool) (n : ℕ) → None ≡ (if first && false then Some n else None)
neither true n = refl
neither false n = refl

-- past the greatest size there is none, whatever digits follow
pub beyond : (n : ℕ) (digits : Bytes) (total : ℕ) → 1000 < n → number_behind n digits ≡ total → None ≡ size_among total
beyond n digits total many is =
    let no : nat_le total 1000 ≡ false = lt-leb total 1000 (omega (arith, many, grows n digits, is)) in
    rw no (neither (nat_le 1 total) total)

both : (p q : Bool) → (p && q) ≡ true → p ≡ true
both true q h = refl
both false q h = h

-- a number's word is digits
pub number_is_digits : (word : Bytes) → is_number word ≡ true → AreDigits word
number_is_digits [] h = cc
number_is_digits (digit ∷ []) h = rw h refl
number_is_digits (digit ∷ next ∷ digits) h = both (are_digits (digit ∷ next ∷ digits)) (not (digit == 48)) h
