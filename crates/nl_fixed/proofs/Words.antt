-- The words of numbers: what reading one computes at each of its stages.
use Rattle.std.proofs.Common.{◌≡◌, ℕ, ◌+◌, ◌<◌, Bool, true, false, ℤ, List, [], ◌∷◌, ◌==◌, get_or, length, Option, Some, None, Result, nat_lt, arith, refl, ap, ◌∙◌}
use Rattle.std.specs.Option.{option_map}
use Rattle.std.proofs.lemmas.Bool.Decides.{nat_tests}
use Rattle.nl_fixed.specs.declared.number.NumFault.{NumFault}
use Rattle.nl_fixed.specs.Spelling.{Exponent, Parts, exponent_value, exponent_of, decimal_value, value_of, decimal_point, ended, pointed}

-- ---- the value behind the digits

value_with : (minus : Bool) (whole : List ℕ) (point : Bool) (fraction : List ℕ) (x : ℤ) (o : Option (Option Exponent)) (r : Result ℤ NumFault) → Some x ≡ option_map exponent_value o → r ≡ decimal_value minus whole fraction x → Some r ≡ option_map value_of (option_map (λ (e : Option Exponent). let p : Parts = record { minus = minus; whole = whole; point = point; fraction = fraction; exponent = e } in p) o)
value_with minus whole point fraction x None r e f = cc
value_with minus whole point fraction x (Some exponent) r e f =
    let same : x ≡ exponent_value exponent = cc in ap Some (f ∙ ap (decimal_value minus whole fraction) same)

pub ended_value : (minus : Bool) (whole : List ℕ) (point : Bool) (fraction rest : List ℕ) (x : ℤ) (r : Result ℤ NumFault) → 0 < length whole + length fraction → Some x ≡ option_map exponent_value (exponent_of rest) → r ≡ decimal_value minus whole fraction x → Some r ≡ option_map value_of (ended minus whole point fraction rest)
ended_value minus whole point fraction rest x r some e f =
    let test : nat_lt 0 (length whole + length fraction) ≡ true = grind (arith, nat_tests) in
    rw test (value_with minus whole point fraction x (exponent_of rest) r e f)

pub some_of_two : (m n : ℕ) (b : Bool) → b ≡ (n == 0) → b ≡ false → (0 < m + n) × (0 < n + m)
some_of_two m n b e f = (grind (arith, nat_tests), grind (arith, nat_tests))

-- ---- a word's digits behind which no point stands

pub pointed_none : (minus : Bool) (whole behind : List ℕ) → length behind < 1 → ended minus whole false [] behind ≡ pointed minus whole behind
pointed_none minus whole [] short = refl
pointed_none minus whole (c ∷ cs) short = absurd (omega arith)

pub pointed_other : (minus : Bool) (whole behind : List ℕ) → (get_or behind 0 0 ≡ decimal_point → ⊥) → ended minus whole false [] behind ≡ pointed minus whole behind
pointed_other minus whole [] other = refl
pointed_other minus whole (c ∷ cs) other =
    let test : (c == decimal_point) ≡ false = grind (arith, nat_tests) in rw test refl
