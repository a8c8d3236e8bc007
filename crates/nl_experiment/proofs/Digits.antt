-- A number grows with its digits.
use Rattle.std.proofs.Common.{◌≡◌, ℕ, ◌+◌, ◌*◌, ◌-◌, ◌<◌, ◌≤◌, Bool, true, false, ◌&&◌, if◌then◌else◌, [], ◌∷◌, Ok, Err, refl, arith}
use Rattle.std.specs.Prelude.{nat_le}
use Rattle.std.proofs.lemmas.Bool.{lt-leb}
use Rattle.nl_fixed.specs.Nouns.{Bytes}
use Rattle.nl_experiment_keys.specs.declared.faults.PlanKind.TheVariants.{NoSuchRun}
use Rattle.nl_experiment.specs.Numbers.{number_behind, run_among}

grows : (n : ℕ) (digits : Bytes) → n ≤ number_behind n digits
grows n [] = omega arith
grows n (digit ∷ digits) = omega (arith, grows (10 * n + (digit - 48)) digits)

neither : (first : Bool) (n : ℕ) → Err NoSuchRun ≡ (if first && false then Ok n else Err NoSuchRun)
neither true n = refl
neither false n = refl

-- past the most runs there is none, whatever digits follow
pub beyond : (runs n : ℕ) (digits : Bytes) (total : ℕ) → runs ≤ 100000 → 100000 < n → number_behind n digits ≡ total → Err NoSuchRun ≡ run_among runs total
beyond runs n digits total few many is =
    let no : nat_le total runs ≡ false = lt-leb total runs (omega (arith, few, many, grows n digits, is)) in
    rw no (neither (nat_le 1 total) total)
