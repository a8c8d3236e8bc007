-- The values of a list that isn't empty.
use Rattle.std.proofs.Common.{◌≡◌, ℕ, suc, ◌<◌, List, [], ◌∷◌, length, Result, Ok, Err, ap, arith, refl}
use Rattle.toml.specs.View.{items_view, view}
use Rattle.toml.specs.declared.value.Value.{Value}
use Rattle.nl_fixed.specs.Nouns.{Name}
use Rattle.nl_value.specs.Plain.{Plain}
use Rattle.nl_experiment_sweep.specs.declared.varied.Choice.TheVariants.{Listed}
use Rattle.nl_experiment_keys.specs.Reading.{◌>>=◌, each_item}
use Rattle.nl_experiment_keys.specs.declared.faults.PlanKind.{PlanKind}
use Rattle.nl_experiment_fields.specs.Entries.{listed_in, right_value}

abbrev length_or : {X E : Type 0} → Result (List X) E → ℕ
length_or (Ok xs) = length xs
length_or (Err e) = 0

-- each item gives a value
one_each : {X : Type 0} (first : Result X PlanKind) (others : Result (List X) PlanKind) (values : List X)
    → (first >>= λ x. others >>= λ xs. Ok (x ∷ xs)) ≡ Ok values → 0 < length values
one_each (Ok x) (Ok xs) values is = let same : suc (length xs) ≡ length values = ap length_or is in omega (arith, same)
one_each (Ok x) (Err e) values is = cc
one_each (Err e) others values is = cc

pub some_values : (name : Name) (items : List Value) (values : List Plain) → 0 < length items → each_item (right_value name) (items_view items) ≡ Ok values → 0 < length values
some_values name [] values some is = absurd (omega (arith, some))
some_values name (v ∷ vs) values some is = one_each (right_value name (view v)) (each_item (right_value name) (items_view vs)) values is

pub listed : (name : Name) (items : List Value) (values : List Plain) → 0 < length items → each_item (right_value name) (items_view items) ≡ Ok values
    → listed_in name (items_view items) ≡ Ok (Listed values)
listed name [] values some is = absurd (omega (arith, some))
listed name (v ∷ vs) values some is = rw is refl
