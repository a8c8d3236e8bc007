-- Inputs that fit a world.
use Rattle.std.specs.Prelude.{◌≡◌, ℕ, zero, suc, ◌<◌, ◌+◌, ◌&&◌, true, List, [], ◌∷◌, length, map, Ok, Err, IfOk, refl}
use Rattle.std.proofs.Common.{ap, sym, ◌∙◌, get_or, arith}
use Rattle.std.proofs.lemmas.Bool.{and_parts}
use Rattle.nl_value.specs.Plain.{Plain, PlainItems, plains, items_of}
use Rattle.nl_value.specs.Views.{plain}
use Rattle.nl_value.specs.inner.Weights.{weight, weights}
use Rattle.nl_value.specs.declared.values.Value.{Value}
use Rattle.nl_agents.specs.World.{Rest}
use Rattle.nl_agents.specs.Standing.{fits_rest}
use Rattle.std.specs.List.{list_all}
use Rattle.nl_agentset_query.specs.Inputs.{inputs_fit, value_at}
use Rattle.nl_agentset_query.specs.Outcomes.{QueryOutcome, outcome_map}

-- the items of a list as a value are the list
pub items_of_plains : (ps : List Plain) → items_of (plains ps) ≡ ps
items_of_plains [] = refl
items_of_plains (p ∷ ps) = ap (λ rest. p ∷ rest) (items_of_plains ps)

-- an input fits where all inputs do
pub input_fits : (r : Rest) (inputs : List Plain) (at : ℕ) (p : Plain) → inputs_fit r inputs ≡ true → Ok p ≡ value_at inputs at → fits_rest r p ≡ true
input_fits r [] at p all is = cc
input_fits r (x ∷ xs) zero p all is = let same : x ≡ p = cc in ap (fits_rest r) (sym same) ∙ (and_parts (fits_rest r x) (list_all (fits_rest r) xs) all).0
input_fits r (x ∷ xs) (suc at) p all is = input_fits r xs at p (and_parts (fits_rest r x) (list_all (fits_rest r) xs) all).1 is

-- the same of what a call finds
pub found_fits : {V : Type 0} (r : Rest) (inputs : List Plain) (at : ℕ) (f : V → Plain) (o : QueryOutcome V) → inputs_fit r inputs ≡ true → outcome_map f o ≡ value_at inputs at → IfOk o (λ v. fits_rest r (f v) ≡ true)
found_fits r inputs at f (Ok v) fit is = input_fits r inputs at (f v) fit is
found_fits r inputs at f (Err fail) fit is = tt

-- a list fits as its items do
pub list_fits_as_items : (r : Rest) (ps : List Plain) → list_all (fits_rest r) ps ≡ fits_rest r (PlainItems (plains ps))
list_fits_as_items r [] = refl
list_fits_as_items r (p ∷ ps) = ap (λ b. fits_rest r p && b) (list_fits_as_items r ps)

-- an item of values that fit
pub item_fits : (r : Rest) (values : List Value) (i : ℕ) (v : Value) → inputs_fit r (map plain values) ≡ true → i < length values → v ≡ get_or values i v → fits_rest r (plain v) ≡ true
item_fits r [] i v fit inside is = absurd (omega arith)
item_fits r (x ∷ xs) zero v fit inside is = ap (λ u. fits_rest r (plain u)) is ∙ (and_parts (fits_rest r (plain x)) (list_all (fits_rest r) (map plain xs)) fit).0
item_fits r (x ∷ xs) (suc i) v fit inside is = item_fits r xs i v (and_parts (fits_rest r (plain x)) (list_all (fits_rest r) (map plain xs)) fit).1 (omega (arith, inside)) is

-- and it weighs less than all
pub item_weighs : (values : List Value) (i : ℕ) (v : Value) → i < length values → v ≡ get_or values i v → weight (plain v) < 1 + weights (plains (map plain values))
item_weighs [] i v inside is = absurd (omega arith)
item_weighs (x ∷ xs) zero v inside is = omega (arith, ap (λ u. weight (plain u)) is)
item_weighs (x ∷ xs) (suc i) v inside is = omega (arith, item_weighs xs i v (omega (arith, inside)) is)
