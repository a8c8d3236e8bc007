-- An item weighs less than its list.
use Rattle.std.specs.Prelude.{◌≡◌, ℕ, zero, ◌<◌, List, [], ◌∷◌, length, map}
use Rattle.std.proofs.Common.{arith, get_or, suc, ap}
use Rattle.nl_value.specs.declared.values.Value.{Value}
use Rattle.nl_value.specs.Plain.{Plain, plains}
use Rattle.nl_value.specs.inner.Weights.{weight, weights}
use Rattle.nl_value.specs.Views.{plain}

item_of_list_weighs : (vs : List Value) (i : ℕ) (v : Value) → i < length vs → v ≡ get_or vs i v → weight (plain v) < weights (plains (map plain vs))
item_of_list_weighs [] i v h e = absurd (omega (arith, h))
item_of_list_weighs (u ∷ us) zero v h e = omega (arith, ap (λ (x : Value). weight (plain x)) e)
item_of_list_weighs (u ∷ us) (suc i) v h e = omega (arith, item_of_list_weighs us i v (omega (arith, h)) e)

pub item_weighs : (vs : List Value) (ps : List Plain) (i : ℕ) (v : Value) → map plain vs ≡ ps → i < length vs → v ≡ get_or vs i v → weight (plain v) < weights (plains ps)
item_weighs vs ps i v e h f = omega (arith, item_of_list_weighs vs i v h f, ap (λ (qs : List Plain). weights (plains qs)) e)
