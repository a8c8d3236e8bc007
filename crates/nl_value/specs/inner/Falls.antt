-- An item is less than the list that holds it. The model of `Items` wants this, since values nest through it.
use Rattle.std.specs.Prelude.{◌≤◌, List, [], ◌∷◌, map}
use Rattle.std.proofs.Common.{arith}
use denote.Param.Weighed.{most, w_this}
use Rattle.nl_value.specs.declared.values.Value.{Value}
use Rattle.nl_value.specs.declared.values.Value.TheVariants.{Number, Truth, Words, Blank, Items, Turtle, Patch, Link, Nobody, Set}
use Rattle.nl_value.specs.declared.values.Items.TheDeep.{deep-Value}
use Rattle.nl_value.specs.Plain.{plains}
use Rattle.nl_value.specs.inner.Weights.{weights}
use Rattle.nl_value.specs.Views.{plain}

pub falls : (vs : List Value) → most (λ x. w_this.weight Value deep-Value x) vs ≤ weights (plains (map plain vs))
falls [] = omega arith
falls (Number count ∷ vs) = omega (arith, falls vs)
falls (Truth truth ∷ vs) = omega (arith, falls vs)
falls (Words bytes ∷ vs) = omega (arith, falls vs)
falls (Blank ∷ vs) = omega (arith, falls vs)
falls (Items items ∷ vs) = omega (arith, falls vs)
falls (Turtle turtle ∷ vs) = omega (arith, falls vs)
falls (Patch patch ∷ vs) = omega (arith, falls vs)
falls (Link link ∷ vs) = omega (arith, falls vs)
falls (Nobody ∷ vs) = omega (arith, falls vs)
falls (Set set ∷ vs) = omega (arith, falls vs)
