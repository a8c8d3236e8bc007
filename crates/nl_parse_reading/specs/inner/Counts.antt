-- What the reader asks of the inputs of rows.
use Rattle.std.specs.Prelude.{ℕ, zero, suc, Bool, true, false, List, [], ◌∷◌}
use Rattle.nl_words.specs.declared.entry.Input.{Input}
use Rattle.nl_words.specs.declared.entry.Input.TheVariants as input
use Rattle.nl_tree.specs.Tokens.{Class, Near, Nowhere}

-- nothing but values
abbrev pub are_values : List Input → Bool
are_values [] = true
are_values (input.Value ∷ is) = are_values is
are_values is = false

-- one value
abbrev pub is_value : List Input → Bool
is_value (input.Value ∷ []) = true
is_value is = false

-- a new name, and then a value
abbrev pub is_let : List Input → Bool
is_let (input.Fresh ∷ is) = is_value is
is_let is = false

-- a value, and then a block of one expression
abbrev pub is_with : List Input → Bool
is_with (input.Value ∷ input.Reporter ∷ []) = true
is_with is = false

-- an operator of level 1 of so many values
abbrev pub near_by : ℕ → Class
near_by (suc (suc zero)) = Near 0
near_by (suc (suc (suc zero))) = Near 1
near_by n = Nowhere
