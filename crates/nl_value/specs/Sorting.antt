-- Sorting as a function. What comes first is told by a test; items of which neither comes first stay in place.
use Rattle.std.specs.Prelude.{Bool, if◌then◌else◌, List, [], ◌∷◌}

-- the item put before the first one of a sorted list that doesn't come before it
abbrev pub inserted : {X : Type 0} → (X → X → Bool) → X → List X → List X
inserted comes_first x [] = x ∷ []
inserted comes_first x (y ∷ ys) = if comes_first y x then y ∷ inserted comes_first x ys else x ∷ y ∷ ys

abbrev pub sorted_by : {X : Type 0} → (X → X → Bool) → List X → List X
sorted_by comes_first [] = []
sorted_by comes_first (x ∷ xs) = inserted comes_first x (sorted_by comes_first xs)
