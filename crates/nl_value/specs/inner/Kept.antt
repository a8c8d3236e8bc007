-- What a list keeps beside its items.
use Rattle.std.specs.Prelude.{◌≡◌, ℕ, ◌-◌, ◌^◌, min, List}
use Rattle.nl_value.specs.Plain.{Plain, plains}
use Rattle.nl_value.specs.Measures.{sizes_of, deepest_of}

-- the sum of the items' sizes and the greatest of their depths, as far as there is room for them
abbrev pub AreMeasures : List Plain → ℕ → ℕ → Type 0
AreMeasures items size depth =
    (size ≡ min (sizes_of (plains items)) (2 ^ 64 - 1)) × (depth ≡ min (deepest_of (plains items)) (2 ^ 32 - 1))
