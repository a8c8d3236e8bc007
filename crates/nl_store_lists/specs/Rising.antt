-- Lists of keys in order, and the lists that are collected in order.
use Rattle.std.specs.Prelude.{◌≡◌, ℕ, zero, suc, ◌<◌, true, List, [], ◌∷◌, ◌++◌, Option}
use Rattle.std.specs.Option.{option_to_list}
use Rattle.nl_store_lists.specs.Chained.{has}

-- what is measured of a key is less than what is measured of each key behind it
abbrev pub IsRisingBy : (ℕ → ℕ) → List ℕ → Type 0
IsRisingBy measure [] = Unit {0}
IsRisingBy measure (x ∷ xs) = ((y : ℕ) → has xs y ≡ true → measure x < measure y) × IsRisingBy measure xs

-- what the function has for the numbers below n, in their order
abbrev pub collect : {A : Type 0} → (ℕ → Option A) → ℕ → List A
collect f zero = []
collect f (suc n) = collect f n ++ option_to_list (f n)
