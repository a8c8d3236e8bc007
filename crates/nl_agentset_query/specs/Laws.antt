-- What choices mean: laws above the definitions.
use Rattle.std.specs.Prelude.{◌≡◌, ℕ, ◌<◌, ◌≤◌, List, length, filter_map, slice_get, All}
use Rattle.std.specs.List.Sorted.{IsStrictlyIncreasing}
use Rattle.nl_agentset_query.specs.Choices.{some_of}

-- some are what stands in a list at places that ascend
pub record AreAtPlaces {X : Type 0} (xs some : List X) : Type 0 where
  pub places : List ℕ
  pub ascend : IsStrictlyIncreasing places
  pub inside : All (λ place. place < length xs) places
  pub are : some ≡ filter_map (slice_get xs) places

-- what several are chosen keep their order, and each stands there for one place
abbrev pub SomeKeepOrder : Type 0 → Type 0
SomeKeepOrder X = (wanted : ℕ) (xs : List X) (state : ℕ) → AreAtPlaces xs (some_of wanted xs state).0

-- as many are chosen as are wanted
abbrev pub SomeAreAsMany : Type 0 → Type 0
SomeAreAsMany X = (wanted : ℕ) (xs : List X) (state : ℕ) → wanted ≤ length xs → length (some_of wanted xs state).0 ≡ wanted

-- and all where there are no more
abbrev pub AllAreKept : Type 0 → Type 0
AllAreKept X = (wanted : ℕ) (xs : List X) (state : ℕ) → length xs ≤ wanted → (some_of wanted xs state).0 ≡ xs

-- members, which ascend, ascend still, so they differ
abbrev pub SomeMembersDiffer : Type 0
SomeMembersDiffer = (wanted : ℕ) (members : List ℕ) (state : ℕ) → IsStrictlyIncreasing members → IsStrictlyIncreasing (some_of wanted members state).0
