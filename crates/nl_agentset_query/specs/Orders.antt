-- Lists of numbers by what is in them.
use Rattle.std.specs.Prelude.{◌≡◌, ℕ, List}
use Rattle.nl_agents.specs.Members.{is_listed}

-- two lists have the same numbers, in whatever order and however often
abbrev pub SameNumbers : List ℕ → List ℕ → Type 0
SameNumbers xs ys = (z : ℕ) → is_listed ys z ≡ is_listed xs z
