-- Which number of the answers is beyond all others.
use Rattle.std.specs.Prelude.{◌≡◌, ℤ, int_lt, Bool, true, false, not, if◌then◌else◌, List, [], Option, Some, None}
use Rattle.std.specs.List.{list_any}
use Rattle.nl_value.specs.Order.{count_of}
use Rattle.nl_exec_meaning.specs.Walks.{Answer}

-- the second number is above the first, or below it where the least are asked for
abbrev pub beyond : Bool → ℤ → ℤ → Bool
beyond up a b = if up then int_lt a b else int_lt b a

-- no number of the answers is beyond this one, and some number isn't behind it
pub record IsBest (up : Bool) (best : ℤ) (made : List Answer) : Type 0 where
  pub none : list_any (λ a. beyond up best (count_of a.value)) made ≡ false
  pub some : list_any (λ a. not (beyond up (count_of a.value) best)) made ≡ true

-- there is none only where there are no answers
abbrev pub IsBestOf : Bool → Option ℤ → List Answer → Type 0
IsBestOf up None made = made ≡ []
IsBestOf up (Some best) made = IsBest up best made
