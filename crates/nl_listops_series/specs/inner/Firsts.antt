-- Where the first item of a list stands that is the same as one, and the places of items by which it is found.
use Rattle.std.specs.Prelude.{◌≡◌, ℕ, ◌<◌, ◌≤◌, ◌==◌, Option, Some, None, List, length, map, get_or, count_by}
use Rattle.std.specs.List.{position_or_len}
use Rattle.nl_value.specs.Plain.{Plain, PlainNobody}
use Rattle.nl_value.specs.Living.{Living}
use Rattle.nl_value.specs.Equality.{settled, same_values}
use Rattle.nl_listops_series.specs.inner.Digests.{digest_of}

abbrev pub first_place : Living → List Plain → Plain → ℕ
first_place w items item = position_or_len (same_values w item) items

-- what stands at a place of the list
abbrev pub item_of : List Plain → ℕ → Plain
item_of items place = get_or items place PlainNobody

abbrev pub digest_at : Living → List Plain → ℕ → ℕ
digest_at w items place = digest_of (settled w (item_of items place))

-- no item before the one at the place is the same as it
abbrev pub IsFirst : Living → List Plain → ℕ → Type 0
IsFirst w items place = first_place w items (item_of items place) ≡ place

-- the place is the last one below the bound at which a first item of this digest stands
pub record IsLast (w : Living) (items : List Plain) (digest bound place : ℕ) : Type 0 where
  pub below : place < bound
  pub first : IsFirst w items place
  pub digests : digest_at w items place ≡ digest
  pub last : (other : ℕ) → other < bound → IsFirst w items other → digest_at w items other ≡ digest → other ≤ place

-- the last such place, where there is one
abbrev pub IsLatest : Living → List Plain → ℕ → ℕ → Option ℕ → Type 0
IsLatest w items digest bound None = (other : ℕ) → other < bound → IsFirst w items other → digest_at w items other ≡ digest → ⊥
IsLatest w items digest bound (Some place) = IsLast w items digest bound place

-- for each place below a bound the last such place of its digest before it
pub record IsChained (w : Living) (items : List Plain) (bound : ℕ) (earlier : List (Option ℕ)) : Type 0 where
  pub long : length earlier ≡ bound
  pub each : (place : ℕ) → place < bound → IsLatest w items (digest_at w items place) place (get_or earlier place None)

-- each number is below the bound
abbrev pub AllBelow : ℕ → List ℕ → Type 0
AllBelow bound numbers = (k : ℕ) → k < length numbers → get_or numbers k 0 < bound

-- the counts say of each number below the length how often it stands among the numbers
abbrev pub IsCount : List ℕ → List ℕ → Type 0
IsCount numbers counts = (n : ℕ) → n < length numbers → get_or counts n 0 ≡ count_by (λ m. m == n) numbers

-- how often each of the numbers stands among them
abbrev pub times_among : List ℕ → List ℕ
times_among numbers = map (λ n. count_by (λ m. m == n) numbers) numbers
