-- What the words of lists and texts make of each other: laws above the definitions.
use Rattle.std.specs.Prelude.{◌≡◌, ◌<◌, ◌≤◌, ◌⊎◌, ℕ, suc, ℤ, pos, negsuc, ◌+ℤ◌, ◌*ℤ◌, ◌<ℤ◌, Bool, true, false, not, ◌&&◌, Some, Ok, List, [], ◌∷◌, length, map, reverse, slice_get}
use Rattle.std.specs.List.{sum_by}
use Rattle.std.specs.List.Sorted.{IsPermutation}
use Rattle.nl_fixed.specs.Nouns.{Bytes}
use Rattle.nl_fixed.specs.Characters.{characters}
use Rattle.nl_value.specs.Plain.{Plain, PlainWords}
use Rattle.nl_value.specs.Living.{Living}
use Rattle.nl_value.specs.Equality.{same_values}
use Rattle.nl_value.specs.Order.{comes_first}
use Rattle.nl_listops_series.specs.Outcomes.{and_then}
use Rattle.nl_listops_series.specs.Places.{index_of, replaced_at, part_of}
use Rattle.nl_listops_series.specs.Lists.{items_in, sentence_of}
use Rattle.nl_listops_series.specs.Texts.{word_of}
use Rattle.nl_listops_series.specs.Searches.{place_of_item}
use Rattle.nl_listops_series.specs.Sorts.{sortable, sorted_items}
use Rattle.nl_listops_series.specs.Ranges.{range_by}

-- a list turned twice is itself
abbrev pub ListsTurnBack : Type 0 → Type 0
ListsTurnBack X = (xs : List X) → reverse (reverse xs) ≡ xs

-- a sentence has as many items as its values have, of which one that is no list has one
abbrev pub SentencesAddUp : Type 0
SentencesAddUp = (values : List Plain) → length (sentence_of values) ≡ sum_by (λ value. length (items_in value)) values

-- a part that ends before a place, or begins behind it, is the same with another item at the place
abbrev pub PartsStayElsewhere : Type 0 → Type 0
PartsStayElsewhere X =
    (number first second : ℤ) (place from to : ℕ) (xs : List X) (x : X) →
    index_of number ≡ Some place → index_of first ≡ Some from → index_of second ≡ Some to →
    place < length xs → (to ≤ place) ⊎ (place < from) →
    and_then (replaced_at number xs (x ∷ [])) (part_of first second) ≡ part_of first second xs

-- at the place that a search finds stands an item that is the same, and before it there is none
pub record IsFirstPlace (w : Living) (value : Plain) (items : List Plain) (place : ℕ) : Type 0 where
  pub item : Plain
  pub there : slice_get items place ≡ Some item
  pub same : same_values w value item ≡ true
  pub none_before : (k : ℕ) (other : Plain) → k < place → slice_get items k ≡ Some other → same_values w value other ≡ false

abbrev pub SearchesFindTheFirst : Type 0
SearchesFindTheFirst = (w : Living) (value : Plain) (items : List Plain) (place : ℕ) → place_of_item w value items ≡ Some place → IsFirstPlace w value items place

-- the search for an item of the list finds one, at the latest in its place
abbrev pub ItemsAreFound : Type 0
ItemsAreFound =
    (w : Living) (items : List Plain) (place : ℕ) (item : Plain) → slice_get items place ≡ Some item →
    (found : ℕ) × (found ≤ place) × (place_of_item w item items ≡ Some found)

-- the characters of a text are put together to the text
abbrev pub CharactersMakeTheText : Type 0
CharactersMakeTheText = (w : Living) (text : Bytes) → word_of w (map PlainWords (characters text)) ≡ text

-- no item comes before the one in front of it
abbrev pub ascend : {X : Type 0} → (X → X → Bool) → List X → Bool
ascend comes_first [] = true
ascend comes_first (x ∷ []) = true
ascend comes_first (x ∷ y ∷ ys) = not (comes_first y x) && ascend comes_first (y ∷ ys)

-- what is sorted ascends, is a permutation of what is kept of the list, and sorted again is itself
pub record IsSort (w : Living) (items : List Plain) : Type 0 where
  pub ascends : ascend (comes_first w) (sorted_items w items) ≡ true
  pub permutes : IsPermutation (sortable w items) (sorted_items w items)
  pub again : sorted_items w (sorted_items w items) ≡ sorted_items w items

abbrev pub SortsPermute : Type 0
SortsPermute = (w : Living) (items : List Plain) → IsSort w items

-- whether a number is one that a range has before its bound: below it where the range climbs, and above it where it falls
abbrev pub IsBefore : ℤ → ℤ → ℤ → Type 0
IsBefore (pos step) bound number = number <ℤ bound
IsBefore (negsuc step) bound number = bound <ℤ number

-- a range goes by steps from its start to before its bound, and one step more would be no longer before it
pub record IsRange (start bound step : ℤ) (numbers : List ℤ) : Type 0 where
  pub steps : (k : ℕ) → k < length numbers → slice_get numbers k ≡ Some (start +ℤ (pos k *ℤ step))
  pub before : (k : ℕ) → k < length numbers → IsBefore step bound (start +ℤ (pos k *ℤ step))
  pub ends : IsBefore step bound (start +ℤ (pos (length numbers) *ℤ step)) → ⊥

abbrev pub RangesEndAtTheBound : Type 0
RangesEndAtTheBound = (start bound step : ℤ) (numbers : List ℤ) → range_by start bound step ≡ Ok numbers → IsRange start bound step numbers
