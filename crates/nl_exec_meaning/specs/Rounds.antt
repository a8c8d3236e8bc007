-- What is left of a word with an arrow block: of its inputs, and of its turns. Frames are said by it.
use Rattle.std.specs.Prelude.{◌≡◌, ℕ, ◌+◌, ◌-◌, ◌<◌, ◌≤◌, ◌==◌, nat_lt, nat_le, int_lt, pos, Bool, true, false, IsTrue, not, List, [], ◌∷◌, ◌++◌, map, length, take, drop, Option, Some, None, if◌then◌else◌}
use Rattle.std.specs.List.{list_all}
use Rattle.nl_fixed.specs.Numbers.{whole_limit}
use Rattle.nl_value.specs.Plain.{Plain, PlainTruth, PlainItems, PlainNobody, plains, items_of}
use Rattle.nl_value.specs.Limits.{within_limits}
use Rattle.nl_birth.specs.Births.{count_of}
use Rattle.nl_tree.specs.Tree.{Node, span, parts}
use Rattle.nl_exec_acts.specs.declared.fail.ErrorKind.TheVariants.{WrongType, Domain}
use Rattle.nl_exec_meaning.specs.declared.words.Arrow.{Arrow}
use Rattle.nl_exec_meaning.specs.declared.words.Arrow.TheVariants as arrow
use Rattle.nl_exec_meaning.specs.declared.rounds.Rounds.{Rounds}
use Rattle.nl_exec_meaning.specs.State.{State, Outcome, Eval, gives, goes_on, fails, found, choose, with_part, with_number, rest_of}
use Rattle.nl_exec_meaning.specs.Blocks.{values}
use Rattle.nl_exec_meaning.specs.Arrows.{head_of, after_turn, with_values, all_turns, list_in, with_lists, first_length, column, places, kept_with, gives_kept, gives_list, keep, keep_true, reduced, place_number, in_order, Pair, pairs, pairs_of, pairs_from, raised, raise_true, by_rank}

-- ---- inputs

-- the place behind the last part that is an input, of so many parts
abbrev pub inputs_end : Arrow → ℕ → ℕ
inputs_end arrow.ForEach many = many - 1
inputs_end arrow.Map many = many
inputs_end arrow.Filter many = 2
inputs_end arrow.Reduce many = 2
inputs_end arrow.SortBy many = 2
inputs_end arrow.NValues many = 1

abbrev pub inputs_in : Arrow → List Node → List Node
inputs_in word ts = take (inputs_end word (length ts)) ts

-- the first of them
abbrev pub first_input : Arrow → ℕ
first_input arrow.ForEach = 0
first_input arrow.Map = 1
first_input arrow.Filter = 1
first_input arrow.Reduce = 1
first_input arrow.SortBy = 1
first_input arrow.NValues = 0

-- the value of a word that takes one
abbrev pub one_of : List Plain → Option Plain
one_of (value ∷ []) = Some value
one_of made = None

-- what a word makes of its inputs
abbrev pub begun : Arrow → Eval → Node → List Plain → State → Outcome
begun arrow.ForEach prev t made s = with_lists made (span t) s (λ lists.
    all_turns prev t (length (parts t) - 1) (λ none at. column lists at) (λ none at value. Some none) (places 0 (first_length lists)) PlainNobody s (λ none s1. goes_on s1))
begun arrow.Map prev t made s = with_lists made (span t) s (λ lists.
    all_turns prev t 0 (λ more at. column lists at) keep (places 0 (first_length lists)) (Some []) s (λ more s1. gives_kept more (span t) s1))
begun arrow.Filter prev t made s =
    found (one_of made) WrongType (span t) s (λ value. found (list_in value) WrongType (span t) s (λ items.
    all_turns prev t 0 (λ kept item. item ∷ []) keep_true items [] s (λ kept s1. gives_list kept s1)))
begun arrow.Reduce prev t made s =
    found (one_of made) WrongType (span t) s (λ value. found (list_in value) WrongType (span t) s (λ items. reduced prev t items s))
begun arrow.SortBy prev t made s =
    found (one_of made) WrongType (span t) s (λ value. found (in_order (rest_of s) value) WrongType (span t) s (λ items.
    all_turns prev t 0 (λ ranks pair. pair.first ∷ pair.second ∷ []) raise_true (pairs items) (map (λ item. 0) items) s
    (λ ranks s1. gives_list (by_rank items ranks) s1)))
begun arrow.NValues prev t made s =
    found (one_of made) WrongType (span t) s (λ value. with_number value (span t) s (λ number.
    choose (int_lt number (pos 0)) (fails Domain (span t) s)
    (all_turns prev t 1 (λ kept at. place_number at ∷ []) keep (places 0 (count_of number)) (Some []) s (λ kept s1. gives_kept kept (span t) s1))))

-- the inputs from a part on, behind the values that were made, and what the word makes of them
abbrev pub inputs_from : Arrow → Eval → Node → ℕ → List Plain → State → Outcome
inputs_from word prev t at made s = values prev (drop at (inputs_in word (parts t))) made s (λ all s1. begun word prev t all s1)

-- ---- turns

abbrev pub listed : Plain → List Plain
listed (PlainItems items) = items_of items
listed value = []

-- the lists that values are
abbrev pub lists_of : List Plain → List (List Plain)
lists_of values = map listed values

-- what was made so far, unless it passed the limits
abbrev pub unless_past : Bool → List Plain → Option (List Plain)
unless_past true made = None
unless_past false made = Some made

abbrev pub so_far : Rounds → Option (List Plain)
so_far r = unless_past r.past r.made

abbrev pub first_of : List Plain → Plain
first_of [] = PlainNobody
first_of (value ∷ values) = value

-- the items of the one list that turns go over
abbrev pub items_in : Rounds → List Plain
items_in r = listed (first_of r.over)

-- the pairs that are left of an item, from the other one at a place on, and all those of the items behind it
abbrev pub pairs_by : List Plain → ℕ → ℕ → List Plain → List Pair
pairs_by items place at [] = []
pairs_by items place at (item ∷ rest) = pairs_of place item at (drop at items) ++ pairs_from items (place + 1) rest

abbrev pub pairs_left : List Plain → ℕ → ℕ → List Pair
pairs_left items place at = pairs_by items place at (drop place items)

-- the turns that are left
abbrev pub turns_left : Arrow → Eval → Node → ℕ → Rounds → State → Outcome
turns_left arrow.ForEach prev t index r s =
    all_turns prev t index (λ none at. column (lists_of r.over) at) (λ none at value. Some none) (places r.at (r.many - r.at)) PlainNobody s (λ none s1. goes_on s1)
turns_left arrow.Map prev t index r s =
    all_turns prev t index (λ more at. column (lists_of r.over) at) keep (places r.at (r.many - r.at)) (so_far r) s (λ more s1. gives_kept more (span t) s1)
turns_left arrow.Filter prev t index r s =
    all_turns prev t index (λ kept item. item ∷ []) keep_true (drop r.at (items_in r)) r.made s (λ kept s1. gives_list kept s1)
turns_left arrow.Reduce prev t index r s =
    all_turns prev t index (λ made item. made ∷ item ∷ []) (λ made item value. Some value) (drop r.at (items_in r)) (first_of r.made) s (λ made s1. gives made s1)
turns_left arrow.SortBy prev t index r s =
    all_turns prev t index (λ ranks pair. pair.first ∷ pair.second ∷ []) raise_true (pairs_left (items_in r) r.place r.at) r.ranks s
    (λ ranks s1. gives_list (by_rank (items_in r) ranks) s1)
turns_left arrow.NValues prev t index r s =
    all_turns prev t index (λ kept at. place_number at ∷ []) keep (places r.at (r.many - r.at)) (so_far r) s (λ kept s1. gives_kept kept (span t) s1)

-- the values of the next turn
abbrev pub given : Arrow → Rounds → List Plain
given arrow.ForEach r = column (lists_of r.over) r.at
given arrow.Map r = column (lists_of r.over) r.at
given arrow.Filter r = take 1 (drop r.at (items_in r))
given arrow.Reduce r = first_of r.made ∷ take 1 (drop r.at (items_in r))
given arrow.SortBy r = take 1 (drop r.at (items_in r)) ++ take 1 (drop r.place (items_in r))
given arrow.NValues r = place_number r.at ∷ []

-- ---- what the end of a turn makes of those that are left

abbrev pub fits_behind : List Plain → Plain → Bool
fits_behind made value = within_limits (PlainItems (plains (made ++ value ∷ [])))

abbrev pub kept_if : Bool → List Plain → Plain → List Plain
kept_if true made value = made ++ value ∷ []
kept_if false made value = []

-- the values that are kept, once there is one more
abbrev pub made_on : Bool → List Plain → Plain → List Plain
made_on true made value = made
made_on false made value = kept_if (fits_behind made value) made value

-- and whether they passed the limits
abbrev pub past_on : Bool → List Plain → Plain → Bool
past_on true made value = true
past_on false made value = not (fits_behind made value)

abbrev pub kept_on : Rounds → Plain → Rounds
kept_on r value = record r { made = made_on r.past r.made value; past = past_on r.past r.made value; at = r.at + 1 }

-- no item stands beside itself
abbrev pub other_than : ℕ → ℕ → ℕ
other_than place at = if at == place then at + 1 else at

-- behind the last of the others comes the next item
abbrev pub settled_place : ℕ → ℕ → ℕ → ℕ
settled_place many place at = if nat_lt at many then place else place + 1

abbrev pub settled_at : ℕ → ℕ → ℕ
settled_at many at = if nat_lt at many then at else 0

-- the pair at two places, or the next one
abbrev pub settled : ℕ → ℕ → Rounds → Rounds
settled place at r = record r { place = settled_place r.many place (other_than place at); at = settled_at r.many (other_than place at) }

abbrev pub next_pair : Rounds → Rounds
next_pair r = settled r.place (r.at + 1) r

abbrev pub kept_item : Rounds → Plain → Option Rounds
kept_item r (PlainTruth true) = Some (record r { made = r.made ++ take 1 (drop r.at (items_in r)); at = r.at + 1 })
kept_item r (PlainTruth false) = Some (record r { at = r.at + 1 })
kept_item r value = None

abbrev pub ranked_on : Rounds → Plain → Option Rounds
ranked_on r (PlainTruth true) = Some (next_pair (record r { ranks = raised r.place r.ranks }))
ranked_on r (PlainTruth false) = Some (next_pair r)
ranked_on r value = None

-- what is left behind a turn with this value, unless it is of the wrong kind
abbrev pub told : Arrow → Rounds → Plain → Option Rounds
told arrow.ForEach r value = Some (record r { at = r.at + 1 })
told arrow.Map r value = Some (kept_on r value)
told arrow.Filter r value = kept_item r value
told arrow.Reduce r value = Some (record r { made = value ∷ []; at = r.at + 1 })
told arrow.SortBy r value = ranked_on r value
told arrow.NValues r value = Some (kept_on r value)

abbrev pub turn_over : Arrow → Eval → Node → ℕ → Rounds → Plain → State → Outcome
turn_over word prev t index r value s = found (told word r value) WrongType (span t) s (λ next. turns_left word prev t index next s)

-- a turn whose unit is spent, and those behind it
abbrev pub turn_begun : Arrow → Eval → Node → ℕ → Rounds → State → Outcome
turn_begun word prev t index r s =
    with_part t index (span t) s (λ block.
    after_turn (length s.locals) (prev block (with_values (head_of block) (given word r) s)) (λ value s1. turn_over word prev t index r value s1))

-- ---- what holds of turns

-- there are as many places as the lists or items that turns go over have
abbrev pub RoundsStand : Arrow → Rounds → Type 0
RoundsStand arrow.ForEach r = IsTrue (list_all (λ xs. length xs == r.many) (lists_of r.over))
RoundsStand arrow.Map r = IsTrue (list_all (λ xs. length xs == r.many) (lists_of r.over))
RoundsStand arrow.Filter r = r.many ≡ length (items_in r)
RoundsStand arrow.Reduce r = r.many ≡ length (items_in r)
RoundsStand arrow.SortBy r = (r.many ≡ length (items_in r)) × (r.place < r.many → (r.at < r.many) × ((r.at == r.place) ≡ false))
RoundsStand arrow.NValues r = r.many ≤ whole_limit

-- no turn is left
abbrev pub is_over : Arrow → Rounds → Bool
is_over arrow.ForEach r = nat_le r.many r.at
is_over arrow.Map r = nat_le r.many r.at
is_over arrow.Filter r = nat_le r.many r.at
is_over arrow.Reduce r = nat_le r.many r.at
is_over arrow.SortBy r = nat_le r.many r.place
is_over arrow.NValues r = nat_le r.many r.at
