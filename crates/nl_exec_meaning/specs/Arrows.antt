-- Words whose block is run or evaluated in turns, by the agent that runs the word: `foreach`, `map` and their kin.
--
-- What the words do is the NetLogo Dictionary's. That a turn costs a unit, the order of turns, and the errors and their order are this project's
-- own choice: the inputs come from left to right, then their kinds, then what the word tells of them, and then the turns.
use Rattle.std.specs.Prelude.{ℕ, zero, suc, ◌+◌, ◌*◌, ◌-◌, ◌==◌, pos, int_lt, nat_lt, Bool, true, false, List, [], ◌∷◌, ◌++◌, map, length, take, drop, Option, Some, None, if◌then◌else◌}
use Rattle.std.specs.List.{list_all}
use Rattle.nl_fixed.specs.Nouns.{Names}
use Rattle.nl_fixed.specs.declared.span.Span.{Span}
use Rattle.nl_value.specs.Plain.{Plain, PlainNumber, PlainTruth, PlainItems, PlainNobody, PlainSet, plains, items_of}
use Rattle.nl_value.specs.Limits.{within_limits}
use Rattle.nl_value.specs.Sorting.{sorted_by}
use Rattle.nl_birth.specs.Births.{count_of}
use Rattle.nl_tree.specs.declared.tree.Label.{Label}
use Rattle.nl_tree.specs.declared.tree.Label.TheVariants as labels
use Rattle.nl_tree.specs.Tree.{Node, label, span, parts}
use Rattle.nl_agents.specs.World.{Rest}
use Rattle.nl_exec_acts.specs.Acts.{members_in_order}
use Rattle.nl_exec_acts.specs.declared.fail.ErrorKind.TheVariants.{WrongType, OutOfList, TooFew, Domain, TooLarge}
use Rattle.nl_exec_meaning.specs.declared.words.Arrow.{Arrow}
use Rattle.nl_exec_meaning.specs.declared.words.Arrow.TheVariants as arrow
use Rattle.nl_exec_meaning.specs.State.{State, Exit, Outcome, Eval, Gives, Stopped, Reported, Left, Budget, Error, ends, gives, goes_on, fails, found, choose, spend, with_part, with_number, with_locals, rest_of, ◌>>=◌}
use Rattle.nl_exec_meaning.specs.Blocks.{cut_to, values}
use Rattle.nl_exec_meaning.specs.Calls.{bound}

-- ---- a turn

-- the names that the head of a block has for the values of a turn
abbrev pub head_at : Label → Names
head_at (labels.Arrow names) = names
head_at other = []

abbrev pub head_of : Node → Names
head_of block = head_at (label block)

-- a turn's locals are known to its end; an end of the whole text leaves all as it stands
abbrev pub after_turn_by : Exit → ℕ → State → (Plain → State → Outcome) → Outcome
after_turn_by (Gives value) kept s next = next value (cut_to kept s)
after_turn_by Stopped kept s next = ends Stopped (cut_to kept s)
after_turn_by (Reported value) kept s next = ends (Reported value) (cut_to kept s)
after_turn_by Left kept s next = ends Left (cut_to kept s)
after_turn_by Budget kept s next = ends Budget s
after_turn_by (Error kind place body) kept s next = ends (Error kind place body) s

abbrev pub after_turn : ℕ → Outcome → (Plain → State → Outcome) → Outcome
after_turn kept o next = after_turn_by o.exit kept o.state next

-- the first values have the names of the head, behind the locals that there are
abbrev pub with_values : Names → List Plain → State → State
with_values names given s = with_locals (s.locals ++ bound names given) s

-- a turn: a unit, and then the block, which is the part at an index, with these values
abbrev pub turn_with : Eval → Node → ℕ → List Plain → State → (Plain → State → Outcome) → Outcome
turn_with prev t index given s next =
    with_part t index (span t) s (λ block. spend s (λ s1.
    after_turn (length s1.locals) (prev block (with_values (head_of block) given s1)) next))

-- Turns one after another: which values each of them has, by what was made before it, and what its own value makes of that, unless it is of the wrong
-- kind.
abbrev pub all_turns : {X A : Type 0} → Eval → Node → ℕ → (A → X → List Plain) → (A → X → Plain → Option A) → List X → A → State → (A → State → Outcome) → Outcome
all_turns prev t index given make [] made s next = next made s
all_turns prev t index given make (x ∷ xs) made s next =
    turn_with prev t index (given made x) s (λ value s1.
    found (make made x value) WrongType (span t) s1 (λ more. all_turns prev t index given make xs more s1 next))

-- ---- lists that are gone through side by side

abbrev pub list_in : Plain → Option (List Plain)
list_in (PlainItems items) = Some (items_of items)
list_in value = None

abbrev pub first_list : Option (List Plain) → Option (List (List Plain)) → Option (List (List Plain))
first_list (Some xs) (Some others) = Some (xs ∷ others)
first_list xs others = None

-- all of them are lists
abbrev pub lists_in : List Plain → Option (List (List Plain))
lists_in [] = Some []
lists_in (value ∷ others) = first_list (list_in value) (lists_in others)

abbrev pub first_length : List (List Plain) → ℕ
first_length [] = 0
first_length (xs ∷ others) = length xs

abbrev pub are_as_long : List (List Plain) → Bool
are_as_long lists = list_all (λ xs. length xs == first_length lists) lists

-- the item of each list at a place
abbrev pub column : List (List Plain) → ℕ → List Plain
column [] at = []
column (xs ∷ others) at = take 1 (drop at xs) ++ column others at

-- so many places from one on
abbrev pub places : ℕ → ℕ → List ℕ
places at zero = []
places at (suc left) = at ∷ places (at + 1) left

-- the lists that the values are, of one length
abbrev pub with_lists : List Plain → Span → State → (List (List Plain) → Outcome) → Outcome
with_lists made place s next =
    found (lists_in made) WrongType place s (λ lists. choose (are_as_long lists) (next lists) (fails OutOfList place s))

-- ---- what turns make

-- A list that passes the limits on values isn't kept: it stays past them, whatever is put behind it.
abbrev pub kept_within : List Plain → Option (List Plain)
kept_within made = if within_limits (PlainItems (plains made)) then Some made else None

abbrev pub kept_with : Option (List Plain) → Plain → Option (List Plain)
kept_with None value = None
kept_with (Some made) value = kept_within (made ++ value ∷ [])

abbrev pub gives_kept : Option (List Plain) → Span → State → Outcome
gives_kept (Some made) place s = gives (PlainItems (plains made)) s
gives_kept None place s = fails TooLarge place s

abbrev pub gives_list : List Plain → State → Outcome
gives_list made s = gives (PlainItems (plains made)) s

-- the value of a turn is kept
abbrev pub keep : {X : Type 0} → Option (List Plain) → X → Plain → Option (Option (List Plain))
keep made x value = Some (kept_with made value)

-- ---- the words of lists

-- the lists are all parts but the last one, which is the block
abbrev pub foreach_case : Eval → Node → State → Outcome
foreach_case prev t s =
    let last = length (parts t) - 1 in
    values prev (take last (parts t)) [] s (λ made s1. with_lists made (span t) s1 (λ lists.
    all_turns prev t last (λ none at. column lists at) (λ none at value. Some none) (places 0 (first_length lists)) PlainNobody s1 (λ none s2. goes_on s2)))

-- the block is the first part
abbrev pub map_case : Eval → Node → State → Outcome
map_case prev t s =
    values prev (drop 1 (parts t)) [] s (λ made s1. with_lists made (span t) s1 (λ lists.
    all_turns prev t 0 (λ more at. column lists at) keep (places 0 (first_length lists)) (Some []) s1 (λ more s2. gives_kept more (span t) s2)))

-- the value of the second part, behind the block
abbrev pub second_value : Eval → Node → State → (Plain → State → Outcome) → Outcome
second_value prev t s next = with_part t 1 (span t) s (λ part. prev part s >>= next)

-- a turn's value has to be a truth: where it is true the item is kept
abbrev pub keep_true : List Plain → Plain → Plain → Option (List Plain)
keep_true made item (PlainTruth true) = Some (made ++ item ∷ [])
keep_true made item (PlainTruth false) = Some made
keep_true made item value = None

abbrev pub filter_case : Eval → Node → State → Outcome
filter_case prev t s =
    second_value prev t s (λ value s1. found (list_in value) WrongType (span t) s1 (λ items.
    all_turns prev t 0 (λ made item. item ∷ []) keep_true items [] s1 (λ made s2. gives_list made s2)))

-- each turn has what the one before gave, and the next item
abbrev pub reduced : Eval → Node → List Plain → State → Outcome
reduced prev t [] s = fails TooFew (span t) s
reduced prev t (first ∷ items) s =
    all_turns prev t 0 (λ made item. made ∷ item ∷ []) (λ made item value. Some value) items first s (λ made s1. gives made s1)

abbrev pub reduce_case : Eval → Node → State → Outcome
reduce_case prev t s = second_value prev t s (λ value s1. found (list_in value) WrongType (span t) s1 (λ items. reduced prev t items s1))

-- ---- numbers from 0 on

abbrev pub place_number : ℕ → Plain
place_number at = PlainNumber (pos (at * 1_000_000))

-- so many turns as the whole part of the number says
abbrev pub n_values_case : Eval → Node → State → Outcome
n_values_case prev t s =
    with_part t 0 (span t) s (λ part. prev part s >>= λ value s1. with_number value (span t) s1 (λ number.
    choose (int_lt number (pos 0)) (fails Domain (span t) s1)
    (all_turns prev t 1 (λ made at. place_number at ∷ []) keep (places 0 (count_of number)) (Some []) s1 (λ made s2. gives_kept made (span t) s2))))

-- ---- an order by a test of pairs

-- a list, or the living members of a set in their order
abbrev pub in_order : Rest → Plain → Option (List Plain)
in_order r (PlainItems items) = Some (items_of items)
in_order r (PlainSet set) = Some (members_in_order r set)
in_order r value = None

-- whether the first item comes before the second, which stands at the place
pub record Pair : Type 0 where
  pub first : Plain
  pub second : Plain
  pub place : ℕ

-- an item beside each other one, in the order of these
abbrev pub pairs_of : ℕ → Plain → ℕ → List Plain → List Pair
pairs_of place item at [] = []
pairs_of place item at (other ∷ others) =
    if at == place then pairs_of place item (at + 1) others
    else record { first = other; second = item; place = place } ∷ pairs_of place item (at + 1) others

abbrev pub pairs_from : List Plain → ℕ → List Plain → List Pair
pairs_from items place [] = []
pairs_from items place (item ∷ rest) = pairs_of place item 0 items ++ pairs_from items (place + 1) rest

-- the pairs of each item with all others, item by item
abbrev pub pairs : List Plain → List Pair
pairs items = pairs_from items 0 items

-- how many others come before the item at a place: one more
abbrev pub raised : ℕ → List ℕ → List ℕ
raised place [] = []
raised zero (n ∷ ns) = suc n ∷ ns
raised (suc place) (n ∷ ns) = n ∷ raised place ns

abbrev pub raise_true : List ℕ → Pair → Plain → Option (List ℕ)
raise_true ranks pair (PlainTruth true) = Some (raised pair.place ranks)
raise_true ranks pair (PlainTruth false) = Some ranks
raise_true ranks pair value = None

-- an item and how many others come before it
pub record Ranked : Type 0 where
  pub value : Plain
  pub rank : ℕ

abbrev pub ranked : List Plain → List ℕ → List Ranked
ranked [] ranks = []
ranked (item ∷ items) [] = []
ranked (item ∷ items) (rank ∷ ranks) = record { value = item; rank = rank } ∷ ranked items ranks

-- those that fewer come before stand first; where as many do they stay in place
abbrev pub by_rank : List Plain → List ℕ → List Plain
by_rank items ranks = map (λ a. a.value) (sorted_by (λ a b. nat_lt a.rank b.rank) (ranked items ranks))

abbrev pub sort_by_case : Eval → Node → State → Outcome
sort_by_case prev t s =
    second_value prev t s (λ value s1. found (in_order (rest_of s1) value) WrongType (span t) s1 (λ items.
    all_turns prev t 0 (λ ranks pair. pair.first ∷ pair.second ∷ []) raise_true (pairs items) (map (λ item. 0) items) s1
    (λ ranks s2. gives_list (by_rank items ranks) s2)))

abbrev pub arrow_case : Arrow → Eval → Node → State → Outcome
arrow_case arrow.ForEach prev t s = foreach_case prev t s
arrow_case arrow.Map prev t s = map_case prev t s
arrow_case arrow.Filter prev t s = filter_case prev t s
arrow_case arrow.Reduce prev t s = reduce_case prev t s
arrow_case arrow.SortBy prev t s = sort_by_case prev t s
arrow_case arrow.NValues prev t s = n_values_case prev t s
