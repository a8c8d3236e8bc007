-- Laws of what words with arrow blocks give, whatever their inputs and blocks do meanwhile.
use Rattle.std.specs.Prelude.{◌≡◌, ℕ, ◌≤◌, Bool, true, false, List, [], ◌∷◌, length, IsPermutation}
use Rattle.nl_value.specs.Plain.{Plain, PlainTruth, PlainItems, plains}
use Rattle.nl_value.specs.Sorting.{sorted_by}
use Rattle.nl_tree.specs.Tree.{Node, parts}
use Rattle.nl_exec_meaning.specs.State.{State, Outcome, Eval, Gives, gives}
use Rattle.nl_exec_meaning.specs.Arrows.{head_of, with_values, turn_with, map_case, filter_case, sort_by_case}

-- the outcome is a list of which this holds, if it is a value
abbrev pub GivesList : Outcome → (List Plain → Type 0) → Type 0
GivesList o P = (value : Plain) → o.exit ≡ Gives value → (made : List Plain) × (value ≡ PlainItems (plains made)) × P made

-- the word has two parts, and the second of them, which isn't the block, has these items
abbrev pub HasItems : Eval → Node → State → List Plain → Type 0
HasItems prev t s items = (block list : Node) × (s1 : State) × (parts t ≡ block ∷ list ∷ []) × (prev list s ≡ gives (PlainItems (plains items)) s1)

-- `map` over one list gives a list as long
abbrev pub MapsAreAsLong : Type 0
MapsAreAsLong = (prev : Eval) (t : Node) (s : State) (items : List Plain) →
    HasItems prev t s items → GivesList (map_case prev t s) (λ made. length made ≡ length items)

-- some of the items, in their order
pub data SomeOf : List Plain → List Plain → Type 0 where
  none_of : SomeOf [] []
  taken : {x : Plain} {xs ys : List Plain} → SomeOf xs ys → SomeOf (x ∷ xs) (x ∷ ys)
  passed : {y : Plain} {xs ys : List Plain} → SomeOf xs ys → SomeOf xs (y ∷ ys)

-- `filter` gives some of the items, in their order
abbrev pub FiltersSelect : Type 0
FiltersSelect = (prev : Eval) (t : Node) (s : State) (items : List Plain) →
    HasItems prev t s items → GivesList (filter_case prev t s) (λ made. SomeOf made items)

-- `sort-by` gives just the items of its list
abbrev pub SortsPermute : Type 0
SortsPermute = (prev : Eval) (t : Node) (s : State) (items : List Plain) →
    HasItems prev t s items → GivesList (sort_by_case prev t s) (λ made. IsPermutation items made)

-- An order in which values may be as high as others: what comes before one of two values that are as high comes before the other.
pub record IsOrder (before : Plain → Plain → Bool) : Type 0 where
  pub not_itself : (a : Plain) → before a a ≡ false
  pub transitive : (a b c : Plain) → before a b ≡ true → before b c ≡ true → before a c ≡ true
  pub level : (a b c : Plain) → before a b ≡ false → before b c ≡ false → before a c ≡ false

-- Whenever the block of a word has a value in a turn with two values, it says whether the first comes before the second.
abbrev pub TurnsSay : Eval → Node → (Plain → Plain → Bool) → Type 0
TurnsSay prev t before = (block list : Node) (a b value : Plain) (s : State) → parts t ≡ block ∷ list ∷ [] →
    (prev block (with_values (head_of block) (a ∷ b ∷ []) s)).exit ≡ Gives value → value ≡ PlainTruth (before a b)

-- where the turns tell an order, `sort-by` gives its items in that order, and items that are as high stay in place
abbrev pub SortsFollowAnOrder : Type 0
SortsFollowAnOrder = (prev : Eval) (t : Node) (s : State) (items : List Plain) (before : Plain → Plain → Bool) →
    IsOrder before → TurnsSay prev t before → HasItems prev t s items → GivesList (sort_by_case prev t s) (λ made. made ≡ sorted_by before items)

-- no name of a turn is known behind it: a turn that has a value leaves no more locals than there were
abbrev pub TurnsAreForgotten : Type 0
TurnsAreForgotten = (prev : Eval) (t : Node) (index : ℕ) (values : List Plain) (s : State) (value : Plain) →
    let o = turn_with prev t index values s gives in o.exit ≡ Gives value → length o.state.locals ≤ length s.locals
