-- What equality and order mean: laws above the definitions.
use Rattle.std.specs.Prelude.{◌≡◌, ◌+◌, Bool, true, Some, ◌⊎◌, List, [], ◌∷◌, ◌++◌, length, map}
use Rattle.std.specs.declared.cmp.Ordering.{Ordering}
use Rattle.std.specs.declared.cmp.Ordering.TheVariants.{Less, Equal}
use Rattle.std.specs.Option.{option_map, is_some}
use Rattle.std.specs.List.{list_all, sum_by, join_with_byte}
use Rattle.std.specs.List.Sorted.{IsSortedBy, IsStableBy}
use Rattle.std.specs.Ordering.{is_eq, ordering_reverse}
use Rattle.std.specs.Cmp.{IsEquivalence, IsTotalOrder, IsStrictWeakOrder}
use Rattle.std.specs.Cmp.Lexicographic.{pointwise}
use Rattle.nl_value.specs.declared.order.OrderKind.TheVariants.{Unordered}
use Rattle.nl_value.specs.Plain.{Plain, Plains, PlainItems, plains, items_of}
use Rattle.nl_value.specs.Living.{Living, fits, no_life}
use Rattle.nl_value.specs.Equality.{same_values}
use Rattle.nl_value.specs.Measures.{size_of, depth_of, greatest}
use Rattle.nl_value.specs.Order.{compared, order_kind, have_order, value_order}
use Rattle.nl_value.specs.Sorting.{sorted_by}
use Rattle.nl_value.specs.Text.{text_of, open_bracket, space, close_bracket}

-- in every world each value is the same as itself, and values that are the same are so with the same values
abbrev pub EqualityIsAnEquivalence : Type 0
EqualityIsAnEquivalence = (w : Living) → IsEquivalence (same_values w)

-- the order of a world: two values have one exactly where they are two numbers, two texts, two patches, two living turtles or
-- two living links; they compare both ways round or not at all, so that of two values that have an order one comes first or
-- neither does; what comes before another comes before all that the other comes before; and neither comes first exactly where
-- the values are the same
pub record IsOrdered (w : Living) : Type 0 where
  pub some : (a b : Plain) → is_some (compared w a b) ≡ have_order (order_kind w a) (order_kind w b)
  pub turned : (a b : Plain) → compared w a b ≡ option_map ordering_reverse (compared w b a)
  pub transitive : (a b c : Plain) → compared w a b ≡ Some Less → compared w b c ≡ Some Less → compared w a c ≡ Some Less
  pub agrees : (a b : Plain) (r : Ordering) → compared w a b ≡ Some r → same_values w a b ≡ is_eq r

abbrev pub OrderIsTotal : Type 0
OrderIsTotal = (w : Living) → IsOrdered w

-- the order of all values, for sorts: any two compare; it is the language's order where that has an answer; and it tells two
-- values apart except where neither comes first in the language's order, which is where they are the same, or both are values
-- that have no order
pub record IsOrderOfAll (w : Living) : Type 0 where
  pub total : IsTotalOrder (value_order w)
  pub agrees : (a b : Plain) (r : Ordering) → compared w a b ≡ Some r → value_order w a b ≡ r
  pub tied : (a b : Plain) → value_order w a b ≡ Equal → (compared w a b ≡ Some Equal) ⊎ ((order_kind w a ≡ Unordered) × (order_kind w b ≡ Unordered))
  pub unordered : (a b : Plain) → order_kind w a ≡ Unordered → order_kind w b ≡ Unordered → value_order w a b ≡ Equal

abbrev pub AllValuesHaveAnOrder : Type 0
AllValuesHaveAnOrder = (w : Living) → IsOrderOfAll w

-- sorting by a test of which item comes first, where any two items compare: `sorted_by` gives a sorted list of the same length
-- with its ties in place, and each such list is it
pub record IsSorting {X : Type 0} (comes_first : X → X → Bool) : Type 0 where
  pub sorted : (xs : List X) → IsSortedBy comes_first (sorted_by comes_first xs)
  pub stable : (xs : List X) → IsStableBy comes_first xs (sorted_by comes_first xs)
  pub long : (xs : List X) → length (sorted_by comes_first xs) ≡ length xs
  pub only : (xs ys : List X) → IsSortedBy comes_first ys → IsStableBy comes_first xs ys → ys ≡ sorted_by comes_first xs

abbrev pub SortingIsAFunction : Type 0 → Type 0
SortingIsAFunction X = (comes_first : X → X → Bool) → IsStrictWeakOrder comes_first → IsSorting comes_first

-- a list as a value, by its items
pub record IsListed (w : Living) : Type 0 where
  pub back : (ps : List Plain) → items_of (plains ps) ≡ ps
  pub forth : (items : Plains) → plains (items_of items) ≡ items
  pub size : (ps : List Plain) → size_of (PlainItems (plains ps)) ≡ 1 + sum_by size_of ps
  pub depth : (ps : List Plain) → depth_of (PlainItems (plains ps)) ≡ 1 + greatest (map depth_of ps)
  pub fit : (ps : List Plain) → fits w (PlainItems (plains ps)) ≡ list_all (fits w) ps
  pub same : (ps qs : List Plain) → same_values w (PlainItems (plains ps)) (PlainItems (plains qs)) ≡ pointwise (same_values w) ps qs
  pub text : (quoted : Bool) (ps : List Plain) → text_of w quoted (PlainItems (plains ps)) ≡ open_bracket ∷ (join_with_byte space (map (text_of w true) ps) ++ close_bracket ∷ [])

abbrev pub ListsAreTheirItems : Type 0
ListsAreTheirItems = (w : Living) → IsListed w

-- every value fits the world in which nothing lives
abbrev pub EveryValueFitsNoLife : Type 0
EveryValueFitsNoLife = (p : Plain) → fits no_life p ≡ true
