-- How two values compare, and which of them comes first.
use Rattle.std.specs.Prelude.{ℕ, ℤ, pos, Bool, true, false, ◌&&◌, if◌then◌else◌, Option, Some, None, [], ◌∷◌}
use Rattle.std.specs.declared.cmp.Ordering.{Ordering}
use Rattle.std.specs.Option.{option_map}
use Rattle.std.specs.Ordering.{nat_cmp, int_cmp, is_lt, ordering_then}
use Rattle.std.specs.Cmp.Lexicographic.{slice_cmp}
use Rattle.nl_value.specs.declared.order.OrderKind.{OrderKind}
use Rattle.nl_value.specs.declared.order.OrderKind.TheVariants.{Numbers, Texts, Turtles, Patches, Links, Unordered}
use Rattle.nl_value.specs.Nouns.{Key}
use Rattle.nl_value.specs.Plain.{Plain, PlainNumber, PlainWords, PlainTurtle, PlainPatch, PlainLink}
use Rattle.nl_value.specs.Living.{Living, link_key}

-- ---- the order of the language, which only some pairs of values have

-- numbers compare, texts by their bytes, and two living agents of one kind: turtles and patches by their numbers, links by
-- their ends, breeds and numbers; no other values have an order
abbrev pub compared : Living → Plain → Plain → Option Ordering
compared w (PlainNumber m) (PlainNumber n) = Some (int_cmp m n)
compared w (PlainWords m) (PlainWords n) = Some (slice_cmp nat_cmp m n)
compared w (PlainTurtle m) (PlainTurtle n) = if w.turtle_lives m && w.turtle_lives n then Some (nat_cmp m n) else None
compared w (PlainPatch m) (PlainPatch n) = Some (nat_cmp m n)
compared w (PlainLink m) (PlainLink n) = if w.link_lives m && w.link_lives n then Some (slice_cmp nat_cmp (link_key w m) (link_key w n)) else None
compared w a b = None

-- whether the first value comes before the second, where they have an order
abbrev pub comes_before : Living → Plain → Plain → Option Bool
comes_before w a b = option_map is_lt (compared w a b)

-- the values with which a value has an order
abbrev pub order_kind : Living → Plain → OrderKind
order_kind w (PlainNumber count) = Numbers
order_kind w (PlainWords bytes) = Texts
order_kind w (PlainTurtle turtle) = if w.turtle_lives turtle then Turtles else Unordered
order_kind w (PlainPatch patch) = Patches
order_kind w (PlainLink link) = if w.link_lives link then Links else Unordered
order_kind w value = Unordered

-- two values have an order where they are of one kind that has one
abbrev pub have_order : OrderKind → OrderKind → Bool
have_order Unordered b = false
have_order Numbers Numbers = true
have_order Texts Texts = true
have_order Turtles Turtles = true
have_order Patches Patches = true
have_order Links Links = true
have_order a b = false

-- ---- an order of all values, for sorts

abbrev pub rank : OrderKind → ℕ
rank Numbers = 0
rank Texts = 1
rank Turtles = 2
rank Patches = 3
rank Links = 4
rank Unordered = 5

-- where a value stands among those of its kind: by its number, or by this key; values that have no order all stand together
abbrev pub count_of : Plain → ℤ
count_of (PlainNumber count) = count
count_of value = pos 0

abbrev pub key_of : Living → Plain → Key
key_of w (PlainWords bytes) = bytes
key_of w (PlainTurtle turtle) = if w.turtle_lives turtle then turtle ∷ [] else []
key_of w (PlainPatch patch) = patch ∷ []
key_of w (PlainLink link) = if w.link_lives link then link_key w link else []
key_of w value = []

-- first numbers, then texts, living turtles, patches, living links and all other values; those of one kind in the order that
-- they have
abbrev pub value_order : Living → Plain → Plain → Ordering
value_order w a b =
    ordering_then (nat_cmp (rank (order_kind w a)) (rank (order_kind w b)))
    (ordering_then (int_cmp (count_of a) (count_of b)) (slice_cmp nat_cmp (key_of w a) (key_of w b)))

abbrev pub comes_first : Living → Plain → Plain → Bool
comes_first w a b = is_lt (value_order w a b)
