-- What `sort` keeps of a list, and its order.
use Rattle.std.specs.Prelude.{Bool, true, false, Option, Some, None, if◌then◌else◌, List, [], ◌∷◌, filter}
use Rattle.std.specs.List.{list_any, filter_map}
use Rattle.nl_value.specs.declared.order.OrderKind.{OrderKind}
use Rattle.nl_value.specs.declared.order.OrderKind.TheVariants.{Numbers, Texts, Turtles, Patches, Links, Unordered}
use Rattle.nl_value.specs.Plain.{Plain}
use Rattle.nl_value.specs.Living.{Living}
use Rattle.nl_value.specs.Order.{order_kind, have_order, comes_first}
use Rattle.nl_value.specs.Sorting.{sorted_by}

-- values of the kind have an order with this one
abbrev pub is_of : Living → OrderKind → Plain → Bool
is_of w kind value = have_order kind (order_kind w value)

-- a living agent
abbrev pub is_agent_kind : OrderKind → Bool
is_agent_kind Turtles = true
is_agent_kind Patches = true
is_agent_kind Links = true
is_agent_kind Numbers = false
is_agent_kind Texts = false
is_agent_kind Unordered = false

abbrev pub agent_kind : Living → Plain → Option OrderKind
agent_kind w value = if is_agent_kind (order_kind w value) then Some (order_kind w value) else None

-- the first of the kinds, or none
abbrev pub first_kind : List OrderKind → OrderKind
first_kind [] = Unordered
first_kind (kind ∷ kinds) = kind

-- which values are sorted: the numbers where there are any, else the texts, else the agents of the first living one's kind
abbrev pub sorted_kind : Living → List Plain → OrderKind
sorted_kind w items =
    if list_any (is_of w Numbers) items then Numbers
    else (if list_any (is_of w Texts) items then Texts
    else first_kind (filter_map (agent_kind w) items))

-- those alone are kept, in their order; of a list that has none nothing is
abbrev pub sortable : Living → List Plain → List Plain
sortable w items = filter (is_of w (sorted_kind w items)) items

-- `sort`: ascending, what is equal in the order stays in place
abbrev pub sorted_items : Living → List Plain → List Plain
sorted_items w items = sorted_by (comes_first w) (sortable w items)
