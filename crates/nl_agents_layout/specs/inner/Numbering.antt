-- The parts of a layout as the code collects them: slots in the order of the names, before they are sorted.
use Rattle.std.specs.Prelude.{ℕ, Bool, true, false, not, if◌then◌else◌, List, [], Option, Some, None, nat_lt}
use Rattle.std.specs.List.{filter_map, flat_map}
use Rattle.nl_fixed.specs.Nouns.{Name, Names}
use Rattle.nl_tree.specs.Term.{Term}
use Rattle.nl_tree.specs.Slots.{global_slot}
use Rattle.nl_tree.specs.declared.declared.Breed.{Breed}
use Rattle.nl_tree.specs.declared.declared.Declared.{Declared}
use Rattle.nl_tree.specs.declared.declared.What.{What}
use Rattle.nl_tree.specs.declared.declared.What.TheVariants as what
use Rattle.nl_agents_layout.specs.Nouns.{Slot}
use Rattle.nl_agents_layout.specs.Layouts.{slot_named}

abbrev pub is_own_what : What → Bool
is_own_what (what.Own n) = true
is_own_what (what.Base code) = false
is_own_what (what.Global n) = false
is_own_what (what.Made n code) = false
is_own_what (what.Procedure n) = false

-- the row is that of a variable of agents
abbrev pub is_own : Term → Bool
is_own t = is_own_what t.what

-- the slots of the names that are variables of agents, in the order of the names
abbrev pub slots_named : Declared → Names → List Slot
slots_named d names = filter_map (slot_named d) names

-- those of what agents of a breed own, where it is one of turtles, or of links
abbrev pub slots_of_breed : Declared → Bool → Breed → List Slot
slots_of_breed d link b = if (if b.link then link else not link) then slots_named d b.own else []

abbrev pub slots_of_breeds : Declared → Bool → List Breed → List Slot
slots_of_breeds d link breeds = flat_map (slots_of_breed d link) breeds

-- the slot, where it is below the bound
abbrev pub below : ℕ → Option Slot → Option Slot
below bound None = None
below bound (Some slot) = if nat_lt slot bound then Some slot else None

abbrev pub coded_named : Declared → ℕ → Name → Option Slot
coded_named d globals name = below globals (global_slot d name)
