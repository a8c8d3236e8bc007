-- What is true of slots in every model: each variable of agents has a slot of its own, whoever owns it, and a layout tells it.
use Rattle.std.specs.Prelude.{◌≡◌, ℕ, ◌<◌, ◌≤◌, IsTrue, Option, Some, None, All, length, if◌then◌else◌}
use Rattle.nl_fixed.specs.Nouns.{Name}
use Rattle.nl_words.specs.declared.codes.TheConstants.{COLOR, HEADING}
use Rattle.nl_tree.specs.declared.declared.Declared.{Declared}
use Rattle.nl_tree.specs.declared.declared.What.{What}
use Rattle.nl_tree.specs.declared.declared.What.TheVariants as what
use Rattle.nl_tree.specs.Names.{IsDeclared}
use Rattle.nl_tree.specs.Slots.{is_global_what, global_slot}
use Rattle.nl_tree.specs.Vocabulary.{among, global_names, owned_names, what_named}
use Rattle.nl_agents_layout.specs.Nouns.{Slot, Slots, BreedNumber}
use Rattle.nl_agents_layout.specs.BuiltIn.{built_in_count, color_slot, heading_slot}
use Rattle.nl_agents_layout.specs.Layouts.{has_slot, slots_count, slot_of_what, slot_by, layout_of, turtle_owns, link_owns, is_turtle_breed, is_link_breed}
use Rattle.nl_agents_layout.specs.declared.layout.Layout.{Layout}

-- the slot of a variable of agents; those of global variables are counted apart
abbrev pub agents_slot : Declared → What → Option Slot
agents_slot d it = if is_global_what it then None else slot_of_what d it

-- the word of this name is a variable of agents with a slot that no built-in variable has
abbrev pub HasSlotOfItsOwn : Declared → Name → Type 0
HasSlotOfItsOwn d name =
    (it : What) × (slot : Slot)
    × ((what_named d name ≡ Some it) × (agents_slot d it ≡ Some slot) × (built_in_count ≤ slot) × (slot < slots_count d))

-- each variable of agents that a model declares has a slot
abbrev pub OwnedHaveSlots : Type 0
OwnedHaveSlots = (d : Declared) (name : Name) → IsDeclared d → IsTrue (among name (owned_names d)) → HasSlotOfItsOwn d name

-- two names with one slot are one name
abbrev pub SlotsAreApart : Type 0
SlotsAreApart =
    (d : Declared) (name other : Name) (it that : What) (slot : Slot)
    → what_named d name ≡ Some it → what_named d other ≡ Some that
    → agents_slot d it ≡ Some slot → agents_slot d that ≡ Some slot → name ≡ other

-- a word that is a global variable has the slot that a program tells of its name
abbrev pub GlobalsKeepTheirSlots : Type 0
GlobalsKeepTheirSlots =
    (d : Declared) (name : Name) (it : What) → what_named d name ≡ Some it → IsTrue (is_global_what it) → slot_of_what d it ≡ global_slot d name

-- the layout of a model tells the slot of each word
abbrev pub LayoutsTellSlots : Type 0
LayoutsTellSlots = (d : Declared) (it : What) → slot_by (layout_of d) it ≡ slot_of_what d it

-- in every layout `color` and `heading` have the first two slots
abbrev pub ColorAndHeadingAreFirst : Type 0
ColorAndHeadingAreFirst =
    (layout : Layout) → (slot_by layout (what.Base COLOR) ≡ Some color_slot) × (slot_by layout (what.Base HEADING) ≡ Some heading_slot)

abbrev AreBelow : ℕ → Slots → Type 0
AreBelow bound slots = All (λ slot. slot < bound) slots

-- the slots that a model's layout lists are below their count, those of global variables below the count of these
abbrev pub SlotsAreBelow : Type 0
SlotsAreBelow =
    (d : Declared)
    → AreBelow (slots_count d) (layout_of d).every_turtle
    × AreBelow (slots_count d) (layout_of d).every_patch
    × AreBelow (slots_count d) (layout_of d).every_link
    × AreBelow (slots_count d) (layout_of d).some_turtle
    × AreBelow (slots_count d) (layout_of d).some_link
    × AreBelow (length (global_names d)) (layout_of d).coded

-- what a turtle, or a link, owns is among what some own
abbrev pub OwnersAreSome : Type 0
OwnersAreSome =
    (d : Declared) (breed : BreedNumber) (slot : Slot)
    → (IsTrue (is_turtle_breed (layout_of d) breed) → IsTrue (turtle_owns (layout_of d) breed slot) → IsTrue (has_slot (layout_of d).some_turtle slot))
    × (IsTrue (is_link_breed (layout_of d) breed) → IsTrue (link_owns (layout_of d) breed slot) → IsTrue (has_slot (layout_of d).some_link slot))
