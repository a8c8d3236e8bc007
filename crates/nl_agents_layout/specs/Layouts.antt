-- Which variables a model has, and which agents own them.
use Rattle.std.specs.Prelude.{ℕ, zero, suc, ◌+◌, ◌==◌, Bool, true, false, ◌&&◌, ◌||◌, not, if◌then◌else◌, [], Option, Some, None, map, filter, length, nat_lt, slice_get}
use Rattle.std.specs.List.{list_any, range_with_len}
use Rattle.nl_fixed.specs.Nouns.{Name, Names}
use Rattle.nl_words.specs.Kinds.{kinds}
use Rattle.nl_words.specs.declared.entry.Kinds.{Kinds}
use Rattle.nl_tree.specs.declared.declared.Breed.{Breed}
use Rattle.nl_tree.specs.declared.declared.Declared.{Declared}
use Rattle.nl_tree.specs.declared.declared.What.{What}
use Rattle.nl_tree.specs.declared.declared.What.TheVariants as what
use Rattle.nl_tree.specs.Vocabulary.{global_names, owned_names, what_named}
use Rattle.nl_tree.specs.Slots.{global_slot}
use Rattle.nl_agents_layout.specs.Nouns.{Slot, Slots, BreedNumber}
use Rattle.nl_agents_layout.specs.BuiltIn.{built_in_count, is_of_turtles, is_of_patches, is_of_links, slot_of_code}
use Rattle.nl_agents_layout.specs.declared.layout.BreedLayout.{BreedLayout}
use Rattle.nl_agents_layout.specs.declared.layout.Layout.{Layout}

-- the slot is among these
abbrev pub has_slot : Slots → Slot → Bool
has_slot slots slot = list_any (λ other. other == slot) slots

-- ---- slots of words

-- how many slots there are, where a model declares so many variables of agents
abbrev pub slots_count : Declared → ℕ
slots_count d = built_in_count + length (owned_names d)

-- The slot of a variable, as what a word is says it. The place of a turtle or a patch, its number, its breed and the ends of a link are
-- kept apart and have none.
abbrev pub slot_of_what : Declared → What → Option Slot
slot_of_what d (what.Base code) = slot_of_code code
slot_of_what d (what.Global n) = if nat_lt n (length (global_names d)) then Some n else None
slot_of_what d (what.Own n) = if nat_lt n (length (owned_names d)) then Some (built_in_count + n) else None
slot_of_what d (what.Made n code) = None
slot_of_what d (what.Procedure n) = None

-- The same by what a layout counts: for that of a model it is the slot above.
abbrev pub slot_by : Layout → What → Option Slot
slot_by layout (what.Base code) = slot_of_code code
slot_by layout (what.Global n) = if nat_lt n layout.globals then Some n else None
slot_by layout (what.Own n) = if nat_lt (built_in_count + n) layout.slots then Some (built_in_count + n) else None
slot_by layout (what.Made n code) = None
slot_by layout (what.Procedure n) = None

-- the slot of the variable of agents that the word of this name is
abbrev pub own_slot : Option What → Option Slot
own_slot None = None
own_slot (Some (what.Own n)) = Some (built_in_count + n)
own_slot (Some (what.Base code)) = None
own_slot (Some (what.Global n)) = None
own_slot (Some (what.Made n code)) = None
own_slot (Some (what.Procedure n)) = None

abbrev pub slot_named : Declared → Name → Option Slot
slot_named d name = own_slot (what_named d name)

abbrev pub is_slot : Slot → Option Slot → Bool
is_slot slot None = false
is_slot slot (Some other) = other == slot

-- some of these names has the slot
abbrev pub is_slot_of : Declared → Names → Slot → Bool
is_slot_of d names slot = list_any (λ name. is_slot slot (slot_named d name)) names

-- the slots that pass a test, ascending
abbrev pub slots_where : Declared → (Slot → Bool) → Slots
slots_where d test = filter test (range_with_len 0 (slots_count d))

-- ---- the layout of a model

-- what turtles, or links, of a breed own
abbrev pub owns_by_breed : Declared → Bool → Slot → Bool
owns_by_breed d link slot = list_any (λ b. (if b.link then link else not link) && is_slot_of d b.own slot) d.breeds

abbrev pub breed_layout : Declared → Breed → BreedLayout
breed_layout d b = record {
  plural = b.plural;
  singular = b.singular;
  link = b.link;
  directed = b.directed;
  own = slots_where d (is_slot_of d b.own);
}

-- the code declares the global variable of the slot
abbrev pub is_coded : Declared → Slot → Bool
is_coded d slot = list_any (λ name. is_slot slot (global_slot d name)) d.globals

unfoldable pub layout_of : Declared → Layout
layout_of d = record {
  globals = length (global_names d);
  coded = filter (is_coded d) (range_with_len 0 (length (global_names d)));
  slots = slots_count d;
  every_turtle = slots_where d (λ slot. is_of_turtles slot || is_slot_of d d.turtles_own slot);
  every_patch = slots_where d (λ slot. is_of_patches slot || is_slot_of d d.patches_own slot);
  every_link = slots_where d (λ slot. is_of_links slot || is_slot_of d d.links_own slot);
  some_turtle = slots_where d (λ slot. is_of_turtles slot || is_slot_of d d.turtles_own slot || owns_by_breed d false slot);
  some_link = slots_where d (λ slot. is_of_links slot || is_slot_of d d.links_own slot || owns_by_breed d true slot);
  breeds = map (breed_layout d) d.breeds;
}

-- ---- who owns what, by a layout

-- a breed that the model declares; the first has the number 1
abbrev pub breed_of : Layout → BreedNumber → Option BreedLayout
breed_of layout zero = None
breed_of layout (suc n) = slice_get layout.breeds n

abbrev pub own_in : Option BreedLayout → Slots
own_in None = []
own_in (Some b) = b.own

-- turtles, or links, of a breed own the variable: all of them do, or those of the breed
abbrev pub turtle_owns : Layout → BreedNumber → Slot → Bool
turtle_owns layout breed slot = has_slot layout.every_turtle slot || has_slot (own_in (breed_of layout breed)) slot

abbrev pub link_owns : Layout → BreedNumber → Slot → Bool
link_owns layout breed slot = has_slot layout.every_link slot || has_slot (own_in (breed_of layout breed)) slot

-- which kinds of agents keep something under the slot: turtles of some breed, patches, links of some breed
abbrev pub owners_of : Layout → Slot → Kinds
owners_of layout slot = kinds false (has_slot layout.some_turtle slot) (has_slot layout.every_patch slot) (has_slot layout.some_link slot)

-- how many breeds there are, that of no breed among them
abbrev pub breeds_count : Layout → ℕ
breeds_count layout = 1 + length layout.breeds

abbrev pub is_breed_of : Bool → Option BreedLayout → Bool
is_breed_of link None = false
is_breed_of link (Some b) = if b.link then link else not link

-- the number is that of a breed of turtles, or of links; no breed is one of both
abbrev pub is_turtle_breed : Layout → BreedNumber → Bool
is_turtle_breed layout zero = true
is_turtle_breed layout (suc n) = is_breed_of false (slice_get layout.breeds n)

abbrev pub is_link_breed : Layout → BreedNumber → Bool
is_link_breed layout zero = true
is_link_breed layout (suc n) = is_breed_of true (slice_get layout.breeds n)
