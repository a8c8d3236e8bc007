-- Births and links in a small world, worked out.
use Rattle.std.specs.Prelude.{◌≡◌, ℕ, pos, negsuc, true, false, [], ◌∷◌, Option, Some, None, refl}
use Rattle.nl_value.specs.Plain.{Plain, PlainNumber}
use Rattle.nl_value.specs.Nouns.{Serials}
use Rattle.nl_grid.specs.Geometry.{plane_of}
use Rattle.nl_draw.specs.Stream.{first_state, drawn, words_from, state_after, next_state, word_of}
use Rattle.nl_agents_layout.specs.BuiltIn.{color_slot, heading_slot}
use Rattle.nl_agents.specs.World.{World, first_world}
use Rattle.nl_agents.specs.Changes.{value_of}
use Rattle.nl_agents_layout.specs.declared.layout.Layout.{Layout}
use Rattle.nl_agents.specs.declared.agents.Owner.TheVariants as owner
use Rattle.nl_fixed.specs.Numbers.{rounded_quotient}
use Rattle.nl_birth.specs.declared.way.Way.TheVariants.{With, To, From}
use Rattle.nl_birth.specs.Looks.{drawn_looks, heading_in_order, looks_in_order}
use Rattle.nl_birth.specs.Births.{Scene, count_of, drawn_births, ordered_births, hatchings, created, hatched}
use Rattle.nl_birth.specs.Links.{tied_to_all, linked}
use Rattle.nl_birth.specs.Outcomes.{BirthOutcome, Made, Filled, Refused}

-- turtles own a color and a heading, and links and patches own nothing
abbrev layout : Layout
layout = record {
  globals = 0;
  coded = [];
  slots = 14;
  every_turtle = 0 ∷ 1 ∷ [];
  every_patch = [];
  every_link = [];
  some_turtle = 0 ∷ 1 ∷ [];
  some_link = [];
  breeds = [];
}

abbrev start : Scene
start = record { world = first_world layout (plane_of (pos 0) (pos 1) (pos 0) (pos 0) false false); stream = 0 }

-- what an outcome leaves, and the serials of those that were made
abbrev left : {X : Type 0} → BirthOutcome X → X
left (Made made x) = x
left (Filled x) = x
left (Refused x) = x

abbrev serials : {X : Type 0} → BirthOutcome X → Option Serials
serials (Made made x) = Some made
serials (Filled x) = None
serials (Refused x) = None

abbrev number_of : ℕ → ℕ → World → Option Plain
number_of turtle slot w = value_of (owner.Turtle turtle) slot w

-- ---- counts

two_point_nine : count_of (pos 2_900_000) ≡ 2
two_point_nine = refl

below_one : count_of (pos 900_000) ≡ 0
below_one = refl

below_zero : count_of (negsuc 2_899_999) ≡ 0
below_zero = refl

-- ---- births

-- two turtles at seed 42
abbrev two : BirthOutcome Scene
two = created false 0 (pos 2_900_000) (record start { stream = 1753877967969059832 })

seed : first_state 42 ≡ 1753877967969059832
unfolding first_state
seed = refl

two_made : serials two ≡ Some (0 ∷ 1 ∷ [])
two_made = refl

first_color : number_of 0 color_slot (left two).world ≡ Some (PlainNumber (pos 135_000_000))
unfolding drawn_births drawn_looks drawn words_from state_after next_state word_of
first_color = refl

first_heading : number_of 0 heading_slot (left two).world ≡ Some (PlainNumber (pos 339_000_000))
unfolding drawn_births drawn_looks drawn words_from state_after next_state word_of
first_heading = refl

second_color : number_of 1 color_slot (left two).world ≡ Some (PlainNumber (pos 5_000_000))
unfolding drawn_births drawn_looks drawn words_from state_after next_state word_of
second_color = refl

second_heading : number_of 1 heading_slot (left two).world ≡ Some (PlainNumber (pos 125_000_000))
unfolding drawn_births drawn_looks drawn words_from state_after next_state word_of
second_heading = refl

-- three in order, without a draw
three_in_order : number_of 2 heading_slot (left (created true 0 (pos 3_000_000) start)).world ≡ Some (PlainNumber (pos 240_000_000))
unfolding ordered_births looks_in_order heading_in_order rounded_quotient
three_in_order = refl

nothing_drawn : (left (created true 0 (pos 3_000_000) start)).stream ≡ 0
nothing_drawn = refl

-- a child has its parent's color and place
child_color : number_of 2 color_slot (left (hatched 0 0 (pos 1_000_000) (left two).world)) ≡ Some (PlainNumber (pos 135_000_000))
unfolding hatchings drawn_births drawn_looks drawn words_from state_after next_state word_of
child_color = refl

-- ---- links

abbrev pair : World
pair = (left (created true 0 (pos 2_000_000) start)).world

one_link : serials (linked With 0 1 (0 ∷ []) pair) ≡ Some (0 ∷ [])
unfolding ordered_births
one_link = refl

again_none : serials (linked With 0 0 (1 ∷ []) (left (linked With 0 1 (0 ∷ []) pair))) ≡ Some []
unfolding ordered_births tied_to_all
again_none = refl

other_way_round : serials (linked From 0 0 (1 ∷ []) (left (linked To 0 0 (1 ∷ []) pair))) ≡ Some (1 ∷ [])
unfolding ordered_births tied_to_all
other_way_round = refl

other_kind : serials (linked With 0 0 (1 ∷ []) (left (linked To 0 0 (1 ∷ []) pair))) ≡ None
unfolding ordered_births tied_to_all
other_kind = refl

other_kind_without_targets : serials (linked With 0 0 [] (left (linked To 0 0 (1 ∷ []) pair))) ≡ Some []
unfolding ordered_births tied_to_all
other_kind_without_targets = refl

to_itself : serials (linked With 0 0 (0 ∷ 1 ∷ []) pair) ≡ None
unfolding ordered_births
to_itself = refl
