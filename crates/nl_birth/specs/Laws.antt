-- Laws of births and of the making of links.
use Rattle.std.specs.Prelude.{◌≡◌, ◌↔◌, ℕ, ◌+◌, ◌<◌, ◌≤◌, pos, ◌≤ℤ◌, ◌<ℤ◌, List, [], ◌++◌, map, length, Some, All, true}
use Rattle.std.specs.List.{range_with_len}
use Rattle.nl_fixed.specs.Sines.{degrees}
use Rattle.nl_value.specs.Plain.{PlainNumber}
use Rattle.nl_value.specs.Nouns.{Serials}
use Rattle.nl_grid.specs.declared.point.Point.{Point}
use Rattle.nl_agents_layout.specs.Nouns.{BreedNumber}
use Rattle.nl_agents_layout.specs.BuiltIn.{color_slot, heading_slot}
use Rattle.nl_agents_layout.specs.Layouts.{has_slot, turtle_owns}
use Rattle.nl_agents_layout.specs.declared.layout.Layout.{Layout}
use Rattle.nl_agents.specs.declared.agents.Owner.TheVariants as owner
use Rattle.nl_agents.specs.World.{World}
use Rattle.nl_agents.specs.Changes.{turtle_of, link_of, value_of, AreTurtlesFull, AreLinksFull}
use Rattle.nl_agents.specs.Standing.{IsWorld}
use Rattle.nl_agents.specs.declared.agents.Turtle.{Turtle}
use Rattle.nl_agents.specs.declared.agents.Link.{Link}
use Rattle.nl_birth.specs.declared.way.Way.{Way}
use Rattle.nl_birth.specs.declared.way.Way.TheVariants.{With}
use Rattle.nl_birth.specs.declared.looks.Looks.{Looks}
use Rattle.nl_birth.specs.Looks.{drawn_looks, heading_in_order, looks_in_order}
use Rattle.nl_birth.specs.Births.{Scene, turtle_room, drawn_births, ordered_births, origin, hatchings, birthplace}
use Rattle.nl_birth.specs.Links.{has_direction, first_end, second_end, tied_to_all, link_room, linked}
use Rattle.nl_birth.specs.Outcomes.{Made}
use Rattle.nl_birth.specs.Keeping.{Keeps}

-- ---- births

-- The second world is the first with so many turtles more, and nothing else of it is changed: their serials are the next ones in order,
-- and each is as is said.
pub record HasMoreTurtles (IsNew : Turtle → Type 0) (w now : World) (count : ℕ) : Type 0 where
  pub new : List Turtle
  pub serials : map (λ t. t.serial) new ≡ range_with_len w.rest.turtles_given count
  pub are : All IsNew new
  pub rest : now ≡ record w { rest = record w.rest { turtles = w.rest.turtles ++ new; turtles_given = w.rest.turtles_given + count } }

-- a turtle of the breed that stands at the point
pub record IsOfAt (breed : BreedNumber) (at : Point) (t : Turtle) : Type 0 where
  pub breed_is : t.breed ≡ breed
  pub at_is : t.at ≡ at

abbrev pub DrawnBirthsAppend : Type 0
DrawnBirthsAppend =
    (breed : BreedNumber) (at : Point) (s : Scene) (count : ℕ) → IsWorld s.world →
    HasMoreTurtles (IsOfAt breed at) s.world (drawn_births breed at s count).world count

abbrev pub OrderedBirthsAppend : Type 0
OrderedBirthsAppend =
    (breed : BreedNumber) (most : ℕ) (w : World) (count : ℕ) → IsWorld w →
    HasMoreTurtles (IsOfAt breed origin) w (ordered_births breed most w count) count

abbrev pub HatchingsAppend : Type 0
HatchingsAppend =
    (breed : BreedNumber) (parent : ℕ) (at : Point) (w : World) (count : ℕ) →
    HasMoreTurtles (IsOfAt breed at) w (hatchings breed parent at w count) count

-- the child differs from the parent in its serial alone
abbrev pub IsLike : Turtle → Turtle → Type 0
IsLike parent child = record child { serial = parent.serial } ≡ parent

abbrev pub HatchedAreAlike : Type 0
HatchedAreAlike =
    (w : World) (parent : ℕ) (t : Turtle) (count : ℕ) → IsWorld w → turtle_of parent w.rest ≡ Some t →
    HasMoreTurtles (IsLike t) w (hatchings t.breed parent (birthplace parent w) w count) count

-- the headings of turtles in order are from 0 on and below 360 degrees
abbrev pub HeadingsAreBelowATurn : Type 0
HeadingsAreBelowATurn =
    (count index : ℕ) → (pos 0 ≤ℤ heading_in_order count index) × (heading_in_order count index <ℤ degrees (pos 360))

-- a turtle has these looks
pub record HasLooks (turtle : ℕ) (looks : Looks) (w : World) : Type 0 where
  pub color : value_of (owner.Turtle turtle) color_slot w ≡ Some (PlainNumber looks.color)
  pub heading : value_of (owner.Turtle turtle) heading_slot w ≡ Some (PlainNumber looks.heading)

-- turtles of the breed own a color and a heading
pub record OwnLooks (layout : Layout) (breed : BreedNumber) : Type 0 where
  pub color_kept : has_slot layout.some_turtle color_slot ≡ true
  pub color_owned : turtle_owns layout breed color_slot ≡ true
  pub heading_kept : has_slot layout.some_turtle heading_slot ≡ true
  pub heading_owned : turtle_owns layout breed heading_slot ≡ true

-- after births each turtle has the looks that were drawn for it, where the births before it left the stream
abbrev pub DrawnLooksStay : Type 0
DrawnLooksStay =
    (breed : BreedNumber) (at : Point) (s : Scene) (count index : ℕ) → IsWorld s.world → OwnLooks s.world.rest.layout breed → index < count →
    HasLooks (s.world.rest.turtles_given + index) (drawn_looks (drawn_births breed at s index).stream).0 (drawn_births breed at s count).world

-- or, in order, those of its index
abbrev pub OrderedLooksStay : Type 0
OrderedLooksStay =
    (breed : BreedNumber) (most : ℕ) (w : World) (count index : ℕ) → IsWorld w → OwnLooks w.rest.layout breed → index < count →
    HasLooks (w.rest.turtles_given + index) (looks_in_order most index) (ordered_births breed most w count)

-- no more turtles can be born after as many as there is room for, and one more can after fewer
abbrev pub RoomEndsWhereFull : Type 0
RoomEndsWhereFull =
    (breed : BreedNumber) (at : Point) (s : Scene) (count : ℕ) →
    AreTurtlesFull (drawn_births breed at s count).world ↔ (turtle_room s.world ≤ count)

-- ---- links

-- The second world is the first with a link more to each of the targets, and nothing else of it is changed: their serials are the next
-- ones in order, each is of the breed and joins the caller with its target as the way says.
pub record HasMoreLinks (way : Way) (breed : BreedNumber) (caller : ℕ) (targets : Serials) (w now : World) : Type 0 where
  pub new : List Link
  pub serials : map (λ l. l.serial) new ≡ range_with_len w.rest.links_given (length targets)
  pub breeds : All (λ l. l.breed ≡ breed) new
  pub directions : All (λ l. l.directed ≡ has_direction way) new
  pub firsts : map (λ l. l.end1) new ≡ map (first_end way caller) targets
  pub seconds : map (λ l. l.end2) new ≡ map (second_end way caller) targets
  pub rest : now ≡ record w { rest = record w.rest { links = w.rest.links ++ new; links_given = w.rest.links_given + length targets } }

abbrev pub LinksAppend : Type 0
LinksAppend =
    (way : Way) (breed : BreedNumber) (caller : ℕ) (targets : Serials) (w : World) →
    HasMoreLinks way breed caller targets w (tied_to_all way breed caller targets w)

-- where all links were made, making them again makes none
abbrev pub MadeTwiceMakesNone : Type 0
MadeTwiceMakesNone =
    (way : Way) (breed : BreedNumber) (caller : ℕ) (targets made : Serials) (w now : World) →
    linked way breed caller targets w ≡ Made made now → linked way breed caller targets now ≡ Made [] now

-- a link without a direction has its lower end first
abbrev pub LowerEndIsFirst : Type 0
LowerEndIsFirst = (caller target : ℕ) → (caller ≡ target → ⊥) → first_end With caller target < second_end With caller target

-- no more links can be made after as many as there is room for, and one more can after fewer
abbrev pub LinkRoomEndsWhereFull : Type 0
LinkRoomEndsWhereFull =
    (way : Way) (breed : BreedNumber) (caller : ℕ) (targets : Serials) (w : World) →
    AreLinksFull (tied_to_all way breed caller targets w) ↔ (link_room w ≤ length targets)

-- ---- what is kept

-- a turtle that lived before lives on, and is as it was
abbrev pub TurtlesLiveOn : Type 0
TurtlesLiveOn =
    (serial : ℕ) (t : Turtle) (w now : World) → Keeps w now → turtle_of serial w.rest ≡ Some t → turtle_of serial now.rest ≡ Some t

-- and so does a link
abbrev pub LinksLiveOn : Type 0
LinksLiveOn =
    (serial : ℕ) (l : Link) (w now : World) → Keeps w now → link_of serial w.rest ≡ Some l → link_of serial now.rest ≡ Some l

-- what is kept by one call and then by another is kept by both
abbrev pub KeepingGoesOn : Type 0
KeepingGoesOn = (w now later : World) → Keeps w now → Keeps now later → Keeps w later
