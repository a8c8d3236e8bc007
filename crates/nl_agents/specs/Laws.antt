-- Laws of the worlds that the calls of a store make.
use Rattle.std.specs.Prelude.{◌≡◌, ℕ, ◌<◌, true, false, if◌then◌else◌, IsTrue, List, Some, None, IfSome, All}
use Rattle.std.specs.List.Sorted.{IsStrictlyIncreasing}
use Rattle.nl_value.specs.Plain.{Plain}
use Rattle.nl_grid.specs.Geometry.{Plane, IsWithinLimits}
use Rattle.nl_grid.specs.declared.point.Point.{Point}
use Rattle.nl_agents_layout.specs.Nouns.{Slot, BreedNumber}
use Rattle.nl_agents_layout.specs.BuiltIn.{first_of_turtle}
use Rattle.nl_agents_layout.specs.Layouts.{turtle_owns, has_slot}
use Rattle.nl_agents.specs.World.{World, first_world}
use Rattle.nl_agents.specs.Changes.{turtle_of, link_of, turtle_lives, link_lives, TurtleLives, LinkLives, patch_vars, global_value, joins, value_of, set_entry, bred_entry, rebred, born, revalued}
use Rattle.nl_agents.specs.Members.{all_turtles, all_links}
use Rattle.nl_agents.specs.Standing.{IsWorld, MayHold}
use Rattle.nl_agents.specs.Calls.{Call, after, IsAllowed, after_all, AreAllowed, Touches}
use Rattle.nl_agents_layout.specs.declared.layout.Layout.{Layout}
use Rattle.nl_agents.specs.declared.agents.Turtle.{Turtle}
use Rattle.nl_agents.specs.declared.agents.Link.{Link}
use Rattle.nl_agents.specs.declared.agents.Owner.{Owner}
use Rattle.nl_agents.specs.declared.agents.Owner.TheVariants as owner

-- the first world of a layout and a shape within limits is a world
abbrev pub FirstWorldsAreWorlds : Type 0
FirstWorldsAreWorlds = (layout : Layout) (shape : Plane) → IsWithinLimits shape → IsWorld (first_world layout shape)

-- what a call leaves of a world is a world
abbrev pub CallsKeepWorlds : Type 0
CallsKeepWorlds = (call : Call) (w : World) → IsWorld w → IsAllowed call w → IsWorld (after call w)

-- whatever calls are made of a first world leave a world
abbrev pub CallsMakeWorlds : Type 0
CallsMakeWorlds =
    (layout : Layout) (shape : Plane) (calls : List Call) →
    IsWithinLimits shape → AreAllowed calls (first_world layout shape) → IsWorld (after_all calls (first_world layout shape))

-- the serials of turtles and of links ascend, and are below how many were given
pub record SerialsAscendIn (w : World) : Type 0 where
  pub turtles : IsStrictlyIncreasing (all_turtles w.rest)
  pub turtles_given : All (λ serial. serial < w.rest.turtles_given) (all_turtles w.rest)
  pub links : IsStrictlyIncreasing (all_links w.rest)
  pub links_given : All (λ serial. serial < w.rest.links_given) (all_links w.rest)

abbrev pub SerialsAscend : Type 0
SerialsAscend = (w : World) → IsWorld w → SerialsAscendIn w

-- A serial that was given and whose turtle, or link, doesn't live is dead for ever: no call has it live again, the clears among them.
abbrev pub DeadTurtlesStayDead : Type 0
DeadTurtlesStayDead =
    (calls : List Call) (w : World) (serial : ℕ) →
    serial < w.rest.turtles_given → turtle_lives w.rest serial ≡ false → turtle_lives (after_all calls w).rest serial ≡ false

abbrev pub DeadLinksStayDead : Type 0
DeadLinksStayDead =
    (calls : List Call) (w : World) (serial : ℕ) →
    serial < w.rest.links_given → link_lives w.rest serial ≡ false → link_lives (after_all calls w).rest serial ≡ false

-- the ends of a link are two living turtles
abbrev pub EndsLive : Type 0
EndsLive =
    (w : World) (serial : ℕ) (l : Link) → IsWorld w → link_of serial w.rest ≡ Some l →
    TurtleLives l.end1 w × TurtleLives l.end2 w × (l.end1 ≡ l.end2 → ⊥)

-- two links of one breed that join two turtles the same way are one
abbrev pub TiesAreSingle : Type 0
TiesAreSingle =
    (w : World) (one other : ℕ) (l m : Link) → IsWorld w → link_of one w.rest ≡ Some l → link_of other w.rest ≡ Some m →
    IsTrue (joins m.breed m.directed m.end1 m.end2 l) → one ≡ other

-- every value of the world fits it, and every heading is a number
abbrev pub ValuesFit : Type 0
ValuesFit = (w : World) (whose : Owner) (slot : Slot) → IsWorld w → IfSome (value_of whose slot w) (MayHold w.rest whose slot)

-- a variable that both breeds own has its value after a change to the other breed and back
abbrev pub ThereAndBack : Type 0
ThereAndBack =
    (w : World) (serial : ℕ) (t : Turtle) (breed : BreedNumber) (slot : Slot) → IsWorld w → turtle_of serial w.rest ≡ Some t →
    turtle_owns w.rest.layout t.breed slot ≡ true → turtle_owns w.rest.layout breed slot ≡ true →
    value_of (owner.Turtle serial) slot (rebred serial t.breed (rebred serial breed w)) ≡ value_of (owner.Turtle serial) slot w

-- a variable that was set has the value, where its owner owns it, and every other variable has the value that it had
abbrev pub SettingSets : Type 0
SettingSets =
    (w : World) (whose : Owner) (slot : Slot) (value : Plain) →
    value_of whose slot (revalued whose slot value w) ≡ set_entry value (value_of whose slot w)

abbrev pub SettingKeepsTheRest : Type 0
SettingKeepsTheRest =
    (w : World) (whose other : Owner) (slot another : Slot) (value : Plain) → (whose ≡ other → slot ≡ another → ⊥) →
    value_of other another (revalued whose slot value w) ≡ value_of other another w

-- After a change of breed a variable that both breeds own has its value, one that only the new breed owns is 0, and others are gone.
abbrev pub BreedsChangeVariables : Type 0
BreedsChangeVariables =
    (w : World) (serial : ℕ) (breed : BreedNumber) (slot : Slot) → IsWorld w → TurtleLives serial w →
    has_slot w.rest.layout.some_turtle slot ≡ true →
    value_of (owner.Turtle serial) slot (rebred serial breed w)
    ≡ bred_entry (turtle_owns w.rest.layout breed slot) (value_of (owner.Turtle serial) slot w)

-- a turtle that is born of a parent has the parent's variables, by the rule on a change of breed
abbrev pub BirthsCopyParents : Type 0
BirthsCopyParents =
    (w : World) (breed : BreedNumber) (at : Point) (parent : ℕ) (slot : Slot) → IsWorld w → TurtleLives parent w →
    has_slot w.rest.layout.some_turtle slot ≡ true →
    value_of (owner.Turtle w.rest.turtles_given) slot (born breed at (Some parent) w)
    ≡ bred_entry (turtle_owns w.rest.layout breed slot) (value_of (owner.Turtle parent) slot w)

-- a turtle that is born without a parent has the first values of what its breed owns
abbrev pub BirthsGiveFirstValues : Type 0
BirthsGiveFirstValues =
    (w : World) (breed : BreedNumber) (at : Point) (slot : Slot) → IsWorld w → has_slot w.rest.layout.some_turtle slot ≡ true →
    value_of (owner.Turtle w.rest.turtles_given) slot (born breed at None w)
    ≡ (if turtle_owns w.rest.layout breed slot then Some (first_of_turtle slot) else None)

-- what a call isn't on stays: turtles and links that live before and after it, patches, global variables, the shape and the layout
pub record LeavesTheRest (call : Call) (w : World) : Type 0 where
  pub turtles : (serial : ℕ) → (Touches call (owner.Turtle serial) → ⊥) → TurtleLives serial w → TurtleLives serial (after call w)
      → turtle_of serial (after call w).rest ≡ turtle_of serial w.rest
  pub links : (serial : ℕ) → (Touches call (owner.Link serial) → ⊥) → LinkLives serial w → LinkLives serial (after call w)
      → link_of serial (after call w).rest ≡ link_of serial w.rest
  pub patches : (patch : ℕ) → (Touches call (owner.Patch patch) → ⊥) → patch_vars (after call w).rest patch ≡ patch_vars w.rest patch
  pub globals : (Touches call owner.Observer → ⊥) → (slot : Slot) → global_value (after call w) slot ≡ global_value w slot
  pub shape : (after call w).rest.shape ≡ w.rest.shape
  pub layout : (after call w).rest.layout ≡ w.rest.layout

abbrev pub CallsLeaveTheRest : Type 0
CallsLeaveTheRest = (call : Call) (w : World) → IsWorld w → LeavesTheRest call w
