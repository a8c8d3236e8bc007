-- What is true of every world that the calls of a store make.
use Rattle.std.specs.Prelude.{◌≡◌, ◌<◌, ◌≤◌, ◌==◌, ◌&&◌, Bool, true, false, not, IsTrue, List, [], ◌∷◌, map, length, Option, Some, None, IsSome, is_some, All, IfSome}
use Rattle.std.specs.List.{list_all}
use Rattle.std.specs.List.Sorted.{IsStrictlyIncreasing}
use Rattle.nl_value.specs.Plain.{Plain, PlainNumber, PlainTruth, PlainWords, PlainItems, PlainTurtle, PlainPatch, PlainLink, PlainNobody, PlainSet}
use Rattle.nl_value.specs.Fit.{value_fits}
use Rattle.nl_grid.specs.Geometry.{IsPointOf, IsWithinLimits, patches_of}
use Rattle.nl_agents_layout.specs.Nouns.{Slot, Slots}
use Rattle.nl_agents.specs.Nouns.{Vars}
use Rattle.nl_agents_layout.specs.BuiltIn.{heading_slot}
use Rattle.nl_agents_layout.specs.Layouts.{turtle_owns, link_owns, is_turtle_breed, is_link_breed}
use Rattle.nl_agents.specs.World.{Rest, World}
use Rattle.nl_agents.specs.Changes.{turtle_of, joins, value_in}
use Rattle.nl_agents.specs.Members.{all_turtles, all_links}
use Rattle.nl_agents.specs.Names.{patch_fits, set_fits}
use Rattle.nl_agents.specs.declared.agents.Turtle.{Turtle}
use Rattle.nl_agents.specs.declared.agents.Link.{Link}
use Rattle.nl_agents.specs.declared.agents.Owner.{Owner}
use Rattle.nl_agents.specs.declared.agents.Owner.TheVariants as owner

-- whether a value fits the world
abbrev pub fits_rest : Rest → Plain → Bool
fits_rest r value = value_fits (patch_fits r) (set_fits r) value

abbrev pub entry_fits : (Plain → Bool) → Option Plain → Bool
entry_fits fits None = true
entry_fits fits (Some value) = fits value

-- an agent keeps one entry a slot, with a value exactly where it owns the variable, and each value fits
pub record AreVars (fits : Plain → Bool) (slots : Slots) (owns : Slot → Bool) (vars : Vars) : Type 0 where
  pub owned : map is_some vars ≡ map owns slots
  pub fit : IsTrue (list_all (entry_fits fits) vars)

abbrev is_number : Plain → Bool
is_number (PlainNumber count) = true
is_number (PlainTruth truth) = false
is_number (PlainWords bytes) = false
is_number (PlainItems items) = false
is_number (PlainTurtle turtle) = false
is_number (PlainPatch patch) = false
is_number (PlainLink link) = false
is_number PlainNobody = false
is_number (PlainSet set) = false

-- the value is a number
abbrev pub IsNumber : Plain → Type 0
IsNumber value = IsTrue (is_number value)

-- A turtle of the world: its serial was given and isn't before that of the turtle that is called 0, its point and its breed are of the
-- world, it keeps what its breed owns, and its heading is a number.
pub record IsTurtleOf (r : Rest) (t : Turtle) : Type 0 where
  pub given : t.serial < r.turtles_given
  pub called : r.base ≤ t.serial
  pub at : IsPointOf r.shape t.at
  pub breed : IsTrue (is_turtle_breed r.layout t.breed)
  pub vars : AreVars (fits_rest r) r.layout.some_turtle (turtle_owns r.layout t.breed) t.vars
  pub heading : IfSome (value_in r.layout.some_turtle t.vars heading_slot) IsNumber

-- A link of the world: its serial was given, its ends are two living turtles, its breed is of the world, and it keeps what that owns.
pub record IsLinkOf (r : Rest) (l : Link) : Type 0 where
  pub given : l.serial < r.links_given
  pub first : IsSome (turtle_of l.end1 r)
  pub second : IsSome (turtle_of l.end2 r)
  pub apart : (l.end1 == l.end2) ≡ false
  pub breed : IsTrue (is_link_breed r.layout l.breed)
  pub vars : AreVars (fits_rest r) r.layout.some_link (link_owns r.layout l.breed) l.vars

abbrev pub ArePatchVars : Rest → Vars → Type 0
ArePatchVars r = AreVars (fits_rest r) r.layout.every_patch (λ slot. true)

-- no later link joins the turtles of an earlier one of its breed the same way
abbrev pub links_differ : List Link → Bool
links_differ [] = true
links_differ (l ∷ ls) = list_all (λ later. not (joins later.breed later.directed later.end1 later.end2 l)) ls && links_differ ls

-- the turtles and links of the world, in the order of their serials
pub record AreAgents (r : Rest) : Type 0 where
  pub turtles : All (IsTurtleOf r) r.turtles
  pub turtles_ascend : IsStrictlyIncreasing (all_turtles r)
  pub links : All (IsLinkOf r) r.links
  pub links_ascend : IsStrictlyIncreasing (all_links r)
  pub links_differ : IsTrue (links_differ r.links)

-- how many there may be
pub record AreFew (r : Rest) : Type 0 where
  pub turtles : length r.turtles ≤ 200_000
  pub turtles_given : r.turtles_given ≤ 9_000_000_000_000
  pub links : length r.links ≤ 400_000
  pub links_given : r.links_given ≤ 9_000_000_000_000
  pub base : r.base ≤ r.turtles_given

pub record ArePatches (r : Rest) : Type 0 where
  pub many : length r.patches ≡ patches_of r.shape
  pub vars : All (ArePatchVars r) r.patches

pub record IsWorld (w : World) : Type 0 where
  pub shape : IsWithinLimits w.rest.shape
  pub globals : length w.globals ≡ w.rest.layout.globals
  pub run : length w.rest.run ≡ 2
  pub globals_fit : IsTrue (list_all (fits_rest w.rest) w.globals)
  pub run_fits : IsTrue (list_all (fits_rest w.rest) w.rest.run)
  pub agents : AreAgents w.rest
  pub patches : ArePatches w.rest
  pub few : AreFew w.rest

-- the variable is the heading of a turtle
abbrev pub is_heading : Owner → Slot → Bool
is_heading (owner.Turtle serial) slot = slot == heading_slot
is_heading owner.Observer slot = false
is_heading (owner.Patch patch) slot = false
is_heading (owner.Link serial) slot = false

-- the variable may hold the value: it fits the world, and a turtle's heading is a number
abbrev pub MayHold : Rest → Owner → Slot → Plain → Type 0
MayHold r owner slot value = IsTrue (fits_rest r value) × (IsTrue (is_heading owner slot) → IsNumber value)
