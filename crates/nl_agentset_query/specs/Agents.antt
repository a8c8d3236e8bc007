-- Agents as values, tests of them by their breed, where they stand and what they face.
use Rattle.std.specs.Prelude.{ℕ, ℤ, pos, ◌==◌, Bool, true, false, Option, Some, None}
use Rattle.nl_value.specs.Nouns.{Serials}
use Rattle.nl_value.specs.Plain.{Plain, PlainNumber, PlainTurtle, PlainPatch, PlainLink, PlainNobody, PlainSet}
use Rattle.nl_value.specs.declared.sets.AgentKind.{AgentKind}
use Rattle.nl_value.specs.declared.sets.AgentKind.TheVariants as kind
use Rattle.nl_value.specs.declared.sets.AgentSet.{AgentSet}
use Rattle.nl_value.specs.declared.sets.AgentSet.TheVariants as set
use Rattle.nl_grid.specs.declared.point.Point.{Point}
use Rattle.nl_grid.specs.Geometry.{center_of, patch_at}
use Rattle.nl_agents.specs.Nouns.{heading_slot}
use Rattle.nl_agents.specs.Nouns.{BreedNumber}
use Rattle.nl_agents.specs.World.{Rest}
use Rattle.nl_agents.specs.Changes.{turtle_of, in_turtle}
use Rattle.nl_agents.specs.declared.agents.Owner.{Owner}
use Rattle.nl_agents.specs.declared.agents.Owner.TheVariants as owner
use Rattle.nl_agents.specs.declared.agents.Turtle as the_turtle
use Rattle.nl_agents.specs.declared.agents.Link as the_link

-- ---- agents as values, and sets that list their members

-- an agent of a kind, by its number
abbrev pub agent_value : AgentKind → ℕ → Plain
agent_value kind.Turtle number = PlainTurtle number
agent_value kind.Patch number = PlainPatch number
agent_value kind.Link number = PlainLink number

abbrev pub agent_or_nobody : AgentKind → Option ℕ → Plain
agent_or_nobody which None = PlainNobody
agent_or_nobody which (Some number) = agent_value which number

-- the set that lists agents of a kind
abbrev pub listed : AgentKind → Serials → AgentSet
listed kind.Turtle numbers = set.SomeTurtles numbers
listed kind.Patch numbers = set.SomePatches numbers
listed kind.Link numbers = set.SomeLinks numbers

abbrev pub listed_value : AgentKind → Serials → Plain
listed_value which numbers = PlainSet (listed which numbers)

-- ---- breeds: a word without a breed is of all, one that a breed makes is of those of the breed

abbrev pub is_of : Option BreedNumber → BreedNumber → Bool
is_of None own = true
is_of (Some breed) own = own == breed

-- the breed of a word, or that of agents of no breed
abbrev pub breed_or_none : Option BreedNumber → BreedNumber
breed_or_none None = 0
breed_or_none (Some breed) = breed

-- ---- tests of one that may have died

abbrev pub turtle_passes : (the_turtle.Turtle → Bool) → Option the_turtle.Turtle → Bool
turtle_passes test None = false
turtle_passes test (Some t) = test t

abbrev pub link_passes : (the_link.Link → Bool) → Option the_link.Link → Bool
link_passes test None = false
link_passes test (Some l) = test l

-- ---- where an agent stands

-- the point 0 0
abbrev pub origin : Point
origin = record { x = pos 0; y = pos 0 }

abbrev pub point_of : Option the_turtle.Turtle → Point
point_of None = origin
point_of (Some t) = t.at

-- the point of a turtle, the center of a patch, and 0 0 for whoever stands nowhere
abbrev pub place_of : Rest → Owner → Point
place_of r (owner.Turtle serial) = point_of (turtle_of serial r)
place_of r (owner.Patch patch) = center_of r.shape patch
place_of r owner.Observer = origin
place_of r (owner.Link serial) = origin

-- the patch on which an agent stands; a patch stands on itself
abbrev pub own_patch : Rest → Owner → ℕ
own_patch r (owner.Patch patch) = patch
own_patch r (owner.Turtle serial) = patch_at r.shape (point_of (turtle_of serial r))
own_patch r owner.Observer = patch_at r.shape (place_of r owner.Observer)
own_patch r (owner.Link serial) = patch_at r.shape (place_of r (owner.Link serial))

abbrev pub number_in : Option Plain → ℤ
number_in (Some (PlainNumber count)) = count
number_in value = pos 0

-- the heading of a turtle
abbrev pub heading_in : Rest → Owner → ℤ
heading_in r (owner.Turtle serial) = number_in (in_turtle r.layout heading_slot (turtle_of serial r))
heading_in r agent = pos 0
