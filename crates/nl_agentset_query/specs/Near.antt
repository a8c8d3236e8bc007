-- The members of a set of turtles or patches that stand near a point: within a radius, or in a cone.
-- What is near is this project's own choice, after the NetLogo Dictionary: a distance that is the radius is within it, and half of the
-- angle of a cone lies on each side of the heading.
use Rattle.std.specs.Prelude.{ℕ, ◌+◌, ◌*◌, ◌&&◌, ℤ, pos, ◌-ℤ◌, unsigned_abs, int_le, Bool, true, false, Option, Some, None, filter, length}
use Rattle.nl_fixed.specs.Headings.{within_half_turn}
use Rattle.nl_value.specs.Nouns.{Serials}
use Rattle.nl_value.specs.Sets.{set_kind}
use Rattle.nl_value.specs.declared.sets.AgentKind.{AgentKind}
use Rattle.nl_value.specs.declared.sets.AgentKind.TheVariants.{Turtle, Patch, Link}
use Rattle.nl_value.specs.declared.sets.AgentSet.{AgentSet}
use Rattle.nl_value.specs.declared.sets.AgentSet.TheVariants.{Turtles, Breed, Patches, Links, LinkBreed, SomeTurtles, SomePatches, SomeLinks}
use Rattle.nl_grid.specs.Geometry.{Plane, distance_of, heading_between, center_of, patch_at, box_patches}
use Rattle.nl_grid.specs.declared.point.Point.{Point}
use Rattle.nl_agents.specs.World.{Rest}
use Rattle.nl_agents.specs.Changes.{turtle_of}
use Rattle.nl_agents.specs.Members.{members_of, turtles_where, is_listed}
use Rattle.nl_agents.specs.declared.agents.Turtle as the_turtle

-- ---- what is near a point

-- a point is at most so far from another one
abbrev pub is_within : Plane → Point → ℤ → Point → Bool
is_within plane at radius to = int_le (pos (distance_of plane at to)) radius

-- a direction is at most half of an angle off a heading; what stands at the very point has no direction
abbrev pub is_off_by : ℤ → ℤ → Option ℤ → Bool
is_off_by heading angle None = true
is_off_by heading angle (Some direction) = int_le (pos (2 * unsigned_abs (within_half_turn (direction -ℤ heading)))) angle

-- a point is within the radius, and in the cone of this angle under a heading
abbrev pub is_in_cone : Plane → Point → ℤ → ℤ → ℤ → Point → Bool
is_in_cone plane at heading radius angle to = is_within plane at radius to && is_off_by heading angle (heading_between plane at to)

-- ---- members near it

abbrev is_where : (Point → Bool) → Option the_turtle.Turtle → Bool
is_where test None = false
is_where test (Some t) = test t.at

-- the point of a turtle, or the center of a patch, passes a test; a link has no point
abbrev pub stands_where : (Point → Bool) → Rest → AgentKind → ℕ → Bool
stands_where test r Turtle serial = is_where test (turtle_of serial r)
stands_where test r Patch patch = test (center_of r.shape patch)
stands_where test r Link serial = false

-- the living members of a set whose point passes a test
abbrev pub members_where : (Point → Bool) → Rest → AgentSet → Serials
members_where test r set = filter (stands_where test r (set_kind set)) (members_of r set)

abbrev pub members_within : Rest → AgentSet → Point → ℤ → Serials
members_within r set at radius = members_where (is_within r.shape at radius) r set

abbrev pub members_in_cone : Rest → AgentSet → Point → ℤ → ℤ → ℤ → Serials
members_in_cone r set at heading radius angle = members_where (is_in_cone r.shape at heading radius angle) r set

-- ---- what is read for them

-- the turtle stands on a patch of the box of the radius
abbrev pub is_in_box : Rest → Point → ℤ → the_turtle.Turtle → Bool
is_in_box r at radius t = is_listed (box_patches r.shape at radius) (patch_at r.shape t.at)

abbrev pub turtles_in_box : Rest → Point → ℤ → Serials
turtles_in_box r at radius = turtles_where (is_in_box r at radius) r

-- one for each turtle on the patches of the box, and one for each patch
abbrev pub box_reads : Rest → Point → ℤ → ℕ
box_reads r at radius = length (turtles_in_box r at radius) + length (box_patches r.shape at radius)

-- how many records are read at most: those of the box for turtles, and none for patches and lists of agents
abbrev pub near_reads : Rest → AgentSet → Point → ℤ → ℕ
near_reads r Turtles at radius = box_reads r at radius
near_reads r (Breed breed) at radius = box_reads r at radius
near_reads r Patches at radius = 0
near_reads r Links at radius = 0
near_reads r (LinkBreed breed) at radius = 0
near_reads r (SomeTurtles numbers) at radius = 0
near_reads r (SomePatches numbers) at radius = 0
near_reads r (SomeLinks numbers) at radius = 0
