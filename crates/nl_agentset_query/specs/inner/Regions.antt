-- Where members are sought, as the code has it: within a radius, and in a cone where there is one.
use Rattle.std.specs.Prelude.{ℕ, ℤ, Bool, true, false, ◌&&◌, ◌==◌, Option, Some, None}
use Rattle.nl_grid.specs.Geometry.{Plane, heading_between}
use Rattle.nl_grid.specs.declared.point.Point.{Point}
use Rattle.nl_value.specs.declared.sets.AgentKind.TheVariants as the_kind
use Rattle.nl_agents.specs.Nouns.{BreedNumber}
use Rattle.nl_agents.specs.World.{Rest}
use Rattle.nl_agents.specs.Changes.{turtle_of}
use Rattle.nl_agents.specs.declared.agents.Turtle.{Turtle}
use Rattle.nl_agentset_query.specs.Near.{is_within, is_off_by, stands_where}
use Rattle.nl_agentset_query.specs.declared.near.Cone.{Cone}
use Rattle.nl_agentset_query.specs.declared.near.Region.{Region}

-- the direction, if there is one, is one of the cone
abbrev pub is_toward : Option Cone → Option ℤ → Bool
is_toward None direction = true
is_toward (Some cone) direction = is_off_by cone.heading cone.angle direction

abbrev pub is_in_directions : Plane → Region → Point → Bool
is_in_directions plane region to = is_toward region.cone (heading_between plane region.at to)

-- the point lies in the region
abbrev pub holds : Plane → Region → Point → Bool
holds plane region to = is_within plane region.at region.radius to && is_in_directions plane region to

-- the turtle is of the breed, where there is one
abbrev pub is_bred : Option BreedNumber → Option Turtle → Bool
is_bred None found = true
is_bred (Some breed) None = false
is_bred (Some breed) (Some t) = t.breed == breed

-- a turtle is kept where it is of the breed and stands in the region
abbrev pub is_kept : Rest → Region → Option BreedNumber → ℕ → Bool
is_kept r region breed serial = is_bred breed (turtle_of serial r) && stands_where (holds r.shape region) r the_kind.Turtle serial
