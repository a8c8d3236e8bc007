-- What agents keep to, so that the same can be made again.
use Rattle.std.specs.Prelude.{◌≡◌, ℕ, ◌<◌, ◌≤◌, ◌==◌, false, List, All, IsSome, find, length, map}
use Rattle.std.specs.List.Sorted.{IsStrictlyIncreasing}
use Rattle.nl_grid.specs.Geometry.{IsPointOf, Plane}
use Rattle.nl_agents.specs.Changes.{is_turtle}
use Rattle.nl_agents.specs.declared.agents.Turtle.{Turtle}
use Rattle.nl_agents.specs.declared.agents.Link.{Link}
use Rattle.nl_store_files.specs.Agents.{Agents, link_serial, turtle_serial}
use Rattle.nl_store.specs.Counts.{AreCounts}
use Rattle.nl_store.specs.declared.census.Census.{Census}

-- the turtles, or links, are in the order of their serials
abbrev pub TurtlesAscend : List Turtle → Type 0
TurtlesAscend turtles = IsStrictlyIncreasing (map turtle_serial turtles)

abbrev pub LinksAscend : List Link → Type 0
LinksAscend links = IsStrictlyIncreasing (map link_serial links)

-- the turtle's serial was given, and there are chains for its point and its breed
pub record IsTurtleAmong (a : Agents) (t : Turtle) : Type 0 where
  pub given : t.serial < a.turtles_given
  pub at : IsPointOf a.shape t.at
  pub breed : t.breed < a.breeds

-- the link's serial was given, and its ends are two turtles
pub record IsLinkAmong (a : Agents) (l : Link) : Type 0 where
  pub given : l.serial < a.links_given
  pub first : IsSome (find (is_turtle l.end1) a.turtles)
  pub second : IsSome (find (is_turtle l.end2) a.turtles)
  pub apart : (l.end1 == l.end2) ≡ false

-- the agents are in the order of their serials, and no more than may be
pub record AreSound (a : Agents) : Type 0 where
  pub turtles_ascend : TurtlesAscend a.turtles
  pub turtles : All (IsTurtleAmong a) a.turtles
  pub few_turtles : length a.turtles ≤ 200_000
  pub turtles_given : a.turtles_given ≤ 9_000_000_000_000
  pub links_ascend : LinksAscend a.links
  pub links : All (IsLinkAmong a) a.links
  pub few_links : length a.links ≤ 400_000
  pub links_given : a.links_given ≤ 9_000_000_000_000

-- the counts are those of the agents, and shape and breeds are theirs
pub record IsRoster (a : Agents) (census : Census) (shape : Plane) (breeds : ℕ) : Type 0 where
  pub counts : AreCounts census a.breeds a.turtles a.links
  pub shape_is : shape ≡ a.shape
  pub breeds_are : breeds ≡ a.breeds
