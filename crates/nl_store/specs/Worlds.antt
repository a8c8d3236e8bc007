-- The world that a store by records stands for.
use Rattle.std.specs.Prelude.{◌≡◌, ℕ, List, Option, find}
use Rattle.std.specs.Option.{option_and_then}
use Rattle.nl_agents_layout.specs.Nouns.{BreedNumber}
use Rattle.nl_agents_layout.specs.Layouts.{breeds_count}
use Rattle.nl_agents_layout.specs.declared.layout.Layout.{Layout}
use Rattle.nl_agents.specs.Nouns.{Vars}
use Rattle.nl_agents.specs.Changes.{birth_vars, is_turtle}
use Rattle.nl_agents.specs.declared.agents.Turtle.{Turtle}
use Rattle.nl_agents.specs.World.{World}
use Rattle.nl_agents_ground.specs.Grounds.{world_on}
use Rattle.nl_agents_ground.specs.declared.ground.Ground.{Ground}
use Rattle.nl_store_files.specs.Agents.{Agents}

-- the world of a ground, of agents, and of the serial of the turtle that is called 0
abbrev pub world_with : Ground → Agents → ℕ → World
world_with land a base = world_on land a.turtles a.links a.turtles_given a.links_given base

-- the agents are of the shape, and have chains for the breeds of the layout
pub record AreOf (land : Ground) (a : Agents) : Type 0 where
  pub shape_is : a.shape ≡ land.shape
  pub breeds_are : a.breeds ≡ breeds_count land.layout

-- what a turtle keeps at its birth, of a parent among these or of none
abbrev pub birth_vars_among : Layout → BreedNumber → Option ℕ → List Turtle → Vars
birth_vars_among layout breed parent turtles = birth_vars layout breed (option_and_then (λ serial. find (is_turtle serial) turtles) parent)
