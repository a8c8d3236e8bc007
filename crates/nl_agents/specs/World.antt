-- The plain world: lists of living agents, and the global variables.
--
-- A list is in the order of the agents' serials, or of the numbers of patches. Global variables are apart from the rest, so that what
-- touches none of them is a function of the rest alone; the number of the run and the name of the experiment, which no text sets,
-- belong to the rest.
use Rattle.std.specs.Prelude.{ℕ, Bool, List, [], map, replicate, Some, None, if◌then◌else◌}
use Rattle.nl_value.specs.Plain.{Plain}
use Rattle.nl_grid.specs.Geometry.{Plane, patches_of}
use Rattle.nl_agents_layout.specs.Nouns.{Slot, Slots, BreedNumber}
use Rattle.nl_agents.specs.Nouns.{Vars}
use Rattle.nl_agents_layout.specs.BuiltIn.{zero_value, first_of_turtle, first_of_patch, first_of_link}
use Rattle.nl_agents_layout.specs.Layouts.{turtle_owns, link_owns}
use Rattle.nl_agents_layout.specs.declared.layout.Layout.{Layout}
use Rattle.nl_agents.specs.declared.agents.Turtle.{Turtle}
use Rattle.nl_agents.specs.declared.agents.Link.{Link}

-- all but the global variables: the world's shape and layout, the number of the run and the name of its experiment, the agents, how many
-- serials of turtles and of links were given, and the serial of the turtle that is called 0
pub record Rest : Type 0 where
  pub shape : Plane
  pub layout : Layout
  pub run : List Plain
  pub turtles : List Turtle
  pub patches : List Vars
  pub links : List Link
  pub turtles_given : ℕ
  pub links_given : ℕ
  pub base : ℕ

pub record World : Type 0 where
  pub globals : List Plain
  pub rest : Rest

-- ---- first values

-- what an agent keeps at first, by what it owns of these slots
abbrev pub first_vars : (Slot → Bool) → (Slot → Plain) → Slots → Vars
first_vars owns first slots = map (λ slot. if owns slot then Some (first slot) else None) slots

abbrev pub first_turtle_vars : Layout → BreedNumber → Vars
first_turtle_vars layout breed = first_vars (turtle_owns layout breed) first_of_turtle layout.some_turtle

abbrev pub first_link_vars : Layout → BreedNumber → Vars
first_link_vars layout breed = first_vars (link_owns layout breed) first_of_link layout.some_link

abbrev pub first_patch_vars : Layout → Vars
first_patch_vars layout = map (λ slot. Some (first_of_patch slot)) layout.every_patch

abbrev pub first_patches : Layout → Plane → List Vars
first_patches layout shape = replicate (patches_of shape) (first_patch_vars layout)

-- no turtles and links, patches with their first values, and each global variable 0
abbrev pub first_world : Layout → Plane → World
first_world layout shape = record {
  globals = replicate layout.globals zero_value;
  rest = record {
    shape = shape;
    layout = layout;
    run = replicate 2 zero_value;
    turtles = [];
    patches = first_patches layout shape;
    links = [];
    turtles_given = 0;
    links_given = 0;
    base = 0;
  };
}
