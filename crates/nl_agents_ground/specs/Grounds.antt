-- What a world has beside its turtles and links.
use Rattle.std.specs.Prelude.{◌≡◌, ℕ, ◌-◌, nat_lt, slice_set, if◌then◌else◌, List, Option, Some, None, length, replicate, slice_get}
use Rattle.nl_value.specs.Plain.{Plain}
use Rattle.nl_grid.specs.Geometry.{Plane}
use Rattle.nl_agents_layout.specs.Nouns.{Slot, Slots}
use Rattle.nl_agents_layout.specs.BuiltIn.{zero_value}
use Rattle.nl_agents_layout.specs.declared.layout.Layout.{Layout}
use Rattle.nl_agents.specs.Nouns.{Vars}
use Rattle.nl_agents.specs.Changes.{value_in, value_set, changed_at}
use Rattle.nl_agents.specs.World.{World, first_patches}
use Rattle.nl_agents.specs.declared.agents.Turtle.{Turtle}
use Rattle.nl_agents.specs.declared.agents.Link.{Link}
use Rattle.nl_agents_ground.specs.declared.ground.Ground.{Ground}

-- the world of a ground and of these agents
abbrev pub world_on : Ground → List Turtle → List Link → (turtles_given links_given base : ℕ) → World
world_on g turtles links turtles_given links_given base = record {
  globals = g.globals;
  rest = record {
    shape = g.shape;
    layout = g.layout;
    run = g.run;
    turtles = turtles;
    patches = g.patches.items;
    links = links;
    turtles_given = turtles_given;
    links_given = links_given;
    base = base;
  };
}

-- each global variable is 0, and patches have their first values
pub record IsFirst (layout : Layout) (shape : Plane) (g : Ground) : Type 0 where
  pub shape_is : g.shape ≡ shape
  pub layout_is : g.layout ≡ layout
  pub globals : g.globals ≡ replicate layout.globals zero_value
  pub run : g.run ≡ replicate 2 zero_value
  pub patches : g.patches.items ≡ first_patches layout shape

-- the value under a slot of what a patch keeps, where there is such a patch
abbrev pub entry_of : Slots → Slot → Option Vars → Option Plain
entry_of slots slot None = None
entry_of slots slot (Some vars) = value_in slots vars slot

abbrev pub patch_entry : Slots → Slot → ℕ → List Vars → Option Plain
patch_entry slots slot patch patches = entry_of slots slot (slice_get patches patch)

-- a variable of one of them is set
abbrev pub patches_set : Slots → Slot → Plain → ℕ → List Vars → List Vars
patches_set slots slot value patch patches = changed_at (λ vars. value_set slots vars slot value) patch patches

-- the global variables of the model, and what a run is, after a slot of both was set
abbrev pub globals_set : Slot → Plain → List Plain → List Plain
globals_set slot value globals = if nat_lt slot (length globals) then slice_set globals slot value else globals

abbrev pub run_set : Slot → Plain → List Plain → List Plain → List Plain
run_set slot value globals run = if nat_lt slot (length globals) then run else slice_set run (slot - length globals) value

-- shape, layout and patches are as they were
pub record KeepsPatches (old new : Ground) : Type 0 where
  pub shape_is : new.shape ≡ old.shape
  pub layout_is : new.layout ≡ old.layout
  pub patches_are : new.patches.items ≡ old.patches.items

-- shape, layout, global variables and what a run is are as they were
pub record KeepsGlobals (old new : Ground) : Type 0 where
  pub shape_is : new.shape ≡ old.shape
  pub layout_is : new.layout ≡ old.layout
  pub globals_are : new.globals ≡ old.globals
  pub run_is : new.run ≡ old.run
