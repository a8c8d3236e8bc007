-- The world that a store of lists stands for.
use Rattle.std.specs.Prelude.{◌≡◌, ℕ, ◌-◌, nat_lt, slice_set, Bool, true, if◌then◌else◌, List, Option, Some, None, IsSome, All, filter, find, length, map, option_map, slice_get}
use Rattle.std.specs.Option.{option_and_then}
use Rattle.std.specs.List.Sorted.{IsStrictlyIncreasing}
use Rattle.nl_value.specs.Plain.{Plain}
use Rattle.nl_grid.specs.Geometry.{Plane}
use Rattle.nl_grid.specs.declared.point.Point.{Point}
use Rattle.nl_agents_layout.specs.Nouns.{Slot, Slots, BreedNumber}
use Rattle.nl_agents.specs.Nouns.{Vars}
use Rattle.nl_agents.specs.Changes.{is_turtle, is_link, value_in, value_set, changed_at, bred_vars, birth_vars}
use Rattle.nl_agents.specs.Members.{is_unbreeded}
use Rattle.nl_agents.specs.World.{World}
use Rattle.nl_agents_layout.specs.declared.layout.Layout.{Layout}
use Rattle.nl_agents.specs.declared.agents.Turtle.{Turtle}
use Rattle.nl_agents.specs.declared.agents.Link.{Link}

abbrev pub world_of : Plane → Layout → List Plain → List Plain → List Turtle → List Vars → List Link → ℕ → ℕ → ℕ → World
world_of shape layout globals run turtles patches links turtles_given links_given base = record {
  globals = globals;
  rest = record {
    shape = shape;
    layout = layout;
    run = run;
    turtles = turtles;
    patches = patches;
    links = links;
    turtles_given = turtles_given;
    links_given = links_given;
    base = base;
  };
}

-- the first item that passes a test, and the index at which it stands
pub record StandsAt {X : Type 0} (test : X → Bool) (xs : List X) (at : ℕ) : Type 0 where
  pub item : X
  pub stands : slice_get xs at ≡ Some item
  pub passes : test item ≡ true
  pub first : find test xs ≡ Some item

-- the value under a slot of what an agent keeps, where there is such an agent
abbrev pub entry_of : Slots → Slot → Option Vars → Option Plain
entry_of slots slot None = None
entry_of slots slot (Some vars) = value_in slots vars slot

-- ---- lists of turtles, of links and of patches

-- the turtles, or links, are in the order of their serials
abbrev pub TurtlesAscend : List Turtle → Type 0
TurtlesAscend turtles = IsStrictlyIncreasing (map (λ t. t.serial) turtles)

abbrev pub LinksAscend : List Link → Type 0
LinksAscend links = IsStrictlyIncreasing (map (λ l. l.serial) links)

-- one of them has the serial
abbrev pub HasTurtle : ℕ → List Turtle → Type 0
HasTurtle serial turtles = IsSome (find (is_turtle serial) turtles)

abbrev pub HasLink : ℕ → List Link → Type 0
HasLink serial links = IsSome (find (is_link serial) links)

-- how many links of no breed have a direction, or have none
abbrev pub unbreeded : (directed : Bool) → List Link → ℕ
unbreeded directed links = length (filter (is_unbreeded directed) links)

-- each turtle keeps one entry a slot
abbrev pub KeepAll : Layout → List Turtle → Type 0
KeepAll layout turtles = All (λ t. length t.vars ≡ length layout.some_turtle) turtles

-- what a turtle keeps at its birth, of a parent among these or of none
abbrev pub birth_vars_among : Layout → BreedNumber → Option ℕ → List Turtle → Vars
birth_vars_among layout breed parent turtles = birth_vars layout breed (option_and_then (λ serial. find (is_turtle serial) turtles) parent)

-- a turtle is moved, or is of another breed
abbrev pub turtles_moved : ℕ → Point → List Turtle → List Turtle
turtles_moved serial to turtles = map (λ t. if is_turtle serial t then record t { at = to } else t) turtles

abbrev pub turtles_rebred : Layout → ℕ → BreedNumber → List Turtle → List Turtle
turtles_rebred layout serial breed turtles =
    map (λ t. if is_turtle serial t then record t { breed = breed; vars = bred_vars layout breed t.vars } else t) turtles

-- the value of a variable of a turtle, of a link, of a patch, where there is one
abbrev pub turtle_entry : Slots → Slot → ℕ → List Turtle → Option Plain
turtle_entry slots slot serial turtles = entry_of slots slot (option_map (λ t. t.vars) (find (is_turtle serial) turtles))

abbrev pub link_entry : Slots → Slot → ℕ → List Link → Option Plain
link_entry slots slot serial links = entry_of slots slot (option_map (λ l. l.vars) (find (is_link serial) links))

abbrev pub patch_entry : Slots → Slot → ℕ → List Vars → Option Plain
patch_entry slots slot patch patches = entry_of slots slot (slice_get patches patch)

-- a variable of one of them is set
abbrev pub turtles_set : Slots → Slot → Plain → ℕ → List Turtle → List Turtle
turtles_set slots slot value serial turtles =
    map (λ t. if is_turtle serial t then record t { vars = value_set slots t.vars slot value } else t) turtles

abbrev pub links_set : Slots → Slot → Plain → ℕ → List Link → List Link
links_set slots slot value serial links =
    map (λ l. if is_link serial l then record l { vars = value_set slots l.vars slot value } else l) links

abbrev pub patches_set : Slots → Slot → Plain → ℕ → List Vars → List Vars
patches_set slots slot value patch patches = changed_at (λ vars. value_set slots vars slot value) patch patches

-- the global variables of the model, and what a run is, after a slot of both was set
abbrev pub globals_set : Slot → Plain → List Plain → List Plain
globals_set slot value globals = if nat_lt slot (length globals) then slice_set globals slot value else globals

abbrev pub run_set : Slot → Plain → List Plain → List Plain → List Plain
run_set slot value globals run = if nat_lt slot (length globals) then run else slice_set run (slot - length globals) value
