-- The turtles and links that records stand for.
use Rattle.std.specs.Prelude.{◌≡◌, ℕ, List, Option, Some, None, All, find, length, map, if◌then◌else◌}
use Rattle.std.specs.Option.{option_map}
use Rattle.nl_value.specs.Plain.{Plain}
use Rattle.nl_grid.specs.Geometry.{Plane}
use Rattle.nl_grid.specs.declared.point.Point.{Point}
use Rattle.nl_agents_layout.specs.Nouns.{Slot, Slots}
use Rattle.nl_agents_layout.specs.declared.layout.Layout.{Layout}
use Rattle.nl_agents.specs.Nouns.{Vars}
use Rattle.nl_agents.specs.Changes.{bred_vars, is_link, is_turtle, value_in}
use Rattle.nl_agents.specs.declared.agents.Turtle as living
use Rattle.nl_agents.specs.declared.agents.Link as tie
use Rattle.nl_store_records.specs.Records.{fields_at}
use Rattle.nl_store_records.specs.declared.fields.Body.{Body}
use Rattle.nl_store_records.specs.declared.fields.Body.TheVariants.{Turtle, Link}
use Rattle.nl_store_records.specs.declared.fields.Fields.{Fields}
use Rattle.nl_store_records.specs.declared.record.Record.{Record}

-- the turtle of this serial and breed, with these variables, that is so; none where it is a link
abbrev pub turtle_as : ℕ → ℕ → Vars → Body → Option living.Turtle
turtle_as serial breed vars (Turtle at) = Some (record { serial = serial; breed = breed; at = at; vars = vars })
turtle_as serial breed vars (Link directed end1 end2) = None

-- the link, likewise; none where it is a turtle
abbrev pub link_as : ℕ → ℕ → Vars → Body → Option tie.Link
link_as serial breed vars (Turtle at) = None
link_as serial breed vars (Link directed end1 end2) =
    Some (record { serial = serial; breed = breed; directed = directed; end1 = end1; end2 = end2; vars = vars })

abbrev pub turtle_in : Option Fields → Option living.Turtle
turtle_in None = None
turtle_in (Some f) = turtle_as f.serial f.breed f.vars f.body

abbrev pub link_in : Option Fields → Option tie.Link
link_in None = None
link_in (Some f) = link_as f.serial f.breed f.vars f.body

-- the turtle, or the link, under each key
abbrev pub turtle_at : (ℕ → Option Record) → ℕ → Option living.Turtle
turtle_at at key = turtle_in (fields_at at key)

abbrev pub link_at : (ℕ → Option Record) → ℕ → Option tie.Link
link_at at key = link_in (fields_at at key)

abbrev pub turtle_serial : living.Turtle → ℕ
turtle_serial t = t.serial

abbrev pub link_serial : tie.Link → ℕ
link_serial l = l.serial

-- what contracts see of the files: the turtles and the links in order of their serials, how many serials were given, and for which points and
-- breeds there are chains
pub record Agents : Type 0 where
  pub shape : Plane
  pub breeds : ℕ
  pub turtles : List living.Turtle
  pub links : List tie.Link
  pub turtles_given : ℕ
  pub links_given : ℕ

-- the value under a slot of what an agent keeps, where there is one
abbrev pub entry_of : Slots → Slot → Option Vars → Option Plain
entry_of slots slot None = None
entry_of slots slot (Some vars) = value_in slots vars slot

abbrev pub entry_in : Slots → Slot → Option Fields → Option Plain
entry_in slots slot o = entry_of slots slot (option_map (λ (f : Fields). f.vars) o)

-- it keeps one entry a slot of turtles
abbrev pub HasMany : Layout → Option Fields → Type 0
HasMany layout None = ⊥
HasMany layout (Some f) = length f.vars ≡ length layout.some_turtle

abbrev pub turtle_entry : Slots → Slot → ℕ → List living.Turtle → Option Plain
turtle_entry slots slot serial turtles = entry_of slots slot (option_map (λ (t : living.Turtle). t.vars) (find (is_turtle serial) turtles))

abbrev pub link_entry : Slots → Slot → ℕ → List tie.Link → Option Plain
link_entry slots slot serial links = entry_of slots slot (option_map (λ (l : tie.Link). l.vars) (find (is_link serial) links))

-- each turtle keeps one entry a slot
abbrev pub KeepAll : Layout → List living.Turtle → Type 0
KeepAll layout turtles = All (λ (t : living.Turtle). length t.vars ≡ length layout.some_turtle) turtles

-- ---- changes of one agent

abbrev pub turtles_moved : ℕ → Point → List living.Turtle → List living.Turtle
turtles_moved serial to turtles = map (λ (t : living.Turtle). if is_turtle serial t then record t { at = to } else t) turtles

abbrev pub turtles_of_other_breed : ℕ → ℕ → List living.Turtle → List living.Turtle
turtles_of_other_breed serial breed turtles = map (λ (t : living.Turtle). if is_turtle serial t then record t { breed = breed } else t) turtles

abbrev pub turtles_filled : (Vars → Vars) → ℕ → List living.Turtle → List living.Turtle
turtles_filled change serial turtles = map (λ (t : living.Turtle). if is_turtle serial t then record t { vars = change t.vars } else t) turtles

abbrev pub turtles_rebred : Layout → ℕ → ℕ → List living.Turtle → List living.Turtle
turtles_rebred layout serial breed turtles =
    map (λ (t : living.Turtle). if is_turtle serial t then record t { breed = breed; vars = bred_vars layout breed t.vars } else t) turtles

abbrev pub links_filled : (Vars → Vars) → ℕ → List tie.Link → List tie.Link
links_filled change serial links = map (λ (l : tie.Link). if is_link serial l then record l { vars = change l.vars } else l) links
