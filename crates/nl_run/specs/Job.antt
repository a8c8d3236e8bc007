-- What a run is made of. Of other runs of its experiment it has nothing.
use Rattle.std.specs.Prelude.{ℕ, List, [], ◌∷◌, ◌++◌, Option, Some, None, pos, ◌*ℤ◌}
use Rattle.nl_fixed.specs.Nouns.{Bytes, Name, Texts}
use Rattle.nl_fixed.specs.Numbers.{one}
use Rattle.nl_value.specs.Plain.{Plain, PlainNumber, PlainWords}
use Rattle.nl_draw.specs.Stream.{first_state}
use Rattle.nl_grid.specs.Geometry.{Plane}
use Rattle.nl_tree.specs.Checked.{Checked}
use Rattle.nl_tree.specs.Slots.{global_slot, run_number, experiment_name}
use Rattle.nl_tree.specs.Tree.{Node}
use Rattle.nl_agents_layout.specs.Layouts.{layout_of}
use Rattle.nl_agents.specs.Changes.{revalued}
use Rattle.nl_agents.specs.World.{World, first_world}
use Rattle.nl_agents.specs.declared.agents.Owner.TheVariants.{Observer}
use Rattle.nl_exec_acts.specs.Stage.{Scene, scene}
use Rattle.nl_experiment_sweep.specs.Varied.{PlainSetting}

-- ---- texts and their trees

-- the trees of the texts of an experiment, beside its program
pub record Trees : Type 0 where
  pub setup : Node
  pub go : Node
  pub until : Option Node
  pub when : Option Node
  pub metrics : List Node

abbrev pub maybe_listed : Option Node → List Node
maybe_listed None = []
maybe_listed (Some tree) = tree ∷ []

-- the same as a list: setup, go, the conditions that there are, and the metrics
abbrev pub listed : Trees → List Node
listed t = t.setup ∷ t.go ∷ (maybe_listed t.until ++ (maybe_listed t.when ++ t.metrics))

-- a text of the experiment, and the tree that it is beside the program
pub record Lone : Type 0 where
  pub bytes : Bytes
  pub tree : Node

abbrev pub lone : Bytes → Node → Lone
lone bytes tree = record { bytes = bytes; tree = tree }

abbrev pub maybe_lone : Option Bytes → Option Node → Option Lone
maybe_lone None tree = None
maybe_lone (Some bytes) None = None
maybe_lone (Some bytes) (Some tree) = Some (lone bytes tree)

abbrev pub lones : Texts → List Node → List Lone
lones [] trees = []
lones (bytes ∷ texts) [] = []
lones (bytes ∷ texts) (tree ∷ trees) = lone bytes tree ∷ lones texts trees

-- ---- the run

-- `source` is the code part of the model. A run ends where `until` is true, and measures where `when` is, or at its end where there is no `when`.
-- A run's number counts from 1, a number of steps that is 0 sets no end, and a budget is in units.
pub record Job : Type 0 where
  pub program : Checked
  pub source : Bytes
  pub shape : Plane
  pub experiment : Bytes
  pub number : ℕ
  pub seed : ℕ
  pub globals : List PlainSetting
  pub settings : List PlainSetting
  pub setup : Lone
  pub go : Lone
  pub until : Option Lone
  pub when : Option Lone
  pub metrics : List Lone
  pub steps : ℕ
  pub budget : ℕ

-- ---- what a run begins with

abbrev pub set_at : Option ℕ → Plain → World → World
set_at None value w = w
set_at (Some slot) value w = revalued Observer slot value w

-- the global variable of a name, if the program has one: bounds of the world and seeds have none
abbrev pub set_named : Checked → Name → Plain → World → World
set_named p name value w = set_at (global_slot p.declared name) value w

abbrev pub set_all : Checked → List PlainSetting → World → World
set_all p [] w = w
set_all p (s ∷ ss) w = set_all p ss (set_named p s.name s.value w)

abbrev pub whole : ℕ → Plain
whole count = PlainNumber (pos count *ℤ pos one)

-- the run's number and the experiment's name
abbrev pub called : Job → World → World
called j w = set_named j.program experiment_name (PlainWords j.experiment) (set_named j.program run_number (whole j.number) w)

-- what a run is called comes first, then the experiment's global variables, and then what is varied
abbrev pub world_at_first : Job → World
world_at_first j =
    set_all j.program j.settings (set_all j.program j.globals (called j (first_world (layout_of j.program.declared) j.shape)))

-- the clock is off, and the stream begins with the seed
abbrev pub scene_at_first : Job → Scene
scene_at_first j = scene (world_at_first j) None (first_state j.seed)
