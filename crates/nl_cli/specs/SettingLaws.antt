-- What the settings of a job mean.
use Rattle.std.specs.Prelude.{◌≡◌, ◌⊎◌, ℕ, ◌<◌, IsTrue, Some, All, Ok}
use Rattle.nl_fixed.specs.Nouns.{Name}
use Rattle.nl_tree.specs.Checked.{Checked}
use Rattle.nl_tree.specs.Slots.{experiment_name, global_slot, globals_count, run_number}
use Rattle.nl_experiment_sweep.specs.Varied.{PlainSetting}
use Rattle.nl_experiment_fields.specs.Names.{is_of_run}
use Rattle.nl_cli.specs.Inputs.{Found, IsJob, Job, run_of}

-- the program has a global variable of the name
abbrev pub HasVariable : Checked → Name → Type 0
HasVariable p name = (slot : ℕ) × ((global_slot p.declared name ≡ Some slot) × (slot < globals_count p.declared))

-- a setting of a global variable, or of the run itself, as of a bound of its world or of its seed
abbrev pub IsOfProgram : Checked → PlainSetting → Type 0
IsOfProgram p s = IsTrue (is_of_run s.name) ⊎ HasVariable p s.name

-- Whatever a run of a job sets is a variable of its program, or its own: the global variables and the settings of its experiment, the run's
-- number and the experiment's name. So no setting is passed over.
pub record SetsAll (job : Job) (run : ℕ) : Type 0 where
  pub globals : All (IsOfProgram job.program) (run_of job run).globals
  pub settings : All (IsOfProgram job.program) (run_of job run).settings
  pub number : HasVariable job.program run_number
  pub name : HasVariable job.program experiment_name

abbrev pub JobsSetTheirNames : Type 0
JobsSetTheirNames = (found : Found) (job : Job) → IsJob found (Ok job) → (run : ℕ) → SetsAll job run
