-- The forms of the words, and which files they name. The forms are this project's own.
use Rattle.std.specs.Prelude.{◌≡◌, ◌≤◌, ⊤, ℕ, [], ◌∷◌, codes, Option, Some, None, Bool, true, false, not, ◌&&◌, ◌==◌, nat_le, if◌then◌else◌}
use Rattle.std.specs.Char.{is_ascii_digit}
use Rattle.std.specs.List.{list_all}
use Rattle.std.specs.Option.{option_map}
use Rattle.nl_fixed.specs.Nouns.{Bytes}
use Rattle.nl_outer.specs.Folder.{same_bytes}
use Rattle.nl_outer.specs.Nouns.{Path, Words}
use Rattle.nl_experiment.specs.Numbers.{AreDigits, number_of}
use Rattle.nl_cli.specs.Limits.{most_size}
use Rattle.nl_cli.specs.declared.words.Role.{Role}
use Rattle.nl_cli.specs.declared.words.Paths.{Paths as CodePaths}
use Rattle.nl_cli.specs.declared.words.Task.{Task as CodeTask}
use Rattle.nl_cli.specs.declared.words.Command.{Command as CodeCommand}

-- ---- commands

-- the paths that a form names
pub record Paths : Type 0 where
  pub model : Path
  pub experiment : Path

-- what is asked of a model and an experiment: the whole table, the rows of the run that these digits name, or how many runs there are
pub data Task : Type 0 where
  table : Task
  rerun : Bytes → Task
  check : Task

-- a task over two files, or the measure of a size
pub data Command : Type 0 where
  over : Paths → Task → Command
  bench : ℕ → Command

-- ---- numbers as words

abbrev pub are_digits : Bytes → Bool
are_digits word = list_all is_ascii_digit word

-- digits without a sign, and without a 0 before others
abbrev pub is_number : Bytes → Bool
is_number [] = false
is_number (digit ∷ []) = is_ascii_digit digit
is_number (digit ∷ next ∷ digits) = are_digits (digit ∷ next ∷ digits) && not (digit == 48)

-- a size that the measure may have
abbrev pub size_among : ℕ → Option ℕ
size_among size = if nat_le 1 size && nat_le size most_size then Some size else None

abbrev pub bench_of : Bytes → Option Command
bench_of word = if is_number word then option_map bench (size_among (number_of word)) else None

-- ---- forms

-- a command that takes two files and nothing else
abbrev pub task_named : Bytes → Option Task
task_named command =
    if same_bytes command (codes "table") then Some table else if same_bytes command (codes "check") then Some check else None

-- one that takes a number behind them
abbrev pub task_numbered : Bytes → Bytes → Option Task
task_numbered command number = if same_bytes command (codes "rerun") && is_number number then Some (rerun number) else None

abbrev pub paths_to : Path → Path → Paths
paths_to model experiment = record { model = model; experiment = experiment }

-- `bench N`, `table MODEL EXPERIMENT`, `check MODEL EXPERIMENT`, `rerun MODEL EXPERIMENT K`
abbrev pub command_of : Words → Option Command
command_of (command ∷ size ∷ []) = if same_bytes command (codes "bench") then bench_of size else None
command_of (command ∷ model ∷ experiment ∷ []) = option_map (over (paths_to model experiment)) (task_named command)
command_of (command ∷ model ∷ experiment ∷ number ∷ []) = option_map (over (paths_to model experiment)) (task_numbered command number)
command_of _ = None

-- ---- files

-- the path that plays a role
abbrev pub path_of : Paths → Role → Path
path_of paths Role.Model = paths.model
path_of paths Role.Experiment = paths.experiment

-- what the inputs are called in lines and tables
abbrev pub paths_for : Command → Paths
paths_for (over paths task) = paths
paths_for (bench size) = paths_to (codes "bench") (codes "bench")

-- the path that a command names for a role, if it names one
abbrev pub named_by : Command → Role → Option Path
named_by (over paths task) role = Some (path_of paths role)
named_by (bench size) role = None

-- a path may be asked for, if there is one
abbrev pub Served : (Path → Bool) → Option Path → Type 0
Served serves None = ⊤
Served serves (Some path) = serves path ≡ true

-- each path that is named is served
pub record AllServed (serves : Path → Bool) (command : Command) : Type 0 where
  pub model : Served serves (named_by command Role.Model)
  pub experiment : Served serves (named_by command Role.Experiment)

-- the same of two paths
pub record PathsServed (serves : Path → Bool) (paths : Paths) : Type 0 where
  pub model : serves paths.model ≡ true
  pub experiment : serves paths.experiment ≡ true

-- ---- what every command has that words are

abbrev pub IsRightTask : Task → Type 0
IsRightTask table = ⊤
IsRightTask (rerun number) = AreDigits number
IsRightTask check = ⊤

abbrev pub IsRight : Command → Type 0
IsRight (over paths task) = IsRightTask task
IsRight (bench size) = size ≤ most_size

-- ---- what the code keeps, as plain data

abbrev pub paths_in : CodePaths → Paths
paths_in paths = record { model = paths.model.now; experiment = paths.experiment.now }

abbrev pub task_in : CodeTask → Task
task_in CodeTask.Table = table
task_in (CodeTask.Rerun number) = rerun number.now
task_in CodeTask.Check = check

abbrev pub command_in : CodeCommand → Command
command_in (CodeCommand.Over paths task) = over (paths_in paths) (task_in task)
command_in (CodeCommand.Bench size) = bench size
