-- What the parts of a call owe to each other.
use Rattle.std.specs.Prelude.{◌≡◌, ◌⊎◌, ℕ, List, ◌+◌, ◌≤◌, [], ◌∷◌, ◌++◌, Bool, true, false, is_some, nat_le, length, map, Vec, Some, Result, Ok, Err}
use Rattle.std.specs.Fmt.{decimal}
use Rattle.std.specs.List.{flat_map, list_all}
use Rattle.std.specs.Option.{ForSome}
use Rattle.std.specs.declared.alloc.Global.{Global}
use Rattle.nl_fixed.specs.Nouns.{Bytes, Names, Texts}
use Rattle.nl_outer.specs.Bytes.{Appended, PartAppended}
use Rattle.nl_outer.specs.Faults.{Rose}
use Rattle.nl_outer.specs.Folder.{read_of}
use Rattle.nl_outer.specs.Nouns.{Path}
use Rattle.nl_scan.specs.CodePart.{code_of}
use Rattle.nl_value.specs.Limits.{most_bytes}
use Rattle.nl_value.specs.Living.{no_life}
use Rattle.nl_value.specs.Plain.{Plain, PlainNumber}
use Rattle.nl_value.specs.Text.{text_of}
use Rattle.nl_tree.specs.Checked.{Checked}
use Rattle.nl_experiment_sweep.specs.Sweep.{IsRun}
use Rattle.nl_experiment_sweep.specs.Varied.{PlainSetting}
use Rattle.nl_experiment_keys.specs.declared.faults.PlanKind.{PlanKind}
use Rattle.nl_experiment_fields.specs.declared.fields.Fields.{Fields}
use Rattle.nl_experiment.specs.Plan.{experiment_says, order_of, plan_fault}
use Rattle.nl_experiment.specs.Texts.{AreTreesFor, IsFirstBad, texts_of, trees_of}
use Rattle.nl_experiment.specs.declared.texts.Texts as declared
use Rattle.nl_experiment_keys.specs.declared.faults.KeyFault.{KeyFault}
use Rattle.nl_check_model.specs.Verdict.{IsVerdict}
use Rattle.nl_run.specs.Experiments.{trees_seen}
use Rattle.nl_run.specs.declared.rows.Row.{Row}
use Rattle.nl_run.specs.Rows.{end_text}
use Rattle.nl_table.specs.Header.{columns}
use Rattle.nl_cli.specs.Limits.{file_limit}
use Rattle.nl_cli.specs.declared.words.Role.{Role}
use Rattle.nl_cli.specs.declared.ends.End.{End}
use Rattle.nl_cli.specs.declared.ends.Status.{Status}
use Rattle.nl_cli.specs.declared.job.Job.{Job as CodeJob}
use Rattle.nl_cli.specs.declared.rows.Head.{Head}
use Rattle.nl_cli.specs.declared.summary.Total.{Total}
use Rattle.nl_cli.specs.Words.{Command, Paths, bench, named_by, path_of, paths_for}
use Rattle.nl_cli.specs.Inputs.{Job, Found, InputsSay, IsJob, found_at, found_in, made_for, without}
use Rattle.nl_cli.specs.Table.{last_line, metric_texts, rows_text, run_lines, run_numbers, joined_text, setting_text, settings_in, varied_names}
use Rattle.nl_cli.specs.Answer.{ComesTo, no_such_run, status_of, line_of, memory_line}
use Rattle.nl_cli.specs.Outcome.{AllPut, AllRead, Asked, Given, Gets, told_over}

-- ---- what the inputs say

-- what the code keeps of a job, as plain data
abbrev pub job_in : CodeJob → Job
job_in job = record { fields = job.experiment; program = job.program; source = code_of job.model.items; texts = trees_seen job.texts }

-- one read: the first bytes of the file at a path, or its end
abbrev pub Reads : Role → Path → Asked → Result (Vec ℕ Global) End → Type 0
Reads role path files (Ok bytes) =
    AllRead files × (length bytes.items ≤ file_limit + 1)
    × ForSome files.folder (λ folder. read_of path file_limit folder ≡ Some bytes.items)
Reads role path files (Err (End.Read at)) = (at ≡ role) × Rose files.faults_before files.faults_after × (files.last_fault ≡ path)
Reads role path files (Err End.Memory) = AllRead files
Reads role path files (Err _) = ⊥

-- the experiment that a file is, as an end where it is none
abbrev pub ExperimentSays : Bytes → Result Fields End → Type 0
ExperimentSays file (Ok fields) = experiment_says file ≡ Ok fields
ExperimentSays file (Err (End.Plan fault)) = (at : KeyFault) × (experiment_says file ≡ Err at) × (fault ≡ plan_fault at)
ExperimentSays file (Err End.Memory) = Unit {0}
ExperimentSays file (Err _) = ⊥

-- the program that a file is
abbrev pub ProgramSays : Names → Bytes → Result Checked End → Type 0
ProgramSays widgets file (Ok program) = IsVerdict widgets file (Ok program)
ProgramSays widgets file (Err (End.Model fault)) = IsVerdict widgets file (Err fault)
ProgramSays widgets file (Err End.Memory) = Unit {0}
ProgramSays widgets file (Err _) = ⊥

-- the trees of the texts
abbrev pub TreesSay : Fields → Checked → Result declared.Texts End → Type 0
TreesSay fields program (Ok texts) =
    (is_some texts.until ≡ is_some fields.until) × ((is_some texts.measure_when ≡ is_some fields.measure_when)
    × AreTreesFor program (texts_of fields) (trees_of texts))
TreesSay fields program (Err (End.Plan fault)) = IsFirstBad program (texts_of fields) fault
TreesSay fields program (Err End.Memory) = Unit {0}
TreesSay fields program (Err _) = ⊥

-- the text of a value can be told; that of a number always can
abbrev pub is_short_value : Plain → Bool
is_short_value (PlainNumber count) = true
is_short_value value = nat_le (length (text_of no_life false value)) most_bytes

abbrev pub is_short : PlainSetting → Bool
is_short setting = is_short_value setting.value

-- a number of a run of a job
abbrev pub IsRunIn : Job → ℕ → Type 0
IsRunIn job number = IsRun (order_of job.fields) job.fields.vary number

-- the values of all settings can be told
abbrev pub IsSound : Job → Type 0
IsSound job = (number : ℕ) → IsRunIn job number → list_all is_short (settings_in job number) ≡ true

-- what two texts say: a job that is sound, or an end that is no failed read and no failed put
abbrev pub Judges : Bytes → Bytes → Result CodeJob End → Type 0
Judges model experiment (Ok job) = IsSound (job_in job) × InputsSay model experiment (Ok (job_in job))
Judges model experiment (Err (End.Read role)) = ⊥
Judges model experiment (Err End.Write) = ⊥
Judges model experiment (Err End.Memory) = Unit {0}
Judges model experiment (Err end) = InputsSay model experiment (Err end)

-- the same of the inputs that are made for the measure
abbrev pub Makes : ℕ → Result CodeJob End → Type 0
Makes size (Ok job) = IsSound (job_in job) × IsJob (made_for size) (Ok (job_in job))
Makes size (Err (End.Read role)) = ⊥
Makes size (Err End.Write) = ⊥
Makes size (Err End.Memory) = Unit {0}
Makes size (Err end) = IsJob (made_for size) (Err end)

-- a read failed of the file of a role, whose turn had come
pub record ReadStops (paths : Paths) (files : Asked) (role : Role) : Type 0 where
  pub rose : Rose files.faults_before files.faults_after
  pub named : path_of paths role ≡ files.last_fault
  pub turn : ForSome files.folder (λ folder. IsJob (without role (found_at paths folder)) (Err (End.Read role)))

-- the inputs are read: the job, or the end that is defined, a failed read, or want of memory
abbrev pub Gathers : Paths → Asked → Result CodeJob End → Type 0
Gathers paths files (Ok job) =
    AllRead files × IsSound (job_in job) × ForSome files.folder (λ folder. IsJob (found_at paths folder) (Ok (job_in job)))
Gathers paths files (Err (End.Read role)) = ReadStops paths files role
Gathers paths files (Err End.Write) = ⊥
Gathers paths files (Err End.Memory) = AllRead files
Gathers paths files (Err end) =
    AllRead files × ForSome files.folder (λ folder. IsJob (found_at paths folder) (Err end))

-- ---- what is put

-- these bytes are put, or a prefix of them where a put failed or memory was refused
abbrev pub Puts : Bytes → Given → Result (Unit {0}) End → Type 0
Puts bytes sink (Ok _) = AllPut sink × Appended sink.before sink.after bytes
Puts bytes sink (Err End.Write) = Rose sink.faults_before sink.faults_after × PartAppended sink.before sink.after bytes
Puts bytes sink (Err End.Memory) = AllPut sink × PartAppended sink.before sink.after bytes
Puts bytes sink (Err _) = ⊥

-- no put failed, and nothing was put
pub record NothingPut (out : Given) : Type 0 where
  pub sound : AllPut out
  pub nothing : Appended out.before out.after []

-- what is defined is put, or, where an end is defined, it is answered, or want of memory for it, and nothing is put
abbrev pub Does : Result Bytes End → Given → Result (Unit {0}) End → Type 0
Does (Ok bytes) sink result = Puts bytes sink result
Does (Err end) sink result = NothingPut sink × ((result ≡ Err end) ⊎ (result ≡ Err End.Memory))

-- no run has a number, or memory was refused for telling it
abbrev pub IsNoRun : PlanKind → End → Type 0
IsNoRun kind end = (end ≡ no_such_run kind) ⊎ (end ≡ End.Memory)

-- ---- a table as it is made

-- the rows of the runs of these numbers
abbrev pub rows_among : Job → List ℕ → Bytes
rows_among job numbers = joined_text (map (rows_text job) numbers)

-- the cells of a row behind those that each row of its run begins with
abbrev pub cells_behind : Head → Row → Texts
cells_behind head row = head.number ∷ (head.settings ++ (decimal row.step ∷ (metric_texts head.metrics row.cells ++ end_text row.end ∷ [])))

-- what each row of a run begins with
pub record IsHead (job : Job) (number : ℕ) (head : Head) : Type 0 where
  pub called : head.number ≡ decimal number
  pub settings : head.settings ≡ map setting_text (settings_in job number)
  pub metrics : head.metrics ≡ length job.fields.metrics

abbrev pub columns_in : Job → Texts
columns_in job = columns (varied_names job) job.fields.metrics

-- how many bytes a table with such a header has, and its last line
pub record IsTotal (job : Job) (header : ℕ) (total : Total) : Type 0 where
  pub bytes : total.bytes ≡ header + length (rows_among job (run_numbers job))
  pub last : total.last ≡ last_line (columns_in job ∷ flat_map (run_lines job) (run_numbers job))

-- ---- the course of a command

-- a part of what the command comes to was put
pub record PartPut (command : Command) (found : Found) (out : Given) : Type 0 where
  pub bytes : Bytes
  pub comes : ComesTo command found (Ok bytes)
  pub part : PartAppended out.before out.after bytes

-- a read failed of a file that the command names, whose turn had come
pub record StopsAt (command : Command) (files : Asked) (role : Role) : Type 0 where
  pub rose : Rose files.faults_before files.faults_after
  pub named : named_by command role ≡ Some files.last_fault
  pub told : path_of (paths_for command) role ≡ files.last_fault
  pub turn :
      ForSome (told_over (Some command) files.folder) (λ folder. ComesTo command (without role (found_in command folder)) (Err (End.Read role)))

-- all that the command comes to was put
abbrev pub WholePut : Command → Found → Given → Type 0
WholePut command found out = (bytes : Bytes) × ComesTo command found (Ok bytes) × Appended out.before out.after bytes

-- the course of a command
abbrev pub Runs : Command → Asked → Given → Result (Unit {0}) End → Type 0
Runs command files out (Ok _) =
    AllRead files × AllPut out
    × ForSome (told_over (Some command) files.folder) (λ folder. WholePut command (found_in command folder) out)
Runs command files out (Err (End.Read role)) = StopsAt command files role × NothingPut out
Runs command files out (Err End.Write) =
    AllRead files × Rose out.faults_before out.faults_after
    × ForSome (told_over (Some command) files.folder) (λ folder. PartPut command (found_in command folder) out)
Runs command files out (Err End.Memory) =
    AllRead files × AllPut out
    × ForSome (told_over (Some command) files.folder) (λ folder. Appended out.before out.after [] ⊎ PartPut command (found_in command folder) out)
Runs command files out (Err end) =
    AllRead files × NothingPut out
    × ForSome (told_over (Some command) files.folder) (λ folder. ComesTo command (found_in command folder) (Err end))

-- the course of the measure of a size
abbrev pub Measures : ℕ → Given → Result (Unit {0}) End → Type 0
Measures size out (Ok _) = AllPut out × WholePut (bench size) (made_for size) out
Measures size out (Err (End.Read role)) = ⊥
Measures size out (Err End.Write) = Rose out.faults_before out.faults_after × PartPut (bench size) (made_for size) out
Measures size out (Err End.Memory) =
    AllPut out × (Appended out.before out.after [] ⊎ PartPut (bench size) (made_for size) out)
Measures size out (Err end) = NothingPut out × ComesTo (bench size) (made_for size) (Err end)

-- ---- lines

-- The line of this end is made, which takes memory. Those of a failed put and of want of memory are at hand.
abbrev pub IsLineMade : End → Type 0
IsLineMade End.Write = ⊥
IsLineMade End.Memory = ⊥
IsLineMade end = Unit {0}

-- the line of an end is told, or memory is refused for it
abbrev pub Tells : Paths → End → Given → Status → Type 0
Tells paths end err status =
    ((status ≡ status_of end) × Gets (line_of paths end) err) ⊎ (IsLineMade end × (status ≡ Status.Memory) × Gets memory_line err)
