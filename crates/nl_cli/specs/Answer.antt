-- What a command does, from the bytes of the files that its form names.
use Rattle.std.specs.Prelude.{◌≡◌, ℕ, [], ◌∷◌, codes, Option, Some, None, Result, Ok, Err}
use Rattle.std.specs.Fmt.{decimal}
use Rattle.nl_fixed.specs.Nouns.{Bytes}
use Rattle.nl_outer.specs.Folder.{Folder}
use Rattle.nl_outer.specs.Nouns.{Words}
use Rattle.nl_experiment_keys.specs.declared.faults.PlanKind.{PlanKind}
use Rattle.nl_experiment.specs.FaultText.{plan_text}
use Rattle.nl_experiment.specs.Numbers.{number_of, run_among}
use Rattle.nl_experiment.specs.Plan.{plan_fault}
use Rattle.nl_experiment.specs.declared.faults.PlanFault.{PlanFault}
use Rattle.nl_experiment_keys.specs.Reading.{fault_at}
use Rattle.nl_check_model.specs.FaultText.{model_kind_text}
use Rattle.nl_check_model.specs.declared.faults.ModelFault.{ModelFault}
use Rattle.nl_cli.specs.Steps.{◌>>=◌, with_fault}
use Rattle.nl_cli.specs.declared.words.Role.{Role}
use Rattle.nl_cli.specs.declared.ends.End.{End}
use Rattle.nl_cli.specs.declared.ends.Status.{Status}
use Rattle.nl_cli.specs.Words.{Paths, Task, table, rerun, check, Command, over, bench, command_of, path_of, paths_for}
use Rattle.nl_cli.specs.Inputs.{Job, Found, IsJob, found_in, runs_in, without}
use Rattle.nl_cli.specs.Table.{joined_text, rows_text, summary_text, table_text}

-- ---- bytes

-- no run has the number that was asked for
abbrev pub no_such_run : PlanKind → End
no_such_run kind = End.Plan (plan_fault (fault_at (codes "run") kind))

-- the number of the run that digits name in a job
abbrev pub run_named : Job → Bytes → Result ℕ End
run_named job digits = with_fault no_such_run (run_among (runs_in job) (number_of digits))

abbrev pub checked_text : Job → Bytes
checked_text job = joined_text (codes "ok " ∷ decimal (runs_in job) ∷ codes "\n" ∷ [])

-- what a task makes of a job
abbrev pub done_by : Bytes → Task → Job → Result Bytes End
done_by model table job = Ok (table_text model job)
done_by model (rerun digits) job = run_named job digits >>= λ number. Ok (rows_text job number)
done_by model check job = Ok (checked_text job)

abbrev pub made_by : Command → Job → Result Bytes End
made_by (over paths task) job = done_by paths.model task job
made_by (bench size) job = Ok (summary_text (paths_for (bench size)).model job)

-- what a command comes to over its inputs: bytes, or an end before any
abbrev pub ComesTo : Command → Found → Result Bytes End → Type 0
ComesTo command found result = (job : Result Job End) × (IsJob found job × (result ≡ (job >>= made_by command)))

-- ---- lines

-- `MODEL:L:C: KIND`
abbrev pub model_line : Bytes → ModelFault → Bytes
model_line path fault =
    joined_text (path ∷ codes ":" ∷ decimal fault.line ∷ codes ":" ∷ decimal fault.column ∷ codes ": " ∷ model_kind_text fault.kind ∷ codes "\n" ∷ [])

-- `EXPERIMENT: KEY: KIND`
abbrev pub plan_line : Bytes → PlanFault → Bytes
plan_line path fault = joined_text (path ∷ codes ": " ∷ plan_text fault ∷ codes "\n" ∷ [])

abbrev pub usage_line : Bytes
usage_line = codes "nlspace: the words name no command\n"

abbrev pub memory_line : Bytes
memory_line = codes "out of memory\n"

abbrev pub write_line : Bytes
write_line = codes "cannot write\n"

abbrev pub cannot_read : Bytes → Bytes
cannot_read path = joined_text (codes "cannot read " ∷ path ∷ codes "\n" ∷ [])

-- the line for an end
abbrev pub line_of : Paths → End → Bytes
line_of paths (End.Model fault) = model_line paths.model fault
line_of paths (End.Plan fault) = plan_line paths.experiment fault
line_of paths (End.Read role) = cannot_read (path_of paths role)
line_of paths End.Write = write_line
line_of paths End.Memory = memory_line

-- ---- answers

abbrev pub status_of : End → Status
status_of (End.Model fault) = Status.Model
status_of (End.Plan fault) = Status.Plan
status_of (End.Read role) = Status.Read
status_of End.Write = Status.Write
status_of End.Memory = Status.Memory

-- the code that the process ends with
abbrev pub code_of : Status → ℕ
code_of Status.Done = 0
code_of Status.Usage = 1
code_of Status.Model = 2
code_of Status.Plan = 3
code_of Status.Read = 4
code_of Status.Write = 5
code_of Status.Memory = 6
code_of Status.NotPartial = 7

-- a status, the bytes for `out` and the line for `err`
pub record Answer : Type 0 where
  pub status : Status
  pub bytes : Bytes
  pub line : Bytes

-- the answer where the words are no form
abbrev pub usage_answer : Answer
usage_answer = record { status = Status.Usage; bytes = []; line = usage_line }

-- the answer where a read of this path fails
abbrev pub read_answer : Bytes → Answer
read_answer path = record { status = Status.Read; bytes = []; line = cannot_read path }

abbrev pub answer_to : Paths → Result Bytes End → Answer
answer_to paths (Ok bytes) = record { status = Status.Done; bytes = bytes; line = [] }
answer_to paths (Err end) = record { status = status_of end; bytes = []; line = line_of paths end }

abbrev pub AnswersTo : Option Command → (Command → Found) → Answer → Type 0
AnswersTo None found answer = answer ≡ usage_answer
AnswersTo (Some command) found answer =
    (result : Result Bytes End) × (ComesTo command (found command) result × (answer ≡ answer_to (paths_for command) result))

-- the answer of a list of words over a folder, of which there is one at most
abbrev pub IsAnswer : Words → Folder → Answer → Type 0
IsAnswer words folder answer = AnswersTo (command_of words) (λ command. found_in command folder) answer

-- the same, where the read of one role fails
abbrev pub IsAnswerWithout : Role → Words → Folder → Answer → Type 0
IsAnswerWithout role words folder answer = AnswersTo (command_of words) (λ command. without role (found_in command folder)) answer
