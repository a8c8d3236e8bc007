-- What the inputs of a command say: a program with an experiment whose texts have trees beside it, or the first end in the order of the reads
-- and faults. That order is this project's own choice.
use Rattle.std.specs.Prelude.{◌≡◌, ◌⊎◌, ⊤, ℕ, List, [], ◌∷◌, Option, Some, None, Result, Ok, Err}
use Rattle.nl_fixed.specs.Nouns.{Bytes, Names}
use Rattle.nl_outer.specs.Folder.{Folder, content_of}
use Rattle.nl_scan.specs.CodePart.{code_of}
use Rattle.nl_tree.specs.Checked.{Checked}
use Rattle.nl_tree.specs.Tree.{Node}
use Rattle.nl_tree.specs.declared.declared.Form.TheVariants as form
use Rattle.nl_check_model.specs.LoneText.{IsLoneTree}
use Rattle.nl_experiment_sweep.specs.Sweep.{runs_of}
use Rattle.nl_experiment_keys.specs.declared.faults.KeyFault.{KeyFault}
use Rattle.nl_experiment_fields.specs.declared.fields.Fields.{Fields}
use Rattle.nl_experiment.specs.Plan.{experiment_says, order_of, plan_fault}
use Rattle.nl_experiment.specs.Texts.{IsFirstBad, texts_of}
use Rattle.nl_experiment.specs.Widgets.{widgets_of}
use Rattle.nl_experiment.specs.declared.faults.PlanFault.{PlanFault}
use Rattle.nl_check_model.specs.Verdict.{Verdict, IsVerdict}
use Rattle.nl_bench.specs.Texts.{experiment_text, model_text}
use Rattle.nl_run.specs.Job as run
use Rattle.nl_run.specs.Experiments.{job_by}
use Rattle.nl_run.specs.Job.{Trees}
use Rattle.nl_cli.specs.Steps.{Goes, or_else, with_fault}
use Rattle.nl_cli.specs.Words.{Paths, Command, over, bench, path_of}
use Rattle.nl_cli.specs.declared.words.Role.{Role}
use Rattle.nl_cli.specs.declared.ends.End.{End}

-- ---- a job

-- an experiment with the program that it is beside, the code of its model, and the trees of its texts
pub record Job : Type 0 where
  pub fields : Fields
  pub program : Checked
  pub source : Bytes
  pub texts : Trees

-- how many runs it has
abbrev pub runs_in : Job → ℕ
runs_in job = runs_of (order_of job.fields) job.fields.vary

-- the run of a number, which counts from 1
abbrev pub run_of : Job → ℕ → run.Job
run_of job number = job_by job.program job.source job.fields job.texts number

-- ---- the texts of an experiment beside a program

abbrev pub MaybeTree : Checked → Option Bytes → Option Node → Type 0
MaybeTree program None None = ⊤
MaybeTree program (Some text) (Some tree) = IsLoneTree program form.Reporter text tree
MaybeTree program text tree = ⊥

abbrev pub MetricTrees : Checked → Names → List Node → Type 0
MetricTrees program [] [] = ⊤
MetricTrees program (text ∷ texts) (tree ∷ trees) = IsLoneTree program form.Reporter text tree × MetricTrees program texts trees
MetricTrees program texts trees = ⊥

-- the tree of each text, which the observer may run
pub record AreTreesOf (fields : Fields) (program : Checked) (trees : Trees) : Type 0 where
  pub setup : IsLoneTree program form.Commands fields.setup trees.setup
  pub go : IsLoneTree program form.Commands fields.go trees.go
  pub until : MaybeTree program fields.until trees.until
  pub when : MaybeTree program fields.measure_when trees.when
  pub metrics : MetricTrees program fields.metrics trees.metrics

-- ---- what two texts say

-- a fault of the file of an experiment
abbrev pub end_of_key : KeyFault → End
end_of_key fault = End.Plan (plan_fault fault)

-- the texts of the experiment have trees, or one of them is the first that has none
abbrev pub TextsSay : Fields → Checked → Bytes → Result Job End → Type 0
TextsSay fields program source job =
    ((trees : Trees) × (AreTreesOf fields program trees
    × (job ≡ Ok (record { fields = fields; program = program; source = source; texts = trees }))))
    ⊎ ((fault : PlanFault) × (IsFirstBad program (texts_of fields) fault × (job ≡ Err (End.Plan fault))))

-- the model is a program beside the widgets of the experiment, or has a fault
abbrev pub ModelSays : Fields → Bytes → Result Job End → Type 0
ModelSays fields model job =
    (verdict : Verdict) × (IsVerdict (widgets_of fields) model verdict
    × Goes (with_fault End.Model verdict) job (λ program. TextsSay fields program (code_of model) job))

-- the file of the experiment comes first, then the model, and then the texts of the experiment
unfoldable pub InputsSay : Bytes → Bytes → Result Job End → Type 0
InputsSay model experiment job =
    Goes (with_fault end_of_key (experiment_says experiment)) job (λ fields. ModelSays fields model job)

-- ---- where they come from

-- the bytes of each input, where it is there
abbrev pub Found : Type 0
Found = Role → Option Bytes

abbrev pub found_at : Paths → Folder → Found
found_at paths folder role = content_of (path_of paths role) folder

-- the inputs of the measure are made, and not read
abbrev pub made_for : ℕ → Found
made_for size Role.Model = Some model_text
made_for size Role.Experiment = Some (experiment_text size)

abbrev pub found_in : Command → Folder → Found
found_in (over paths task) folder = found_at paths folder
found_in (bench size) folder = made_for size

-- the same, but the read of this role fails
abbrev pub without : Role → Found → Found
without Role.Model found Role.Model = None
without Role.Experiment found Role.Experiment = None
without _ found role = found role

abbrev pub read : Role → Found → Result Bytes End
read role found = or_else (End.Read role) (found role)

-- The model is read first, and then the experiment.
unfoldable pub IsJob : Found → Result Job End → Type 0
IsJob found job =
    Goes (read Role.Model found) job (λ model.
    Goes (read Role.Experiment found) job (λ experiment. InputsSay model experiment job))
