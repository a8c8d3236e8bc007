-- Where the reading of the inputs ends, and what it gives.
use Rattle.std.proofs.Common.{◌≡◌, ℕ, ◌+◌, List, [], ◌∷◌, ◌++◌, take, Option, Some, None, Result, Ok, Err, refl, sym, ◌∙◌, subst}
use Rattle.std.specs.Prelude.{is_some}
use Rattle.std.specs.Option.{ForSome, option_map}
use Rattle.nl_fixed.specs.Nouns.{Bytes, Names}
use Rattle.nl_outer.specs.Faults.{Rose}
use Rattle.nl_outer.specs.Folder.{Folder, read_of}
use Rattle.nl_outer.specs.Nouns.{Path}
use Rattle.nl_tree.specs.Checked.{Checked}
use Rattle.nl_tree.specs.Tree.{Node}
use Rattle.nl_tree.specs.Views.{plain}
use Rattle.nl_tree.specs.declared.tree.Tree.{Tree}
use Rattle.nl_bench.specs.Texts.{experiment_text, model_text}
use Rattle.nl_experiment_fields.specs.declared.fields.Fields.{Fields}
use Rattle.nl_experiment.specs.Plan.{experiment_says}
use Rattle.nl_experiment.specs.Texts.{AreTreesFor, LoneText, maybe_trees, metrics_from, texts_of, trees_of, until_texts, when_texts}
use Rattle.nl_experiment.specs.Widgets.{widgets_of}
use Rattle.nl_check_model.specs.Verdict.{IsVerdict}
use Rattle.nl_run.specs.Experiments.{trees_seen}
use Rattle.nl_cli.specs.Limits.{file_limit}
use Rattle.nl_cli.specs.declared.words.Role.{Role}
use Rattle.nl_cli.specs.declared.ends.End.{End}
use Rattle.nl_cli.specs.declared.job.Job.{Job as CodeJob}
use Rattle.nl_cli.specs.Words.{Paths}
use Rattle.nl_cli.specs.Inputs.{InputsSay, IsJob, Job, MaybeTree, MetricTrees, found_at, made_for}
use Rattle.nl_cli.specs.Outcome.{AllRead, Asked, asked}
use Rattle.nl_cli.specs.inner.Stages.{ExperimentSays, Gathers, Judges, Makes, ProgramSays, Reads, TreesSay, job_in}
use Rattle.nl_cli.proofs.InputSteps.{all_said, experiment_bad, experiment_missing, inputs_there, model_bad, model_missing, texts_bad}
use Rattle.nl_cli.proofs.Reading.{IsRead-read_of, inputs_say-take}
use Rattle.nl_cli.proofs.Short.{experiments_are_sound}

-- ---- two texts

pub experiment_stops : (model experiment : Bytes) (end : End) → ExperimentSays experiment (Err end) → Judges model experiment (Err end)
experiment_stops model experiment (End.Plan fault) (at, is, told) =
    subst (λ f. InputsSay model experiment (Err (End.Plan f))) (sym told) (experiment_bad model experiment at is)
experiment_stops model experiment End.Memory says = tt
experiment_stops model experiment (End.Model fault) says = absurd says
experiment_stops model experiment (End.Read role) says = absurd says
experiment_stops model experiment End.Write says = absurd says

pub model_stops : (model experiment : Bytes) (fields : Fields) (end : End) → experiment_says experiment ≡ Ok fields
    → ProgramSays (widgets_of fields) model (Err end) → Judges model experiment (Err end)
model_stops model experiment fields (End.Model fault) is says = model_bad model experiment fields fault is says
model_stops model experiment fields End.Memory is says = tt
model_stops model experiment fields (End.Plan fault) is says = absurd says
model_stops model experiment fields (End.Read role) is says = absurd says
model_stops model experiment fields End.Write is says = absurd says

pub texts_stop : (model experiment : Bytes) (fields : Fields) (program : Checked) (end : End) → experiment_says experiment ≡ Ok fields
    → IsVerdict (widgets_of fields) model (Ok program) → TreesSay fields program (Err end) → Judges model experiment (Err end)
texts_stop model experiment fields program (End.Plan fault) is verdict says = texts_bad model experiment fields program fault is verdict says
texts_stop model experiment fields program End.Memory is verdict says = tt
texts_stop model experiment fields program (End.Model fault) is verdict says = absurd says
texts_stop model experiment fields program (End.Read role) is verdict says = absurd says
texts_stop model experiment fields program End.Write is verdict says = absurd says

-- the trees of the code are those of the definition
until_tree : (p : Checked) (text : Option Bytes) (tree : Option Tree) (behind : List LoneText) (trees : List Node) → is_some tree ≡ is_some text
    → AreTreesFor p (until_texts text ++ behind) (maybe_trees tree ++ trees) → MaybeTree p text (option_map plain tree) × AreTreesFor p behind trees
until_tree p None None behind trees both are = (tt, are)
until_tree p (Some text) (Some tree) behind trees both are = (are.0.right, are.1)
until_tree p None (Some tree) behind trees both are = cc
until_tree p (Some text) None behind trees both are = cc

when_tree : (p : Checked) (text : Option Bytes) (tree : Option Tree) (behind : List LoneText) (trees : List Node) → is_some tree ≡ is_some text
    → AreTreesFor p (when_texts text ++ behind) (maybe_trees tree ++ trees) → MaybeTree p text (option_map plain tree) × AreTreesFor p behind trees
when_tree p None None behind trees both are = (tt, are)
when_tree p (Some text) (Some tree) behind trees both are = (are.0.right, are.1)
when_tree p None (Some tree) behind trees both are = cc
when_tree p (Some text) None behind trees both are = cc

metric_trees : (p : Checked) (number : ℕ) (texts : Names) (trees : List Node) → AreTreesFor p (metrics_from number texts) trees → MetricTrees p texts trees
metric_trees p number [] [] are = tt
metric_trees p number [] (tree ∷ trees) are = are
metric_trees p number (text ∷ texts) [] are = are
metric_trees p number (text ∷ texts) (tree ∷ trees) are = (are.0.right, metric_trees p (number + 1) texts trees are.1)

pub all_judged : (experiment : Bytes) (job : CodeJob) → experiment_says experiment ≡ Ok job.experiment
    → IsVerdict (widgets_of job.experiment) job.model.items (Ok job.program) → is_some job.texts.until ≡ is_some job.experiment.until
    → is_some job.texts.measure_when ≡ is_some job.experiment.measure_when → AreTreesFor job.program (texts_of job.experiment) (trees_of job.texts) → Judges job.model.items experiment (Ok job)
all_judged experiment job is verdict both so are =
    let measures = metrics_from 1 job.experiment.metrics in
    let (until, later) = until_tree job.program job.experiment.until job.texts.until (when_texts job.experiment.measure_when ++ measures)
    (maybe_trees job.texts.measure_when ++ job.texts.metrics) both are.1.1 in
    let (when, metrics) = when_tree job.program job.experiment.measure_when job.texts.measure_when measures job.texts.metrics so later in (
      experiments_are_sound experiment (job_in job) is,
      all_said job.model.items experiment job.experiment job.program (trees_seen job.texts) is verdict (record {
        setup = are.0.right;
        go = are.1.0.right;
        until = until;
        when = when;
        metrics = metric_trees job.program 1 job.experiment.metrics job.texts.metrics metrics;
      }),
    )

-- ---- reads

-- a read gave these bytes of the file at a path, where the folder is known
abbrev pub Got : Bytes → Option Folder → Bytes → Type 0
Got path known bytes = ForSome known (λ folder. read_of path file_limit folder ≡ Some bytes)

-- the same of an equal folder
pub Got-same : (path : Bytes) (a b : Option Folder) (bytes : Bytes) → a ≡ b → Got path a bytes → Got path b bytes
Got-same path a b bytes e got folder is = got folder (e ∙ is)

-- the model's read stops
pub model_read_stops : (paths : Paths) (files : Asked) (end : End) → Reads Role.Model paths.model files (Err end) → Gathers paths files (Err end)
model_read_stops paths files (End.Read at) stopped =
    rw stopped.0 (record { rose = stopped.1; named = sym stopped.2; turn = λ folder is. model_missing (found_at paths folder) })
model_read_stops paths files End.Memory stopped = stopped
model_read_stops paths files (End.Model _) stopped = absurd stopped
model_read_stops paths files (End.Plan _) stopped = absurd stopped
model_read_stops paths files End.Write stopped = absurd stopped

-- two calls in a row in which no read failed
pub all_read_then : {F : Type 0} (faults : F → ℕ) (last : F → Path) (known : F → Option Folder) (old mid new : F)
    → AllRead (asked faults last known old mid) → AllRead (asked faults last known mid new) → AllRead (asked faults last known old new)
all_read_then faults last known old mid new first second =
    record { faults = second.faults ∙ first.faults; last = second.last ∙ first.last }

-- the experiment's read stops
pub experiment_read_stops : {F : Type 0} (faults : F → ℕ) (last : F → Path) (known : F → Option Folder) (old mid new : F) (paths : Paths) (model : Bytes) (end : End)
    → AllRead (asked faults last known old mid) → Got paths.model (known old) model
    → Reads Role.Experiment paths.experiment (asked faults last known mid new) (Err end) → Gathers paths (asked faults last known old new) (Err end)
experiment_read_stops faults last known old mid new paths model (End.Read at) first got stopped =
    rw stopped.0 (record {
      rose = subst (λ n. Rose n (faults new)) first.faults stopped.1;
      named = sym stopped.2;
      turn = λ folder is. let read = IsRead-read_of paths.model file_limit folder model (got folder is) in experiment_missing (found_at paths folder) read.whole read.there;
    })
experiment_read_stops faults last known old mid new paths model End.Memory first got stopped = all_read_then faults last known old mid new first stopped
experiment_read_stops faults last known old mid new paths model (End.Model _) first got stopped = absurd stopped
experiment_read_stops faults last known old mid new paths model (End.Plan _) first got stopped = absurd stopped
experiment_read_stops faults last known old mid new paths model End.Write first got stopped = absurd stopped

-- what was read says what the files say
files_say : (paths : Paths) (folder : Folder) (model experiment : Bytes) (job : Result Job End) → read_of paths.model file_limit folder ≡ Some model
    → read_of paths.experiment file_limit folder ≡ Some experiment → InputsSay model experiment job → IsJob (found_at paths folder) job
files_say paths folder model experiment job got_model got_experiment says =
    let a = IsRead-read_of paths.model file_limit folder model got_model in
    let b = IsRead-read_of paths.experiment file_limit folder experiment got_experiment in
    let here = subst (λ m. InputsSay m experiment job) a.first says in
    inputs_there (found_at paths folder) a.whole b.whole job a.there b.there
    (inputs_say-take a.whole b.whole job (subst (λ e. InputsSay (take (file_limit + 1) a.whole) e job) b.first here))

pub read_gathers : (paths : Paths) (files : Asked) (model experiment : Bytes) (r : Result CodeJob End) → AllRead files
    → Got paths.model files.folder model → Got paths.experiment files.folder experiment → Judges model experiment r → Gathers paths files r
read_gathers paths files model experiment (Ok job) all got_model got_experiment judges =
    (all, judges.0, λ folder is. files_say paths folder model experiment (Ok (job_in job)) (got_model folder is) (got_experiment folder is) judges.1)
read_gathers paths files model experiment (Err (End.Plan fault)) all got_model got_experiment judges =
    (all, λ folder is. files_say paths folder model experiment (Err (End.Plan fault)) (got_model folder is) (got_experiment folder is) judges)
read_gathers paths files model experiment (Err (End.Model fault)) all got_model got_experiment judges =
    (all, λ folder is. files_say paths folder model experiment (Err (End.Model fault)) (got_model folder is) (got_experiment folder is) judges)
read_gathers paths files model experiment (Err End.Memory) all got_model got_experiment judges = all
read_gathers paths files model experiment (Err (End.Read role)) all got_model got_experiment judges = absurd judges
read_gathers paths files model experiment (Err End.Write) all got_model got_experiment judges = absurd judges

-- ---- the inputs of the measure

pub made_says : (size : ℕ) (r : Result CodeJob End) → Judges model_text (experiment_text size) r → Makes size r
made_says size (Ok job) judges = (judges.0, inputs_there (made_for size) model_text (experiment_text size) (Ok (job_in job)) refl refl judges.1)
made_says size (Err (End.Plan fault)) judges = inputs_there (made_for size) model_text (experiment_text size) (Err (End.Plan fault)) refl refl judges
made_says size (Err (End.Model fault)) judges = inputs_there (made_for size) model_text (experiment_text size) (Err (End.Model fault)) refl refl judges
made_says size (Err End.Memory) judges = tt
made_says size (Err (End.Read role)) judges = absurd judges
made_says size (Err End.Write) judges = absurd judges
