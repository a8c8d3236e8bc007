-- What inputs say, step by step: how the reading goes on, and where it ends.
use Rattle.std.proofs.Common.{◌≡◌, Some, Result, Ok, Err, refl, sym, ap, subst, inl, inr}
use Rattle.nl_fixed.specs.Nouns.{Bytes}
use Rattle.nl_scan.specs.CodePart.{code_of}
use Rattle.nl_tree.specs.Checked.{Checked}
use Rattle.nl_experiment_keys.specs.declared.faults.KeyFault.{KeyFault}
use Rattle.nl_experiment_fields.specs.declared.fields.Fields.{Fields}
use Rattle.nl_experiment.specs.Plan.{experiment_says}
use Rattle.nl_experiment.specs.Texts.{IsFirstBad, texts_of}
use Rattle.nl_experiment.specs.Widgets.{widgets_of}
use Rattle.nl_experiment.specs.declared.faults.PlanFault.{PlanFault}
use Rattle.nl_check_model.specs.Verdict.{IsVerdict}
use Rattle.nl_check_model.specs.declared.faults.ModelFault.{ModelFault}
use Rattle.nl_run.specs.Job.{Trees}
use Rattle.nl_cli.specs.Steps.{Goes, or_else, with_fault}
use Rattle.nl_cli.specs.declared.words.Role.{Role}
use Rattle.nl_cli.specs.declared.ends.End.{End}
use Rattle.nl_cli.specs.Inputs.{AreTreesOf, Found, InputsSay, IsJob, Job, ModelSays, end_of_key, read, without}

-- ---- steps

-- a step that goes on, and one that ends
pub goes_on : {A B E : Type 0} (step : Result A E) (result : Result B E) (next : A → Type 0) (x : A) → step ≡ Ok x → next x → Goes step result next
goes_on step result next x is more = subst (λ s. Goes s result next) (sym is) more

pub goes_off : {A B E : Type 0} (step : Result A E) (result : Result B E) (next : A → Type 0) (e : E) → step ≡ Err e → result ≡ Err e → Goes step result next
goes_off step result next e is ends = subst (λ s. Goes s result next) (sym is) ends

-- what follows may be said otherwise
pub goes_with : {A B E : Type 0} (step : Result A E) (result : Result B E) (next more : A → Type 0)
    → ((x : A) → next x → more x) → Goes step result next → Goes step result more
goes_with (Ok x) result next more then h = then x h
goes_with (Err e) result next more then h = h

-- two results of the same steps are alike
pub goes_once : {A B E : Type 0} (Alike : Result B E → Result B E → Type 0) → ((r : Result B E) → Alike r r) → (step : Result A E) (r s : Result B E) (next more : A → Type 0)
    → ((x : A) → step ≡ Ok x → next x → more x → Alike r s) → Goes step r next → Goes step s more → Alike r s
goes_once Alike same (Ok x) r s next more once h k = once x refl h k
goes_once Alike same (Err e) r s next more once h k = subst (λ t. Alike t s) (sym h) (subst (λ t. Alike (Err e) t) (sym k) (same (Err e)))

-- a chain of steps has a result where each step leads to one
pub goes : {A B E : Type 0} (step : Result A E) (Next : Result B E → A → Type 0) → ((x : A) → (r : Result B E) × Next r x) → (r : Result B E) × Goes step r (Next r)
goes (Ok x) Next next = next x
goes (Err e) Next next = (Err e, refl)

-- ---- what two texts say

abbrev pub job_of : Fields → Checked → Bytes → Trees → Job
job_of fields program source trees = record { fields = fields; program = program; source = source; texts = trees }

pub experiment_bad : (model experiment : Bytes) (fault : KeyFault) → experiment_says experiment ≡ Err fault → InputsSay model experiment (Err (end_of_key fault))
unfolding InputsSay
experiment_bad model experiment fault is =
    let job : Result Job End = Err (end_of_key fault) in
    goes_off (with_fault end_of_key (experiment_says experiment)) job (λ fields. ModelSays fields model job) (end_of_key fault) (ap (with_fault end_of_key) is) refl

-- the experiment's file has no fault
experiment_good : (model experiment : Bytes) (fields : Fields) (job : Result Job End) → experiment_says experiment ≡ Ok fields → ModelSays fields model job → InputsSay model experiment job
unfolding InputsSay
experiment_good model experiment fields job is says =
    goes_on (with_fault end_of_key (experiment_says experiment)) job (λ fields. ModelSays fields model job) fields (ap (with_fault end_of_key) is) says

pub model_bad : (model experiment : Bytes) (fields : Fields) (fault : ModelFault) → experiment_says experiment ≡ Ok fields
    → IsVerdict (widgets_of fields) model (Err fault) → InputsSay model experiment (Err (End.Model fault))
model_bad model experiment fields fault is verdict =
    experiment_good model experiment fields (Err (End.Model fault)) is (Err fault, (verdict, refl))

pub texts_bad : (model experiment : Bytes) (fields : Fields) (program : Checked) (fault : PlanFault) → experiment_says experiment ≡ Ok fields
    → IsVerdict (widgets_of fields) model (Ok program) → IsFirstBad program (texts_of fields) fault → InputsSay model experiment (Err (End.Plan fault))
texts_bad model experiment fields program fault is verdict bad =
    experiment_good model experiment fields (Err (End.Plan fault)) is (Ok program, (verdict, inr (fault, (bad, refl))))

pub all_said : (model experiment : Bytes) (fields : Fields) (program : Checked) (trees : Trees) → experiment_says experiment ≡ Ok fields
    → IsVerdict (widgets_of fields) model (Ok program) → AreTreesOf fields program trees
    → InputsSay model experiment (Ok (job_of fields program (code_of model) trees))
all_said model experiment fields program trees is verdict are =
    experiment_good model experiment fields (Ok (job_of fields program (code_of model) trees)) is (Ok program, (verdict, inl (trees, (are, refl))))

-- ---- reads

read_there : (role : Role) (found : Found) (bytes : Bytes) → found role ≡ Some bytes → read role found ≡ Ok bytes
read_there role found bytes h = ap (or_else (End.Read role)) h

abbrev pub experiment_read : Found → Result Job End → Bytes → Type 0
experiment_read found job model = Goes (read Role.Experiment found) job (λ experiment. InputsSay model experiment job)

pub model_missing : (found : Found) → IsJob (without Role.Model found) (Err (End.Read Role.Model))
unfolding IsJob
model_missing found = refl

pub experiment_missing : (found : Found) (model : Bytes) → found Role.Model ≡ Some model → IsJob (without Role.Experiment found) (Err (End.Read Role.Experiment))
unfolding IsJob
experiment_missing found model h =
    let other = without Role.Experiment found in
    let job : Result Job End = Err (End.Read Role.Experiment) in
    goes_on (read Role.Model other) job (experiment_read other job) model (read_there Role.Model other model h) refl

pub inputs_there : (found : Found) (model experiment : Bytes) (job : Result Job End) → found Role.Model ≡ Some model → found Role.Experiment ≡ Some experiment
    → InputsSay model experiment job → IsJob found job
unfolding IsJob
inputs_there found model experiment job h k says =
    goes_on (read Role.Model found) job (experiment_read found job) model (read_there Role.Model found model h)
    (goes_on (read Role.Experiment found) job (λ experiment. InputsSay model experiment job) experiment (read_there Role.Experiment found experiment k) says)
