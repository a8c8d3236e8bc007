-- Whatever a run of a job sets is a global variable of its program, or belongs to the run itself.
use Rattle.std.proofs.Common.{◌≡◌, ◌⊎◌, inl, inr, ℕ, ◌+◌, true, IsTrue, List, [], ◌∷◌, ◌++◌, map, length, All, Result, Ok, Err, refl, sym, subst, arith}
use Rattle.std.specs.Prelude.{◌&&◌}
use Rattle.std.specs.List.{list_all}
use Rattle.std.specs.Cmp.{first_so, second_so}
use Rattle.std.proofs.lemmas.List.Elements.{All-nil, All-cons, All-head, All-tail}
use Rattle.nl_fixed.specs.Nouns.{Bytes, Name, Names}
use Rattle.nl_scan.specs.CodePart.{code_of}
use Rattle.nl_words.specs.Rows.{rows}
use Rattle.nl_words.specs.Table.{is_name}
use Rattle.nl_tree.specs.Checked.{Checked}
use Rattle.nl_tree.specs.Names.{are_apart, are_distinct}
use Rattle.nl_tree.specs.Vocabulary.{among, global_names}
use Rattle.nl_experiment_sweep.specs.declared.varied.Vary.{Vary}
use Rattle.nl_experiment_sweep.specs.Sweep.{combination_of, settings_in, settings_of}
use Rattle.nl_experiment_sweep.specs.Varied.{PlainSetting}
use Rattle.nl_experiment_fields.specs.Names.{is_of_run}
use Rattle.nl_experiment_fields.specs.declared.fields.Fields.{Fields}
use Rattle.nl_experiment.specs.Plan.{experiment_says, order_of}
use Rattle.nl_experiment.specs.Widgets.{are_right, names_of, widgets_of}
use Rattle.nl_experiment.proofs.Gathering.{all_right}
use Rattle.nl_experiment.proofs.Kept.{names_are_widgets}
use Rattle.nl_experiment_keys.specs.declared.faults.KeyFault.{KeyFault}
use Rattle.nl_check_model.specs.Verdict.{IsVerdict, Verdict}
use Rattle.nl_check_model.proofs.OneVerdict.{programs_have_their_widgets}
use Rattle.nl_cli.specs.Steps.{Goes, with_fault}
use Rattle.nl_cli.specs.Inputs.{Found, InputsSay, IsJob, Job, ModelSays, TextsSay, end_of_key, read}
use Rattle.nl_cli.specs.SettingLaws.{IsOfProgram, JobsSetTheirNames, SetsAll}
use Rattle.nl_cli.specs.declared.ends.End.{End}
use Rattle.nl_cli.specs.declared.words.Role.{Role}
use Rattle.nl_cli.proofs.WidgetSlots.{widget_has_slot}

-- ---- names of settings

module _ (P : Name → Type 0) where
  all_first : (xs ys : Names) → All P (xs ++ ys) → All P xs
  all_first [] ys h = All-nil P
  all_first (x ∷ xs) ys h = All-cons P x xs (All-head P x (xs ++ ys) h) (all_first xs ys (All-tail P x (xs ++ ys) h))

  all_last : (xs ys : Names) → All P (xs ++ ys) → All P ys
  all_last [] ys h = h
  all_last (x ∷ xs) ys h = all_last xs ys (All-tail P x (xs ++ ys) h)

  module _ (Q : PlainSetting → Type 0) (by_name : (s : PlainSetting) → P s.name → Q s) where
    all_named : (ss : List PlainSetting) → All P (map (λ s. s.name) ss) → All Q ss
    all_named [] h = All-nil Q
    all_named (s ∷ ss) h =
        let names = map (λ (x : PlainSetting). x.name) ss in
        All-cons Q s ss (by_name s (All-head P s.name names h)) (all_named ss (All-tail P s.name names h))

    all_varied : (combination : ℕ) (vs : List Vary) → All P (map (λ v. v.name) vs) → All Q (settings_in combination vs)
    all_varied combination [] h = All-nil Q
    all_varied combination (v ∷ vs) h =
        let names = map (λ (x : Vary). x.name) vs in
        All-cons Q _ (settings_in combination vs) (by_name _ (All-head P v.name names h)) (all_varied combination vs (All-tail P v.name names h))

-- ---- what a job is made of

-- its experiment is read, and its program is beside the widgets of that
pub record IsBeside (job : Job) : Type 0 where
  pub file : Bytes
  pub model : Bytes
  pub read : experiment_says file ≡ Ok job.fields
  pub program : IsVerdict (widgets_of job.fields) model (Ok job.program)

abbrev given : Job → Result Job End
given job = Ok job

same_job : (a b : Job) → given a ≡ given b → a ≡ b
same_job a b h = cc

texts_beside : (f : Fields) (p : Checked) (source file model : Bytes) (job : Job) → experiment_says file ≡ Ok f → IsVerdict (widgets_of f) model (Ok p)
    → TextsSay f p source (Ok job) → IsBeside job
texts_beside f p source file model job says verdict (inl (trees, (are, is))) =
    let made : Job = record { fields = f; program = p; source = source; texts = trees } in
    let same : made ≡ job = same_job made job (sym is) in
    subst IsBeside same (record { file = file; model = model; read = says; program = verdict })
texts_beside f p source file model job says verdict (inr (fault, (bad, is))) = cc

verdict_beside : (f : Fields) (file model : Bytes) (job : Job) (v : Verdict) → experiment_says file ≡ Ok f → IsVerdict (widgets_of f) model v
    → Goes (with_fault End.Model v) (Ok job) (λ p. TextsSay f p (code_of model) (Ok job)) → IsBeside job
verdict_beside f file model job (Ok p) says verdict goes = texts_beside f p (code_of model) file model job says verdict goes
verdict_beside f file model job (Err fault) says verdict goes = cc

experiment_beside : (file model : Bytes) (job : Job) (said : Result Fields KeyFault) → experiment_says file ≡ said
    → Goes (with_fault end_of_key said) (Ok job) (λ fields. ModelSays fields model (Ok job)) → IsBeside job
experiment_beside file model job (Ok f) says (v, (verdict, goes)) = verdict_beside f file model job v says verdict goes
experiment_beside file model job (Err fault) says goes = cc

inputs_beside : (model file : Bytes) (job : Job) → InputsSay model file (Ok job) → IsBeside job
unfolding InputsSay
inputs_beside model file job said = experiment_beside file model job (experiment_says file) refl said

read_beside : (model : Bytes) (job : Job) (file : Result Bytes End) → Goes file (Ok job) (λ experiment. InputsSay model experiment (Ok job)) → IsBeside job
read_beside model job (Ok file) goes = inputs_beside model file job goes
read_beside model job (Err end) goes = cc

both_beside : (found : Found) (job : Job) (model : Result Bytes End)
    → Goes model (Ok job) (λ bytes. Goes (read Role.Experiment found) (Ok job) (λ experiment. InputsSay bytes experiment (Ok job))) → IsBeside job
both_beside found job (Ok model) goes = read_beside model job (read Role.Experiment found) goes
both_beside found job (Err end) goes = cc

job_beside : (found : Found) (job : Job) → IsJob found (Ok job) → IsBeside job
unfolding IsJob
job_beside found job said = both_beside found job (read Role.Model found) said

-- ---- what it sets

abbrev built_in : Names
built_in = map (λ r. r.name) rows

widgets_apart : (f : Fields) → are_apart (widgets_of f) built_in ≡ true
widgets_apart f =
    let ws = widgets_of f in
    let right : are_right ws ≡ true = all_right (names_of f) ws ws [] refl refl refl in
    second_so (are_distinct ws) (are_apart ws built_in) (first_so (are_distinct ws && are_apart ws built_in) (list_all is_name ws) right)

module _ (job : Job) (made : IsBeside job) where
  abbrev IsKept : Name → Type 0
  IsKept name = IsTrue (is_of_run name) ⊎ IsTrue (among name (widgets_of job.fields))

  kept_is_set : (s : PlainSetting) → IsKept s.name → IsOfProgram job.program s
  kept_is_set s (inl own) = inl own
  kept_is_set s (inr widget) =
      let same = sym (programs_have_their_widgets (widgets_of job.fields) made.model job.program made.program) in
      inr (widget_has_slot job.program.declared s.name
      (subst (λ ws. are_apart ws built_in ≡ true) same (widgets_apart job.fields))
      (subst (λ ws. among s.name ws ≡ true) same widget))

  names_kept : All IsKept (names_of job.fields)
  names_kept = names_are_widgets made.file job.fields made.read

  abbrev of_globals : Names
  of_globals = map (λ (s : PlainSetting). s.name) job.fields.globals

  abbrev of_vary : Names
  of_vary = map (λ (v : Vary). v.name) job.fields.vary

  settings_set : (number : ℕ) → All (IsOfProgram job.program) (settings_of (order_of job.fields) job.fields.vary number)
  unfolding settings_of
  settings_set number =
      all_varied IsKept (IsOfProgram job.program) kept_is_set (combination_of (order_of job.fields) job.fields.vary number) job.fields.vary
      (all_last IsKept of_globals of_vary names_kept)

  all_set : (number : ℕ) → SetsAll job number
  all_set number = record {
    globals = all_named IsKept (IsOfProgram job.program) kept_is_set job.fields.globals (all_first IsKept of_globals of_vary names_kept);
    settings = settings_set number;
    number = (length (global_names job.program.declared), (refl, omega arith));
    name = (length (global_names job.program.declared) + 1, (refl, omega arith));
  }

pub jobs_set_their_names : JobsSetTheirNames
jobs_set_their_names found job said number = all_set job (job_beside found job said) number
