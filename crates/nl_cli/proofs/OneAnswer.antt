-- What words over a folder come to is one, but for what no text of a program looks at: the order of its words. So an answer has one status.
use Rattle.std.proofs.Common.{◌≡◌, ℕ, ◌+◌, List, [], ◌∷◌, ◌++◌, Option, Some, None, Result, Ok, Err, inl, inr, refl, sym, ap, ◌∙◌, subst}
use Rattle.nl_fixed.specs.Nouns.{Bytes, Names}
use Rattle.nl_outer.specs.Folder.{Folder}
use Rattle.nl_outer.specs.Nouns.{Words}
use Rattle.nl_scan.specs.CodePart.{code_of}
use Rattle.nl_tree.specs.Checked.{Checked}
use Rattle.nl_tree.specs.Tree.{Node}
use Rattle.nl_tree.specs.declared.declared.Form.{Form}
use Rattle.nl_tree.specs.declared.declared.Form.TheVariants as form
use Rattle.nl_check_model.specs.LoneText.{IsInner, IsLoneTree}
use Rattle.nl_check_model.specs.declared.lone_faults.Inner.{Inner}
use Rattle.nl_check_model.proofs.OneThing.{trees_are_one}
use Rattle.nl_experiment_keys.specs.declared.faults.PlanKind.{PlanKind}
use Rattle.nl_experiment_fields.specs.declared.fields.Fields.{Fields}
use Rattle.nl_experiment.specs.Laws.{HaveTrees}
use Rattle.nl_experiment.specs.Numbers.{number_of, run_among}
use Rattle.nl_experiment.specs.Plan.{experiment_says}
use Rattle.nl_experiment.specs.Texts.{IsFirstBad, LoneText, metrics_from, texts_of, until_texts, when_texts}
use Rattle.nl_experiment.specs.Widgets.{widgets_of}
use Rattle.nl_experiment.specs.declared.faults.PlanFault.{PlanFault}
use Rattle.nl_experiment.proofs.OneThing.{faults_are_one, trees_have_no_faults}
use Rattle.nl_check_model.specs.Laws.{bare, told}
use Rattle.nl_check_model.specs.Verdict.{Verdict}
use Rattle.nl_check_model.proofs.OneVerdict.{verdicts_are_unique}
use Rattle.nl_run.specs.Job.{Trees}
use Rattle.nl_cli.specs.Steps.{◌>>=◌, Goes, with_fault}
use Rattle.nl_cli.specs.declared.words.Role.{Role}
use Rattle.nl_cli.specs.declared.ends.End.{End}
use Rattle.nl_cli.specs.declared.ends.Status.{Status}
use Rattle.nl_cli.specs.Words.{Command, Paths, table, rerun, check, over, bench, command_of, paths_for}
use Rattle.nl_cli.specs.Inputs.{AreTreesOf, Found, InputsSay, IsJob, Job, MaybeTree, MetricTrees, ModelSays, TextsSay, end_of_key, found_in, read, runs_in}
use Rattle.nl_cli.specs.Table.{rows_text}
use Rattle.nl_cli.specs.Answer.{Answer, AnswersTo, IsAnswer, answer_to, made_by, no_such_run, status_of}
use Rattle.nl_cli.specs.Laws.{AnswersAreAlike}
use Rattle.nl_cli.proofs.InputSteps.{experiment_read, goes_once}

-- ---- what a program is, bare of the order of its words

abbrev pub bare_job : Job → Job
bare_job job = record job { program = bare job.program }

abbrev pub bared : Result Job End → Result Job End
bared (Ok job) = Ok (bare_job job)
bared (Err end) = Err end

-- a text says the same beside a program and beside what it is bare
bare_tree : (p : Checked) (f : Form) (text : Bytes) (tree : Node) → IsLoneTree p f text tree → IsLoneTree (bare p) f text tree
bare_tree p f text tree h = record { tokens = h.tokens; scanned = h.scanned; good = h.good; right = h.right }

bare_maybe : (p : Checked) (text : Option Bytes) (tree : Option Node) → MaybeTree p text tree → MaybeTree (bare p) text tree
bare_maybe p None None h = h
bare_maybe p (Some text) (Some tree) h = bare_tree p form.Reporter text tree h
bare_maybe p None (Some tree) h = h
bare_maybe p (Some text) None h = h

bare_metrics : (p : Checked) (texts : Names) (trees : List Node) → MetricTrees p texts trees → MetricTrees (bare p) texts trees
bare_metrics p [] [] h = h
bare_metrics p [] (tree ∷ trees) h = h
bare_metrics p (text ∷ texts) [] h = h
bare_metrics p (text ∷ texts) (tree ∷ trees) h = (bare_tree p form.Reporter text tree h.0, bare_metrics p texts trees h.1)

bare_trees : (f : Fields) (p : Checked) (trees : Trees) → AreTreesOf f p trees → AreTreesOf f (bare p) trees
bare_trees f p trees h = record {
  setup = bare_tree p form.Commands f.setup trees.setup h.setup;
  go = bare_tree p form.Commands f.go trees.go h.go;
  until = bare_maybe p f.until trees.until h.until;
  when = bare_maybe p f.measure_when trees.when h.when;
  metrics = bare_metrics p f.metrics trees.metrics h.metrics;
}

bare_inner : (p : Checked) (f : Form) (text : Bytes) (inner : Inner) → IsInner p f text inner → IsInner (bare p) f text inner
bare_inner p f text inner (inl h) = inl h
bare_inner p f text inner (inr (inl h)) =
    inr (inl (record { tokens = h.tokens; scanned = h.scanned; kind = h.kind; place = h.place; fault = h.fault; told = h.told }))
bare_inner p f text inner (inr (inr h)) =
    inr (inr (record { tokens = h.tokens; scanned = h.scanned; tree = h.tree; good = h.good; kind = h.kind; span = h.span; fault = h.fault; told = h.told }))

bare_bad : (p : Checked) (ts : List LoneText) (fault : PlanFault) → IsFirstBad p ts fault → IsFirstBad (bare p) ts fault
bare_bad p [] fault h = h
bare_bad p (t ∷ ts) fault (inl h) = inl (record { inner = h.inner; bad = bare_inner p t.form t.text h.inner h.bad; told = h.told })
bare_bad p (t ∷ ts) fault (inr (has, later)) = inr ((has.0, bare_tree p t.form t.text has.0 has.1), bare_bad p ts fault later)

bare_says : (f : Fields) (p : Checked) (source : Bytes) (job : Result Job End) → TextsSay f p source job → TextsSay f (bare p) source (bared job)
bare_says f p source job (inl (trees, (are, is))) = inl (trees, (bare_trees f p trees are, ap bared is))
bare_says f p source job (inr (fault, (bad, is))) = inr (fault, (bare_bad p (texts_of f) fault bad, ap bared is))

-- ---- one job

maybe_once : (p : Checked) (text : Option Bytes) (a b : Option Node) → MaybeTree p text a → MaybeTree p text b → a ≡ b
maybe_once p None None None h k = refl
maybe_once p (Some text) (Some a) (Some b) h k = ap Some (trees_are_one p form.Reporter text a b h k)
maybe_once p None (Some a) b h k = absurd h
maybe_once p None None (Some b) h k = absurd k
maybe_once p (Some text) None b h k = absurd h
maybe_once p (Some text) (Some a) None h k = absurd k

metrics_once : (p : Checked) (texts : Names) (a b : List Node) → MetricTrees p texts a → MetricTrees p texts b → a ≡ b
metrics_once p [] [] [] h k = refl
metrics_once p (text ∷ texts) (a ∷ xs) (b ∷ ys) h k =
    ap (λ x. x ∷ xs) (trees_are_one p form.Reporter text a b h.0 k.0) ∙ ap (λ zs. b ∷ zs) (metrics_once p texts xs ys h.1 k.1)
metrics_once p [] (a ∷ xs) b h k = absurd h
metrics_once p [] [] (b ∷ ys) h k = absurd k
metrics_once p (text ∷ texts) [] b h k = absurd h
metrics_once p (text ∷ texts) (a ∷ xs) [] h k = absurd k

abbrev trees_by : Node → Node → Option Node → Option Node → List Node → Trees
trees_by setup go until when metrics = record { setup = setup; go = go; until = until; when = when; metrics = metrics }

five : (a b c d : Node) (m n o q : Option Node) (xs ys : List Node) → a ≡ b → c ≡ d → m ≡ n → o ≡ q → xs ≡ ys
    → trees_by a c m o xs ≡ trees_by b d n q ys
five a b c d m n o q xs ys e f g h i = rw (e, f, g, h, i) refl

trees_once : (f : Fields) (p : Checked) (a b : Trees) → AreTreesOf f p a → AreTreesOf f p b → a ≡ b
trees_once f p a b h k =
    five a.setup b.setup a.go b.go a.until b.until a.when b.when a.metrics b.metrics
    (trees_are_one p form.Commands f.setup a.setup b.setup h.setup k.setup) (trees_are_one p form.Commands f.go a.go b.go h.go k.go)
    (maybe_once p f.until a.until b.until h.until k.until) (maybe_once p f.measure_when a.when b.when h.when k.when) (metrics_once p f.metrics a.metrics b.metrics h.metrics k.metrics)

-- texts that have trees have no fault
have_metrics : (p : Checked) (number : ℕ) (texts : Names) (trees : List Node) → MetricTrees p texts trees → HaveTrees p (metrics_from number texts)
have_metrics p number [] trees h = tt
have_metrics p number (text ∷ texts) [] h = absurd h
have_metrics p number (text ∷ texts) (tree ∷ trees) h = ((tree, h.0), have_metrics p (number + 1) texts trees h.1)

have_until : (p : Checked) (text : Option Bytes) (tree : Option Node) (behind : List LoneText) → MaybeTree p text tree → HaveTrees p behind
    → HaveTrees p (until_texts text ++ behind)
have_until p None tree behind h k = k
have_until p (Some text) None behind h k = absurd h
have_until p (Some text) (Some tree) behind h k = ((tree, h), k)

have_when : (p : Checked) (text : Option Bytes) (tree : Option Node) (behind : List LoneText) → MaybeTree p text tree → HaveTrees p behind
    → HaveTrees p (when_texts text ++ behind)
have_when p None tree behind h k = k
have_when p (Some text) None behind h k = absurd h
have_when p (Some text) (Some tree) behind h k = ((tree, h), k)

have_trees : (f : Fields) (p : Checked) (trees : Trees) → AreTreesOf f p trees → HaveTrees p (texts_of f)
have_trees f p trees h = (
  (trees.setup, h.setup),
  (
    (trees.go, h.go),
    have_until p f.until trees.until (when_texts f.measure_when ++ metrics_from 1 f.metrics) h.until
        (have_when p f.measure_when trees.when (metrics_from 1 f.metrics) h.when (have_metrics p 1 f.metrics trees.metrics h.metrics)),
  ),
)

texts_once : (f : Fields) (p : Checked) (source : Bytes) (r s : Result Job End) → TextsSay f p source r → TextsSay f p source s → r ≡ s
texts_once f p source r s (inl (a, (are, is))) (inl (b, (be, ks))) =
    is ∙ ap (λ trees. Ok (record { fields = f; program = p; source = source; texts = trees })) (trees_once f p a b are be) ∙ sym ks
texts_once f p source r s (inl (a, (are, is))) (inr (fault, (bad, ks))) = absurd (trees_have_no_faults p f fault (have_trees f p a are) bad)
texts_once f p source r s (inr (fault, (bad, is))) (inl (b, (be, ks))) = absurd (trees_have_no_faults p f fault (have_trees f p b be) bad)
texts_once f p source r s (inr (x, (bad, is))) (inr (y, (worse, ks))) = is ∙ ap (λ fault. Err (End.Plan fault)) (faults_are_one p f x y bad worse) ∙ sym ks

same_bare : (p q : Checked) → told (Ok p) ≡ told (Ok q) → bare p ≡ bare q
same_bare p q h = cc

by_verdicts : (f : Fields) (source : Bytes) (v w : Verdict) (r s : Result Job End) → told v ≡ told w
    → Goes (with_fault End.Model v) r (λ p. TextsSay f p source r) → Goes (with_fault End.Model w) s (λ p. TextsSay f p source s) → bared r ≡ bared s
by_verdicts f source (Ok p) (Ok q) r s same h k =
    texts_once f (bare q) source (bared r) (bared s) (subst (λ x. TextsSay f x source (bared r)) (same_bare p q same) (bare_says f p source r h)) (bare_says f q source s k)
by_verdicts f source (Err a) (Err b) r s same h k =
    let e : Err (End.Model a) ≡ Err (End.Model b) = cc in ap bared (h ∙ e ∙ sym k)
by_verdicts f source (Ok p) (Err b) r s same h k = cc
by_verdicts f source (Err a) (Ok q) r s same h k = cc

inputs_alike : (model experiment : Bytes) (r s : Result Job End) → InputsSay model experiment r → InputsSay model experiment s → bared r ≡ bared s
unfolding InputsSay
inputs_alike model experiment r s a b =
    goes_once (λ x y. bared x ≡ bared y) (λ x. refl) (with_fault end_of_key (experiment_says experiment)) r s (λ fields. ModelSays fields model r) (λ fields. ModelSays fields model s)
    (λ fields is h k. by_verdicts fields (code_of model) h.0 k.0 r s (verdicts_are_unique (widgets_of fields) model h.0 k.0 h.1.0 k.1.0) h.1.1 k.1.1) a b

pub jobs_are_alike : (found : Found) (r s : Result Job End) → IsJob found r → IsJob found s → bared r ≡ bared s
unfolding IsJob
jobs_are_alike found r s a b =
    goes_once (λ x y. bared x ≡ bared y) (λ x. refl) (read Role.Model found) r s (experiment_read found r) (experiment_read found s)
    (λ model is h k. goes_once (λ x y. bared x ≡ bared y) (λ x. refl) (read Role.Experiment found) r s (λ e. InputsSay model e r) (λ e. InputsSay model e s)
    (λ experiment is h k. inputs_alike model experiment r s h k) h k) a b

-- ---- one status

abbrev status_to : Result Bytes End → Status
status_to (Ok bytes) = Status.Done
status_to (Err end) = status_of end

by_number : (r : Result ℕ PlanKind) (a b : ℕ → Bytes)
    → status_to (with_fault no_such_run r >>= λ number. Ok (a number)) ≡ status_to (with_fault no_such_run r >>= λ number. Ok (b number))
by_number (Ok number) a b = refl
by_number (Err kind) a b = refl

made_alike : (command : Command) (j k : Job) → j.fields ≡ k.fields → status_to (made_by command j) ≡ status_to (made_by command k)
made_alike (over paths table) j k same = refl
made_alike (over paths check) j k same = refl
made_alike (bench size) j k same = refl
made_alike (over paths (rerun digits)) j k same =
    by_number (run_among (runs_in j) (number_of digits)) (rows_text j) (rows_text k)
    ∙ ap (λ f. status_to (with_fault no_such_run (run_among (runs_in (record k { fields = f })) (number_of digits)) >>= λ number. Ok (rows_text k number))) same

abbrev fields_of : Result Job End → Option Fields
fields_of (Ok job) = Some job.fields
fields_of (Err end) = None

same_fields : (j k : Job) → bared (Ok j) ≡ bared (Ok k) → j.fields ≡ k.fields
same_fields j k same = let e : Some j.fields ≡ Some k.fields = ap fields_of same in cc

comes_alike : (command : Command) (r s : Result Job End) → bared r ≡ bared s → status_to (r >>= made_by command) ≡ status_to (s >>= made_by command)
comes_alike command (Ok j) (Ok k) same = made_alike command j k (same_fields j k same)
comes_alike command (Err a) (Err b) same = let e : Err a ≡ Err b = same in ap status_to (ap (λ (x : Result Job End). x >>= made_by command) e)
comes_alike command (Ok j) (Err b) same = cc
comes_alike command (Err a) (Ok k) same = cc

status_to_answer : (paths : Paths) (r : Result Bytes End) → (answer_to paths r).status ≡ status_to r
status_to_answer paths (Ok bytes) = refl
status_to_answer paths (Err end) = refl

answers_alike : (found : Command → Found) (o : Option Command) (a b : Answer) → AnswersTo o found a → AnswersTo o found b → a.status ≡ b.status
answers_alike found None a b h k = ap (λ (x : Answer). x.status) (h ∙ sym k)
answers_alike found (Some command) a b (r, ((x, (is_x, r_is)), a_is)) (s, ((y, (is_y, s_is)), b_is)) =
    let paths = paths_for command in
    ap (λ (z : Answer). z.status) a_is ∙ status_to_answer paths r ∙ ap status_to r_is
    ∙ comes_alike command x y (jobs_are_alike (found command) x y is_x is_y)
    ∙ ap status_to (sym s_is) ∙ sym (status_to_answer paths s) ∙ ap (λ (z : Answer). z.status) (sym b_is)

pub answers_have_one_status : (words : Words) (folder : Folder) (a b : Answer) → IsAnswer words folder a → IsAnswer words folder b → a.status ≡ b.status
answers_have_one_status words folder a b h k = answers_alike (λ command. found_in command folder) (command_of words) a b h k

-- ---- one answer, where nothing is put

abbrev Undone : Result Bytes End → Type 0
Undone r = status_to r ≡ Status.Done → ⊥

number_same : (r : Result ℕ PlanKind) (a b : ℕ → Bytes) → Undone (with_fault no_such_run r >>= λ number. Ok (a number))
    → (with_fault no_such_run r >>= λ number. Ok (a number)) ≡ (with_fault no_such_run r >>= λ number. Ok (b number))
number_same (Ok number) a b undone = absurd (undone refl)
number_same (Err kind) a b undone = refl

made_same : (command : Command) (j k : Job) → j.fields ≡ k.fields → Undone (made_by command j) → made_by command j ≡ made_by command k
made_same (over paths table) j k same undone = absurd (undone refl)
made_same (over paths check) j k same undone = absurd (undone refl)
made_same (bench size) j k same undone = absurd (undone refl)
made_same (over paths (rerun digits)) j k same undone =
    number_same (run_among (runs_in j) (number_of digits)) (rows_text j) (rows_text k) undone
    ∙ ap (λ f. with_fault no_such_run (run_among (runs_in (record k { fields = f })) (number_of digits)) >>= λ number. Ok (rows_text k number)) same

comes_same : (command : Command) (r s : Result Job End) → bared r ≡ bared s → Undone (r >>= made_by command) → (r >>= made_by command) ≡ (s >>= made_by command)
comes_same command (Ok j) (Ok k) same undone = made_same command j k (same_fields j k same) undone
comes_same command (Err a) (Err b) same undone = let e : Err a ≡ Err b = same in ap (λ (x : Result Job End). x >>= made_by command) e
comes_same command (Ok j) (Err b) same undone = cc
comes_same command (Err a) (Ok k) same undone = cc

answers_same : (found : Command → Found) (o : Option Command) (a b : Answer) → AnswersTo o found a → AnswersTo o found b → (a.status ≡ Status.Done → ⊥) → a ≡ b
answers_same found None a b h k undone = h ∙ sym k
answers_same found (Some command) a b (r, ((x, (is_x, r_is)), a_is)) (s, ((y, (is_y, s_is)), b_is)) undone =
    let paths = paths_for command in
    let not_done : Undone (x >>= made_by command) = λ e. undone (ap (λ (z : Answer). z.status) a_is ∙ status_to_answer paths r ∙ ap status_to r_is ∙ e) in
    a_is ∙ ap (answer_to paths) (r_is ∙ comes_same command x y (jobs_are_alike (found command) x y is_x is_y) not_done ∙ sym s_is) ∙ sym b_is

pub answers_are_alike : AnswersAreAlike
answers_are_alike words folder a b h k =
    (answers_have_one_status words folder a b h k, answers_same (λ command. found_in command folder) (command_of words) a b h k)
