-- A text means the same beside a program and beside what is bare of it: the order of its words and its kinds aren't looked at.
use Rattle.std.proofs.Common.{◌≡◌, ℕ, zero, suc, Bool, false, [], Option, refl, ap, ◌∙◌}
use mathlib.Core.Path.{fun_ext}
use Rattle.nl_words.specs.declared.entry.Kinds.{Kinds}
use Rattle.nl_tree.specs.Checked.{Checked}
use Rattle.nl_tree.specs.Tree.{Node, label, span, parts}
use Rattle.nl_tree.specs.declared.declared.Declared.{Declared}
use Rattle.nl_tree.specs.declared.declared.Form.{Form}
use Rattle.nl_tree.specs.declared.declared.Form.TheVariants as form
use Rattle.nl_tree.specs.declared.tree.Label.{Label}
use Rattle.nl_tree.specs.declared.tree.Label.TheVariants as labels
use Rattle.nl_agents_layout.specs.Nouns.{BreedNumber}
use Rattle.nl_motion.specs.Climbing.{climbed, state_climbed}
use Rattle.nl_motion.specs.Diffusion.{diffused, diffuse_fault}
use Rattle.nl_exec_acts.specs.declared.fail.ErrorKind.TheVariants.{WrongType}
use Rattle.nl_exec_acts.specs.Acts.{turtle_in}
use Rattle.nl_exec_acts.specs.Stage.{changed}
use Rattle.nl_exec_acts.specs.Stage as stage
use Rattle.nl_exec_meaning.specs.Cases.{Case, case_of}
use Rattle.nl_exec_meaning.specs.Cases as case
use Rattle.nl_exec_meaning.specs.declared.words.Built.{Built}
use Rattle.nl_exec_meaning.specs.declared.words.Built.TheVariants as built
use Rattle.nl_exec_meaning.specs.declared.words.Control.{Control}
use Rattle.nl_exec_meaning.specs.declared.words.Control.TheVariants as control
use Rattle.nl_exec_meaning.specs.declared.words.Spread.{Spread}
use Rattle.nl_exec_meaning.specs.declared.words.Spread.TheVariants as spread
use Rattle.nl_exec_meaning.specs.State.{State, Outcome, Eval, come_to, found, goes_on, rest_of, with_number, with_part, with_stage, ◌>>=◌}
use Rattle.nl_exec_meaning.specs.Running.{allowed, staying}
use Rattle.nl_exec_meaning.specs.Variables.{make_local, assign}
use Rattle.nl_exec_meaning.specs.Walks.{at_stream}
use Rattle.nl_exec_meaning.specs.Meaning.{built_case, by_case, cases, control_case, evaluator, limited, name_in, nesting_limit, slot_in, spread_case, text, text_by, text_statements, unless}
use Rattle.nl_check_model.specs.Laws.{bare}

-- what a label is beside a table of words, whatever the index is
case_at : (d : Declared) (l : Label) → case_of (record d { index = [] }) l ≡ case_of d l
case_at d (labels.Number count) = refl
case_at d (labels.Text bytes) = refl
case_at d labels.List = refl
case_at d (labels.Named name) = refl
case_at d labels.Negate = refl
case_at d labels.Paren = refl
case_at d labels.Commands = refl
case_at d labels.Reporter = refl
case_at d (labels.Arrow names) = refl

module _ (p : Checked) where
  same_case : case_of (bare p).declared ≡ case_of p.declared
  same_case = fun_ext (case_at p.declared)

  -- the cases that look a label up, by how that is done
  diffuse_by : Bool → (Label → Case) → Kinds → Eval → Node → State → Outcome
  diffuse_by four look runs prev t s =
      with_part t 0 (span t) s (λ part. found (slot_in (look (label part))) WrongType (span t) s (λ slot.
      with_part t 1 (span t) s (λ second. prev second s >>= λ value s1.
      staying runs s1 (with_number value (span t) s1 (λ share.
      unless (diffuse_fault slot share four (stage.bare (rest_of s1))) (span t) s1 (goes_on (with_stage (changed (diffused slot share four) s1.stage) s1)))))))

  climb_by : Bool → Bool → (Label → Case) → Node → State → Outcome
  climb_by up four look t s =
      with_part t 0 (span t) s (λ part. found (slot_in (look (label part))) WrongType (span t) s (λ slot.
      come_to (turtle_in s.site.agent) (span t) s (λ turtle.
      goes_on (at_stream (state_climbed turtle slot up four (stage.bare (rest_of s)) s.stage.stream)
      (with_stage (changed (λ w. climbed turtle slot up four w s.stage.stream) s.stage) s)))))

  let_by : (Label → Case) → Eval → Node → State → Outcome
  let_by look prev t s =
      with_part t 0 (span t) s (λ part. found (name_in (look (label part))) WrongType (span t) s (λ name.
      with_part t 1 (span t) s (λ second. prev second s >>= λ value s1. goes_on (make_local name value s1))))

  set_by : (Label → Case) → Eval → Node → State → Outcome
  set_by look prev t s =
      with_part t 0 (span t) s (λ variable. with_part t 1 (span t) s (λ part. prev part s >>= λ value s1.
      assign (look (label variable)) (span variable) (span t) value s1))

  spread_same : (word : Spread) (runs : Kinds) (prev : Eval) (t : Node) (s : State) → spread_case word (bare p) runs prev t s ≡ spread_case word p runs prev t s
  unfolding diffuse_by climb_by
  spread_same (spread.Diffuse four) runs prev t s = ap (λ look. diffuse_by four look runs prev t s) same_case
  spread_same (spread.Climb up four) runs prev t s = ap (λ look. climb_by up four look t s) same_case

  control_same : (word : Control) (runs : Kinds) (prev : Eval) (t : Node) (s : State) → control_case word (bare p) runs prev t s ≡ control_case word p runs prev t s
  unfolding let_by set_by
  control_same control.Let runs prev t s = ap (λ look. let_by look prev t s) same_case
  control_same control.Set runs prev t s = ap (λ look. set_by look prev t s) same_case
  control_same control.And runs prev t s = refl
  control_same control.Or runs prev t s = refl
  control_same control.Stop runs prev t s = refl
  control_same control.Report runs prev t s = refl
  control_same control.Die runs prev t s = refl
  control_same control.If runs prev t s = refl
  control_same control.IfElse runs prev t s = refl
  control_same control.IfElseValue runs prev t s = refl
  control_same control.Repeat runs prev t s = refl
  control_same control.While runs prev t s = refl
  control_same control.Loop runs prev t s = refl
  control_same control.Forward runs prev t s = refl
  control_same control.Back runs prev t s = refl
  control_same control.ClearGlobals runs prev t s = refl
  control_same control.ClearAll runs prev t s = refl

  built_same : (word : Built) (breed : Option BreedNumber) (runs : Kinds) (prev : Eval) (t : Node) (s : State)
      → built_case word breed (bare p) runs prev t s ≡ built_case word breed p runs prev t s
  built_same (built.Control word) breed runs prev t s = control_same word runs prev t s
  built_same (built.Over word) breed runs prev t s = refl
  built_same (built.Arrow word) breed runs prev t s = refl
  built_same (built.Making word) breed runs prev t s = refl
  built_same (built.Spread word) breed runs prev t s = spread_same word runs prev t s
  built_same (built.Act act) breed runs prev t s = refl

  by_same : (c : Case) (prev : Eval) (t : Node) (s : State) → by_case c (bare p) prev t s ≡ by_case c p prev t s
  by_same (case.Constant value) prev t s = refl
  by_same case.Items prev t s = refl
  by_same case.Negation prev t s = refl
  by_same case.Inside prev t s = refl
  by_same case.Statements prev t s = refl
  by_same (case.Local name) prev t s = refl
  by_same (case.Global slot) prev t s = refl
  by_same (case.Owned runs slot) prev t s = refl
  by_same (case.Aside runs which) prev t s = refl
  by_same (case.Procedure index) prev t s = refl
  by_same (case.Word runs breed word) prev t s = ap (allowed runs (span t) s) (built_same word breed runs prev t s)
  by_same case.Nothing prev t s = refl

  cases_same : (prev : Eval) (t : Node) (s : State) → cases (bare p) prev t s ≡ cases p prev t s
  unfolding cases
  cases_same prev t s = ap (λ look. by_case (look (label t)) (bare p) prev t s) same_case ∙ by_same (case_of p.declared (label t)) prev t s

  evaluator_at : (room : ℕ) (t : Node) (s : State) → evaluator (bare p) room t s ≡ evaluator p room t s
  unfolding evaluator
  evaluator_at zero t s = refl
  evaluator_at (suc room) t s =
      let inner : evaluator (bare p) room ≡ evaluator p room = fun_ext (λ u. fun_ext (evaluator_at room u)) in
      ap (λ (prev : Eval). limited (span t) (cases (bare p) prev t s)) inner ∙ ap (limited (span t)) (cases_same (evaluator p room) t s)

  evaluator_same : (room : ℕ) → evaluator (bare p) room ≡ evaluator p room
  evaluator_same room = fun_ext (λ t. fun_ext (evaluator_at room t))

  text_by_same : (room : ℕ) (f : Form) (t : Node) (s : State) → text_by (bare p) room f t s ≡ text_by p room f t s
  text_by_same room form.Reporter t s = evaluator_at room t s
  text_by_same zero form.Commands t s = refl
  text_by_same (suc room) form.Commands t s = ap (λ (prev : Eval). text_statements prev (parts t) false s) (evaluator_same room)

  -- what a lone text means beside the program
  pub text_same : (f : Form) (t : Node) (s : State) → text (bare p) f t s ≡ text p f t s
  text_same f t s = text_by_same nesting_limit f t s
