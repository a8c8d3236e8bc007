-- Each evaluation is whole with its units, or cut: each walk has a lemma here and stands in the ruleset `walks`. A case that is made of these and of
-- combinators needs none.
use Rattle.std.proofs.Common.{ℕ, zero, suc, ◌≤◌, ℤ, Bool, false, Option, Some, None, List, [], ◌∷◌, refl}
use Rattle.nl_fixed.specs.declared.span.Span.{Span}
use Rattle.nl_words.specs.declared.entry.Kinds.{Kinds}
use Rattle.nl_value.specs.Nouns.{Serials}
use Rattle.nl_value.specs.Plain.{Plain}
use Rattle.nl_value.specs.declared.sets.AgentKind.{AgentKind}
use Rattle.nl_tree.specs.Tree.{Node, label, span, parts}
use Rattle.nl_tree.specs.Checked.{Checked}
use Rattle.nl_tree.specs.declared.declared.Form.{Form}
use Rattle.nl_tree.specs.declared.declared.Form.TheVariants as form
use Rattle.nl_agents_layout.specs.Nouns.{BreedNumber}
use Rattle.nl_agents.specs.declared.agents.Owner.{Owner}
use Rattle.nl_agents.specs.declared.agents.Owner.TheVariants as owner
use Rattle.nl_exec_acts.specs.declared.fail.ErrorKind.TheVariants.{NoReport}
use Rattle.nl_exec_meaning.specs.declared.words.Apart.{Apart}
use Rattle.nl_exec_meaning.specs.declared.words.Apart.TheVariants as apart
use Rattle.nl_exec_meaning.specs.declared.words.Arrow.{Arrow}
use Rattle.nl_exec_meaning.specs.declared.words.Arrow.TheVariants as arrow
use Rattle.nl_exec_meaning.specs.declared.words.Over.{Over}
use Rattle.nl_exec_meaning.specs.declared.words.Over.TheVariants as over
use Rattle.nl_exec_meaning.specs.declared.words.Making.{Making}
use Rattle.nl_exec_meaning.specs.declared.words.Making.TheVariants as making
use Rattle.nl_exec_meaning.specs.declared.words.Spread.{Spread}
use Rattle.nl_exec_meaning.specs.declared.words.Spread.TheVariants as spread
use Rattle.nl_exec_meaning.specs.declared.words.Control.{Control}
use Rattle.nl_exec_meaning.specs.declared.words.Control.TheVariants as control
use Rattle.nl_exec_meaning.specs.declared.words.Built.{Built}
use Rattle.nl_exec_meaning.specs.declared.words.Built.TheVariants as built
use Rattle.nl_exec_meaning.specs.Cases.{Case, case_of}
use Rattle.nl_exec_meaning.specs.Cases as case
use Rattle.nl_exec_meaning.specs.declared.sites.Site.{Site}
use Rattle.nl_exec_meaning.specs.State.{State, Outcome, Eval, goes_on, fails}
use Rattle.nl_exec_meaning.specs.Variables.{set_of_turtle, set_of_link, set_of_agent, assign}
use Rattle.nl_exec_meaning.specs.Blocks.{values, statements, chosen, turns}
use Rattle.nl_exec_meaning.specs.Arrows.{all_turns, arrow_case, reduced}
use Rattle.nl_exec_meaning.specs.Steps.{last_step, steps}
use Rattle.nl_exec_meaning.specs.Walks.{walk, Answer, collect, over_case}
use Rattle.nl_exec_meaning.specs.Makings.{run_by_new, made_of, making_case}
use Rattle.nl_exec_meaning.specs.Meaning.{spread_case, control_case, built_case, by_case, cases, evaluator, text_statements, text_by}
use Rattle.nl_exec_units.proofs.Beside.{Beside, whole, Good, richer, steadies, limited-beside}
use Rattle.nl_exec_units.proofs.Looping.{while-beside, loop-beside}

-- ---- variables

turtle_set-beside : {k n : ℕ} (which : Apart) (turtle : ℕ) (place : Span) (value : Plain) (s : State) → s.units ≤ n →
    Beside k n (set_of_turtle which turtle place value s) (set_of_turtle which turtle place value (richer k s))
turtle_set-beside apart.Xcor turtle place value s few = search steadies
turtle_set-beside which turtle place value s few = search steadies

link_set-beside : {k n : ℕ} (which : Apart) (place : Span) (value : Plain) (s : State) → s.units ≤ n →
    Beside k n (set_of_link which place value s) (set_of_link which place value (richer k s))
link_set-beside apart.Breed place value s few = whole refl few
link_set-beside which place value s few = whole refl few

agent_set-beside : {k n : ℕ} (which : Apart) (agent : Owner) (place : Span) (value : Plain) (s : State) → s.units ≤ n →
    Beside k n (set_of_agent which agent place value s) (set_of_agent which agent place value (richer k s))
agent_set-beside which (owner.Turtle turtle) place value s few = turtle_set-beside which turtle place value s few
agent_set-beside which (owner.Link link) place value s few = link_set-beside which place value s few
agent_set-beside which owner.Observer place value s few = whole refl few
agent_set-beside which (owner.Patch patch) place value s few = whole refl few

pub assign-beside : {k n : ℕ} (which : Case) (variable place : Span) (value : Plain) (s : State) → s.units ≤ n →
    Beside k n (assign which variable place value s) (assign which variable place value (richer k s))
assign-beside (case.Aside runs which) variable place value s few = search (steadies, agent_set-beside)
assign-beside which variable place value s few = search steadies

-- ---- steps

last_step-beside : {k n : ℕ} (turtle rest : ℕ) (way : ℤ) (place : Span) (s : State) → s.units ≤ n →
    Beside k n (last_step turtle rest way place s) (last_step turtle rest way place (richer k s))
last_step-beside turtle zero way place s few = whole refl few
last_step-beside turtle (suc rest) way place s few = search steadies

pub steps-beside : {k : ℕ} (count turtle rest : ℕ) (way : ℤ) (place : Span) (n : ℕ) (s : State) → s.units ≤ n →
    Beside k n (steps count turtle rest way place s) (steps count turtle rest way place (richer k s))
steps-beside zero turtle rest way place n s few = last_step-beside turtle rest way place s few
steps-beside {k} (suc count) turtle rest way place n s few = search (steadies, steps-beside {k = k} count turtle rest way place)

-- ---- births and links

pub made_of-beside : {k n : ℕ} (word : Making) (breed : Option BreedNumber) (value : Plain) (place : Span) (s : State) (next : Serials → State → Outcome) →
    s.units ≤ n → ((made : Serials) → Good k (next made)) → Beside k n (made_of word breed value place s next) (made_of word breed value place (richer k s) next)
made_of-beside (making.Link way one) breed value place s next few good = search steadies
made_of-beside word breed value place s next few good = search steadies

-- ---- what walks a list, or counts

module _ (k : ℕ) (prev : Eval) (good : (t : Node) → Good k (prev t)) where
  pub values-beside : (next : List Plain → State → Outcome) → ((made : List Plain) → Good k (next made)) → (ts : List Node) (made : List Plain)
      (n : ℕ) (s : State) → s.units ≤ n → Beside k n (values prev ts made s next) (values prev ts made (richer k s) next)
  values-beside next after [] made n s few = after made n s few
  values-beside next after (t ∷ ts) made n s few = search (steadies, values-beside next after ts)

  pub statements-beside : (kept : ℕ) (ts : List Node) (n : ℕ) (s : State) → s.units ≤ n →
      Beside k n (statements prev kept ts s) (statements prev kept ts (richer k s))
  statements-beside kept [] n s few = whole refl few
  statements-beside kept (t ∷ ts) n s few = search (steadies, statements-beside kept ts) depth 14

  pub text_statements-beside : (ts : List Node) (stopped : Bool) (n : ℕ) (s : State) → s.units ≤ n →
      Beside k n (text_statements prev ts stopped s) (text_statements prev ts stopped (richer k s))
  text_statements-beside [] stopped n s few = search steadies
  text_statements-beside (t ∷ ts) stopped n s few = search (steadies, text_statements-beside ts) depth 14

  pub choice-beside : (place : Span) (none : State → Outcome) → Good k none → (ts : List Node) (n : ℕ) (s : State) → s.units ≤ n →
      Beside k n (chosen prev place none ts s) (chosen prev place none ts (richer k s))
  choice-beside place none after [] n s few = after n s few
  choice-beside place none after (last ∷ []) n s few = good last n s few
  choice-beside place none after (test ∷ block ∷ others) n s few = search (steadies, choice-beside place none after others) depth 14

  pub all-beside : {X A : Type 0} (t : Node) (index : ℕ) (given : A → X → List Plain) (make : A → X → Plain → Option A) (next : A → State → Outcome) →
      ((made : A) → Good k (next made)) → (xs : List X) (made : A) (n : ℕ) (s : State) → s.units ≤ n →
      Beside k n (all_turns prev t index given make xs made s next) (all_turns prev t index given make xs made (richer k s) next)
  all-beside t index given make next after [] made n s few = after made n s few
  all-beside t index given make next after (x ∷ xs) made n s few = search (steadies, all-beside t index given make next after xs) depth 14

  pub turns-beside : (count : ℕ) (t : Node) (n : ℕ) (s : State) → s.units ≤ n → Beside k n (turns count prev t s) (turns count prev t (richer k s))
  turns-beside zero t n s few = whole refl few
  turns-beside (suc count) t n s few = search (steadies, turns-beside count t) depth 14

  pub walk-beside : (t : Node) (index : ℕ) (site : Site) (which : AgentKind) (ms : List ℕ) (n : ℕ) (s : State) → s.units ≤ n →
      Beside k n (walk prev t index site which ms s) (walk prev t index site which ms (richer k s))
  walk-beside t index site which [] n s few = whole refl few
  walk-beside t index site which (m ∷ ms) n s few = search (steadies, walk-beside t index site which ms) depth 14

  pub collect-beside : (word : Over) (t : Node) (index : ℕ) (site : Site) (which : AgentKind) (next : List Answer → State → Outcome) →
      ((made : List Answer) → Good k (next made)) → (ms : List ℕ) (made : List Answer) (n : ℕ) (s : State) → s.units ≤ n →
      Beside k n (collect word prev t index site which ms made s next) (collect word prev t index site which ms made (richer k s) next)
  collect-beside word t index site which next after [] made n s few = after made n s few
  collect-beside word t index site which next after (m ∷ ms) made n s few = search (steadies, collect-beside word t index site which next after ms) depth 14

  pub new-beside : (t : Node) (index : ℕ) (which : AgentKind) (made : Serials) (block : Option Node) (n : ℕ) (s : State) → s.units ≤ n →
      Beside k n (run_by_new prev t index which made block s) (run_by_new prev t index which made block (richer k s))
  new-beside t index which made None n s few = whole refl few
  new-beside t index which made (Some block) n s few = search (walk-beside)

  ruleset walks = (steadies, all-beside, assign-beside, steps-beside, values-beside, statements-beside, turns-beside, walk-beside, collect-beside, made_of-beside, new-beside)

  -- ---- the cases

  over-beside : (word : Over) (t : Node) (n : ℕ) (s : State) → s.units ≤ n → Beside k n (over_case word prev t s) (over_case word prev t (richer k s))
  over-beside over.Ask t n s few = search walks depth 14
  over-beside word t n s few = search walks depth 14

  pub reduced-beside : (t : Node) (items : List Plain) (n : ℕ) (s : State) → s.units ≤ n → Beside k n (reduced prev t items s) (reduced prev t items (richer k s))
  reduced-beside t [] n s few = whole refl few
  reduced-beside t (first ∷ items) n s few = search walks depth 14

  arrow-beside : (word : Arrow) (t : Node) (n : ℕ) (s : State) → s.units ≤ n → Beside k n (arrow_case word prev t s) (arrow_case word prev t (richer k s))
  arrow-beside arrow.Reduce t n s few = search (walks, reduced-beside) depth 14
  arrow-beside word t n s few = search walks depth 14

  making-beside : (word : Making) (breed : Option BreedNumber) (runs : Kinds) (t : Node) (n : ℕ) (s : State) → s.units ≤ n →
      Beside k n (making_case word breed runs prev t s) (making_case word breed runs prev t (richer k s))
  making-beside word breed runs t n s few = search walks depth 14

  spread-beside : (word : Spread) (p : Checked) (runs : Kinds) (t : Node) (n : ℕ) (s : State) → s.units ≤ n →
      Beside k n (spread_case word p runs prev t s) (spread_case word p runs prev t (richer k s))
  spread-beside (spread.Diffuse four) p runs t n s few = search steadies depth 14
  spread-beside (spread.Climb up four) p runs t n s few = search steadies depth 14

  control-beside : (word : Control) (p : Checked) (runs : Kinds) (t : Node) (n : ℕ) (s : State) → s.units ≤ n →
      Beside k n (control_case word p runs prev t s) (control_case word p runs prev t (richer k s))
  control-beside control.IfElse p runs t n s few = choice-beside (span t) goes_on (λ m s1 fewer. whole refl fewer) (parts t) n s few
  control-beside control.IfElseValue p runs t n s few =
      choice-beside (span t) (fails NoReport (span t)) (λ m s1 fewer. whole refl fewer) (parts t) n s few
  control-beside control.While p runs t n s few = while-beside k prev good t n s few
  control-beside control.Loop p runs t n s few = loop-beside k prev good t n s few
  control-beside word p runs t n s few = search walks depth 14

  built-beside : (word : Built) (breed : Option BreedNumber) (p : Checked) (runs : Kinds) (t : Node) (n : ℕ) (s : State) → s.units ≤ n →
      Beside k n (built_case word breed p runs prev t s) (built_case word breed p runs prev t (richer k s))
  built-beside (built.Control word) breed p runs t n s few = control-beside word p runs t n s few
  built-beside (built.Over word) breed p runs t n s few = over-beside word t n s few
  built-beside (built.Arrow word) breed p runs t n s few = arrow-beside word t n s few
  built-beside (built.Making word) breed p runs t n s few = making-beside word breed runs t n s few
  built-beside (built.Spread word) breed p runs t n s few = spread-beside word p runs t n s few
  built-beside (built.Act act) breed p runs t n s few = search walks depth 14

  case-beside : (which : Case) (p : Checked) (t : Node) (n : ℕ) (s : State) → s.units ≤ n →
      Beside k n (by_case which p prev t s) (by_case which p prev t (richer k s))
  case-beside (case.Word runs breed word) p t n s few = search (steadies, built-beside) depth 14
  case-beside which p t n s few = search walks depth 14

-- ---- the law

pub evaluator-beside : (p : Checked) (room k : ℕ) (t : Node) → Good k (evaluator p room t)
unfolding evaluator cases
evaluator-beside p zero k t n s few = whole refl few
evaluator-beside p (suc room) k t n s few =
    limited-beside (span t) (case-beside k (evaluator p room) (evaluator-beside p room k) (case_of p.declared (label t)) p t n s few)

pub text-beside : (p : Checked) (room : ℕ) (f : Form) (k : ℕ) (t : Node) (s : State) (n : ℕ) → s.units ≤ n →
    Beside k n (text_by p room f t s) (text_by p room f t (richer k s))
text-beside p room form.Reporter k t s n few = evaluator-beside p room k t n s few
text-beside p zero form.Commands k t s n few = whole refl few
text-beside p (suc room) form.Commands k t s n few =
    text_statements-beside k (evaluator p room) (evaluator-beside p room k) (parts t) false n s few
