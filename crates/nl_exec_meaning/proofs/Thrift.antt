-- No evaluation gives back more units than it was given.
--
-- Each combinator of meanings has a lemma here and stands in the ruleset `keeps`, each walk has one and stands in `walks`. A case that is made of
-- these needs none.
use Rattle.std.proofs.Common.{ℕ, zero, suc, ◌≤◌, ℤ, Bool, true, false, Option, Some, None, Result, Ok, Err, List, [], ◌∷◌, arith}
use Rattle.nl_fixed.specs.declared.number.NumFault.{NumFault}
use Rattle.nl_fixed.specs.declared.span.Span.{Span}
use Rattle.nl_words.specs.declared.entry.Kinds.{Kinds}
use Rattle.nl_grid.specs.declared.point.Point.{Point}
use Rattle.nl_value.specs.Nouns.{Serials}
use Rattle.nl_value.specs.Plain.{Plain, PlainNumber, PlainTruth, PlainWords, PlainItems, PlainTurtle, PlainPatch, PlainLink, PlainNobody, PlainSet}
use Rattle.nl_value.specs.Limits.{within_limits}
use Rattle.nl_value.specs.declared.sets.AgentKind.{AgentKind}
use Rattle.nl_tree.specs.Tree.{Node, label, span, parts}
use Rattle.nl_tree.specs.Checked.{Checked}
use Rattle.nl_agents_layout.specs.Nouns.{BreedNumber}
use Rattle.nl_agents.specs.declared.agents.Owner.{Owner}
use Rattle.nl_agents.specs.declared.agents.Owner.TheVariants as owner
use Rattle.nl_motion.specs.declared.faults.MoveFault.{MoveFault}
use Rattle.nl_birth.specs.Outcomes as births
use Rattle.nl_exec_acts.specs.declared.fail.ErrorKind.{ErrorKind}
use Rattle.nl_exec_acts.specs.declared.fail.ErrorKind.TheVariants.{WrongType, NoReport}
use Rattle.nl_exec_acts.specs.Stage.{Stage}
use Rattle.nl_exec_meaning.specs.declared.words.Apart.{Apart}
use Rattle.nl_exec_meaning.specs.declared.words.Apart.TheVariants as apart
use Rattle.nl_exec_meaning.specs.declared.words.Arrow.{Arrow}
use Rattle.nl_exec_meaning.specs.declared.words.Arrow.TheVariants as arrow
use Rattle.nl_exec_meaning.specs.declared.words.Over.{Over}
use Rattle.nl_exec_meaning.specs.declared.words.Over.TheVariants as over
use Rattle.nl_exec_meaning.specs.declared.words.Making.{Making}
use Rattle.nl_exec_meaning.specs.declared.words.Making.TheVariants as making
use Rattle.nl_exec_meaning.specs.declared.words.Spread.{Spread}
use Rattle.nl_exec_meaning.specs.declared.words.Spread.TheVariants as spread
use Rattle.nl_exec_meaning.specs.declared.words.Control.{Control}
use Rattle.nl_exec_meaning.specs.declared.words.Control.TheVariants as control
use Rattle.nl_exec_meaning.specs.declared.words.Built.{Built}
use Rattle.nl_exec_meaning.specs.declared.words.Built.TheVariants as built
use Rattle.nl_exec_meaning.specs.Cases.{Case, case_of}
use Rattle.nl_exec_meaning.specs.Cases as case
use Rattle.nl_exec_meaning.specs.declared.sites.Site.{Site}
use Rattle.nl_exec_meaning.specs.State.{Held, State, Exit, Outcome, Eval, Gives, Stopped, Reported, Left, Budget, Error, ends, goes_on, fails, next_by, spend_by, choose, found, come_to, with_number, with_truth}
use Rattle.nl_exec_meaning.specs.Variables.{set_of_turtle, set_of_link, set_of_agent, assign}
use Rattle.nl_exec_meaning.specs.Blocks.{values, leave_by, cut_to, statements, chosen, turns, Step, fuelled, unending, while_step, while_case, loop_step, loop_case}
use Rattle.nl_exec_meaning.specs.Arrows.{after_turn_by, all_turns, are_as_long, arrow_case, gives_kept, lists_in, reduced, with_lists}
use Rattle.nl_exec_meaning.specs.Calls.{command_by, reporter_by, returned_by}
use Rattle.nl_exec_meaning.specs.Steps.{step_made, last_step, steps}
use Rattle.nl_exec_meaning.specs.Walks.{Group, Chosen, Several, One, with_turns, turn_by, walk, Answer, value_by, Reply, Keep, Pass, Decide, Refuse, replied, collect, value_of_one, of_answers, over_case}
use Rattle.nl_exec_meaning.specs.Makings.{run_by_new, made_by, made_of, making_case}
use Rattle.nl_exec_meaning.specs.Meaning.{unless, spread_case, control_case, built_case, by_case, cases, limited_by, evaluator}
use Rattle.nl_exec_meaning.specs.Laws.{Thrifty}

-- no more units than these are left
pub data Within (n : ℕ) : Outcome → Type 0 where
  within : {e : Exit} {s : State} → s.units ≤ n → Within n (ends e s)

-- ---- combinators

bind-within : {n : ℕ} {o : Outcome} (next : Plain → State → Outcome) → Within n o →
    ((value : Plain) (s : State) → s.units ≤ n → Within n (next value s)) → Within n (next_by o.exit o.state next)
bind-within next (within {e = Gives value} {s = s} few) keeps = keeps value s few
bind-within next (within {e = Stopped} few) keeps = within few
bind-within next (within {e = Reported value} few) keeps = within few
bind-within next (within {e = Left} few) keeps = within few
bind-within next (within {e = Budget} few) keeps = within few
bind-within next (within {e = Error kind place body} few) keeps = within few

leave-within : {n : ℕ} {o : Outcome} (kept : ℕ) (next : Plain → State → Outcome) → Within n o →
    ((value : Plain) (s : State) → s.units ≤ n → Within n (next value s)) → Within n (leave_by o.exit kept o.state next)
leave-within kept next (within {e = Gives value} {s = s} few) keeps = keeps value s few
leave-within kept next (within {e = Stopped} few) keeps = within few
leave-within kept next (within {e = Reported value} few) keeps = within few
leave-within kept next (within {e = Left} few) keeps = within few
leave-within kept next (within {e = Budget} few) keeps = within few
leave-within kept next (within {e = Error kind place body} few) keeps = within few

after-within : {n : ℕ} {o : Outcome} (kept : ℕ) (next : Plain → State → Outcome) → Within n o →
    ((value : Plain) (s : State) → s.units ≤ n → Within n (next value s)) → Within n (after_turn_by o.exit kept o.state next)
after-within kept next (within {e = Gives value} {s = s} few) keeps = keeps value (cut_to kept s) few
after-within kept next (within {e = Stopped} few) keeps = within few
after-within kept next (within {e = Reported value} few) keeps = within few
after-within kept next (within {e = Left} few) keeps = within few
after-within kept next (within {e = Budget} few) keeps = within few
after-within kept next (within {e = Error kind place body} few) keeps = within few

command-within : {n : ℕ} {o : Outcome} (saved : List Held) (site : Site) → Within n o → Within n (command_by o.exit saved site o.state)
command-within saved site (within {e = Gives value} few) = within few
command-within saved site (within {e = Stopped} few) = within few
command-within saved site (within {e = Reported value} few) = within few
command-within saved site (within {e = Left} few) = within few
command-within saved site (within {e = Budget} few) = within few
command-within saved site (within {e = Error kind place body} few) = within few

reporter-within : {n : ℕ} {o : Outcome} (place : Span) (saved : List Held) (site : Site) → Within n o →
    Within n (reporter_by o.exit place saved site o.state)
reporter-within place saved site (within {e = Gives value} few) = within few
reporter-within place saved site (within {e = Stopped} few) = within few
reporter-within place saved site (within {e = Reported value} few) = within few
reporter-within place saved site (within {e = Left} few) = within few
reporter-within place saved site (within {e = Budget} few) = within few
reporter-within place saved site (within {e = Error kind at body} few) = within few

returned-within : {n : ℕ} {o : Outcome} (reports : Bool) (place : Span) (saved : List Held) (site : Site) → Within n o →
    Within n (returned_by reports place saved site o)
returned-within true place saved site few = reporter-within place saved site few
returned-within false place saved site few = command-within saved site few

turn-within : {n : ℕ} {o : Outcome} (site : Site) (next : State → Outcome) → Within n o → ((s : State) → s.units ≤ n → Within n (next s)) →
    Within n (turn_by o.exit site o.state next)
turn-within site next (within {e = Gives value} {s = s} few) keeps = keeps (record s { site = site }) few
turn-within site next (within {e = Stopped} {s = s} few) keeps = keeps (record s { site = site }) few
turn-within site next (within {e = Reported value} few) keeps = within few
turn-within site next (within {e = Left} {s = s} few) keeps = keeps (record s { site = site }) few
turn-within site next (within {e = Budget} few) keeps = within few
turn-within site next (within {e = Error kind place body} few) keeps = within few

value-within : {n : ℕ} {o : Outcome} (site : Site) (place : Span) (next : Plain → State → Outcome) → Within n o →
    ((value : Plain) (s : State) → s.units ≤ n → Within n (next value s)) → Within n (value_by o.exit site place o.state next)
value-within site place next (within {e = Gives value} {s = s} few) keeps = keeps value (record s { site = site }) few
value-within site place next (within {e = Stopped} few) keeps = within few
value-within site place next (within {e = Reported value} few) keeps = within few
value-within site place next (within {e = Left} few) keeps = within few
value-within site place next (within {e = Budget} few) keeps = within few
value-within site place next (within {e = Error kind at body} few) keeps = within few

choose-within : {n : ℕ} (truth : Bool) {a b : Outcome} → Within n a → Within n b → Within n (choose truth a b)
choose-within true first second = first
choose-within false first second = second

limited-within : {n : ℕ} {o : Outcome} (place : Span) → Within n o → Within n (limited_by o.exit place o.state)
limited-within place (within {e = Gives value} few) = choose-within (within_limits value) (within few) (within few)
limited-within place (within {e = Stopped} few) = within few
limited-within place (within {e = Reported value} few) = within few
limited-within place (within {e = Left} few) = within few
limited-within place (within {e = Budget} few) = within few
limited-within place (within {e = Error kind at body} few) = within few

spend-within : {n : ℕ} (units : ℕ) (s : State) (next : State → Outcome) → units ≤ n → s.units ≤ n →
    ((s1 : State) → s1.units ≤ n → Within n (next s1)) → Within n (spend_by units s next)
spend-within zero s next few fewer keeps = within fewer
spend-within (suc units) s next few fewer keeps = keeps (record s { units = units }) (omega (arith, few))

found-within : {X : Type 0} {n : ℕ} (o : Option X) (kind : ErrorKind) (place : Span) (s : State) (next : X → Outcome) → s.units ≤ n →
    ((x : X) → Within n (next x)) → Within n (found o kind place s next)
found-within None kind place s next few keeps = within few
found-within (Some x) kind place s next few keeps = keeps x

come-within : {X : Type 0} {n : ℕ} (o : Result X ErrorKind) (place : Span) (s : State) (next : X → Outcome) → s.units ≤ n →
    ((x : X) → Within n (next x)) → Within n (come_to o place s next)
come-within (Ok x) place s next few keeps = keeps x
come-within (Err kind) place s next few keeps = within few

number-within : {n : ℕ} (value : Plain) (place : Span) (s : State) (next : ℤ → Outcome) → s.units ≤ n → ((count : ℤ) → Within n (next count)) →
    Within n (with_number value place s next)
number-within (PlainNumber count) place s next few keeps = keeps count
number-within (PlainTruth truth) place s next few keeps = within few
number-within (PlainWords bytes) place s next few keeps = within few
number-within (PlainItems items) place s next few keeps = within few
number-within (PlainTurtle turtle) place s next few keeps = within few
number-within (PlainPatch patch) place s next few keeps = within few
number-within (PlainLink link) place s next few keeps = within few
number-within PlainNobody place s next few keeps = within few
number-within (PlainSet set) place s next few keeps = within few

truth-within : {n : ℕ} (value : Plain) (place : Span) (s : State) (next : Bool → Outcome) → s.units ≤ n → ((truth : Bool) → Within n (next truth)) →
    Within n (with_truth value place s next)
truth-within (PlainTruth truth) place s next few keeps = keeps truth
truth-within (PlainNumber count) place s next few keeps = within few
truth-within (PlainWords bytes) place s next few keeps = within few
truth-within (PlainItems items) place s next few keeps = within few
truth-within (PlainTurtle turtle) place s next few keeps = within few
truth-within (PlainPatch patch) place s next few keeps = within few
truth-within (PlainLink link) place s next few keeps = within few
truth-within PlainNobody place s next few keeps = within few
truth-within (PlainSet set) place s next few keeps = within few

step-within : {n : ℕ} (turtle : ℕ) (place : Span) (s : State) (to : Result (Option Point) NumFault) (next : State → Outcome) → s.units ≤ n →
    ((s1 : State) → s1.units ≤ n → Within n (next s1)) → Within n (step_made turtle place s to next)
step-within turtle place s (Ok (Some to)) next few keeps = keeps _ few
step-within turtle place s (Ok None) next few keeps = within few
step-within turtle place s (Err fault) next few keeps = within few

unless-within : {n : ℕ} (why : Option MoveFault) (place : Span) (s : State) {o : Outcome} → s.units ≤ n → Within n o → Within n (unless why place s o)
unless-within None place s few keeps = keeps
unless-within (Some why) place s few keeps = within few

chosen-within : {n : ℕ} (agents : Chosen) (s : State) (next : Group → State → Outcome) → s.units ≤ n →
    ((group : Group) (s1 : State) → s1.units ≤ n → Within n (next group s1)) → Within n (with_turns agents s next)
chosen-within (Several set) s next few keeps = keeps _ _ few
chosen-within (One which number) s next few keeps = keeps _ s few

replied-within : {n : ℕ} (reply : Reply) (place : Span) (m : ℕ) (value : Plain) (made : List Answer) (s : State)
    (next : List Answer → State → Outcome) → s.units ≤ n →
    ((more : List Answer) (s1 : State) → s1.units ≤ n → Within n (next more s1)) → Within n (replied reply place m value made s next)
replied-within Keep place m value made s next few keeps = keeps _ s few
replied-within Pass place m value made s next few keeps = keeps made s few
replied-within (Decide answer) place m value made s next few keeps = within few
replied-within Refuse place m value made s next few keeps = within few

one-within : {n : ℕ} (made : List Answer) (place : Span) (s : State) → s.units ≤ n → Within n (value_of_one made place s)
one-within [] place s few = within few
one-within (a ∷ others) place s few = within few

answers-within : {n : ℕ} (agents : Chosen) (made : List Answer) (place : Span) (s : State) → s.units ≤ n → Within n (of_answers agents made place s)
answers-within (Several set) made place s few = within few
answers-within (One which number) made place s few = one-within made place s few

made-within : {X : Type 0} {n : ℕ} (outcome : births.BirthOutcome X) (after : X → Stage → Stage) (place : Span) (s : State)
    (next : Serials → State → Outcome) → s.units ≤ n → ((made : Serials) (s1 : State) → s1.units ≤ n → Within n (next made s1)) →
    Within n (made_by outcome after place s next)
made-within (births.Made made now) after place s next few keeps = keeps made _ few
made-within (births.Filled now) after place s next few keeps = within few
made-within (births.Refused now) after place s next few keeps = within few

kept-within : {n : ℕ} (made : Option (List Plain)) (place : Span) (s : State) → s.units ≤ n → Within n (gives_kept made place s)
kept-within (Some made) place s few = within few
kept-within None place s few = within few

lists-within : {n : ℕ} (made : List Plain) (place : Span) (s : State) (next : List (List Plain) → Outcome) → s.units ≤ n →
    ((lists : List (List Plain)) → Within n (next lists)) → Within n (with_lists made place s next)
lists-within made place s next few keeps =
    found-within (lists_in made) WrongType place s _ few (λ lists. choose-within (are_as_long lists) (keeps lists) (within few))

ruleset keeps = (bind-within, leave-within, after-within, kept-within, lists-within, returned-within, turn-within, value-within, choose-within, spend-within, found-within, come-within, number-within, truth-within, step-within, unless-within, chosen-within, replied-within, answers-within, made-within, within)

-- ---- variables

turtle_set-within : {n : ℕ} (which : Apart) (turtle : ℕ) (place : Span) (value : Plain) (s : State) → s.units ≤ n →
    Within n (set_of_turtle which turtle place value s)
turtle_set-within apart.Xcor turtle place value s few = search keeps
turtle_set-within which turtle place value s few = search keeps

link_set-within : {n : ℕ} (which : Apart) (place : Span) (value : Plain) (s : State) → s.units ≤ n → Within n (set_of_link which place value s)
link_set-within apart.Breed place value s few = within few
link_set-within which place value s few = within few

agent_set-within : {n : ℕ} (which : Apart) (agent : Owner) (place : Span) (value : Plain) (s : State) → s.units ≤ n →
    Within n (set_of_agent which agent place value s)
agent_set-within which (owner.Turtle turtle) place value s few = turtle_set-within which turtle place value s few
agent_set-within which (owner.Link link) place value s few = link_set-within which place value s few
agent_set-within which owner.Observer place value s few = within few
agent_set-within which (owner.Patch patch) place value s few = within few

assign-within : {n : ℕ} (which : Case) (variable place : Span) (value : Plain) (s : State) → s.units ≤ n →
    Within n (assign which variable place value s)
assign-within (case.Aside runs which) variable place value s few = search (keeps, agent_set-within)
assign-within which variable place value s few = search keeps

-- ---- steps

last_step-within : {n : ℕ} (turtle rest : ℕ) (way : ℤ) (place : Span) (s : State) → s.units ≤ n → Within n (last_step turtle rest way place s)
last_step-within turtle zero way place s few = within few
last_step-within turtle (suc rest) way place s few = search keeps

steps-within : {n : ℕ} (count turtle rest : ℕ) (way : ℤ) (place : Span) (s : State) → s.units ≤ n → Within n (steps count turtle rest way place s)
steps-within {n} zero turtle rest way place s few = last_step-within turtle rest way place s few
steps-within {n} (suc count) turtle rest way place s few = search (keeps, steps-within {n = n} count turtle rest way place)

-- ---- births and links

made_of-within : {n : ℕ} (word : Making) (breed : Option BreedNumber) (value : Plain) (place : Span) (s : State) (next : Serials → State → Outcome) →
    s.units ≤ n → ((made : Serials) (s1 : State) → s1.units ≤ n → Within n (next made s1)) → Within n (made_of word breed value place s next)
made_of-within (making.Link way one) breed value place s next few after = search keeps
made_of-within word breed value place s next few after = search keeps

-- ---- what walks a list, or counts

module _ (n : ℕ) (prev : Eval) (thrifty : (t : Node) (s : State) → s.units ≤ n → Within n (prev t s)) where
  values-within : (next : List Plain → State → Outcome) → ((made : List Plain) (s : State) → s.units ≤ n → Within n (next made s)) →
      (ts : List Node) (made : List Plain) (s : State) → s.units ≤ n → Within n (values prev ts made s next)
  values-within next after [] made s few = after made s few
  values-within next after (t ∷ ts) made s few = search (keeps, values-within next after ts)

  statements-within : (kept : ℕ) (ts : List Node) (s : State) → s.units ≤ n → Within n (statements prev kept ts s)
  statements-within kept [] s few = within few
  statements-within kept (t ∷ ts) s few = search (keeps, statements-within kept ts) depth 14

  choice-within : (place : Span) (none : State → Outcome) → ((s : State) → s.units ≤ n → Within n (none s)) → (ts : List Node) (s : State) → s.units ≤ n →
      Within n (chosen prev place none ts s)
  choice-within place none after [] s few = after s few
  choice-within place none after (last ∷ []) s few = thrifty last s few
  choice-within place none after (test ∷ block ∷ others) s few = search (keeps, choice-within place none after others) depth 14

  all-within : {X A : Type 0} (t : Node) (index : ℕ) (given : A → X → List Plain) (make : A → X → Plain → Option A) (next : A → State → Outcome) →
      ((made : A) (s : State) → s.units ≤ n → Within n (next made s)) → (xs : List X) (made : A) (s : State) → s.units ≤ n →
      Within n (all_turns prev t index given make xs made s next)
  all-within t index given make next after [] made s few = after made s few
  all-within t index given make next after (x ∷ xs) made s few = search (keeps, all-within t index given make next after xs) depth 14

  turns-within : (count : ℕ) (t : Node) (s : State) → s.units ≤ n → Within n (turns count prev t s)
  turns-within zero t s few = within few
  turns-within (suc count) t s few = search (keeps, turns-within count t) depth 14

  fuelled-within : (step : Step) →
      ((again : State → Outcome) → ((s : State) → s.units ≤ n → Within n (again s)) → (s : State) → s.units ≤ n → Within n (step again s)) →
      (fuel : ℕ) (s : State) → s.units ≤ n → Within n (fuelled fuel step s)
  fuelled-within step steady zero s few = within few
  fuelled-within step steady (suc fuel) s few = steady (fuelled fuel step) (fuelled-within step steady fuel) s few

  while-within : (t : Node) (s : State) → s.units ≤ n → Within n (while_case prev t s)
  unfolding unending
  while-within t s few = fuelled-within (while_step prev t) (λ again after s1 fewer. search keeps depth 14) (suc s.units) s few

  loop-within : (t : Node) (s : State) → s.units ≤ n → Within n (loop_case prev t s)
  unfolding unending
  loop-within t s few = fuelled-within (loop_step prev t) (λ again after s1 fewer. search keeps depth 14) (suc s.units) s few

  walk-within : (t : Node) (index : ℕ) (site : Site) (which : AgentKind) (ms : List ℕ) (s : State) → s.units ≤ n →
      Within n (walk prev t index site which ms s)
  walk-within t index site which [] s few = within few
  walk-within t index site which (m ∷ ms) s few = search (keeps, walk-within t index site which ms) depth 14

  collect-within : (word : Over) (t : Node) (index : ℕ) (site : Site) (which : AgentKind) (next : List Answer → State → Outcome) →
      ((made : List Answer) (s : State) → s.units ≤ n → Within n (next made s)) → (ms : List ℕ) (made : List Answer) (s : State) → s.units ≤ n →
      Within n (collect word prev t index site which ms made s next)
  collect-within word t index site which next after [] made s few = after made s few
  collect-within word t index site which next after (m ∷ ms) made s few = search (keeps, collect-within word t index site which next after ms) depth 14

  new-within : (t : Node) (index : ℕ) (which : AgentKind) (made : Serials) (block : Option Node) (s : State) → s.units ≤ n →
      Within n (run_by_new prev t index which made block s)
  new-within t index which made None s few = within few
  new-within t index which made (Some block) s few = search (walk-within)

  ruleset walks = (keeps, all-within, assign-within, steps-within, values-within, statements-within, turns-within, walk-within, collect-within, made_of-within, new-within)

  -- ---- the cases

  over-within : (word : Over) (t : Node) (s : State) → s.units ≤ n → Within n (over_case word prev t s)
  over-within over.Ask t s few = search walks depth 14
  over-within word t s few = search walks depth 14

  reduced-within : (t : Node) (items : List Plain) (s : State) → s.units ≤ n → Within n (reduced prev t items s)
  reduced-within t [] s few = within few
  reduced-within t (first ∷ items) s few = search walks depth 14

  arrow-within : (word : Arrow) (t : Node) (s : State) → s.units ≤ n → Within n (arrow_case word prev t s)
  arrow-within arrow.Reduce t s few = search (walks, reduced-within) depth 14
  arrow-within word t s few = search walks depth 14

  making-within : (word : Making) (breed : Option BreedNumber) (runs : Kinds) (t : Node) (s : State) → s.units ≤ n →
      Within n (making_case word breed runs prev t s)
  making-within word breed runs t s few = search walks depth 14

  spread-within : (word : Spread) (p : Checked) (runs : Kinds) (t : Node) (s : State) → s.units ≤ n → Within n (spread_case word p runs prev t s)
  spread-within (spread.Diffuse four) p runs t s few = search keeps depth 14
  spread-within (spread.Climb up four) p runs t s few = search keeps depth 14

  control-within : (word : Control) (p : Checked) (runs : Kinds) (t : Node) (s : State) → s.units ≤ n → Within n (control_case word p runs prev t s)
  control-within control.IfElse p runs t s few = choice-within (span t) goes_on (λ s1 fewer. within fewer) (parts t) s few
  control-within control.IfElseValue p runs t s few = choice-within (span t) (fails NoReport (span t)) (λ s1 fewer. within fewer) (parts t) s few
  control-within control.While p runs t s few = while-within t s few
  control-within control.Loop p runs t s few = loop-within t s few
  control-within word p runs t s few = search walks depth 14

  built-within : (word : Built) (breed : Option BreedNumber) (p : Checked) (runs : Kinds) (t : Node) (s : State) → s.units ≤ n →
      Within n (built_case word breed p runs prev t s)
  built-within (built.Control word) breed p runs t s few = control-within word p runs t s few
  built-within (built.Over word) breed p runs t s few = over-within word t s few
  built-within (built.Arrow word) breed p runs t s few = arrow-within word t s few
  built-within (built.Making word) breed p runs t s few = making-within word breed runs t s few
  built-within (built.Spread word) breed p runs t s few = spread-within word p runs t s few
  built-within (built.Act act) breed p runs t s few = search walks depth 14

  case-within : (which : Case) (p : Checked) (t : Node) (s : State) → s.units ≤ n → Within n (by_case which p prev t s)
  case-within (case.Word runs breed word) p t s few = search (keeps, built-within) depth 14
  case-within which p t s few = search walks depth 14

-- ---- the law

evaluator-within : (p : Checked) (room n : ℕ) (t : Node) (s : State) → s.units ≤ n → Within n (evaluator p room t s)
unfolding evaluator cases
evaluator-within p zero n t s few = within few
evaluator-within p (suc room) n t s few =
    limited-within (span t) (case-within n (evaluator p room) (evaluator-within p room n) (case_of p.declared (label t)) p t s few)

units-within : {n : ℕ} {o : Outcome} → Within n o → o.state.units ≤ n
units-within (within few) = few

pub thrifty : (p : Checked) (room : ℕ) → Thrifty (evaluator p room)
thrifty p room t s = units-within (evaluator-within p room s.units t s (omega arith))
