-- What a text means: the case of each node, tied together by recursion on the room for nesting.
--
-- The order of tests is this project's own choice. At a node it is: its nesting; that a dead agent leaves; that the agent's kind may run the word; the
-- inputs from left to right; that a dead agent leaves; the kinds of the inputs; the word's own errors; and last the limits on values.
use Rattle.std.specs.Prelude.{ℕ, zero, suc, neg_ℤ, Bool, true, false, ◌||◌, List, [], ◌∷◌, Option, Some, None}
use Rattle.nl_fixed.specs.Nouns.{Name}
use Rattle.nl_fixed.specs.declared.span.Span.{Span}
use Rattle.nl_words.specs.declared.entry.Kinds.{Kinds}
use Rattle.nl_value.specs.Plain.{Plain, PlainTruth}
use Rattle.nl_value.specs.Limits.{within_limits}
use Rattle.nl_tree.specs.Tree.{Node, label, span, parts}
use Rattle.nl_tree.specs.Checked.{Checked}
use Rattle.nl_tree.specs.declared.declared.Form.{Form}
use Rattle.nl_tree.specs.declared.declared.Form.TheVariants as form
use Rattle.nl_agents_layout.specs.Nouns.{BreedNumber, Slot}
use Rattle.nl_agents.specs.Changes.{killed, cut, globals_cleared, turtles_cleared, links_cleared, patches_cleared}
use Rattle.nl_agents.specs.declared.agents.Owner.{Owner}
use Rattle.nl_agents.specs.declared.agents.Owner.TheVariants as owner
use Rattle.nl_motion.specs.Climbing.{climbed, state_climbed}
use Rattle.nl_motion.specs.Diffusion.{diffused, diffuse_fault}
use Rattle.nl_motion.specs.declared.faults.MoveFault.{MoveFault}
use Rattle.nl_exec_acts.specs.declared.words.Act.{Act}
use Rattle.nl_exec_acts.specs.declared.fail.ErrorKind.TheVariants.{WrongType, TooLarge, TooNested}
use Rattle.nl_exec_acts.specs.Stage.{Stage, bare, changed}
use Rattle.nl_exec_acts.specs.Fails.{error_of_motion}
use Rattle.nl_exec_acts.specs.Acts.{turtle_in}
use Rattle.nl_exec_meaning.specs.declared.words.Control.{Control}
use Rattle.nl_exec_meaning.specs.declared.words.Control.TheVariants as control
use Rattle.nl_exec_meaning.specs.declared.words.Spread.{Spread}
use Rattle.nl_exec_meaning.specs.declared.words.Spread.TheVariants as spread
use Rattle.nl_exec_meaning.specs.declared.words.Built.{Built}
use Rattle.nl_exec_meaning.specs.declared.words.Built.TheVariants as built
use Rattle.nl_exec_meaning.specs.Cases.{Case, case_of}
use Rattle.nl_exec_meaning.specs.Cases as case
use Rattle.nl_exec_meaning.specs.declared.sites.Site.{Site}
use Rattle.nl_exec_meaning.specs.State.{State, Exit, Outcome, Eval, Gives, Stopped, Reported, Left, Budget, Error, ends, gives, goes_on, fails, found, come_to, choose, with_part, with_number, with_stage, with_world, world_of, rest_of, ◌>>=◌}
use Rattle.nl_exec_meaning.specs.Running.{allowed, staying}
use Rattle.nl_exec_meaning.specs.Acting.{performed}
use Rattle.nl_exec_meaning.specs.Variables.{read_local, read_global, read_owned, read_apart, make_local, assign}
use Rattle.nl_exec_meaning.specs.Blocks.{values, inside_case, items_case, negation_case, statement, cut_to, statements_case, and_case, or_case, if_case, ifelse_case, ifelse_value_case, repeat_case, while_case, loop_case}
use Rattle.nl_exec_meaning.specs.Arrows.{arrow_case}
use Rattle.nl_exec_meaning.specs.Calls.{call_case}
use Rattle.nl_exec_meaning.specs.Steps.{walk_case}
use Rattle.nl_exec_meaning.specs.Walks.{over_case, at_stream}
use Rattle.nl_exec_meaning.specs.Makings.{making_case}
use Rattle.nl_exec_meaning.specs.declared.nesting.TheConstants.{NESTING_LIMIT}

-- ---- acts

-- the inputs in order, and then the act
abbrev pub act_case : Act → Option BreedNumber → Kinds → Eval → Node → State → Outcome
act_case act breed runs prev t s =
    values prev (parts t) [] s (λ inputs s1.
    staying runs s1 (
    come_to (performed act breed s1.site.agent s1.site.asker inputs s1.stage) (span t) s1 (λ answer. gives answer.0 (with_stage answer.1 s1))))

-- ---- variables of patches

-- the slot of the variable that the first part names
abbrev pub slot_in : Case → Option Slot
slot_in (case.Owned runs slot) = Some slot
slot_in other = None

abbrev pub with_slot : Checked → Node → State → (Slot → Outcome) → Outcome
with_slot p t s next = with_part t 0 (span t) s (λ part. found (slot_in (case_of p.declared (label part))) WrongType (span t) s next)

abbrev pub unless : Option MoveFault → Span → State → Outcome → Outcome
unless None place s next = next
unless (Some why) place s next = fails (error_of_motion why) place s

abbrev pub diffuse_case : Bool → Checked → Kinds → Eval → Node → State → Outcome
diffuse_case four p runs prev t s =
    with_slot p t s (λ slot. with_part t 1 (span t) s (λ part. prev part s >>= λ value s1.
    staying runs s1 (with_number value (span t) s1 (λ share.
    unless (diffuse_fault slot share four (bare (rest_of s1))) (span t) s1 (goes_on (with_stage (changed (diffused slot share four) s1.stage) s1))))))

abbrev pub climb_case : Bool → Bool → Checked → Node → State → Outcome
climb_case up four p t s =
    with_slot p t s (λ slot. come_to (turtle_in s.site.agent) (span t) s (λ turtle.
    goes_on (at_stream (state_climbed turtle slot up four (bare (rest_of s)) s.stage.stream)
    (with_stage (changed (λ w. climbed turtle slot up four w s.stage.stream) s.stage) s))))

abbrev pub spread_case : Spread → Checked → Kinds → Eval → Node → State → Outcome
spread_case (spread.Diffuse four) p runs prev t s = diffuse_case four p runs prev t s
spread_case (spread.Climb up four) p runs prev t s = climb_case up four p t s

-- ---- control

-- a local of the name that the first part is
abbrev pub name_in : Case → Option Name
name_in (case.Local name) = Some name
name_in other = None

abbrev pub let_case : Checked → Eval → Node → State → Outcome
let_case p prev t s =
    with_part t 0 (span t) s (λ part. found (name_in (case_of p.declared (label part))) WrongType (span t) s (λ name.
    with_part t 1 (span t) s (λ second. prev second s >>= λ value s1. goes_on (make_local name value s1))))

-- the value comes before all that is told of the variable
abbrev pub set_case : Checked → Eval → Node → State → Outcome
set_case p prev t s =
    with_part t 0 (span t) s (λ variable. with_part t 1 (span t) s (λ part. prev part s >>= λ value s1.
    assign (case_of p.declared (label variable)) (span variable) (span t) value s1))

abbrev pub report_case : Eval → Node → State → Outcome
report_case prev t s = with_part t 0 (span t) s (λ part. prev part s >>= λ value s1. ends (Reported value) s1)

-- a turtle dies with its links
abbrev pub death_of : Owner → Stage → Stage
death_of (owner.Turtle turtle) = changed (killed turtle)
death_of (owner.Link link) = changed (cut link)
death_of owner.Observer = λ st. st
death_of (owner.Patch patch) = λ st. st

abbrev pub die_case : State → Outcome
die_case s = ends Left (with_stage (death_of s.site.agent s.stage) s)

abbrev pub clear_globals : State → State
clear_globals s = with_world (globals_cleared (world_of s)) s

-- turtles and links, patches and global variables are cleared, and the clock is off
abbrev pub clear_all : State → State
clear_all s =
    let cleared = with_stage (record (changed (λ w. patches_cleared (links_cleared (turtles_cleared w))) s.stage) { ticks = None }) s in
    clear_globals cleared

abbrev pub control_case : Control → Checked → Kinds → Eval → Node → State → Outcome
control_case control.And p runs prev t s = and_case prev t s
control_case control.Or p runs prev t s = or_case prev t s
control_case control.Let p runs prev t s = let_case p prev t s
control_case control.Set p runs prev t s = set_case p prev t s
control_case control.Stop p runs prev t s = ends Stopped s
control_case control.Report p runs prev t s = report_case prev t s
control_case control.Die p runs prev t s = die_case s
control_case control.If p runs prev t s = if_case prev t s
control_case control.IfElse p runs prev t s = ifelse_case prev t s
control_case control.IfElseValue p runs prev t s = ifelse_value_case prev t s
control_case control.Repeat p runs prev t s = repeat_case prev t s
control_case control.While p runs prev t s = while_case prev t s
control_case control.Loop p runs prev t s = loop_case prev t s
control_case control.Forward p runs prev t s = walk_case (λ by. by) runs prev t s
control_case control.Back p runs prev t s = walk_case neg_ℤ runs prev t s
control_case control.ClearGlobals p runs prev t s = goes_on (clear_globals s)
control_case control.ClearAll p runs prev t s = goes_on (clear_all s)

-- ---- words

abbrev pub built_case : Built → Option BreedNumber → Checked → Kinds → Eval → Node → State → Outcome
built_case (built.Control word) breed p runs prev t s = control_case word p runs prev t s
built_case (built.Over word) breed p runs prev t s = over_case word prev t s
built_case (built.Arrow word) breed p runs prev t s = arrow_case word prev t s
built_case (built.Making word) breed p runs prev t s = making_case word breed runs prev t s
built_case (built.Spread word) breed p runs prev t s = spread_case word p runs prev t s
built_case (built.Act act) breed p runs prev t s = act_case act breed runs prev t s

abbrev pub by_case : Case → Checked → Eval → Node → State → Outcome
by_case (case.Constant value) p prev t s = gives value s
by_case case.Items p prev t s = items_case prev t s
by_case case.Negation p prev t s = negation_case prev t s
by_case case.Inside p prev t s = inside_case prev t s
by_case case.Statements p prev t s = statements_case prev t s
by_case (case.Local name) p prev t s = read_local name (span t) s
by_case (case.Global slot) p prev t s = read_global slot (span t) s
by_case (case.Owned runs slot) p prev t s = read_owned runs slot (span t) s
by_case (case.Aside runs which) p prev t s = read_apart runs which (span t) s
by_case (case.Procedure index) p prev t s = call_case p index prev t s
by_case (case.Word runs breed word) p prev t s = allowed runs (span t) s (built_case word breed p runs prev t s)
by_case case.Nothing p prev t s = fails WrongType (span t) s

unfoldable pub cases : Checked → Eval → Eval
cases p prev t s = by_case (case_of p.declared (label t)) p prev t s

-- ---- the limits

-- a value that passes the limits on values is an error at its node
abbrev pub limited_by : Exit → Span → State → Outcome
limited_by (Gives value) place s = choose (within_limits value) (gives value s) (fails TooLarge place s)
limited_by Stopped place s = ends Stopped s
limited_by (Reported value) place s = ends (Reported value) s
limited_by Left place s = ends Left s
limited_by Budget place s = ends Budget s
limited_by (Error kind at body) place s = ends (Error kind at body) s

abbrev pub limited : Span → Outcome → Outcome
limited place o = limited_by o.exit place o.state

-- what a node means with so much room for nesting
unfoldable pub evaluator : Checked → ℕ → Eval
evaluator p zero t s = fails TooNested (span t) s
evaluator p (suc room) t s = limited (span t) (cases p (evaluator p room) t s)

-- how deep nodes may be evaluated in each other: a lone text's own node has the nesting 1
abbrev pub nesting_limit : ℕ
nesting_limit = NESTING_LIMIT

-- ---- lone texts

-- A text of commands ends as stopped where `stop` left it, or where a procedure that it calls outside of every block ended by `stop`; the rest
-- of the text runs first then.
abbrev pub is_stopped : Plain → Bool
is_stopped (PlainTruth truth) = truth
is_stopped value = false

abbrev pub text_end : Bool → State → Outcome
text_end true s = ends Stopped s
text_end false s = goes_on s

abbrev pub text_statements : Eval → List Node → Bool → State → Outcome
text_statements prev [] stopped s = text_end stopped (cut_to 0 s)
text_statements prev (t ∷ ts) stopped s =
    statement prev 0 t s (λ value s1. text_statements prev ts (stopped || is_stopped value) s1)

-- with so much room for nesting
abbrev pub text_by : Checked → ℕ → Form → Eval
text_by p room form.Reporter t s = evaluator p room t s
text_by p zero form.Commands t s = fails TooNested (span t) s
text_by p (suc room) form.Commands t s = text_statements (evaluator p room) (parts t) false s

-- what a lone text means, which the observer runs
abbrev pub lone_site : Site
lone_site = record { agent = owner.Observer; asker = owner.Observer; body = 0 }

abbrev pub text : Checked → Form → Eval
text p form t s = text_by p nesting_limit form t s
