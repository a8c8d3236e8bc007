-- The course of a run: the setup text, then steps of the go text until an end, with the metrics measured on the way, where a condition is true, or at
-- the end.
--
-- The order is BehaviorSpace's. That a step costs a unit, that the stream is put back after each metric and condition, and what ends a run by an
-- error, is this project's own choice.
use Rattle.std.specs.Prelude.{ℕ, zero, suc, ◌+◌, Bool, true, false, not, ◌&&◌, ◌==◌, nat_lt, if◌then◌else◌, List, [], ◌∷◌, ◌++◌, length, codes, Option, Some, None, Result, Ok, Err}
use Rattle.std.specs.Fmt.{decimal}
use Rattle.nl_fixed.specs.Nouns.{Bytes, Texts}
use Rattle.nl_scan.specs.Place.{line_and_column}
use Rattle.nl_scan.specs.Tokens.{start_of, tokens_of}
use Rattle.nl_scan.specs.Faults.{ScanFault}
use Rattle.nl_scan.specs.declared.token.Token.{Token}
use Rattle.nl_value.specs.Limits.{most_bytes}
use Rattle.nl_value.specs.Plain.{Plain, PlainTruth}
use Rattle.nl_value.specs.Text.{text_of}
use Rattle.nl_tree.specs.declared.declared.Form.{Form}
use Rattle.nl_tree.specs.declared.declared.Form.TheVariants as form
use Rattle.nl_agents.specs.Names.{living_of}
use Rattle.nl_exec_acts.specs.Stage.{Scene}
use Rattle.nl_exec_acts.specs.declared.fail.ErrorKind.{ErrorKind}
use Rattle.nl_exec_acts.specs.declared.fail.ErrorKind.TheVariants.{WrongType, TooLarge}
use Rattle.nl_exec_meaning.specs.State.{Outcome}
use Rattle.nl_exec_meaning.specs.Meaning.{text}
pub use Rattle.nl_exec_meaning.specs.LoneTexts.{Ending, ending_of, first_state}
pub use Rattle.nl_exec_meaning.specs.LoneTexts as ending
use Rattle.nl_exec_meaning.specs.LoneTexts.{scene_in, in_stream}
use Rattle.nl_run.specs.Job.{Job, Lone, scene_at_first}
use Rattle.nl_run.specs.Rows.{measure, closed_by, error_text}
use Rattle.nl_run.specs.declared.rows.Row.{Row}
use Rattle.nl_run.specs.declared.rows.RunEnd.{RunEnd}
use Rattle.nl_run.specs.declared.rows.RunEnd.TheVariants as end_

-- what a run has between two texts: the world with the clock and the stream, the units that are left, the count of steps, and its rows so far
pub record Standing : Type 0 where
  pub scene : Scene
  pub left : ℕ
  pub step : ℕ
  pub rows : List Row

-- how a run ends, and what it has then; its rows don't have the end yet
pub record Finish : Type 0 where
  pub how : RunEnd
  pub step : ℕ
  pub rows : List Row
  pub left : ℕ

abbrev pub ends_as : RunEnd → Standing → Finish
ends_as how s = record { how = how; step = s.step; rows = s.rows; left = s.left }

-- ---- places of errors

-- the place of the first word of a text
abbrev pub place_by : Bytes → Result (List Token) ScanFault → ℕ
place_by bytes (Ok tokens) = start_of bytes tokens 0
place_by bytes (Err fault) = 0

-- an error stands in a text, or in the body of a procedure, which is in the code of the model
abbrev pub fault_by : Job → Bytes → Bytes → ErrorKind → ℕ → ℕ → Bytes
fault_by j called bytes why place zero = error_text why called (line_and_column bytes place)
fault_by j called bytes why place (suc body) = error_text why (codes "model") (line_and_column j.source place)

-- an error that stands at the first word of a text
abbrev pub first_fault : Job → Bytes → Bytes → ErrorKind → Bytes
first_fault j called bytes why = fault_by j called bytes why (place_by bytes (tokens_of bytes)) 0

abbrev pub fails_at : Job → Bytes → Lone → ErrorKind → ℕ → ℕ → Standing → Finish
fails_at j called l why place body s = ends_as (end_.Error (fault_by j called l.bytes why place body)) s

abbrev pub fails_at_first : Job → Bytes → Lone → ErrorKind → Standing → Finish
fails_at_first j called l why s = ends_as (end_.Error (first_fault j called l.bytes why)) s

-- ---- texts

-- what a run has once a text has ended
abbrev pub behind : Outcome → Standing → Standing
behind o s = record s { scene = scene_in o.state; left = o.state.units }

abbrev pub outcome_of : Job → Form → Lone → Standing → Outcome
outcome_of j f l s = text j.program f l.tree (first_state s.scene s.left)

-- the end of commands: whether they were stopped
abbrev pub commands_by : Job → Bytes → Lone → Ending → Standing → (Bool → Standing → Finish) → Finish
commands_by j called l ending.Done s next = next false s
commands_by j called l ending.Stopped s next = next true s
commands_by j called l (ending.Reported value) s next = next false s
commands_by j called l ending.Budget s next = ends_as end_.Budget s
commands_by j called l (ending.Error why at body) s next = fails_at j called l why at.start body s

abbrev pub commands : Job → Bytes → Lone → Standing → (Bool → Standing → Finish) → Finish
commands j called l s next =
    let o = outcome_of j form.Commands l s in
    commands_by j called l (ending_of form.Commands o.exit) (behind o s) next

-- the end of a reporter: its value
abbrev pub value_by : Job → Bytes → Lone → Ending → Standing → (Plain → Standing → Finish) → Finish
value_by j called l (ending.Reported value) s next = next value s
value_by j called l ending.Done s next = fails_at_first j called l WrongType s
value_by j called l ending.Stopped s next = fails_at_first j called l WrongType s
value_by j called l ending.Budget s next = ends_as end_.Budget s
value_by j called l (ending.Error why at body) s next = fails_at j called l why at.start body s

-- the random stream stands where it stood before; all else stays
abbrev pub put_back : ℕ → Standing → Standing
put_back stream s = record s { scene = in_stream stream s.scene }

abbrev pub value : Job → Bytes → Lone → Standing → (Plain → Standing → Finish) → Finish
value j called l s next =
    let o = outcome_of j form.Reporter l s in
    value_by j called l (ending_of form.Reporter o.exit) (behind o s) (λ v s1. next v (put_back s.scene.stream s1))

-- ---- what texts are called

abbrev pub setup_name : Bytes
setup_name = codes "setup"

abbrev pub go_name : Bytes
go_name = codes "go"

abbrev pub until_name : Bytes
until_name = codes "until"

abbrev pub when_name : Bytes
when_name = codes "measure-when"

abbrev pub metric_name : ℕ → Bytes
metric_name number = codes "metric " ++ decimal number

-- ---- metrics

-- the text of a value as the world stands
abbrev pub cell_of : Plain → Standing → Bytes
cell_of v s = text_of (living_of s.scene.world.rest) false v

-- a metric's value has a text that isn't too large
abbrev pub with_cell : Job → Bytes → Lone → Plain → Standing → (Bytes → Standing → Finish) → Finish
with_cell j called l v s next =
    if nat_lt most_bytes (length (cell_of v s)) then fails_at_first j called l TooLarge s else next (cell_of v s) s

-- these metrics, from a number on that counts from 1, behind the cells that are there
abbrev pub cells : Job → ℕ → List Lone → Texts → Standing → (Texts → Standing → Finish) → Finish
cells j number [] made s next = next made s
cells j number (l ∷ ls) made s next =
    value j (metric_name number) l s (λ v s1. with_cell j (metric_name number) l v s1 (λ cell s2. cells j (number + 1) ls (made ++ cell ∷ []) s2 next))

abbrev pub with_row : Job → Texts → Standing → Standing
with_row j made s = record s { rows = s.rows ++ measure j s.step made ∷ [] }

-- a measure gives a row once all of its metrics have a text
abbrev pub measured : Job → Standing → (Standing → Finish) → Finish
measured j s next = cells j 1 j.metrics [] s (λ made s1. next (with_row j made s1))

abbrev pub measured_if : Bool → Job → Standing → (Standing → Finish) → Finish
measured_if true j s next = measured j s next
measured_if false j s next = next s

-- a run without a condition for its measures measures at its end
abbrev pub ends_by : Option Lone → RunEnd → Job → Standing → Finish
ends_by None how j s = measured j s (ends_as how)
ends_by (Some l) how j s = ends_as how s

abbrev pub regular_end : RunEnd → Job → Standing → Finish
regular_end how j s = ends_by j.when how j s

-- ---- conditions

-- the value of a condition must be a truth
abbrev pub truth_by : Job → Bytes → Lone → Plain → Standing → (Bool → Standing → Finish) → Finish
truth_by j called l (PlainTruth truth) s next = next truth s
truth_by j called l other s next = fails_at_first j called l WrongType s

abbrev pub judged : Job → Bytes → Lone → Standing → (Bool → Standing → Finish) → Finish
judged j called l s next = value j called l s (λ v s1. truth_by j called l v s1 next)

abbrev pub after_when : Job → (Standing → Finish) → Bool → Standing → Finish
after_when j next truth s = measured_if truth j s next

-- on the way the metrics are measured where there is a condition for that, and it is true
abbrev pub when : Job → Option Lone → Standing → (Standing → Finish) → Finish
when j None s next = next s
when j (Some l) s next = judged j when_name l s (after_when j next)

-- ---- a step

abbrev pub is_reached : Job → Standing → Bool
is_reached j s = not (j.steps == 0) && not (nat_lt s.step j.steps)

-- whether the condition of the end is met
abbrev pub condition : Job → Option Lone → Standing → (Bool → Standing → Finish) → Finish
condition j None s next = next false s
condition j (Some l) s next = judged j until_name l s next

-- a unit is spent, if there is one
abbrev pub unit_by : ℕ → Standing → (Standing → Finish) → Finish
unit_by zero s next = ends_as end_.Budget s
unit_by (suc left) s next = next (record s { left = left })

abbrev pub with_unit : Standing → (Standing → Finish) → Finish
with_unit s next = unit_by s.left s next

abbrev pub counted : Standing → Standing
counted s = record s { step = s.step + 1 }

-- a step counts where the go text wasn't stopped
abbrev pub after_go : Job → (Standing → Finish) → Bool → Standing → Finish
after_go j next true s = regular_end end_.Stop j s
after_go j next false s = when j j.when (counted s) next

abbrev pub go_step : Job → (Standing → Finish) → Standing → Finish
go_step j next s = with_unit s (λ s1. commands j go_name j.go s1 (after_go j next))

abbrev pub after_until : Job → (Standing → Finish) → Bool → Standing → Finish
after_until j next true s = regular_end end_.Condition j s
after_until j next false s = go_step j next s

-- one step, and then what comes next: the steps that are wanted and the condition come before it
abbrev pub step_or_end : Job → (Standing → Finish) → Standing → Finish
step_or_end j next s = if is_reached j s then regular_end end_.Steps j s else condition j j.until s (after_until j next)

-- Steps, one after another. Each spends a unit, so there are at most as many as there are units; `most` is above their number.
unfoldable pub steps_from : ℕ → Job → Standing → Finish
steps_from zero j s = ends_as end_.Budget s
steps_from (suc most) j s = step_or_end j (steps_from most j) s

abbrev pub steps : Job → Standing → Finish
steps j s = steps_from (suc s.left) j s

-- ---- the whole

abbrev pub at_first : Job → ℕ → Standing
at_first j units = record { scene = scene_at_first j; left = units; step = 0; rows = [] }

-- a `stop` of the setup text ends that text alone
abbrev pub after_setup : Job → (Standing → Finish) → Bool → Standing → Finish
after_setup j next stopped s = when j j.when s next

-- the course with so many units to spend
unfoldable pub course_within : Job → ℕ → Finish
course_within j units = commands j setup_name j.setup (at_first j units) (after_setup j (steps j))

abbrev pub course : Job → Finish
course j = course_within j j.budget

-- its rows, with the end
abbrev pub rows_by : Job → Finish → List Row
rows_by j f = closed_by j f.step f.how f.rows

-- the rows of the run
unfoldable pub rows_of : Job → List Row
rows_of j = rows_by j (course j)
