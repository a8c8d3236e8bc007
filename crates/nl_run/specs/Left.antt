-- What is left of a run, by where it stands.
use Rattle.std.specs.Prelude.{◌≡◌, ℕ, ◌+◌, ◌-◌, ◌*◌, ◌≤◌, ◌<◌, ⊤, List, [], ◌∷◌, ◌++◌, length, drop}
use Rattle.nl_fixed.specs.Nouns.{Texts}
use Rattle.nl_tree.specs.declared.declared.Form.{Form}
use Rattle.nl_tree.specs.declared.declared.Form.TheVariants as form
use Rattle.nl_agents.specs.declared.store.Store.{Ghosts}
use Rattle.nl_exec_acts.specs.Stage.{Scene}
use Rattle.nl_exec_meaning.specs.State.{Outcome}
use Rattle.nl_exec_meaning.specs.LoneTexts.{Ending, ending_of, scene_in}
use Rattle.nl_exec.specs.Machines.{IsClosed, IsOpen, form_of, program_of, rest_of, scene_of, spent_of, units_left}
use Rattle.nl_run.specs.Job.{Job}
use Rattle.nl_run.specs.Plans.{lone_seen}
use Rattle.nl_run.specs.Course.{Standing, Finish, ends_as, commands_by, value_by, put_back, setup_name, go_name, until_name, when_name, metric_name, with_cell, cells, with_row, truth_by, after_setup, after_go, after_until, after_when, go_step, steps}
use Rattle.nl_run.specs.declared.rows.Row.{Row}
use Rattle.nl_run.specs.declared.rows.RunEnd.{RunEnd}
use Rattle.nl_run.specs.declared.rows.RunEnd.TheVariants as end_
use Rattle.nl_run.specs.declared.phase.Regular.{Regular}
use Rattle.nl_run.specs.declared.phase.Regular.TheVariants as regular
use Rattle.nl_run.specs.declared.phase.Behind.{Behind}
use Rattle.nl_run.specs.declared.phase.Behind.TheVariants as behind
use Rattle.nl_run.specs.declared.phase.Open.{Open}
use Rattle.nl_run.specs.declared.phase.Open.TheVariants as open_
use Rattle.nl_run.specs.declared.phase.Phase.{Phase}
use Rattle.nl_run.specs.declared.phase.Phase.TheVariants as phase
use Rattle.nl_run.specs.declared.progress.Progress.{Progress}

-- ---- between two texts

abbrev pub standing : Scene → ℕ → ℕ → List Row → Standing
standing scene left step rows = record { scene = scene; left = left; step = step; rows = rows }

-- what is there with so many units to spend
abbrev pub stands : {S : Type 0} {G : Ghosts S} → Progress S G → ℕ → Standing
stands g units = standing (scene_of g.machine) units g.step g.rows

-- what the open text leaves
abbrev pub stands_behind : {S : Type 0} {G : Ghosts S} → Progress S G → Outcome → Standing
stands_behind g o = standing (scene_in o.state) o.state.units g.step g.rows

-- ---- behind a text

abbrev pub end_of : Regular → RunEnd
end_of regular.Steps = end_.Steps
end_of regular.Condition = end_.Condition
end_of regular.Stop = end_.Stop

abbrev pub behind_measure : Behind → Job → Standing → Finish
behind_measure behind.Step j s = steps j s
behind_measure (behind.End how) j s = ends_as (end_of how) s

-- the metrics from an index on, which counts from 0, behind the cells that are there
abbrev pub cells_from : Job → ℕ → Texts → Behind → Standing → Finish
cells_from j index made next s = cells j (index + 1) (drop index j.metrics) made s (λ all s1. behind_measure next j (with_row j all s1))

-- what comes once the open text has ended so
abbrev pub settled : Open → Job → Ending → Standing → Finish
settled open_.Setup j e s = commands_by j setup_name j.setup e s (after_setup j (steps j))
settled open_.Go j e s = commands_by j go_name j.go e s (after_go j (steps j))
settled (open_.Until l mark) j e s =
    value_by j until_name (lone_seen l) e s (λ v s1. truth_by j until_name (lone_seen l) v (put_back mark s1) (after_until j (steps j)))
settled (open_.When l mark) j e s =
    value_by j when_name (lone_seen l) e s (λ v s1. truth_by j when_name (lone_seen l) v (put_back mark s1) (after_when j (steps j)))
settled (open_.Metric at) j e s =
    value_by j (metric_name (at.index + 1)) (lone_seen at.metric) e s (λ v s1.
    with_cell j (metric_name (at.index + 1)) (lone_seen at.metric) v (put_back at.mark s1) (λ cell s2.
    cells_from j (at.index + 1) (at.cells ++ cell ∷ []) at.behind s2))

abbrev pub form_in : Open → Form
form_in open_.Setup = form.Commands
form_in open_.Go = form.Commands
form_in (open_.Until l mark) = form.Reporter
form_in (open_.When l mark) = form.Reporter
form_in (open_.Metric at) = form.Reporter

abbrev pub text_left : Open → Job → {S : Type 0} {G : Ghosts S} → Progress S G → Outcome → Finish
text_left text j g o = settled text j (ending_of (form_in text) o.exit) (stands_behind g o)

-- what a run comes to from here, with so many units to spend
abbrev pub rest_by : Phase → Job → {S : Type 0} {G : Ghosts S} → Progress S G → ℕ → Finish
rest_by (phase.Text text) j g n = text_left text j g (rest_of g.machine n)
rest_by phase.Step j g n = steps j (stands g n)
rest_by phase.Wanting j g n = go_step j (steps j) (stands g n)
rest_by (phase.Over how) j g n = ends_as how (stands g n)
rest_by phase.Ended j g n = ends_as end_.Open (stands g n)
rest_by phase.Failed j g n = ends_as end_.Open (stands g n)

-- ---- what is kept

-- a metric that is measured is there
abbrev pub IsThere : Open → Job → Type 0
IsThere open_.Setup j = ⊤
IsThere open_.Go j = ⊤
IsThere (open_.Until l mark) j = ⊤
IsThere (open_.When l mark) j = ⊤
IsThere (open_.Metric at) j = at.index < length j.metrics

-- the machine has the open text
pub record HasText {S : Type 0} {G : Ghosts S} (text : Open) (j : Job) (g : Progress S G) : Type 0 where
  pub opened : IsOpen g.machine
  pub form : form_of g.machine ≡ form_in text
  pub there : IsThere text j

abbrev pub TextStands : Phase → Job → {S : Type 0} {G : Ghosts S} → Progress S G → Type 0
TextStands (phase.Text text) j g = HasText text j g
TextStands phase.Step j g = IsClosed g.machine
TextStands phase.Wanting j g = IsClosed g.machine
TextStands (phase.Over how) j g = ⊤
TextStands phase.Ended j g = ⊤
TextStands phase.Failed j g = ⊤

-- how many steps are under way
abbrev pub steps_in : Open → ℕ
steps_in open_.Setup = 0
steps_in open_.Go = 1
steps_in (open_.Until l mark) = 0
steps_in (open_.When l mark) = 0
steps_in (open_.Metric at) = 0

abbrev pub under_way : Phase → ℕ
under_way (phase.Text text) = steps_in text
under_way phase.Step = 0
under_way phase.Wanting = 0
under_way (phase.Over how) = 0
under_way phase.Ended = 0
under_way phase.Failed = 0

-- the units that an open text leaves were there when it began
abbrev pub GivesNone : {S : Type 0} {G : Ghosts S} → Progress S G → Type 0
GivesNone g = (n : ℕ) → (rest_of g.machine n).state.units ≤ spent_of g.machine - g.begun + n

abbrev pub TextIsThrifty : Phase → {S : Type 0} {G : Ghosts S} → Progress S G → Type 0
TextIsThrifty (phase.Text text) g = GivesNone g
TextIsThrifty phase.Step g = ⊤
TextIsThrifty phase.Wanting g = ⊤
TextIsThrifty (phase.Over how) g = ⊤
TextIsThrifty phase.Ended g = ⊤
TextIsThrifty phase.Failed g = ⊤

-- each step has spent a unit
pub record IsReady {S : Type 0} {G : Ghosts S} (p : Phase) (j : Job) (g : Progress S G) : Type 0 where
  pub program : program_of g.machine ≡ j.program
  pub text : TextStands p j g
  pub counted : g.step + under_way p ≤ g.begun
  pub begun : g.begun ≤ spent_of g.machine
  pub thrifty : TextIsThrifty p g

-- no unit was spent
pub record SpendsNone {S : Type 0} {G : Ghosts S} (after before : Progress S G) : Type 0 where
  pub spent : spent_of after.machine ≡ spent_of before.machine
  pub left : units_left after.machine ≡ units_left before.machine
  pub begun : after.begun ≡ before.begun

-- ---- that the work ends

-- how many moves come before the next unit of a step is wanted, at most, where there are so many metrics
abbrev pub moves_behind : ℕ → Behind → ℕ → ℕ
moves_behind metrics behind.Step index = metrics + 5 + (metrics - index)
moves_behind metrics (behind.End how) index = 1 + (metrics - index)

abbrev pub moves_in : ℕ → Open → ℕ
moves_in metrics open_.Setup = 2 * metrics + 7
moves_in metrics open_.Go = 2 * metrics + 7
moves_in metrics (open_.Metric at) = moves_behind metrics at.behind at.index
moves_in metrics (open_.Until l mark) = metrics + 3
moves_in metrics (open_.When l mark) = 2 * metrics + 6

abbrev pub moves : ℕ → Phase → ℕ
moves metrics (phase.Text text) = moves_in metrics text
moves metrics phase.Step = metrics + 4
moves metrics phase.Wanting = metrics + 2
moves metrics (phase.Over how) = 0
moves metrics phase.Ended = 0
moves metrics phase.Failed = 0

-- the units that were there when the open text began
abbrev pub room : {S : Type 0} {G : Ghosts S} → Progress S G → ℕ
room g = units_left g.machine + (spent_of g.machine - g.begun)

-- so many moves for each unit, and those before the next one
abbrev pub work_left : Job → Phase → {S : Type 0} {G : Ghosts S} → Progress S G → ℕ
work_left j p g = room g * (2 * length j.metrics + 8) + moves (length j.metrics) p
