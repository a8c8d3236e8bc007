-- What one move of a run, and many, leave.
use Rattle.std.specs.Prelude.{◌≡◌, ℕ, ◌+◌, ◌<◌, ⊤, Bool, true, false, Result, Ok, Err}
use Rattle.nl_agents.specs.declared.store.Store.{Ghosts}
use Rattle.nl_exec.specs.Machines.{spent_of, units_left}
use Rattle.nl_run.specs.Job.{Job}
use Rattle.nl_run.specs.Left.{rest_by, work_left}
use Rattle.nl_run.specs.declared.phase.Phase.{Phase}
use Rattle.nl_run.specs.declared.phase.Phase.TheVariants as phase
use Rattle.nl_run.specs.declared.progress.Progress.{Progress}
use Rattle.nl_run.specs.declared.rows.RunEnd.{RunEnd}
use Rattle.nl_run.specs.declared.rows.RunEnd.TheVariants as end_
use Rattle.nl_run.specs.declared.work.Move.{Move}
use Rattle.nl_run.specs.declared.work.Move.TheVariants as move

-- further units than those of a slice can be had where the slice isn't all that there is
abbrev pub Allows : ℕ → ℕ → ℕ → Type 0
Allows slice all n = slice ≡ all → n ≡ 0

abbrev pub phase_of : Move → Phase
phase_of (move.On p) = p
phase_of (move.Stop p) = p

-- what is spent was part of the slice
pub record Spends {S : Type 0} {G : Ghosts S} (after before : Progress S G) (left was : ℕ) : Type 0 where
  pub spent : spent_of after.machine + left ≡ spent_of before.machine + was
  pub all : units_left after.machine + spent_of after.machine ≡ units_left before.machine + spent_of before.machine

-- without a further unit the run ends by its budget, with the rows that it has
pub record IsCut {S : Type 0} {G : Ghosts S} (p : Phase) (j : Job) (g : Progress S G) : Type 0 where
  pub how : (rest_by p j g 0).how ≡ end_.Budget
  pub rows : (rest_by p j g 0).rows ≡ g.rows

-- and there is a further unit
pub record IsCutShort {S : Type 0} {G : Ghosts S} (p : Phase) (j : Job) (g : Progress S G) : Type 0 where
  pub cut : IsCut p j g
  pub further : 0 < units_left g.machine

-- it waits for a unit, or is over
abbrev pub Waits : Phase → Job → {S : Type 0} {G : Ghosts S} → Progress S G → Type 0
Waits (phase.Text text) j g = IsCutShort (phase.Text text) j g
Waits phase.Wanting j g = IsCut phase.Wanting j g
Waits (phase.Over how) j g = ⊤
Waits phase.Step j g = ⊥
Waits phase.Ended j g = ⊥
Waits phase.Failed j g = ⊥

-- a slice is spent where the run isn't over
abbrev pub SpendsAll : Phase → ℕ → Type 0
SpendsAll (phase.Over how) left = ⊤
SpendsAll (phase.Text text) left = left ≡ 0
SpendsAll phase.Wanting left = left ≡ 0
SpendsAll phase.Step left = left ≡ 0
SpendsAll phase.Ended left = left ≡ 0
SpendsAll phase.Failed left = left ≡ 0

pub record HasStopped {S : Type 0} {G : Ghosts S} (p : Phase) (j : Job) (g : Progress S G) (left : ℕ) : Type 0 where
  pub waits : Waits p j g
  pub all : SpendsAll p left

abbrev pub StopsAt : Job → {S : Type 0} {G : Ghosts S} → Progress S G → ℕ → Move → Type 0
StopsAt j g left (move.On p) = ⊤
StopsAt j g left (move.Stop p) = HasStopped p j g left

-- a move that goes on leaves less work
abbrev pub Falls : Job → Move → {S : Type 0} {G : Ghosts S} → Progress S G → Phase → Progress S G → Type 0
Falls j (move.On p) after was before = work_left j p after < work_left j was before
Falls j (move.Stop p) after was before = ⊤

-- how a run ends that has stopped so, or where it goes on: one that wants the unit of a step ends where all are spent
abbrev pub ended_by : Bool → Phase → Result RunEnd Phase
ended_by spent (phase.Over how) = Ok how
ended_by true phase.Wanting = Ok end_.Budget
ended_by false phase.Wanting = Err phase.Wanting
ended_by spent (phase.Text text) = Err (phase.Text text)
ended_by spent phase.Step = Err phase.Step
ended_by spent phase.Ended = Err phase.Ended
ended_by spent phase.Failed = Err phase.Failed
