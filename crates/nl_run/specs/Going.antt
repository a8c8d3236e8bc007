-- What a run keeps while it goes on.
use Rattle.std.specs.Prelude.{◌≡◌, ℕ, ◌+◌, Bool, true, false, IsTrue}
use Rattle.nl_agents.specs.declared.store.Store.{Ghosts}
use Rattle.nl_exec.specs.Machines.{spent_of, units_left}
use Rattle.nl_run.specs.Job.{Job}
use Rattle.nl_run.specs.Course.{course_within}
use Rattle.nl_run.specs.Left.{IsReady, rest_by}
use Rattle.nl_run.specs.declared.phase.Phase.{Phase}
use Rattle.nl_run.specs.declared.phase.Phase.TheVariants as phase
use Rattle.nl_run.specs.declared.progress.Progress.{Progress}

-- it has neither ended nor failed
abbrev pub is_going : Phase → Bool
is_going (phase.Text text) = true
is_going phase.Step = true
is_going phase.Wanting = true
is_going (phase.Over how) = true
is_going phase.Ended = false
is_going phase.Failed = false

-- the machine has the text text, and each step has spent a unit
abbrev pub ReadyIn : {S : Type 0} {G : Ghosts S} → Phase → Job → Progress S G → Type 0
ReadyIn p j g = IsTrue (is_going p) → IsReady p j g

-- what is spent and what is left are the budget
abbrev pub BudgetIn : {S : Type 0} {G : Ghosts S} → Phase → Job → Progress S G → Type 0
BudgetIn p j g = IsTrue (is_going p) → spent_of g.machine + units_left g.machine ≡ j.budget

-- what it comes to with so many units more is its course with these and those that it has spent
abbrev pub CourseIn : {S : Type 0} {G : Ghosts S} → Phase → Job → Progress S G → Type 0
CourseIn p j g = IsTrue (is_going p) → (n : ℕ) → rest_by p j g n ≡ course_within j (spent_of g.machine + n)
