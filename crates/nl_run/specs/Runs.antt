-- What a run shows.
use Rattle.std.specs.Prelude.{◌≡◌, ℕ, ◌+◌, List}
use Rattle.nl_agents.specs.declared.store.Store.{Ghosts}
use Rattle.nl_exec.specs.Machines.{spent_of}
use Rattle.nl_run.specs.Job.{Job}
use Rattle.nl_run.specs.Plans.{job_in}
use Rattle.nl_run.specs.Course.{Finish}
use Rattle.nl_run.specs.declared.phase.Phase.TheVariants as phase
use Rattle.nl_run.specs.declared.rows.Row.{Row}
use Rattle.nl_run.specs.declared.run.Run.{Run}

-- the run
abbrev pub job_of : {S : Type 0} {G : Ghosts S} → Run S G → Job
job_of r = job_in r.plan

-- its rows so far
abbrev pub rows_in : {S : Type 0} {G : Ghosts S} → Run S G → List Row
rows_in r = r.progress.rows

-- the units that it has spent
abbrev pub spent_in : {S : Type 0} {G : Ghosts S} → Run S G → ℕ
spent_in r = spent_of r.progress.machine

abbrev pub HasEnded : {S : Type 0} {G : Ghosts S} → Run S G → Type 0
HasEnded r = r.phase ≡ phase.Ended

-- memory was wanting
abbrev pub HasFailed : {S : Type 0} {G : Ghosts S} → Run S G → Type 0
HasFailed r = r.phase ≡ phase.Failed

-- the same with so many units more that are left
abbrev pub left_more : ℕ → Finish → Finish
left_more units f = record f { left = f.left + units }
