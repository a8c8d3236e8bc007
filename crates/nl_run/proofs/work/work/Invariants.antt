-- What is left stays, with the units that are left, and each move leaves less work.
use Rattle.std.proofs.Common.{◌≡◌, ℕ, ◌+◌, ◌≤◌}
use Rattle.nl_exec.specs.Machines.{units_left}
use Rattle.nl_run.specs.Left.{IsReady, rest_by, work_left}
use Rattle.nl_run.specs.Plans.{job_in}
use Rattle.nl_run.specs.inner.Moves.{Allows, Spends}
use Rattle.nl_run.proofs.work.work.Given as goal

abbrev pub invariant-moves : goal.invariant-moves
invariant-moves g l = record {
  same : (n : ℕ) → Allows l.units (units_left l.fn.progress.machine) n → rest_by l.phase (job_in l.plan) l.progress (l.left + n) ≡ rest_by l.fn.begun (job_in l.plan) l.fn.progress (l.units + n);
  ready : IsReady l.phase (job_in l.plan) l.progress;
  within : l.left ≤ units_left l.progress.machine;
  spends : Spends l.progress l.fn.progress l.left l.units;
}

abbrev pub decreases-moves : goal.decreases-moves
decreases-moves g l = work_left (job_in l.plan) l.phase l.progress
