use Rattle.nl_run_units.proofs.Telling.{cut_runs_leave_not_all}
use Rattle.nl_run_units.proofs.laws.cut_runs_leave_not_all.Goals as goal

pub returns : goal.returns
returns c = cut_runs_leave_not_all
