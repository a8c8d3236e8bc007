use Rattle.nl_run_units.proofs.Telling.{runs_want_what_they_spend}
use Rattle.nl_run_units.proofs.laws.runs_want_what_they_spend.Goals as goal

pub returns : goal.returns
returns c = runs_want_what_they_spend
