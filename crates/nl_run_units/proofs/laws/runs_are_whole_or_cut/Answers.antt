use Rattle.nl_run_units.proofs.Telling.{runs_are_whole_or_cut}
use Rattle.nl_run_units.proofs.laws.runs_are_whole_or_cut.Goals as goal

pub returns : goal.returns
returns c = runs_are_whole_or_cut
