use Rattle.nl_experiment_sweep.proofs.Repeated.{each_place_has_a_run, each_run_has_a_place}
use Rattle.nl_experiment_sweep.proofs.laws.runs_go_through_all_combinations.Goals as goal

pub returns-clause-places : goal.returns-clause-places
returns-clause-places c = each_run_has_a_place

pub returns-clause-runs : goal.returns-clause-runs
returns-clause-runs c = each_place_has_a_run
