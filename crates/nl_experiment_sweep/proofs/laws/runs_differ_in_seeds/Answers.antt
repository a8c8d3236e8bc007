use Rattle.nl_experiment_sweep.proofs.Seeds.{seeds_differ}
use Rattle.nl_experiment_sweep.proofs.laws.runs_differ_in_seeds.Goals as goal

pub returns : goal.returns
returns c = seeds_differ
