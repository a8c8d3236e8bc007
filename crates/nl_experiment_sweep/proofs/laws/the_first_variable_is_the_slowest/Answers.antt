use Rattle.nl_experiment_sweep.proofs.Digits.{first_is_slowest}
use Rattle.nl_experiment_sweep.proofs.laws.the_first_variable_is_the_slowest.Goals as goal

pub returns : goal.returns
returns c = first_is_slowest
