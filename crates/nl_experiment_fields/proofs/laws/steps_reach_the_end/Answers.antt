use Rattle.nl_experiment_fields.proofs.Reaching.{steps_reach_the_end}
use Rattle.nl_experiment_fields.proofs.laws.steps_reach_the_end.Goals as goal

pub returns : goal.returns
returns c = steps_reach_the_end
