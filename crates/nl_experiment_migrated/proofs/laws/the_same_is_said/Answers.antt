use Rattle.nl_experiment_migrated.proofs.Saying.{migrated_says_the_same}
use Rattle.nl_experiment_migrated.proofs.laws.the_same_is_said.Goals as goal

pub returns : goal.returns
returns c = migrated_says_the_same
