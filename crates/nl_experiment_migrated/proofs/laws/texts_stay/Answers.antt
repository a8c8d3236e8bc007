use Rattle.nl_experiment_migrated.proofs.Twice.{texts_stay}
use Rattle.nl_experiment_migrated.proofs.laws.texts_stay.Goals as goal

pub returns : goal.returns
returns c = texts_stay
