use Rattle.nl_experiment_migrated.proofs.Twice.{texts_are_one}
use Rattle.nl_experiment_migrated.proofs.laws.texts_are_one.Goals as goal

pub returns : goal.returns
returns c = texts_are_one
