use Rattle.nl_experiment_migrated.proofs.Staying.{documents_are_plain}
use Rattle.nl_experiment_migrated.proofs.laws.documents_are_plain.Goals as goal

pub returns : goal.returns
returns c = documents_are_plain
