use Rattle.nl_experiment_fields.proofs.Naming.{names_are_apart}
use Rattle.nl_experiment_fields.proofs.laws.names_are_apart.Goals as goal

pub returns : goal.returns
returns c = names_are_apart
