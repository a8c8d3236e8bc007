use Rattle.nl_experiment_keys.proofs.Relation.{literals_are_those}
use Rattle.nl_experiment_keys.proofs.laws.literals_are_constants_and_lists.Goals as goal

pub returns : goal.returns
returns c = literals_are_those
