use Rattle.nl_experiment.proofs.OneThing.{faults_are_one, texts_have_trees_or_faults, trees_have_no_faults}
use Rattle.nl_experiment.proofs.laws.experiments_say_one_thing.Goals as goal

pub returns-clause-texts : goal.returns-clause-texts
returns-clause-texts c = texts_have_trees_or_faults

pub returns-clause-trees : goal.returns-clause-trees
returns-clause-trees c = trees_have_no_faults

pub returns-clause-faults : goal.returns-clause-faults
returns-clause-faults c = faults_are_one
