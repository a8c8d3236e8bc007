use Rattle.nl_experiment_fields.proofs.FaultKeys.{faults_are_of_the_file}
use Rattle.nl_experiment_fields.proofs.laws.faults_are_of_the_file.Goals as goal

pub returns : goal.returns
returns c = faults_are_of_the_file
