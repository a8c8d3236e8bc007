use Rattle.nl_check.proofs.Firsts.{model_faults_are_unique, lone_faults_are_unique}
use Rattle.nl_check.proofs.laws.faults_are_unique.Goals as goal

pub returns-clause-model : goal.returns-clause-model
returns-clause-model c = model_faults_are_unique

pub returns-clause-lone : goal.returns-clause-lone
returns-clause-lone c = lone_faults_are_unique
