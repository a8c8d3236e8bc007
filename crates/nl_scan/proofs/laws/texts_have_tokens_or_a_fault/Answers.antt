use Rattle.nl_scan.proofs.CutLaws.{faults_are_unique, fault_or_tokens}
use Rattle.nl_scan.proofs.laws.texts_have_tokens_or_a_fault.Goals as goal

pub returns-clause-unique : goal.returns-clause-unique
returns-clause-unique c = faults_are_unique

pub returns-clause-either : goal.returns-clause-either
returns-clause-either c = fault_or_tokens
