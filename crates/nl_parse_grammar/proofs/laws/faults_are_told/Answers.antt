use Rattle.nl_parse_grammar.proofs.FaultKinds.{faults_are_told}
use Rattle.nl_parse_grammar.proofs.laws.faults_are_told.Goals as goal

pub returns : goal.returns
returns c = faults_are_told
