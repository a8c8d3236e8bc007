use Rattle.nl_scan.proofs.CutLaws.{tokens_are_computed, faults_are_computed}
use Rattle.nl_scan.proofs.laws.tokens_are_computed.Goals as goal

pub returns-clause-tokens : goal.returns-clause-tokens
returns-clause-tokens c = tokens_are_computed

pub returns-clause-faults : goal.returns-clause-faults
returns-clause-faults c = faults_are_computed
