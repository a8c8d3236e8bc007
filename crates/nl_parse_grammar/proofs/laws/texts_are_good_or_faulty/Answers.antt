use Rattle.nl_parse_grammar.proofs.Ends.{faults_are_unique, good_has_no_fault, texts_are_good_or_faulty}
use Rattle.nl_parse_grammar.proofs.laws.texts_are_good_or_faulty.Goals as goal

pub returns-clause-either : goal.returns-clause-either
returns-clause-either c = texts_are_good_or_faulty

pub returns-clause-apart : goal.returns-clause-apart
returns-clause-apart c = good_has_no_fault

pub returns-clause-unique : goal.returns-clause-unique
returns-clause-unique c = faults_are_unique
