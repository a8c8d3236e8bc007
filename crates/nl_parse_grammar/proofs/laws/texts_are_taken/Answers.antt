use Rattle.nl_parse_grammar.proofs.Good.{beginnings_are_taken}
use Rattle.nl_parse_grammar.proofs.Taken.{texts_are_taken}
use Rattle.nl_parse_grammar.proofs.laws.texts_are_taken.Goals as goal

pub returns-clause-whole : goal.returns-clause-whole
returns-clause-whole c = texts_are_taken

pub returns-clause-begun : goal.returns-clause-begun
returns-clause-begun c = beginnings_are_taken
