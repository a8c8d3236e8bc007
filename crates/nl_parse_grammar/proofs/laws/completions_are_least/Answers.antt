use Rattle.nl_parse_grammar.proofs.Good.{completions_are_least, models_have_words}
use Rattle.nl_parse_grammar.proofs.laws.completions_are_least.Goals as goal

pub returns-clause-least : goal.returns-clause-least
returns-clause-least c = completions_are_least

pub returns-clause-words : goal.returns-clause-words
returns-clause-words c = models_have_words
