use Rattle.nl_parse_grammar.proofs.Meant.{tokens_are_plain}
use Rattle.nl_parse_grammar.proofs.token_laws.tokens_are_plain.Goals as goal

pub returns : goal.returns
returns c = tokens_are_plain
