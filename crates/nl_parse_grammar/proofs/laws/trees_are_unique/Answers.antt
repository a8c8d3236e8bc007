use Rattle.nl_parse_grammar.proofs.Taken.{trees_are_unique}
use Rattle.nl_parse_grammar.proofs.laws.trees_are_unique.Goals as goal

pub returns : goal.returns
returns c = trees_are_unique
