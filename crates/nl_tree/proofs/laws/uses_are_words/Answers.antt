use Rattle.nl_tree.proofs.Ordered.{uses_are_words, uses_ascend}
use Rattle.nl_tree.proofs.laws.uses_are_words.Goals as goal

pub returns-clause-words : goal.returns-clause-words
returns-clause-words c = uses_are_words

pub returns-clause-ascend : goal.returns-clause-ascend
returns-clause-ascend c = uses_ascend
