use Rattle.nl_tree.proofs.Alone.{no_other}
use Rattle.nl_tree.proofs.tests.no_word.Goals as goal

pub returns : goal.returns
returns c = let moved = rw c.new.ensures.items at c.new-words.ensures in no_other _ moved
