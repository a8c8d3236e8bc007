use Rattle.nl_tree.proofs.Alone.{no_other_order}
use Rattle.nl_tree.proofs.tests.one_word.Goals as goal

pub returns : goal.returns
returns c =
    let moved = rw (c.in_ok-push.ensures.items, c.new-list.ensures.items, c.in_ok-name.ensures.ok) at c.new-words.ensures in
    no_other_order _ _ moved
