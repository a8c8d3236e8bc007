use Rattle.nl_tree.proofs.Indexed.{as_terms}
use Rattle.nl_tree.proofs.index.NamedWords.find.Goals as goal

pub returns : goal.returns
returns c =
    let found = rw c.as_slice.ensures.value at c.find_word.ensures in
    rw (← c.self.view_is) (as_terms c.self.inside.list.items c.args.name.now c.find_word.result found)
