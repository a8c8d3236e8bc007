use Rattle.nl_tree.proofs.Parts.{rest_map}
use Rattle.nl_tree.proofs.tree.Trees.get.Goals as goal

pub returns-clause-rest : goal.returns-clause-rest
returns-clause-rest c =
    let rest = rw c.as_slice.ensures.value at c.tree_at.ensures.rest in
    rw (← c.self.view_is) (rest_map c.self.inside.list.items c.args.at c.tree_at.result rest)
