use Rattle.nl_tree.proofs.Parts.{listed_nodes}
use Rattle.nl_tree.proofs.tree.Tree.len.Goals as goal

pub returns : goal.returns
returns c = rw (listed_nodes c.args.self.now.parts) c.len.ensures
