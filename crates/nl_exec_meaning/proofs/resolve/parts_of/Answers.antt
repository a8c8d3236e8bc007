-- The parts of a plain tree are those of the tree.
use Rattle.std.proofs.Common.{◌∙◌, sym}
use Rattle.nl_tree.proofs.Parts.{listed_nodes}
use Rattle.nl_exec_meaning.proofs.resolve.parts_of.Goals as goal

pub returns : goal.returns
returns c = c.as_slice.ensures ∙ sym (listed_nodes c.args.tree.now.parts)
