-- A tree of the code, as a plain one.
use Rattle.nl_tree.specs.declared.tree.Tree.{Tree}
use Rattle.nl_tree.specs.Tree.{Node, node, nodes}

abbrev pub plain : Tree → Node
plain t = node t.label t.span (nodes t.parts)
