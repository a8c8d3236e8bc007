-- The trees so far were put behind the others.
use Rattle.std.proofs.Common.{◌≡◌, ◌++◌, map, take}
use Rattle.nl_tree.specs.Views.{plain}
use Rattle.nl_exec_meaning.specs.inner.Arena.{trees_seen}
use Rattle.nl_exec_meaning.proofs.resolve.push_trees.Given as goal

abbrev pub invariant-loop-tree : goal.invariant-loop-tree
invariant-loop-tree l = trees_seen l.trees.items ≡ trees_seen l.fn.trees.items ++ map plain (take l.tree-index l.more)
