-- Those so far are copied.
use Rattle.std.proofs.Common.{◌≡◌, take}
use Rattle.nl_exec_meaning.proofs.items.copy_trees.Given as goal

abbrev pub invariant-loop-tree : goal.invariant-loop-tree
invariant-loop-tree l = l.copied.items ≡ take l.tree-index l.trees
