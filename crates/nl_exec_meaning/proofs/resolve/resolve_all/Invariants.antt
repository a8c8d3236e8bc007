-- The nodes so far are right. The trees that are left grow smaller.
use Rattle.std.proofs.Common.{◌≤◌, length, drop}
use Rattle.nl_exec_meaning.specs.inner.Arena.{trees_seen, AreItems, AreNames, Grows}
use Rattle.nl_tree.specs.Tree.{list_size}
use Rattle.nl_exec_meaning.proofs.resolve.resolve_all.Given as goal

abbrev pub invariant-trees : goal.invariant-trees
invariant-trees l = record {
  fewer : length l.items.items ≤ length l.trees.items;
  right : AreItems l.program.declared l.names (trees_seen l.trees.items) l.items.items;
  items : Grows l.fn.items.items l.items.items;
  trees : Grows (trees_seen l.fn.trees.items) (trees_seen l.trees.items);
  names : Grows l.fn.names l.names;
  apart : AreNames l.fn.names → AreNames l.names;
}

abbrev pub decreases-trees : goal.decreases-trees
decreases-trees l = list_size (drop (length l.items.items) (trees_seen l.trees.items))
