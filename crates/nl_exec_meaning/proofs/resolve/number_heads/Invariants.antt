-- The trees so far have the numbers of their heads.
use Rattle.std.proofs.Common.{◌≡◌, length, take}
use Rattle.nl_exec_meaning.specs.inner.Arena.{AreHeads, AreNames, Grows, trees_seen}
use Rattle.nl_exec_meaning.proofs.resolve.number_heads.Given as goal

abbrev pub invariant-loop-at : goal.invariant-loop-at
invariant-loop-at l = record {
  heads : AreHeads l.names l.heads.items (take l.at (trees_seen l.trees));
  kept : Grows l.fn.heads.items l.heads.items;
  grows : Grows l.fn.names l.names;
  apart : AreNames l.fn.names → AreNames l.names;
}
