-- The bodies so far were put behind the others.
use Rattle.std.proofs.Common.{◌≡◌, ◌++◌, take}
use Rattle.nl_exec_meaning.specs.inner.Arena.{trees_seen}
use Rattle.nl_exec_meaning.proofs.resolve.push_bodies.Given as goal

abbrev pub invariant-loop-at : goal.invariant-loop-at
invariant-loop-at l = trees_seen l.trees.items ≡ trees_seen l.fn.trees.items ++ take l.at l.program.bodies
