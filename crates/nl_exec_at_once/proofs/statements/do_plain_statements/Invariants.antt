-- The statements that come mean, from here, what all of them meant.
use Rattle.std.proofs.Common.{◌≡◌, ◌+◌, ◌<◌, ◌≤◌, ℕ, drop}
use Rattle.nl_tree.specs.Tree.{parts}
use Rattle.nl_exec_meaning.specs.Code.{node_at}
use Rattle.nl_exec_meaning.specs.Blocks.{statements}
use Rattle.nl_exec_meaning.specs.Meaning.{evaluator}
use Rattle.nl_exec_meaning.specs.Means.{Stands}
use Rattle.nl_exec_meaning.specs.Seen.{state_of}
use Rattle.nl_exec_at_once.specs.declared.statements.TheConstants.{PLAIN_NESTED}
use Rattle.nl_exec_at_once.proofs.statements.do_plain_statements.Given as goal

abbrev pub invariant-statements : goal.invariant-statements
invariant-statements g l = record {
  done : (room n kept : ℕ) → PLAIN_NESTED < room →
      let all = parts (node_at l.code l.block) in
      statements (evaluator l.code.program room) kept all (state_of l.code.names l.fn.hands (l.fn.units + n))
      ≡ statements (evaluator l.code.program room) kept (drop l.at all) (state_of l.code.names l.hands (l.units + n));
  fewer : l.units ≤ l.fn.units;
  stands : Stands l.hands l.fn.hands;
}

abbrev pub decreases-statements : goal.decreases-statements
decreases-statements g l = l.units
