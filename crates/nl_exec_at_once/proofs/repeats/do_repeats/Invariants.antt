-- What is left stays what it was, and what is held fits the world.
use Rattle.std.proofs.Common.{◌≡◌, ◌+◌, ◌<◌, ◌≤◌, ℕ, suc}
use Rattle.nl_exec_meaning.specs.Code.{node_at}
use Rattle.nl_exec_meaning.specs.Meaning.{evaluator}
use Rattle.nl_exec_meaning.specs.Means.{Stands}
use Rattle.nl_exec_meaning.specs.Seen.{state_of}
use Rattle.nl_exec_at_once.specs.AtOnce.{then_turns}
use Rattle.nl_exec_at_once.specs.declared.statements.TheConstants.{MOST_NESTED as most_nested}
use Rattle.nl_exec_at_once.proofs.repeats.do_repeats.Given as goal

abbrev pub invariant-turns : goal.invariant-turns
invariant-turns g l = record {
  done : (room n : ℕ) → suc most_nested < room → let prev = evaluator l.code.program room in
      then_turns l.fn.left prev (node_at l.code l.word) (prev (node_at l.code l.block) (state_of l.code.names l.fn.hands (l.fn.units + n)))
      ≡ then_turns l.left prev (node_at l.code l.word) (prev (node_at l.code l.block) (state_of l.code.names l.hands (l.units + n)));
  fewer : l.units ≤ l.fn.units;
  stands : Stands l.hands l.fn.hands;
}

abbrev pub decreases-turns : goal.decreases-turns
decreases-turns g l = l.units
