-- What is left stays what it was, and what is held fits the world.
use Rattle.std.proofs.Common.{◌≡◌, ◌+◌, ◌<◌, ◌≤◌, ℕ, suc}
use Rattle.nl_exec_meaning.specs.Code.{node_at}
use Rattle.nl_exec_meaning.specs.Meaning.{evaluator}
use Rattle.nl_exec_meaning.specs.Walks.{turn_over}
use Rattle.nl_exec_meaning.specs.Frames.{walked_on}
use Rattle.nl_exec_meaning.specs.Means.{Stands}
use Rattle.nl_exec_meaning.specs.Seen.{ground, state_of}
use Rattle.nl_exec_meaning.specs.Standing.{TurnsFit}
use Rattle.nl_exec_at_once.specs.declared.statements.TheConstants.{MOST_NESTED as most_nested}
use Rattle.nl_exec_at_once.proofs.turns.do_turns.Given as goal

abbrev pub invariant-turns : goal.invariant-turns
invariant-turns g l = record {
  done : (room n : ℕ) → suc most_nested < room → let prev = evaluator l.code.program room in
      turn_over l.fn.turns.site (prev (node_at l.code l.block) (state_of l.code.names l.fn.hands (l.fn.units + n)))
      (walked_on prev (node_at l.code l.ask) l.index l.fn.turns)
      ≡ turn_over l.turns.site (prev (node_at l.code l.block) (state_of l.code.names l.hands (l.units + n)))
      (walked_on prev (node_at l.code l.ask) l.index l.turns);
  turns : TurnsFit (ground l.hands) l.turns;
  left : l.units ≤ l.fn.units;
  stands : Stands l.hands l.fn.hands;
}

abbrev pub decreases-turns : goal.decreases-turns
decreases-turns g l = l.units
