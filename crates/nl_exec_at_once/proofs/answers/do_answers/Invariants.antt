-- What is left stays what it was, and what is held fits the world.
use Rattle.std.proofs.Common.{◌≡◌, ◌+◌, ◌<◌, ◌≤◌, ◌∷◌, ◌++◌, ℕ, drop}
use Rattle.nl_exec_meaning.specs.Code.{node_at}
use Rattle.nl_exec_meaning.specs.Meaning.{evaluator}
use Rattle.nl_exec_meaning.specs.Walks.{members_kept}
use Rattle.nl_exec_meaning.specs.Means.{Stands}
use Rattle.nl_exec_meaning.specs.Seen.{ground, state_of}
use Rattle.nl_exec_meaning.specs.Standing.{AnsweringFits, MembersAscend}
use Rattle.nl_exec_meaning.specs.declared.turns.Gathered.{Gathered as How}
use Rattle.nl_exec_at_once.specs.AtOnce.{answering}
use Rattle.nl_exec_at_once.specs.declared.statements.TheConstants.{MOST_NESTED as most_nested}
use Rattle.nl_exec_at_once.proofs.answers.do_answers.Given as goal

abbrev pub invariant-answers : goal.invariant-answers
invariant-answers g l = record {
  done : (how : How) (room n : ℕ) → most_nested < room → let prev = evaluator l.code.program room in
      answering l.code prev (node_at l.code l.node) l.index l.word how l.fn.member l.fn.turns l.fn.made
      (prev (node_at l.code l.block) (state_of l.code.names l.fn.hands (l.fn.units + n)))
      ≡ answering l.code prev (node_at l.code l.node) l.index l.word how l.member l.turns l.made
      (prev (node_at l.code l.block) (state_of l.code.names l.hands (l.units + n)));
  answering : AnsweringFits (ground l.hands) l.member l.turns l.made;
  ascend : (how : How) → MembersAscend how (members_kept l.fn.made ++ l.fn.member ∷ drop l.fn.turns.at l.fn.turns.members) →
      MembersAscend how (members_kept l.made ++ l.member ∷ drop l.turns.at l.turns.members);
  left : l.units ≤ l.fn.units;
  stands : Stands l.hands l.fn.hands;
}

abbrev pub decreases-answers : goal.decreases-answers
decreases-answers g l = l.units
