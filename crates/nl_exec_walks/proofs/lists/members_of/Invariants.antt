-- The members so far.
use Rattle.std.proofs.Common.{◌≡◌, take, map}
use Rattle.nl_exec_meaning.specs.Walks.{members_kept}
use Rattle.nl_exec_meaning.specs.inner.Seen.{answered}
use Rattle.nl_exec_walks.proofs.lists.members_of.Given as goal

abbrev pub invariant-loop-answer : goal.invariant-loop-answer
invariant-loop-answer l = l.members.items ≡ members_kept (map answered (take l.answer-index l.answers))
