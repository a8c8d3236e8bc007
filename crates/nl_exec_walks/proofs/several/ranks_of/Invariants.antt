-- Those so far with numbers.
use Rattle.std.proofs.Common.{◌≡◌, take, map, filter}
use Rattle.nl_exec_meaning.specs.Walks.{is_number}
use Rattle.nl_exec_meaning.specs.inner.Seen.{answered}
use Rattle.nl_exec_walks.specs.inner.Passes.{ranked}
use Rattle.nl_exec_walks.proofs.several.ranks_of.Given as goal

abbrev pub invariant-loop-answer : goal.invariant-loop-answer
invariant-loop-answer l = l.ranks.items ≡ map ranked (filter is_number (map answered (take l.answer-index l.answers)))
