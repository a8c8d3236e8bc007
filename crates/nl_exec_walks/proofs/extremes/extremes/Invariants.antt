-- Those so far that reach the best.
use Rattle.std.proofs.Common.{◌≡◌, take, map, filter}
use Rattle.nl_exec_meaning.specs.Walks.{members_kept}
use Rattle.nl_exec_meaning.specs.inner.Seen.{answered}
use Rattle.nl_exec_walks.specs.inner.Passes.{reaches}
use Rattle.nl_exec_walks.proofs.extremes.extremes.Given as goal

abbrev pub invariant-loop-answer : goal.invariant-loop-answer
invariant-loop-answer l = l.kept.items ≡ members_kept (filter (reaches l.up l.best) (map answered (take l.answer-index l.answers)))
