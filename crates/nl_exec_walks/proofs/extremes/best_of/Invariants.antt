-- The best of the answers so far.
use Rattle.std.proofs.Common.{take, map}
use Rattle.nl_exec_walks.specs.Extremes.{IsBestOf}
use Rattle.nl_exec_meaning.specs.inner.Seen.{answered}
use Rattle.nl_exec_walks.proofs.extremes.best_of.Given as goal

abbrev pub invariant-loop-answer : goal.invariant-loop-answer
invariant-loop-answer l = IsBestOf l.up l.best (map answered (take l.answer-index l.answers))
