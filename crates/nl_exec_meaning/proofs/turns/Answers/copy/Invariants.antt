-- The answers so far are copied.
use Rattle.std.proofs.Common.{◌≡◌, take, map}
use Rattle.nl_exec_meaning.specs.inner.Seen.{answered}
use Rattle.nl_exec_meaning.proofs.turns.Answers.copy.Given as goal

abbrev pub invariant-loop-answer : goal.invariant-loop-answer
invariant-loop-answer l = l.copied ≡ map answered (take l.answer-index l.answer-items)
