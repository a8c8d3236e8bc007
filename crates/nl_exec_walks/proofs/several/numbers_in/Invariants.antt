-- How many so far are numbers.
use Rattle.std.proofs.Common.{◌≡◌, ◌≤◌, take, map, filter, length}
use Rattle.nl_exec_meaning.specs.Walks.{is_number}
use Rattle.nl_exec_meaning.specs.inner.Seen.{answered}
use Rattle.nl_exec_walks.proofs.several.numbers_in.Given as goal

abbrev pub invariant-loop-answer : goal.invariant-loop-answer
invariant-loop-answer l = record {
  numbers : l.many ≡ length (filter is_number (map answered (take l.answer-index l.answers)));
  few : l.many ≤ l.answer-index;
}
