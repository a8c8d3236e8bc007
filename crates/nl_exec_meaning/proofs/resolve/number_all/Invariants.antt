-- The names so far have these numbers.
use Rattle.std.proofs.Common.{take}
use Rattle.nl_exec_meaning.specs.inner.Arena.{IsInputs, Grows, AreNames}
use Rattle.nl_exec_meaning.proofs.resolve.number_all.Given as goal

abbrev pub invariant-loop-name : goal.invariant-loop-name
invariant-loop-name l = record {
  numbers : IsInputs l.names l.ids (take l.name-index l.list);
  grows : Grows l.fn.names l.names;
  apart : AreNames l.fn.names → AreNames l.names;
}
