-- The inputs so far have these numbers.
use Rattle.std.proofs.Common.{take}
use Rattle.nl_exec_meaning.specs.inner.Arena.{AreInputs, Grows, AreNames}
use Rattle.nl_exec_meaning.proofs.resolve.number_inputs.Given as goal

abbrev pub invariant-loop-procedure : goal.invariant-loop-procedure
invariant-loop-procedure l = record {
  numbers : AreInputs l.names l.inputs.items (take l.procedure-index l.procedures);
  grows : Grows l.fn.names l.names;
  apart : AreNames l.fn.names → AreNames l.names;
}
