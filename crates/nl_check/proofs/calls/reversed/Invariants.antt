use Rattle.std.proofs.Common.{◌≡◌, length, drop}
use Rattle.nl_check.specs.inner.Calls.{reversed, nobody}
use Rattle.nl_check.proofs.calls.reversed.Given as goal

abbrev pub invariant-loop-call : goal.invariant-loop-call
invariant-loop-call l = record {
  many : length l.callers.items ≡ l.fn.count;
  rest : reversed l.callers.items (drop l.call-index l.calls) ≡ reversed (nobody l.fn.count) l.calls;
}
