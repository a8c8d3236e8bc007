use Rattle.std.proofs.Common.{◌≡◌}
use Rattle.nl_check.specs.inner.Calls.{nobody}
use Rattle.nl_check.proofs.calls.nobody.Given as goal

abbrev pub invariant-loop : goal.invariant-loop
invariant-loop l = l.callers.items ≡ nobody l.counter
