-- The agents so far.
use Rattle.std.proofs.Common.{◌≡◌, map}
use Rattle.nl_value.specs.Views.{plain}
use Rattle.nl_exec_walks.specs.inner.Passes.{placed}
use Rattle.nl_exec_walks.proofs.orders.agents_of.Given as goal

abbrev pub invariant-loop-each : goal.invariant-loop-each
invariant-loop-each l = map plain l.agents.items ≡ map (λ p. p.0) (map placed l.yielded)
