-- Those so far.
use Rattle.std.proofs.Common.{◌≡◌, map}
use Rattle.nl_exec_walks.specs.inner.Passes.{paired, placed}
use Rattle.nl_exec_meaning.specs.inner.Seen.{answered}
use Rattle.nl_exec_walks.proofs.orders.paired.Given as goal

abbrev pub invariant-loop-answer : goal.invariant-loop-answer
invariant-loop-answer l = map placed l.all.items ≡ map (paired l.which) (map answered l.yielded)
