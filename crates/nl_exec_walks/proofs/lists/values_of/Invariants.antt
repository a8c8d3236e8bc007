-- The values so far.
use Rattle.std.proofs.Common.{◌≡◌, map}
use Rattle.nl_value.specs.Views.{plain}
use Rattle.nl_exec_meaning.specs.inner.Seen.{answered}
use Rattle.nl_exec_walks.proofs.lists.values_of.Given as goal

abbrev pub invariant-loop-answer : goal.invariant-loop-answer
invariant-loop-answer l = map plain l.values.items ≡ map (λ a. a.value) (map answered l.yielded)
