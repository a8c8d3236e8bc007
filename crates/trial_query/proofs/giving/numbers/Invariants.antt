use Rattle.trial_query.specs.Giving.{FitAlways}
use Rattle.trial_query.proofs.giving.numbers.Given as goal

abbrev pub invariant-loop-count : goal.invariant-loop-count
invariant-loop-count l = FitAlways l.items
