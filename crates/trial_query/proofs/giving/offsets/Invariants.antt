use Rattle.trial_query.specs.Giving.{FitAlways}
use Rattle.trial_query.proofs.giving.offsets.Given as goal

abbrev pub invariant-loop-pair : goal.invariant-loop-pair
invariant-loop-pair l = FitAlways l.items
