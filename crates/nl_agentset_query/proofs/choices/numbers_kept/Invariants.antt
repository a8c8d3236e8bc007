use Rattle.std.proofs.Common.{◌≡◌, take}
use Rattle.nl_agentset_query.specs.Choices.{kept_from}
use Rattle.nl_agentset_query.proofs.choices.numbers_kept.Given as goal

abbrev pub invariant-loop-at : goal.invariant-loop-at
invariant-loop-at l = l.kept.items ≡ kept_from 0 l.places (take l.at l.numbers)
