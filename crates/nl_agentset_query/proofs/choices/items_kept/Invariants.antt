use Rattle.std.proofs.Common.{◌≡◌, map, take}
use Rattle.nl_value.specs.Views.{plain}
use Rattle.nl_agentset_query.specs.Choices.{kept_from}
use Rattle.nl_agentset_query.proofs.choices.items_kept.Given as goal

abbrev pub invariant-loop-at : goal.invariant-loop-at
invariant-loop-at l = l.kept ≡ kept_from 0 l.places (take l.at (map plain l.values))
