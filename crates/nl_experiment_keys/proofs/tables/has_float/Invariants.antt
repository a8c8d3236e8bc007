use Rattle.std.proofs.Common.{◌≡◌, length}
use Rattle.toml.specs.View.{items_view}
use Rattle.nl_experiment_keys.specs.Reading.{has_float}
use Rattle.nl_experiment_keys.proofs.tables.has_float.Given as goal

-- no item so far is one
abbrev pub invariant-items : goal.invariant-items
invariant-items l = has_float (items_view l.left) ≡ has_float (items_view l.fn.items)

abbrev pub decreases-items : goal.decreases-items
decreases-items l = length l.left
