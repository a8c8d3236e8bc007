use Rattle.std.proofs.Common.{◌≡◌, length}
use Rattle.toml.specs.View.{items_view}
use Rattle.nl_experiment_fields.specs.Reading.{kinds_in}
use Rattle.nl_experiment_fields.proofs.choices.first_misfit.Given as goal

-- each item so far is of a literal's kind
abbrev pub invariant-items : goal.invariant-items
invariant-items l = kinds_in (items_view l.left) ≡ kinds_in (items_view l.fn.items)

abbrev pub decreases-items : goal.decreases-items
decreases-items l = length l.left
