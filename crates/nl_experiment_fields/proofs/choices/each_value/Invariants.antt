use Rattle.std.proofs.Common.{◌≡◌, length}
use Rattle.toml.specs.View.{items_view}
use Rattle.nl_experiment_keys.specs.Reading.{each_item}
use Rattle.nl_experiment_fields.specs.Entries.{right_value}
use Rattle.nl_experiment_fields.proofs.Walks.{behind}
use Rattle.nl_experiment_fields.proofs.choices.each_value.Given as goal

-- the literals so far, with those that are left, are all
abbrev pub invariant-items : goal.invariant-items
invariant-items l = behind l.values (each_item (right_value l.name) (items_view l.left)) ≡ each_item (right_value l.name) (items_view l.fn.items)

abbrev pub decreases-items : goal.decreases-items
decreases-items l = length l.left
