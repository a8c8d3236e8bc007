use Rattle.std.proofs.Common.{◌≡◌, length}
use Rattle.toml.specs.View.{items_view}
use Rattle.nl_experiment_fields.specs.inner.Tables.{are_tables}
use Rattle.nl_experiment_fields.proofs.entries.are_tables.Given as goal

-- each item so far is a table
abbrev pub invariant-items : goal.invariant-items
invariant-items l = are_tables (items_view l.left) ≡ are_tables (items_view l.fn.items)

abbrev pub decreases-items : goal.decreases-items
decreases-items l = length l.left
