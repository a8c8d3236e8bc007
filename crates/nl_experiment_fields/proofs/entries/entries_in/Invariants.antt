use Rattle.std.proofs.Common.{◌≡◌, ◌+◌, [], length}
use Rattle.std.specs.Prelude.{IsTrue}
use Rattle.toml.specs.View.{items_view}
use Rattle.nl_experiment_sweep.specs.Varied.{AllHaveValues}
use Rattle.nl_experiment_fields.specs.Entries.{entries_from}
use Rattle.nl_experiment_fields.specs.inner.Tables.{are_tables, tables_of}
use Rattle.nl_experiment_fields.proofs.Walks.{behind}
use Rattle.nl_experiment_fields.proofs.entries.entries_in.Given as goal

-- the entries so far, with those that are left, are all
abbrev pub invariant-entries : goal.invariant-entries
invariant-entries l = record {
  tables : IsTrue (are_tables (items_view l.left));
  counted : l.number + length l.left ≡ length l.fn.items;
  read : behind l.varies (entries_from (l.number + 1) l.known (tables_of (items_view l.left))) ≡ entries_from 1 [] (tables_of (items_view l.fn.items));
  values : AllHaveValues l.varies;
}

abbrev pub decreases-entries : goal.decreases-entries
decreases-entries l = length l.left
