use Rattle.std.proofs.Common.{◌≡◌, []}
use Rattle.toml.specs.View.{members_view, table_view}
use Rattle.nl_experiment_fields.specs.Entries.{settings_in}
use Rattle.nl_experiment_fields.proofs.Walks.{behind}
use Rattle.nl_experiment_fields.proofs.globals.settings_in.Given as goal

-- the settings so far, with those that are left, are all
abbrev pub invariant-keys : goal.invariant-keys
invariant-keys l = behind l.settings (settings_in l.known (members_view l.key-iterator)) ≡ settings_in [] (table_view l.table)
