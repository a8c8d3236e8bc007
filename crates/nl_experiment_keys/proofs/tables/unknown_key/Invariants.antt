use Rattle.std.proofs.Common.{map}
use Rattle.nl_experiment_keys.specs.Reading.{keys_in, least_unknown}
use Rattle.toml.specs.View.{table_view}
use Rattle.nl_experiment_keys.proofs.Keys.{Left}
use Rattle.nl_experiment_keys.proofs.tables.unknown_key.Given as goal

-- no key so far is unknown
abbrev pub invariant-keys : goal.invariant-keys
invariant-keys l =
    let known = map (λ name. name.now) l.known in
    (goal.iterator-keys).can_next l.key-iterator × (goal.iterator-keys).is_finite l.key-iterator × Left known l.key-iterator (least_unknown known (keys_in (table_view l.table)))
