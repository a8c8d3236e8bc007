use Rattle.std.proofs.Common.{◌≡◌, ◌++◌, drop, map, filter}
use Rattle.nl_experiment_fields.specs.Keys.{is_known, names_of, row_seen}
use Rattle.nl_experiment_fields.proofs.keys.names_among.Given as goal

-- the names so far, with the keys that are left, are all
abbrev pub invariant-rows : goal.invariant-rows
invariant-rows l =
    map (λ name. name.now) l.names.items ++ names_of (filter (is_known l.format) (map row_seen (drop l.row-index l.rows)))
    ≡ names_of (filter (is_known l.format) (map row_seen l.rows))
