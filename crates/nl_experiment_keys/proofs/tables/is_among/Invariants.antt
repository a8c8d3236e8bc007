use Rattle.std.proofs.Common.{◌≡◌, drop, map}
use Rattle.nl_experiment_keys.specs.Reading.{is_among}
use Rattle.nl_experiment_keys.proofs.tables.is_among.Given as goal

-- no name so far is the key
abbrev pub invariant-names : goal.invariant-names
invariant-names l = is_among l.key (map (λ name. name.now) (drop l.name-index l.known)) ≡ is_among l.key (map (λ name. name.now) l.known)
