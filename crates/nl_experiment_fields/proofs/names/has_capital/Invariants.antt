use Rattle.std.proofs.Common.{◌≡◌, drop}
use Rattle.std.specs.Char.{is_ascii_uppercase}
use Rattle.std.specs.List.{list_any}
use Rattle.nl_experiment_fields.proofs.names.has_capital.Given as goal

-- no byte so far is a capital
abbrev pub invariant-bytes : goal.invariant-bytes
invariant-bytes l = list_any is_ascii_uppercase (drop l.byte-index l.name) ≡ list_any is_ascii_uppercase l.name
