use Rattle.std.proofs.Common.{◌≡◌, take}
use Rattle.nl_parse_reading.proofs.known_names.KnownNames.copied.Given as goal

abbrev pub invariant-names : goal.invariant-names
invariant-names l = l.names ≡ take l.name-index l.self
