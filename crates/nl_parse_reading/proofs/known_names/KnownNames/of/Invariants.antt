use Rattle.std.proofs.Common.{◌≡◌, take}
use Rattle.nl_parse_reading.proofs.known_names.KnownNames.of.Given as goal

abbrev pub invariant-names : goal.invariant-names
invariant-names l = l.known ≡ take l.name-index l.names
