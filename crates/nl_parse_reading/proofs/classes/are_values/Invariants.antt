use Rattle.std.proofs.Common.{◌≡◌, length}
use Rattle.nl_parse_reading.specs.inner.Counts.{are_values}
use Rattle.nl_parse_reading.proofs.classes.are_values.Given as goal

abbrev pub invariant-listed : goal.invariant-listed
invariant-listed l = are_values l.rest ≡ are_values l.listed

abbrev pub decreases-listed : goal.decreases-listed
decreases-listed l = length l.rest
