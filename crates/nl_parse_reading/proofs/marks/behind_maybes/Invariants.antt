use Rattle.std.proofs.Common.{◌≡◌, length}
use Rattle.nl_parse_reading.specs.inner.View.{behind_maybes}
use Rattle.nl_parse_reading.proofs.marks.behind_maybes.Given as goal

abbrev pub invariant-maybes : goal.invariant-maybes
invariant-maybes l = behind_maybes l.rest ≡ behind_maybes l.listed

abbrev pub decreases-maybes : goal.decreases-maybes
decreases-maybes l = length l.rest
