use Rattle.std.proofs.Common.{◌≡◌, ◌<◌, ◌≤◌, ◌^◌, ◌++◌}
use Rattle.nl_fixed.specs.Spelling.{padded_digits, without_trailing_zeros}
use Rattle.nl_fixed.proofs.spelling.push_fraction.Given as goal

abbrev pub invariant-loop-rest : goal.invariant-loop-rest
invariant-loop-rest l = record {
  few : l.places ≤ 6;
  below : l.rest < 10 ^ l.places;
  written : l.text.items ++ without_trailing_zeros (padded_digits l.places l.rest) ≡ l.initial.text.items ++ without_trailing_zeros (padded_digits 6 l.millionths);
}

abbrev pub decreases-loop-rest : goal.decreases-loop-rest
decreases-loop-rest l = l.places
