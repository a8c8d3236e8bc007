use Rattle.std.proofs.Common.{◌≤◌, length}
use Rattle.nl_parse_reading.proofs.Pending.{Left}
use Rattle.nl_parse_reading.proofs.known.makes_next.Given as goal

abbrev pub invariant-frames : goal.invariant-frames
invariant-frames l = record {
  within : l.left ≤ length l.frames;
  same : Left l.frames l.left;
}

abbrev pub decreases-frames : goal.decreases-frames
decreases-frames l = l.left
