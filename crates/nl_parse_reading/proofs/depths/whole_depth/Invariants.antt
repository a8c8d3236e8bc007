use Rattle.std.proofs.Common.{◌≡◌, ◌≤◌, ℕ, List, [], take, length}
use Rattle.nl_parse_grammar.specs.Depth.{whole_depth}
use Rattle.nl_parse_reading.specs.inner.Limit.{capped}
use Rattle.nl_parse_reading.specs.inner.Reading.{frames_onto}
use Rattle.nl_parse_reading.proofs.depths.whole_depth.Given as goal

abbrev pub invariant-frames : goal.invariant-frames
invariant-frames l = record {
  within : l.left ≤ length l.frames;
  same : (e : List (List ℕ)) → capped (whole_depth l.literal l.depth (frames_onto (take l.left l.frames) e [])) ≡ capped (whole_depth l.initial.literal l.initial.depth (frames_onto l.frames e []));
}

abbrev pub decreases-frames : goal.decreases-frames
decreases-frames l = l.left
