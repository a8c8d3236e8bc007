use Rattle.std.proofs.Common.{◌≡◌, map, true}
use Rattle.std.specs.List.{range_with_len}
use Rattle.nl_motion.specs.Diffusion.{are_in_range, count_after}
use Rattle.nl_motion.proofs.diffusion.diffused.Given as goal

abbrev pub invariant-loop-patch : goal.invariant-loop-patch
invariant-loop-patch l =
    (l.counts.items ≡ map (count_after l.four l.shape l.field l.shares.items) (range_with_len 0 l.patch))
    × (are_in_range (map (count_after l.four l.shape l.field l.shares.items) (range_with_len 0 l.patch)) ≡ true)
