use Rattle.std.proofs.Common.{◌≡◌, ◌*◌, ◌^◌, ◌≤◌, map, take, unsigned_abs}
use Rattle.nl_motion.specs.Diffusion.{total, count_at}
use Rattle.nl_motion.proofs.diffusion.got.Given as goal

abbrev pub invariant-loop-other : goal.invariant-loop-other
invariant-loop-other l = record {
  value : l.sum ≡ total (map (count_at l.shares) (take l.other-index l.neighbors));
  small : unsigned_abs l.sum ≤ l.other-index * 2 ^ 63;
}
