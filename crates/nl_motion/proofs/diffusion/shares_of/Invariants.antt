use Rattle.std.proofs.Common.{◌≡◌, map, take}
use Rattle.nl_motion.specs.Diffusion.{parts_of, one_share}
use Rattle.nl_motion.proofs.diffusion.shares_of.Given as goal

abbrev pub invariant-loop-count : goal.invariant-loop-count
invariant-loop-count l = l.shares.items ≡ map (one_share (parts_of l.four) l.part) (take l.count-index l.field)
