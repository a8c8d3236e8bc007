use Rattle.std.proofs.Common.{◌≡◌, length, map, take}
use Rattle.nl_motion.specs.Climbing.{patch_number}
use Rattle.nl_motion.proofs.climbing.numbers_on.Given as goal

abbrev pub invariant-loop-index : goal.invariant-loop-index
invariant-loop-index g l =
    (length l.numbers ≡ 8) × (take l.index l.numbers ≡ map (patch_number (g.S.Store.world l.store) l.slot) (take l.index l.patches))
