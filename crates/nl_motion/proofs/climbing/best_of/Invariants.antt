use Rattle.std.proofs.Common.{◌≡◌, ◌≤◌, length, map, take}
use Rattle.std.specs.List.{filter}
use Rattle.nl_motion.specs.Climbing.{patch_number, is_best}
use Rattle.nl_motion.proofs.climbing.best_of.Given as goal

abbrev pub invariant-loop-index : goal.invariant-loop-index
invariant-loop-index g l =
    (length l.best ≤ l.index)
    × (l.best
    ≡ filter (λ patch. is_best l.up (map (patch_number (g.S.Store.world l.store) l.slot) l.patches) (patch_number (g.S.Store.world l.store) l.slot patch))
    (take l.index l.patches))
