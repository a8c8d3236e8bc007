use Rattle.std.proofs.Common.{◌≡◌, map, true}
use Rattle.std.specs.Prelude.{is_some}
use Rattle.std.specs.List.{list_all, range_with_len}
use Rattle.nl_motion.specs.Motion.{or_zero}
use Rattle.nl_motion.specs.Climbing.{patch_number}
use Rattle.nl_motion.proofs.diffusion.field_of.Given as goal

abbrev pub invariant-loop-patch : goal.invariant-loop-patch
invariant-loop-patch g l =
    (l.field.items ≡ map (λ patch. or_zero (patch_number (g.S.Store.world l.store) l.slot patch)) (range_with_len 0 l.patch))
    × (list_all (λ patch. is_some (patch_number (g.S.Store.world l.store) l.slot patch)) (range_with_len 0 l.patch) ≡ true)
