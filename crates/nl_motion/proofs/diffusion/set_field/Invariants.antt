use Rattle.std.proofs.Common.{◌≡◌, take}
use Rattle.nl_motion.specs.Diffusion.{field_set}
use Rattle.nl_motion.proofs.diffusion.set_field.Given as goal

abbrev pub invariant-loop-patch : goal.invariant-loop-patch
invariant-loop-patch g l = g.S.Store.world l.store ≡ field_set l.slot (take l.patch l.counts) (g.S.Store.world l.fn.store)
