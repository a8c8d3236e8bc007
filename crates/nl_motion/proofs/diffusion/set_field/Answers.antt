use Rattle.std.proofs.Common.{◌<◌, length, pos, ap, ◌∙◌, subst, sym}
use Rattle.std.proofs.lemmas.List.{get_or_read}
use Rattle.nl_grid.specs.Geometry.{patches_of}
use Rattle.nl_motion.proofs.Kept.{set_at_turn, owned_later}
use Rattle.nl_motion.proofs.diffusion.set_field.Goals as goal

pub set_number-requires-clause-owned : goal.set_number-requires-clause-owned
set_number-requires-clause-owned g c =
    let many = c.patches-patch-end.ensures.count ∙ ap patches_of c.shape.ensures.value in
    owned_later c.args.slot c.args.counts.now (g.S.Store.world c.args.store.now) _ c.loop-patch.patch c.requires.numbers
    (subst (λ n. c.loop-patch.patch < n) many c.loop-patch-test.true) c.loop-patch.invariant

pub loop-patch-preserved : goal.loop-patch-preserved
loop-patch-preserved g c =
    let many = c.patches-patch-end.ensures.count ∙ ap patches_of c.shape.ensures.value ∙ sym c.requires.many in
    let within : c.loop-patch.patch < length c.args.counts.now = subst (λ n. c.loop-patch.patch < n) many c.loop-patch-test.true in
    let read = get_or_read c.args.counts.now c.loop-patch.patch c.index-counts-patch.result within c.index-counts-patch.is (pos 0) in
    set_at_turn c.args.slot c.args.counts.now (g.S.Store.world c.args.store.now) (g.S.Store.world c.loop-patch.store) (g.S.Store.world c.set_number.new.store)
    c.loop-patch.patch c.index-counts-patch.result within read c.loop-patch.invariant c.set_number.ensures
