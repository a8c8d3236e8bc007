use Rattle.std.proofs.Common.{◌≡◌, ◌<◌, ◌++◌, ◌∷◌, [], ap, sym, ◌∙◌, inr, refl, subst, arith}
use Rattle.std.specs.Int.{w64}
use Rattle.std.proofs.lemmas.Int.{to_z-of_z}
use Rattle.nl_grid.specs.Geometry.{patches_of}
use Rattle.nl_motion.specs.Climbing.{patch_number}
use Rattle.nl_motion.proofs.Fields.{counts, all_there, counts_more, all_more, not_all}
use Rattle.nl_motion.proofs.diffusion.field_of.Goals as goal

pub returns-in-None-clause-refused : goal.returns-in-None-clause-refused
returns-in-None-clause-refused g c =
    let number = patch_number (g.S.Store.world c.args.store.now) c.args.slot in
    let many = c.patches-patch-end.ensures.count ∙ ap patches_of c.shape.ensures.value in
    inr (refl, not_all number _ c.loop-patch.patch (subst (λ n. c.loop-patch.patch < n) many c.loop-patch-test.true) c.in-None.ensures)

pub loop-patch-preserved : goal.loop-patch-preserved
loop-patch-preserved g c =
    let number = patch_number (g.S.Store.world c.args.store.now) c.args.slot in
    let pushed = c.in_ok-push-in-Some.ensures.items ∙ ap (λ z. c.loop-patch.field.items ++ z ∷ []) (to_z-of_z w64 _ (record { sfits = c.millionths.type_inv }) ∙ c.millionths.ensures.value) in (
      counts_more number c.loop-patch.patch c.in-Some.number _ _ c.in-Some.ensures pushed c.loop-patch.invariant.0,
      all_more number c.loop-patch.patch c.in-Some.number c.in-Some.ensures c.loop-patch.invariant.1,
    )

pub returns-clause-field : goal.returns-clause-field
returns-clause-field g c =
    let number = patch_number (g.S.Store.world c.args.store.now) c.args.slot in
    let whole : c.loop-patch.patch ≡ c.patches-patch-end.result = omega arith in
    c.loop-patch.invariant.0 ∙ ap (counts number) (whole ∙ c.patches-patch-end.ensures.count ∙ ap patches_of c.shape.ensures.value)

pub returns-clause-numbers : goal.returns-clause-numbers
returns-clause-numbers g c =
    let number = patch_number (g.S.Store.world c.args.store.now) c.args.slot in
    let whole : c.loop-patch.patch ≡ c.patches-patch-end.result = omega arith in
    sym (ap (all_there number) (whole ∙ c.patches-patch-end.ensures.count ∙ ap patches_of c.shape.ensures.value)) ∙ c.loop-patch.invariant.1
