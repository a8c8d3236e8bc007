use Rattle.std.proofs.Common.{◌≡◌, ℕ, ◌<◌, Some, None, ap, ◌∙◌, inr, refl, subst, map, sym, List, ℤ}
use Rattle.std.specs.Int.{w64}
use Rattle.std.proofs.lemmas.Int.{to_z-of_z}
use Rattle.nl_fixed.specs.Numbers.{number_at}
use Rattle.nl_grid.specs.Geometry.{patches_of, all_patches}
use Rattle.nl_motion.specs.Diffusion.{count_after, are_in_range, one_share, parts_of}
use Rattle.nl_motion.proofs.Fields.{mapped_more, range_more, range_broken}
use Rattle.nl_motion.proofs.diffusion.diffused.Goals as goal

pub returns-in-None-clause-refused : goal.returns-in-None-clause-refused
returns-in-None-clause-refused c =
    let count : List ℤ → ℕ → ℤ = λ shares. count_after c.args.four c.args.shape.now c.args.field.now shares in
    let none = subst (λ xs. None ≡ number_at (count xs c.loop-patch.patch)) c.as_slice.ensures.value c.in-None.ensures in
    let below = subst (λ n. c.loop-patch.patch < n) c.patches-patch-end.ensures.count c.loop-patch-test.true in
    let broken = range_broken (count c.in_ok-shares.shares.items) (patches_of c.args.shape.now) c.loop-patch.patch below none in
    let shares = c.in_ok-shares.ensures ∙ ap (λ part. map (one_share (parts_of c.args.four) part) c.args.field.now) (to_z-of_z w64 c.args.part c.ranges.part) in
    inr (refl, sym (ap (λ xs. are_in_range (map (count xs) (all_patches c.args.shape.now))) shares) ∙ broken)

pub loop-patch-preserved : goal.loop-patch-preserved
loop-patch-preserved c =
    let count : List ℤ → ℕ → ℤ = λ shares. count_after c.args.four c.args.shape.now c.args.field.now shares in
    let found = subst (λ xs. Some c.in-Some.count ≡ number_at (count xs c.loop-patch.patch)) c.as_slice.ensures.value c.in-Some.ensures in (
      mapped_more (count c.in_ok-shares.shares.items) c.loop-patch.patch _ _ c.in-Some.count found c.in_ok-push-in-Some.ensures.items c.loop-patch.invariant.0,
      range_more (count c.in_ok-shares.shares.items) c.loop-patch.patch c.in-Some.count found c.loop-patch.invariant.1,
    )
