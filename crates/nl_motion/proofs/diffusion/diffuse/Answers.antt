use Rattle.std.proofs.Common.{◌≡◌, true, false, length, ◌⊎◌, inr, sym, ap, ◌∙◌, subst, to_z, of_z}
use Rattle.std.specs.Int.{w64}
use Rattle.std.proofs.lemmas.Int.{to_z-of_z}
use Rattle.std.proofs.lemmas.Result.{err_from_is_err_and}
use Rattle.std.proofs.lemmas.List.FromFn.{length-map-range_with_len}
use Rattle.nl_grid.specs.Geometry.{Plane, patches_of}
use Rattle.nl_motion.specs.Diffusion.{is_part, are_in_range, field_of, diffused_field, total}
use Rattle.nl_motion.specs.declared.faults.MoveFault.TheVariants as fault
use Rattle.nl_motion.proofs.Causes.{no_part, no_fault, cause_of_field, cause_of_counts}
use Rattle.nl_motion.proofs.Conserved.{total_stays}
use Rattle.nl_motion.proofs.Kept.{field_is_set}
use Rattle.nl_motion.proofs.diffusion.diffuse.Goals as goal

pub returns-then-not-is_part-clause-cause : goal.returns-then-not-is_part-clause-cause
returns-then-not-is_part-clause-cause g c =
    let same = to_z-of_z w64 c.millionths-part.result (record { sfits = c.millionths-part.type_inv }) ∙ c.millionths-part.ensures.value in
    inr (no_part c.args.slot c.args.share c.args.four (g.S.Store.world c.args.store.now) (sym (ap is_part same) ∙ sym c.if-not-is_part.ensures))

pub returns-in_err-field-clause-cause : goal.returns-in_err-field-clause-cause
returns-in_err-field-clause-cause g c =
    let p = err_from_is_err_and c.from_residual.result c.from_residual.ensures.1 in
    let same = to_z-of_z w64 c.millionths-part.result (record { sfits = c.millionths-part.type_inv }) ∙ c.millionths-part.ensures.value in
    let part : is_part c.args.share ≡ true = sym (ap is_part same) ∙ sym c.if-not-is_part.ensures in
    rw (p.1, p.2) (cause_of_field c.args.slot c.args.share c.args.four (g.S.Store.world c.args.store.now) _ part c.in_err-field.ensures.refused)

pub diffused-requires-clause-field : goal.diffused-requires-clause-field
diffused-requires-clause-field g c =
    ap length (c.as_slice.ensures.value ∙ c.in_ok-field.ensures.field) ∙ length-map-range_with_len _ 0 _ ∙ sym (ap patches_of c.shape-shape.ensures.value)

pub returns-in_err-counts-clause-cause : goal.returns-in_err-counts-clause-cause
returns-in_err-counts-clause-cause g c =
    let p = err_from_is_err_and c.from_residual-in_err-counts.result c.from_residual-in_err-counts.ensures.1 in
    let same = to_z-of_z w64 c.millionths-part.result (record { sfits = c.millionths-part.type_inv }) ∙ c.millionths-part.ensures.value in
    let part : is_part c.args.share ≡ true = sym (ap is_part same) ∙ sym c.if-not-is_part.ensures in
    let same_field =
    ap (λ (s : Plane). diffused_field c.args.four s (to_z w64 (of_z w64 c.millionths-part.result)) c.as_slice.result.now) c.shape-shape.ensures.value
    ∙ ap (λ p. diffused_field c.args.four (g.S.Store.world c.args.store.now).rest.shape p c.as_slice.result.now) same
    ∙ ap (diffused_field c.args.four (g.S.Store.world c.args.store.now).rest.shape c.args.share) (c.as_slice.ensures.value ∙ c.in_ok-field.ensures.field) in
    let refused = subst (λ xs. (c.in_err-counts.field-0.0 ≡ fault.NoMemory) ⊎ ((c.in_err-counts.field-0.0 ≡ fault.Overflow) × (are_in_range xs ≡ false))) same_field
    c.in_err-counts.ensures.refused in
    rw (p.1, p.2) (cause_of_counts c.args.slot c.args.share c.args.four (g.S.Store.world c.args.store.now) _ part c.in_ok-field.ensures.numbers refused)

pub set_field-requires-clause-many : goal.set_field-requires-clause-many
set_field-requires-clause-many g c =
    ap length (c.as_slice-2.ensures.value ∙ c.in_ok-counts.ensures.counts) ∙ length-map-range_with_len _ 0 _ ∙ ap patches_of c.shape-shape.ensures.value

pub returns-clause-cause : goal.returns-clause-cause
returns-clause-cause g c =
    let same = to_z-of_z w64 c.millionths-part.result (record { sfits = c.millionths-part.type_inv }) ∙ c.millionths-part.ensures.value in
    let part : is_part c.args.share ≡ true = sym (ap is_part same) ∙ sym c.if-not-is_part.ensures in
    let same_field =
    ap (λ (s : Plane). diffused_field c.args.four s (to_z w64 (of_z w64 c.millionths-part.result)) c.as_slice.result.now) c.shape-shape.ensures.value
    ∙ ap (λ p. diffused_field c.args.four (g.S.Store.world c.args.store.now).rest.shape p c.as_slice.result.now) same
    ∙ ap (diffused_field c.args.four (g.S.Store.world c.args.store.now).rest.shape c.args.share) (c.as_slice.ensures.value ∙ c.in_ok-field.ensures.field) in
    no_fault c.args.slot c.args.share c.args.four (g.S.Store.world c.args.store.now) part c.in_ok-field.ensures.numbers
    (sym (ap are_in_range same_field) ∙ c.in_ok-counts.ensures.range)

pub returns-clause-sum : goal.returns-clause-sum
returns-clause-sum g c =
    let w = g.S.Store.world c.args.store.now in
    let same = to_z-of_z w64 c.millionths-part.result (record { sfits = c.millionths-part.type_inv }) ∙ c.millionths-part.ensures.value in
    let same_field =
    ap (λ (s : Plane). diffused_field c.args.four s (to_z w64 (of_z w64 c.millionths-part.result)) c.as_slice.result.now) c.shape-shape.ensures.value
    ∙ ap (λ p. diffused_field c.args.four (g.S.Store.world c.args.store.now).rest.shape p c.as_slice.result.now) same
    ∙ ap (diffused_field c.args.four (g.S.Store.world c.args.store.now).rest.shape c.args.share) (c.as_slice.ensures.value ∙ c.in_ok-field.ensures.field) in
    let many = ap length (c.as_slice-2.ensures.value ∙ c.in_ok-counts.ensures.counts) ∙ length-map-range_with_len _ 0 _ ∙ ap patches_of c.shape-shape.ensures.value in
    ap (λ v. total (field_of c.args.slot v)) c.set_field.ensures
    ∙ ap total (field_is_set c.args.slot c.as_slice-2.result.now w c.in_ok-field.ensures.numbers many)
    ∙ ap total (c.as_slice-2.ensures.value ∙ c.in_ok-counts.ensures.counts ∙ same_field)
    ∙ total_stays c.args.four w.rest.shape c.args.share (field_of c.args.slot w) (length-map-range_with_len _ 0 _)
