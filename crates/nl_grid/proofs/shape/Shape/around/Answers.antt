use Rattle.std.proofs.Common.{ℤ, length, ◌≤◌, ◌*◌, to_z, of_z, ◌%◌, ◌/◌, ◌≡◌, ap, subst}
use Rattle.std.specs.Int.{w64}
use Rattle.std.proofs.lemmas.Int.{to_z-of_z}
use Rattle.nl_grid.specs.inner.Bands.{patches_in}
use Rattle.nl_grid.specs.Geometry.{Plane, steps_across, patches_near}
use Rattle.nl_grid.proofs.NearLemmas.{bands_are_near}
use Rattle.nl_grid.proofs.TallyLemmas.{bands_few}
use Rattle.nl_grid.proofs.shape.Shape.around.Goals as goal

pub returns-clause-patches : goal.returns-clause-patches
returns-clause-patches c =
    let plane : Plane = record { x = c.self.inside.x; y = c.self.inside.y } in
    let P : Plane → Type 0 = λ p. patches_in c.band-columns.result c.band-rows.result ≡ patches_near p c.args.reach c.args.patch in
    subst P c.self.view_is
    (bands_are_near plane c.band-columns.result c.band-rows.result c.args.reach (to_z w64 (of_z w64 c.args.reach)) c.args.patch (c.args.patch % c.side-width.result) (c.args.patch / c.side-width.result) (to_z-of_z w64 c.args.reach c.ranges.reach) c.band-columns.ensures.side c.band-rows.ensures.side (ap (λ w. c.args.patch % w) c.side-width.ensures) (ap (λ w. c.args.patch / w) c.side-width.ensures) c.band-columns.ensures.indices c.band-rows.ensures.indices)

pub returns-clause-few : goal.returns-clause-few
returns-clause-few c =
    let P : ℤ → Type 0 = λ z. length (patches_in c.band-columns.result c.band-rows.result) ≤ steps_across z * steps_across z in
    subst P (to_z-of_z w64 c.args.reach c.ranges.reach) (bands_few c.band-columns.result c.band-rows.result (steps_across (to_z w64 (of_z w64 c.args.reach))) c.band-columns.ensures.few c.band-rows.ensures.few)
