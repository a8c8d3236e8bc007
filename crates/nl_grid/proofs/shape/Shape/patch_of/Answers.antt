use Rattle.std.proofs.Common.{◌+◌, ◌-◌, ◌*◌, ◌<◌, ◌≡◌, subst, refl}
use Rattle.nl_grid.specs.Geometry.{Plane, patches_of, patch_at}
use Rattle.nl_grid.proofs.ShapeLemmas.{patch_is, patch_below}
use Rattle.nl_grid.proofs.shape.Shape.patch_of.Goals as goal

pub returns-clause-patch : goal.returns-clause-patch
returns-clause-patch c =
    let patch = (c.side.result - 1 - c.index.result) * c.side-2.result + c.index-2.result in
    let P : Plane → Type 0 = λ plane. patch ≡ patch_at plane c.args.at in
    subst P c.self.view_is (patch_is (record { x = c.self.inside.x; y = c.self.inside.y }) c.args.at c.index-2.result c.index.result patch c.self.invariant c.index-2.ensures.index c.index.ensures.index c.index.ensures.below (rw (c.side.ensures, c.side-2.ensures) refl))

pub returns-clause-below : goal.returns-clause-below
returns-clause-below c =
    let patch = (c.side.result - 1 - c.index.result) * c.side-2.result + c.index-2.result in
    let P : Plane → Type 0 = λ plane. patch < patches_of plane in
    subst P c.self.view_is (patch_below (record { x = c.self.inside.x; y = c.self.inside.y }) c.index-2.result c.index.result patch c.index-2.ensures.below c.index.ensures.below (rw (c.side.ensures, c.side-2.ensures) refl))
