use Rattle.std.proofs.Common.{◌≡◌, ℕ, ◌<◌, Bool, true, false, Option, sym, subst}
use Rattle.std.specs.Prelude.{IfSome}
use Rattle.std.specs.Bool.{then_some}
use Rattle.std.specs.List.{Contains}
use Rattle.nl_grid.specs.Geometry.{patches_of}
use Rattle.nl_motion.proofs.climbing.destination.Goals as goal

below_if : (b : Bool) (to bound : ℕ) (end : Option ℕ) → end ≡ then_some b to → to < bound → IfSome end (λ n. n < bound)
below_if true to bound end is below = subst (λ o. IfSome o (λ n. n < bound)) (sym is) below
below_if false to bound end is below = subst (λ o. IfSome o (λ n. n < bound)) (sym is) tt

pub best_of-best-requires : goal.best_of-best-requires
best_of-best-requires g c =
    λ patch h. subst (λ plane. patch < patches_of plane) c.shape-shape.ensures.value (c.around-ring.ensures.world patch h)

pub number_of-there-requires : goal.number_of-there-requires
number_of-there-requires g c =
    c.best_of-best.ensures.world _ (subst (λ xs. Contains xs c.in_ok-to.to) c.as_slice.ensures.value c.in_ok-to.ensures.member)

pub returns-clause-below : goal.returns-clause-below
returns-clause-below g c =
    below_if c.surpasses.result c.in_ok-to.to _ c.then_some.result c.then_some.ensures
    (c.best_of-best.ensures.world _ (subst (λ xs. Contains xs c.in_ok-to.to) c.as_slice.ensures.value c.in_ok-to.ensures.member))
