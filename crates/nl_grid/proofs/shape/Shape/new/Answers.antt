use Rattle.std.proofs.Common.{refl, to_z, of_z}
use Rattle.std.specs.Int.{w32}
use Rattle.std.proofs.lemmas.Int.{to_z-of_z}
use Rattle.nl_grid.proofs.ShapeLemmas.{plane_fits}
use Rattle.nl_grid.proofs.shape.Shape.new.Goals as goal

pub returns-then-side-le-MOST_PATCHES-clause-within : goal.returns-then-side-le-MOST_PATCHES-clause-within
returns-then-side-le-MOST_PATCHES-clause-within c =
    let x_fits = c.is_within_limits.ensures.0 c.if-not-is_within_limits.false in
    let y_fits = c.is_within_limits-else-not-is_within_limits.ensures.0 c.if-not-is_within_limits-2.false in (
      λ _. plane_fits c.args.min_x c.args.max_x c.args.min_y c.args.max_y
          (to_z w32 (of_z w32 c.args.min_x)) (to_z w32 (of_z w32 c.args.max_x)) (to_z w32 (of_z w32 c.args.min_y)) (to_z w32 (of_z w32 c.args.max_y))
          c.args.wrap_x c.args.wrap_y c.side.result c.side-2.result
          (to_z-of_z w32 c.args.min_x c.ranges.min_x) (to_z-of_z w32 c.args.max_x c.ranges.max_x) (to_z-of_z w32 c.args.min_y c.ranges.min_y) (to_z-of_z w32 c.args.max_y c.ranges.max_y)
          x_fits y_fits c.side.ensures c.side-2.ensures c.if-side-le-MOST_PATCHES.true,
      λ _. refl,
    )
