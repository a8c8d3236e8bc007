use Rattle.std.proofs.Common.{◌%◌, ◌/◌, ◌≡◌, pos, ◌-ℤ◌, ◌*ℤ◌, to_z, of_z, ◌∙◌, subst, ap, arith}
use Rattle.std.specs.Int.{w64}
use Rattle.std.proofs.lemmas.Int.{ints}
use Rattle.nl_fixed.specs.Numbers.{one}
use Rattle.nl_grid.specs.declared.point.Point.{Point}
use Rattle.nl_grid.specs.Geometry.{Plane, IsPointOf, column, pxcor_of, pycor_of, center_of}
use Rattle.nl_grid.proofs.AxisLemmas.{center_inside_up, center_inside_down}
use Rattle.nl_grid.proofs.ShapeLemmas.{center_is, center_number, row_within, column_below}
use Rattle.nl_grid.proofs.shape.Shape.center.Goals as goal

pub overflow_mul-pycor : goal.overflow_mul-pycor
overflow_mul-pycor c =
    let row = row_within c.args.self.now c.self.inside.x c.self.inside.y c.args.patch c.side-width.result c.self.view_is c.requires c.side-width.ensures in
    omega (arith, ints, row, c.self.invariant.y.low, c.self.invariant.y.high, c.self.invariant.y.few)

pub number-y-requires : goal.number-y-requires
number-y-requires c =
    let row = row_within c.args.self.now c.self.inside.x c.self.inside.y c.args.patch c.side-width.result c.self.view_is c.requires c.side-width.ensures in
    omega (arith, ints, row, c.self.invariant.y.low, c.self.invariant.y.high, c.self.invariant.y.few)

pub returns-clause-center : goal.returns-clause-center
returns-clause-center c =
    let row = row_within c.args.self.now c.self.inside.x c.self.inside.y c.args.patch c.side-width.result c.self.view_is c.requires c.side-width.ensures in
    let plane : Plane = record { x = c.self.inside.x; y = c.self.inside.y } in
    let same_column = ap (λ w. c.args.patch % w) c.side-width.ensures in
    let same_row = ap (λ w. c.args.patch / w) c.side-width.ensures in
    let left = column_below plane c.args.patch in
    let x : c.number-x.result ≡ pxcor_of plane c.args.patch *ℤ pos one = omega (arith, ints, same_column, left, c.self.invariant.x.low, c.self.invariant.x.high, c.self.invariant.x.few) in
    let down : to_z w64 (of_z w64 (to_z w64 (of_z w64 c.from-3.result) -ℤ to_z w64 (of_z w64 c.from-4.result))) ≡ c.self.inside.y.greatest -ℤ pos (c.args.patch / c.side-width.result) = omega (arith, ints, row, c.self.invariant.y.low, c.self.invariant.y.high, c.self.invariant.y.few) in
    let y_is : c.number-y.result ≡ (c.self.inside.y.greatest -ℤ pos (c.args.patch / c.side-width.result)) *ℤ pos one = center_number c.self.inside.y (to_z w64 (of_z w64 (to_z w64 (of_z w64 c.from-3.result) -ℤ to_z w64 (of_z w64 c.from-4.result)))) c.number-y.result (c.args.patch / c.side-width.result) c.self.invariant.y row c.number-y.ensures down in
    let y : c.number-y.result ≡ pycor_of plane c.args.patch *ℤ pos one = y_is ∙ ap (λ r. (c.self.inside.y.greatest -ℤ pos r) *ℤ pos one) same_row in
    let at : Point = record { x = c.number-x.result; y = c.number-y.result } in
    let P : Plane → Type 0 = λ p. at ≡ center_of p c.args.patch in
    subst P c.self.view_is (center_is plane c.args.patch c.number-x.result c.number-y.result x y)

pub returns-clause-inside : goal.returns-clause-inside
returns-clause-inside c =
    let plane : Plane = record { x = c.self.inside.x; y = c.self.inside.y } in
    let same_column = ap (λ w. c.args.patch % w) c.side-width.ensures in
    let left = column_below plane c.args.patch in
    let x : c.number-x.result ≡ pxcor_of plane c.args.patch *ℤ pos one = omega (arith, ints, same_column, left, c.self.invariant.x.low, c.self.invariant.x.high, c.self.invariant.x.few) in
    let row = row_within c.args.self.now c.self.inside.x c.self.inside.y c.args.patch c.side-width.result c.self.view_is c.requires c.side-width.ensures in
    let down : to_z w64 (of_z w64 (to_z w64 (of_z w64 c.from-3.result) -ℤ to_z w64 (of_z w64 c.from-4.result))) ≡ c.self.inside.y.greatest -ℤ pos (c.args.patch / c.side-width.result) = omega (arith, ints, row, c.self.invariant.y.low, c.self.invariant.y.high, c.self.invariant.y.few) in
    let y_is : c.number-y.result ≡ (c.self.inside.y.greatest -ℤ pos (c.args.patch / c.side-width.result)) *ℤ pos one = center_number c.self.inside.y (to_z w64 (of_z w64 (to_z w64 (of_z w64 c.from-3.result) -ℤ to_z w64 (of_z w64 c.from-4.result)))) c.number-y.result (c.args.patch / c.side-width.result) c.self.invariant.y row c.number-y.ensures down in
    let at : Point = record { x = c.number-x.result; y = c.number-y.result } in
    let P : Plane → Type 0 = λ p. IsPointOf p at in
    subst P c.self.view_is (record {
      x = center_inside_up c.self.inside.x (column plane c.args.patch) c.number-x.result c.self.invariant.x left x;
      y = center_inside_down c.self.inside.y (c.args.patch / c.side-width.result) c.number-y.result c.self.invariant.y row y_is;
    })
