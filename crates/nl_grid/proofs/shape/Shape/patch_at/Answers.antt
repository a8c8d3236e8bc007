use Rattle.std.proofs.Common.{◌≡◌, pos, ◌*ℤ◌, to_z, of_z, sym, arith}
use Rattle.std.specs.Int.{w64}
use Rattle.std.proofs.lemmas.Int.{ints}
use Rattle.nl_fixed.specs.Numbers.{one}
use Rattle.nl_grid.proofs.ShapeLemmas.{number_is, by_coordinates}
use Rattle.nl_grid.proofs.shape.Shape.patch_at.Goals as goal

pub returns : goal.returns
returns c =
    let x : c.in_ok-x.x ≡ c.args.pxcor *ℤ pos one = omega (arith, ints, number_is (to_z w64 (of_z w64 c.from.result) *ℤ pos one) c.in_ok-x.x (sym c.in_ok-x.ensures), c.from.ensures) in
    let y : c.in_ok-y.y ≡ c.args.pycor *ℤ pos one = omega (arith, ints, number_is (to_z w64 (of_z w64 c.from-2.result) *ℤ pos one) c.in_ok-y.y (sym c.in_ok-y.ensures), c.from-2.ensures) in
    by_coordinates c.args.self.now c.args.pxcor c.args.pycor c.in_ok-x.x c.in_ok-y.y c.in_ok-at.at c.patch_of.result x y (sym c.in_ok-at.ensures.value) c.patch_of.ensures.patch
