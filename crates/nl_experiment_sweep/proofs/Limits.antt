-- The bounds of a world that is one lie near 0.
use Rattle.std.proofs.Common.{pos, neg_ℤ, ◌≤ℤ◌, arith}
use Rattle.std.proofs.lemmas.Int.{ints}
use Rattle.nl_grid.specs.Geometry.{IsAxis}
use Rattle.nl_grid.specs.declared.axis.Axis.{Axis}

pub record AreNear (axis : Axis) : Type 0 where
  pub least_from : neg_ℤ (pos 1000) ≤ℤ axis.least
  pub least_to : axis.least ≤ℤ pos 1000
  pub greatest_from : neg_ℤ (pos 1000) ≤ℤ axis.greatest
  pub greatest_to : axis.greatest ≤ℤ pos 1000

pub are_near : (axis : Axis) → IsAxis axis → AreNear axis
are_near axis is = record {
  least_from = omega (arith, ints, is.low, is.high, is.few);
  least_to = omega (arith, ints, is.low);
  greatest_from = omega (arith, ints, is.high);
  greatest_to = omega (arith, ints, is.low, is.high, is.few);
}
