use Rattle.std.proofs.Common.{◌-ℤ◌, ◌<ℤ◌, to_z, of_z, arith}
use Rattle.std.specs.Int.{w64}
use Rattle.std.proofs.lemmas.Int.{ints}
use Rattle.nl_grid.proofs.AxisLemmas.{end_is, lt_true, true_lt}
use Rattle.nl_grid.proofs.axis.Axis.is_inside.Goals as goal

pub returns-then-past-ge0 : goal.returns-then-past-ge0
returns-then-past-ge0 c =
    let past = to_z w64 (of_z w64 (to_z w64 (of_z w64 c.millionths.result) -ℤ to_z w64 (of_z w64 c.begin.result))) in
    let length = to_z w64 (of_z w64 c.length.result) in (
      λ passes. record { from = omega (arith, ints); below = omega (arith, ints, true_lt past length passes, end_is c.args.self c.requires) },
      λ inside. let below : past <ℤ length = omega (arith, ints, inside.from, inside.below, end_is c.args.self c.requires) in lt_true past length below,
    )
