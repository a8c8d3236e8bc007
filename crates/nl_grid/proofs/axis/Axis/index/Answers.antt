use Rattle.std.proofs.Common.{◌-ℤ◌, to_z, of_z, arith}
use Rattle.std.specs.Int.{w64}
use Rattle.std.proofs.lemmas.Int.{ints}
use Rattle.nl_grid.proofs.AxisLemmas.{index_of_quotient}
use Rattle.nl_grid.proofs.axis.Axis.index.Goals as goal

pub returns-clause-index : goal.returns-clause-index
returns-clause-index c =
    let past = to_z w64 (of_z w64 (to_z w64 (of_z w64 c.millionths.result) -ℤ to_z w64 (of_z w64 c.begin.result))) in
    index_of_quotient c.args.self c.args.at past c.requires.axis c.requires.inside (omega (arith, ints))
