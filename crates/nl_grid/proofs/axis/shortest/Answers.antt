use Rattle.std.proofs.Common.{arith}
use Rattle.std.proofs.lemmas.Int.{ints}
use Rattle.nl_grid.proofs.WayLemmas.{way_down, way_up, way_plain}
use Rattle.nl_grid.proofs.axis.shortest.Goals as goal

pub returns-then-length-plain-clause-way : goal.returns-then-length-plain-clause-way
returns-then-length-plain-clause-way c = way_down c.args.plain c.args.length _ c.requires.some (omega (arith, ints)) (omega (arith, ints))

pub returns-then-plain-length-clause-way : goal.returns-then-plain-length-clause-way
returns-then-plain-length-clause-way c = way_up c.args.plain c.args.length _ c.requires.some (omega (arith, ints)) (omega (arith, ints))

pub returns-clause-way : goal.returns-clause-way
returns-clause-way c = way_plain c.args.plain c.args.length _ (omega (arith, ints)) (omega (arith, ints)) (omega (arith, ints))
