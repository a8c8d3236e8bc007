-- Values that are there have some depth.
use Rattle.std.proofs.Common.{◌<◌, arith, length}
use Rattle.nl_value.proofs.MeasureLemmas.{deepest_some}
use Rattle.nl_value.proofs.measures.depths_without.Goals as goal

pub returns-then-not-is_empty : goal.returns-then-not-is_empty
returns-then-not-is_empty c =
    let here : 0 < length c.args.values.now = grind (arith, c.is_empty.ensures, c.if-not-is_empty.true) in
    let some = deepest_some c.args.values.now here in
    omega (arith, some, c.requires, c.if-deepest-eq1.true)
