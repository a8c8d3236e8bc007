use Rattle.std.proofs.Common.{arith}
use Rattle.nl_value.proofs.MeasureLemmas.{deepest_more}
use Rattle.nl_value.proofs.measures.depths.Goals as goal

pub loop-value-preserved : goal.loop-value-preserved
loop-value-preserved c =
    let more = deepest_more c.args.values.now c.loop-value.value-index c.value-item.result c.loop-value-test.true c.value-item.is in
    omega arith
