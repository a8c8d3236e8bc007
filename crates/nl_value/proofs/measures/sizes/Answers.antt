use Rattle.std.proofs.Common.{arith}
use Rattle.nl_value.proofs.MeasureLemmas.{sizes_more}
use Rattle.nl_value.proofs.measures.sizes.Goals as goal

pub loop-value-preserved : goal.loop-value-preserved
loop-value-preserved c =
    let more = sizes_more c.args.values.now c.loop-value.value-index c.value-item.result c.loop-value-test.true c.value-item.is in
    omega arith
