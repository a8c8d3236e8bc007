use Rattle.std.proofs.Common.{ap, arith, rules}
use Rattle.nl_value.specs.inner.Weights.{list_weight}
use Rattle.nl_listops_series.proofs.Digesting.{lighter}
use Rattle.nl_listops_series.proofs.digests.+digest.Goals as goal

pub stirred_items-digest_of-requires : goal.stirred_items-digest_of-requires
stirred_items-digest_of-requires g t c =
    let less = lighter c.as_slice-values.result.now c.loop-value.value-index c.value-item.result c.loop-value-test.true c.value-item.is in
    let same = ap list_weight c.as_slice-values.ensures in
    λ κs lives. (omega (arith, less, same), search rules)
