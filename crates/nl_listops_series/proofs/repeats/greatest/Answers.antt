use Rattle.std.proofs.Common.{◌≡◌, ◌+◌, take, max, get_or, arith, ◌∙◌}
use Rattle.nl_value.specs.Measures.{greatest}
use Rattle.nl_listops_series.proofs.Onces.{greatest_more, greater_is}
use Rattle.nl_listops_series.proofs.repeats.greatest.Goals as goal

pub loop-number-preserved : goal.loop-number-preserved
loop-number-preserved c =
    let number = get_or c.args.numbers.now c.loop-number.number-index 0 in
    let more = greatest_more c.args.numbers.now c.loop-number.number-index c.loop-number-test.true in
    let either : c.max-greatest.result ≡ max c.loop-number.greatest number = c.max-greatest.ensures ∙ greater_is c.loop-number.greatest number in
    let is : c.max-greatest.result ≡ greatest (take (c.loop-number.number-index + 1) c.args.numbers.now) = omega (arith, more, either, c.loop-number.invariant) in
    is
