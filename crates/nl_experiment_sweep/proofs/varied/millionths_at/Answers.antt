use Rattle.std.proofs.Common.{◌≡◌, pos, arith}
use Rattle.std.proofs.lemmas.Int.{ints}
use Rattle.nl_experiment_sweep.proofs.Stepped.{sum_is}
use Rattle.nl_experiment_sweep.proofs.varied.millionths_at.Goals as goal

pub returns-clause-sum : goal.returns-clause-sum
returns-clause-sum c =
    let from : c.from.result ≡ c.args.from = omega (arith, ints) in
    let times : c.from-2.result ≡ pos c.args.index = omega (arith, ints) in
    let step : c.from-3.result ≡ c.args.step = omega (arith, ints) in
    sum_is c.from.result c.from-2.result c.from-3.result c.args.from c.args.step c.args.index from times step c.requires
    (let in_range = rw c.millionths.ensures.value at c.millionths.ensures.bound in in_range)
    (let in_range = rw c.millionths-2.ensures.value at c.millionths-2.ensures.bound in in_range)
