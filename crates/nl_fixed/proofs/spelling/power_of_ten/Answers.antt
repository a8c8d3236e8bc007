use Rattle.std.proofs.Common.{◌<◌, arith, lit<}
use Rattle.std.proofs.lemmas.Int.{ints}
use Rattle.std.proofs.Math.Nat.{one-le-pow}
use Rattle.nl_fixed.proofs.Scaled.{ten_to_at_least, within_power}
use Rattle.nl_fixed.proofs.spelling.power_of_ten.Goals as goal

pub pow-requires : goal.pow-requires
pow-requires c = within_power c.args.zeros c.requires

pub overflow_cast-result : goal.overflow_cast-result
overflow_cast-result c =
    let within = ten_to_at_least c.args.zeros 31 c.requires in
    omega (arith, ints)

pub returns-clause-value : goal.returns-clause-value
returns-clause-value c =
    let within = ten_to_at_least c.args.zeros 31 c.requires in
    omega (arith, ints)

pub returns-clause-above : goal.returns-clause-above
returns-clause-above c =
    let within = ten_to_at_least c.args.zeros 31 c.requires in
    let ten : 0 < 10 = lit< tt in
    omega (arith, ints, one-le-pow c.args.zeros 10 ten)

pub returns-clause-below : goal.returns-clause-below
returns-clause-below c =
    let within = ten_to_at_least c.args.zeros 31 c.requires in
    omega (arith, ints)
