use Rattle.std.proofs.Common.{arith}
use Rattle.std.proofs.lemmas.Int.{ints}
use Rattle.nl_fixed.specs.Numbers.{int_of}
use Rattle.nl_fixed.proofs.number.Num.int.Goals as goal

pub returns : goal.returns
unfolding int_of
returns c = omega (arith, ints)
