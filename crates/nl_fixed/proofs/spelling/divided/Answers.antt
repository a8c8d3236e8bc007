use Rattle.std.proofs.Common.{arith}
use Rattle.std.proofs.lemmas.Int.{ints, to_z-of_z}
use Rattle.nl_fixed.proofs.Scaled.{divided_far, divided_is}
use Rattle.nl_fixed.proofs.spelling.divided.Goals as goal

pub returns-then-places-gt31 : goal.returns-then-places-gt31
returns-then-places-gt31 c = divided_far c.args.n c.args.places c.requires (omega arith)

pub returns : goal.returns
returns c = grind (arith, ints, to_z-of_z, divided_is)
