use Rattle.std.proofs.Common.{rules}
use Rattle.nl_fixed.specs.Numbers.{ceiling_of}
use Rattle.nl_fixed.proofs.number.Num.ceiling.Goals as goal

pub returns : goal.returns
unfolding ceiling_of
returns c = search rules
