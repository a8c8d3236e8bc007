use Rattle.nl_birth.proofs.Tied.{made_twice}
use Rattle.nl_birth.proofs.laws.made_twice_makes_none.Goals as goal

pub returns : goal.returns
returns c = made_twice
