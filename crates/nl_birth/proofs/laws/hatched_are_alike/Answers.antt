use Rattle.nl_birth.proofs.Appended.{hatched_alike}
use Rattle.nl_birth.proofs.laws.hatched_are_alike.Goals as goal

pub returns : goal.returns
returns c = hatched_alike
