use Rattle.nl_fixed.proofs.NumberLawProofs.{roundings_are_around}
use Rattle.nl_fixed.proofs.number_laws.roundings_are_around.Goals as goal

pub returns : goal.returns
returns c = roundings_are_around
