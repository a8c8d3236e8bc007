use Rattle.nl_fixed.proofs.Turns.{sines_are_units, cosines_are_units}
use Rattle.nl_fixed.proofs.sine.sines_are_within_one.Goals as goal

pub returns-clause-sine : goal.returns-clause-sine
returns-clause-sine c = sines_are_units

pub returns-clause-cosine : goal.returns-clause-cosine
returns-clause-cosine c = cosines_are_units
