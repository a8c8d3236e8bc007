use Rattle.nl_fixed.proofs.Turns.{sines_are_odd, sines_are_mirrored, cosines_are_even, cosines_are_sines}
use Rattle.nl_fixed.proofs.sine.sines_are_symmetric.Goals as goal

pub returns-clause-odd : goal.returns-clause-odd
returns-clause-odd c = sines_are_odd

pub returns-clause-mirrored : goal.returns-clause-mirrored
returns-clause-mirrored c = sines_are_mirrored

pub returns-clause-even : goal.returns-clause-even
returns-clause-even c = cosines_are_even

pub returns-clause-shifted : goal.returns-clause-shifted
returns-clause-shifted c = cosines_are_sines
