use Rattle.nl_fixed.proofs.Turns.{sines_repeat, cosines_repeat}
use Rattle.nl_fixed.proofs.sine.sines_repeat.Goals as goal

pub returns-clause-sine : goal.returns-clause-sine
returns-clause-sine c = sines_repeat

pub returns-clause-cosine : goal.returns-clause-cosine
returns-clause-cosine c = cosines_repeat
