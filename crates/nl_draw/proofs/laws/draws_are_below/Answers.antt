use Rattle.nl_draw.proofs.Shuffles.{drawn-below}
use Rattle.nl_draw.proofs.laws.draws_are_below.Goals as goal

pub returns : goal.returns
returns c = drawn-below
