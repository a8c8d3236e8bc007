use Rattle.nl_birth.proofs.Numbers.{heading_bounds}
use Rattle.nl_birth.proofs.laws.headings_are_below_a_turn.Goals as goal

pub returns : goal.returns
returns c = heading_bounds
