use Rattle.nl_grid.proofs.LawLemmas.{wrapping_moves, wrapping_none}
use Rattle.nl_grid.proofs.laws.wrapping_moves_by_sides.Goals as goal

pub returns : goal.returns
returns c = record { moves = wrapping_moves; none = wrapping_none }
