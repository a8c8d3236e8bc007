use Rattle.nl_grid.proofs.LawLemmas.{distance_mutual}
use Rattle.nl_grid.proofs.laws.distances_are_mutual.Goals as goal

pub returns : goal.returns
returns c = distance_mutual
