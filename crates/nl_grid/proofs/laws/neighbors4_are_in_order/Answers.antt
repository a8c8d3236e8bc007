use Rattle.nl_grid.proofs.FewLemmas.{neighbors4_few}
use Rattle.nl_grid.proofs.LawLemmas.{neighbors4_ascend, neighbors4_are_neighbors, neighbors4_mutual}
use Rattle.nl_grid.proofs.laws.neighbors4_are_in_order.Goals as goal

pub returns : goal.returns
returns c = record { ascend = neighbors4_ascend; neighbors = neighbors4_are_neighbors; few = neighbors4_few; back = neighbors4_mutual }
