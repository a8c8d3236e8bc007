use Rattle.nl_grid.proofs.FewLemmas.{neighbors_at_most}
use Rattle.nl_grid.proofs.LawLemmas.{neighbors_ascend, neighbors_are_others, neighbors_mutual}
use Rattle.nl_grid.proofs.laws.neighbors_are_in_order.Goals as goal

pub returns : goal.returns
returns c = record { ascend = neighbors_ascend; others = neighbors_are_others; few = neighbors_at_most; back = neighbors_mutual }
