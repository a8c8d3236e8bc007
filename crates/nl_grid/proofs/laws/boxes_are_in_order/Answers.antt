use Rattle.nl_grid.proofs.LawLemmas.{box_ascends, box_of_world}
use Rattle.nl_grid.proofs.laws.boxes_are_in_order.Goals as goal

pub returns : goal.returns
returns c = record { ascend = box_ascends; world = box_of_world }
