use Rattle.std.proofs.Common.{arith}
use Rattle.nl_listops_series.proofs.Cuts.{items_of-plains}
use Rattle.nl_listops_series.proofs.lists.append_items_in.Goals as goal

pub returns-in-Items : goal.returns-in-Items
returns-in-Items c = grind (arith, items_of-plains, c.append.ensures, c.as_slice.ensures)
