use Rattle.std.proofs.Common.{arith}
use Rattle.nl_listops.proofs.Listed.{items_of_plains}
use Rattle.nl_listops.proofs.words.AtPlace.of.Goals as goal

pub returns-in-Items : goal.returns-in-Items
returns-in-Items c = grind (arith, items_of_plains, c.of_items.ensures)
