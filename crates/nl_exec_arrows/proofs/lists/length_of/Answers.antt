-- The items of a list are those that it holds.
use Rattle.std.proofs.Common.{arith}
use Rattle.nl_value.proofs.Lists.{items_of-plains}
use Rattle.nl_exec_arrows.proofs.lists.length_of.Goals as goal

pub returns-in-Items : goal.returns-in-Items
returns-in-Items c = grind (arith, items_of-plains, c.in-Items.is, c.deref.ensures, c.len.ensures)
