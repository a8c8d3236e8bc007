use Rattle.nl_exec_arrows.proofs.Ordering.{sorts_follow_an_order}
use Rattle.nl_exec_arrows.proofs.laws.sorts_follow_an_order.Goals as goal

pub returns : goal.returns
returns c = sorts_follow_an_order
