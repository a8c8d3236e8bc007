use Rattle.nl_exec_arrows.proofs.Ordering.{sorts_permute}
use Rattle.nl_exec_arrows.proofs.laws.sorts_permute.Goals as goal

pub returns : goal.returns
returns c = sorts_permute
