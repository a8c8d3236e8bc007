use Rattle.nl_exec_arrows.proofs.Folding.{turns_are_forgotten}
use Rattle.nl_exec_arrows.proofs.laws.turns_are_forgotten.Goals as goal

pub returns : goal.returns
returns c = turns_are_forgotten
