use Rattle.nl_exec_whole.proofs.Scoping.{names_are_known}
use Rattle.nl_exec_whole.proofs.laws.names_are_known.Goals as goal

pub returns : goal.returns
returns c = names_are_known
