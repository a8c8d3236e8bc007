use Rattle.nl_exec_whole.proofs.Finding.{nodes_are_whole}
use Rattle.nl_exec_whole.proofs.laws.nodes_are_whole.Goals as goal

pub returns : goal.returns
returns c = nodes_are_whole
