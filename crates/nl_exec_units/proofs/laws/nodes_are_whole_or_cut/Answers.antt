use Rattle.nl_exec_units.proofs.Telling.{nodes_are_whole_or_cut}
use Rattle.nl_exec_units.proofs.laws.nodes_are_whole_or_cut.Goals as goal

pub returns : goal.returns
returns c = nodes_are_whole_or_cut
