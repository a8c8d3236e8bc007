use Rattle.nl_exec_units.proofs.Telling.{texts_are_whole_or_cut}
use Rattle.nl_exec_units.proofs.laws.texts_are_whole_or_cut.Goals as goal

pub returns : goal.returns
returns c = texts_are_whole_or_cut
