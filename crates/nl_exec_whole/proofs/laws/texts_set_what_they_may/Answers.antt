use Rattle.nl_exec_whole.proofs.Settling.{texts_set_what_they_may}
use Rattle.nl_exec_whole.proofs.laws.texts_set_what_they_may.Goals as goal

pub returns : goal.returns
returns c = texts_set_what_they_may
