use Rattle.nl_exec_whole.proofs.AllThere.{lone_texts_have_all, programs_have_all}
use Rattle.nl_exec_whole.proofs.laws.checked_texts_have_all.Goals as goal

pub returns-clause-programs : goal.returns-clause-programs
returns-clause-programs c = programs_have_all

pub returns-clause-texts : goal.returns-clause-texts
returns-clause-texts c = lone_texts_have_all
