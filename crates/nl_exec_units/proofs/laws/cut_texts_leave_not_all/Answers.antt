use Rattle.nl_exec_units.proofs.Telling.{cut_texts_leave_not_all}
use Rattle.nl_exec_units.proofs.laws.cut_texts_leave_not_all.Goals as goal

pub returns : goal.returns
returns c = cut_texts_leave_not_all
