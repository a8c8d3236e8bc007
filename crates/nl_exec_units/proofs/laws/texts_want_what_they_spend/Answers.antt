use Rattle.nl_exec_units.proofs.Telling.{texts_want_what_they_spend}
use Rattle.nl_exec_units.proofs.laws.texts_want_what_they_spend.Goals as goal

pub returns : goal.returns
returns c = texts_want_what_they_spend
