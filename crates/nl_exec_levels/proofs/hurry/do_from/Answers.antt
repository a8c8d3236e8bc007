-- Nothing was done.
use Rattle.nl_exec_levels.proofs.hurry.do_from.Goals as goal

pub returns-in-None-clause-not : goal.returns-in-None-clause-not
returns-in-None-clause-not g c = λ none. c.do_statement.ensures.not c.in-None.is
