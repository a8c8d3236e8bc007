-- Nothing is changed where no statement is done.
use Rattle.nl_exec_at_once.proofs.statements.do_statement.Goals as goal

pub returns-else-do_plain-clause-not : goal.returns-else-do_plain-clause-not
returns-else-do_plain-clause-not g c = λ _. c.do_plain.ensures.not c.if-do_plain.false
