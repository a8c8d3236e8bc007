use Rattle.nl_decl_outline.proofs.Lawful.{unique, are_taken, beginnings}
use Rattle.nl_decl_outline.proofs.laws.declarations_are_taken.Goals as goal

pub returns-clause-unique : goal.returns-clause-unique
returns-clause-unique c = unique

pub returns-clause-taken : goal.returns-clause-taken
returns-clause-taken c = are_taken

pub returns-clause-beginnings : goal.returns-clause-beginnings
returns-clause-beginnings c = beginnings
