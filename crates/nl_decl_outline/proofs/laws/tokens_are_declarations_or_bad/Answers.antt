use Rattle.nl_decl_outline.proofs.Lawful.{one_place, or_place}
use Rattle.nl_decl_outline.proofs.laws.tokens_are_declarations_or_bad.Goals as goal

pub returns-clause-unique : goal.returns-clause-unique
returns-clause-unique c = one_place

pub returns-clause-either : goal.returns-clause-either
returns-clause-either c = or_place
