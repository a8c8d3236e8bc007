use Rattle.nl_decl.proofs.NoneTwice.{none_twice}
use Rattle.nl_decl.proofs.accepted_law.accepted_are_declared_once.Goals as goal

pub returns : goal.returns
returns c = none_twice
