use Rattle.nl_decl.proofs.Accepted.{declared_fits}
use Rattle.nl_decl.proofs.accepted_law.declarations_are_accepted.Goals as goal

pub returns : goal.returns
returns c = declared_fits
