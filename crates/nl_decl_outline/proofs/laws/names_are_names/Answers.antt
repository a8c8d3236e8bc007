use Rattle.nl_decl_outline.proofs.NamesOf.{names_are_names}
use Rattle.nl_decl_outline.proofs.laws.names_are_names.Goals as goal

pub returns : goal.returns
returns c = names_are_names
