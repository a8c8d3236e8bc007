use Rattle.nl_decl_outline.proofs.Lengths.{have_lengths}
use Rattle.nl_decl_outline.proofs.laws.declarations_have_lengths.Goals as goal

pub returns : goal.returns
returns c = have_lengths
