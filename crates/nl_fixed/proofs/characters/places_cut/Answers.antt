use Rattle.nl_fixed.proofs.CharacterLemmas.{places_cut}
use Rattle.nl_fixed.proofs.characters.places_cut.Goals as goal

pub returns : goal.returns
returns c = places_cut
