use Rattle.nl_fixed.proofs.CharacterLemmas.{characters_are_scalars}
use Rattle.nl_fixed.proofs.characters.characters_are_scalars.Goals as goal

pub returns : goal.returns
returns c = characters_are_scalars
