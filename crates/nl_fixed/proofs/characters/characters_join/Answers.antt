use Rattle.nl_fixed.proofs.CharacterLemmas.{characters_join, characters_are_unique}
use Rattle.nl_fixed.proofs.characters.characters_join.Goals as goal

pub returns-clause-join : goal.returns-clause-join
returns-clause-join c = characters_join

pub returns-clause-unique : goal.returns-clause-unique
returns-clause-unique c = characters_are_unique
