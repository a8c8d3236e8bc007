use Rattle.std.proofs.lemmas.List.Concat.{length-flat_map}
use Rattle.nl_listops_series.specs.Lists.{items_in}
use Rattle.nl_listops_series.proofs.Characters.{characters_make}
use Rattle.nl_listops_series.proofs.laws.joins_lose_nothing.Goals as goal

pub returns-clause-sentences : goal.returns-clause-sentences
returns-clause-sentences c = length-flat_map items_in

pub returns-clause-texts : goal.returns-clause-texts
returns-clause-texts c = characters_make
