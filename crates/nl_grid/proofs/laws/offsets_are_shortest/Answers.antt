use Rattle.nl_grid.proofs.AheadLemmas.{offsets_lead}
use Rattle.nl_grid.proofs.LawLemmas.{offset_shortest}
use Rattle.nl_grid.proofs.laws.offsets_are_shortest.Goals as goal

pub returns : goal.returns
returns c = record { shortest = offset_shortest; lead = offsets_lead }
