use Rattle.nl_birth.proofs.Looking.{drawn_looks_stay, ordered_looks_stay}
use Rattle.nl_birth.proofs.laws.looks_stay.Goals as goal

pub returns : goal.returns
returns c = record { drawn = drawn_looks_stay; ordered = ordered_looks_stay }
