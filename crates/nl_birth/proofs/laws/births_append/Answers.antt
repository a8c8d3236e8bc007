use Rattle.nl_birth.proofs.Appended.{drawn_append, ordered_append, hatched_append}
use Rattle.nl_birth.proofs.laws.births_append.Goals as goal

pub returns : goal.returns
returns c = record { drawn = drawn_append; ordered = ordered_append; hatched = hatched_append }
