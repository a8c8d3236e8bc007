use Rattle.std.proofs.Common.{◌∙◌, ap, arith}
use Rattle.std.proofs.lemmas.Int.{ints}
use Rattle.nl_fixed.specs.Numbers.{as_number, difference_of}
use Rattle.nl_fixed.proofs.PlacesLemmas.{overflows_exactly}
use Rattle.nl_fixed.proofs.number.Num.sub.Goals as goal

pub returns-clause-value : goal.returns-clause-value
unfolding difference_of
returns-clause-value c = c.number_of.ensures ∙ ap as_number (omega (arith, ints))

pub returns-clause-overflow : goal.returns-clause-overflow
unfolding difference_of
returns-clause-overflow c = rw (returns-clause-value c) (overflows_exactly _)
