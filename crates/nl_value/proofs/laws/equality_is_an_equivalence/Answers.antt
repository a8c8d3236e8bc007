use Rattle.nl_value.proofs.Equivalence.{same_values_equiv}
use Rattle.nl_value.proofs.laws.equality_is_an_equivalence.Goals as goal

pub returns : goal.returns
returns c = same_values_equiv
