use Rattle.nl_listops_series.proofs.Elsewhere.{first_found, items_found}
use Rattle.nl_listops_series.proofs.laws.searches_find_the_first.Goals as goal

pub returns-clause-first : goal.returns-clause-first
returns-clause-first c = first_found

pub returns-clause-found : goal.returns-clause-found
returns-clause-found c = items_found c.equality_is_an_equivalence.ensures
