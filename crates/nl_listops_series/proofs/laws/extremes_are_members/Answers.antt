use Rattle.nl_listops_series.proofs.Bounds.{min_is_least, max_is_greatest}
use Rattle.nl_listops_series.proofs.laws.extremes_are_members.Goals as goal

pub returns-clause-least : goal.returns-clause-least
returns-clause-least c = min_is_least

pub returns-clause-greatest : goal.returns-clause-greatest
returns-clause-greatest c = max_is_greatest
