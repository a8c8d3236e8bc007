use Rattle.nl_listops_series.proofs.Elsewhere.{parts_stay}
use Rattle.nl_listops_series.proofs.laws.lists_keep_their_items.Goals as goal

pub returns-clause-parts : goal.returns-clause-parts
returns-clause-parts g c = parts_stay _
