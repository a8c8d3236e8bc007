use Rattle.nl_listops_series.proofs.Ascents.{sorts_permute}
use Rattle.nl_listops_series.proofs.laws.sorts_permute.Goals as goal

pub returns : goal.returns
returns c = sorts_permute c.all_values_have_an_order.ensures
