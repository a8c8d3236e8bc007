use Rattle.nl_listops_series.proofs.Rows.{ends_at_bound}
use Rattle.nl_listops_series.proofs.laws.ranges_end_at_the_bound.Goals as goal

pub returns : goal.returns
returns c = ends_at_bound
