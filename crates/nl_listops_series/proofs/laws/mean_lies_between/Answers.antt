use Rattle.nl_listops_series.proofs.Bounds.{mean_lies_between}
use Rattle.nl_listops_series.proofs.laws.mean_lies_between.Goals as goal

pub returns : goal.returns
returns c = mean_lies_between c.quotients_are_rounded.ensures.nearest
