use Rattle.nl_value.specs.Views.{plain}
use Rattle.nl_listops_series.proofs.Cuts.{without_at_is}
use Rattle.std.proofs.Common.{arith}
use Rattle.nl_listops_series.proofs.lists.without_at.Goals as goal

pub returns : goal.returns
returns c = let is = without_at_is plain c.as_slice-values.result.now c.args.items.now c.as_slice-values.ensures c.args.number c.in_ok-place.place c.append.new.out in grind (arith, is)
