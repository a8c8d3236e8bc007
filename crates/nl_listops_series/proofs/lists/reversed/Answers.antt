use Rattle.std.proofs.Common.{arith}
use Rattle.nl_value.specs.Views.{plain}
use Rattle.nl_listops_series.proofs.Cuts.{reverse-map}
use Rattle.nl_listops_series.proofs.lists.reversed.Goals as goal

pub returns : goal.returns
returns c = let turned = reverse-map plain c.in_ok-list.list.items in grind (arith, turned)
