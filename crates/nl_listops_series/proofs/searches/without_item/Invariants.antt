use Rattle.std.proofs.Common.{◌≡◌, map, take}
use Rattle.nl_value.specs.Views.{plain}
use Rattle.nl_listops_series.specs.Searches.{without_item}
use Rattle.nl_listops_series.proofs.searches.without_item.Given as goal

abbrev pub invariant-loop-item : goal.invariant-loop-item
invariant-loop-item g l = l.others ≡ without_item (g.L.Life.living l.life) (plain l.value) (map plain (take l.item-index l.values))
