use Rattle.std.proofs.Common.{◌≡◌, map, take}
use Rattle.nl_value.specs.Views.{plain}
use Rattle.nl_listops_series.specs.Searches.{each_once}
use Rattle.nl_listops_series.proofs.repeats.each_once.Given as goal

abbrev pub invariant-loop-place : goal.invariant-loop-place
invariant-loop-place g l = l.once ≡ each_once (g.L.Life.living l.life) (take l.place (map plain l.values))
