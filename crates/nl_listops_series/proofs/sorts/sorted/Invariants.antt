use Rattle.std.proofs.Common.{◌≡◌, map, take, filter}
use Rattle.nl_value.specs.Views.{plain}
use Rattle.nl_listops_series.specs.Sorts.{is_of}
use Rattle.nl_listops_series.proofs.sorts.sorted.Given as goal

abbrev pub invariant-loop-value : goal.invariant-loop-value
invariant-loop-value g l = l.kept ≡ filter (is_of (g.L.Life.living l.life) l.kind) (map plain (take l.value-index l.values))
