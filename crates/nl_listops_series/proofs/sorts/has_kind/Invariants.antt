use Rattle.std.proofs.Common.{◌≡◌, map, take, false}
use Rattle.std.specs.List.{list_any}
use Rattle.nl_value.specs.Views.{plain}
use Rattle.nl_listops_series.specs.Sorts.{is_of}
use Rattle.nl_listops_series.proofs.sorts.has_kind.Given as goal

abbrev pub invariant-loop-value : goal.invariant-loop-value
invariant-loop-value g l = list_any (is_of (g.L.Life.living l.life) l.kind) (map plain (take l.value-index l.values)) ≡ false
