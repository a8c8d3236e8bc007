use Rattle.std.proofs.Common.{◌≡◌, ◌++◌, map, take}
use Rattle.nl_value.specs.Views.{plain}
use Rattle.nl_listops_series.proofs.lists.append.Given as goal

abbrev pub invariant-loop-value : goal.invariant-loop-value
invariant-loop-value l = l.out ≡ l.initial.out ++ map plain (take l.value-index l.values)
