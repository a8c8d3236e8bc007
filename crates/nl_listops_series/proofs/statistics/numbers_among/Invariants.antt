use Rattle.std.proofs.Common.{◌≡◌, map, take}
use Rattle.nl_value.specs.Views.{plain}
use Rattle.nl_listops_series.specs.Statistics.{numbers_among}
use Rattle.nl_listops_series.proofs.statistics.numbers_among.Given as goal

abbrev pub invariant-loop-value : goal.invariant-loop-value
invariant-loop-value l = l.numbers.items ≡ numbers_among (map plain (take l.value-index l.values))
