use Rattle.std.proofs.Common.{◌≡◌, map, take}
use Rattle.nl_value.specs.Views.{plain}
use Rattle.nl_listops_series.specs.Lists.{sentence_of}
use Rattle.nl_listops_series.proofs.lists.sentence.Given as goal

abbrev pub invariant-loop-value : goal.invariant-loop-value
invariant-loop-value l = l.items ≡ sentence_of (map plain (take l.value-index l.values))
