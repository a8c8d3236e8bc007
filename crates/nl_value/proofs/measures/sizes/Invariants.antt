-- The sizes of the values so far.
use Rattle.std.proofs.Common.{◌≡◌, take, map}
use Rattle.std.specs.Prelude.{min, ◌-◌, ◌^◌}
use Rattle.nl_value.specs.Plain.{plains}
use Rattle.nl_value.specs.Measures.{sizes_of}
use Rattle.nl_value.specs.Views.{plain}
use Rattle.nl_value.proofs.measures.sizes.Given as goal

abbrev pub invariant-loop-value : goal.invariant-loop-value
invariant-loop-value l = l.total ≡ min (sizes_of (plains (map plain (take l.value-index l.values)))) (2 ^ 64 - 1)
