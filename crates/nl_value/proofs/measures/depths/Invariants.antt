-- The greatest depth of the values so far.
use Rattle.std.proofs.Common.{◌≡◌, take, map}
use Rattle.std.specs.Prelude.{min, ◌-◌, ◌^◌}
use Rattle.nl_value.specs.Plain.{plains}
use Rattle.nl_value.specs.Measures.{deepest_of}
use Rattle.nl_value.specs.Views.{plain}
use Rattle.nl_value.proofs.measures.depths.Given as goal

abbrev pub invariant-loop-value : goal.invariant-loop-value
invariant-loop-value l = l.deepest ≡ min (deepest_of (plains (map plain (take l.value-index l.values)))) (2 ^ 32 - 1)
