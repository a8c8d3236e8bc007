-- The colors so far.
use Rattle.std.proofs.Common.{◌≡◌, map, take}
use Rattle.nl_value.specs.Plain.{PlainNumber}
use Rattle.nl_value.specs.Colors.{primary_numbers}
use Rattle.nl_value.proofs.colors.primary_colors.Given as goal

abbrev pub invariant-loop-at : goal.invariant-loop-at
invariant-loop-at l = l.items ≡ map PlainNumber (take l.at primary_numbers)
