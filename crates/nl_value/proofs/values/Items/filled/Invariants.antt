-- The numbers so far.
use Rattle.std.proofs.Common.{◌≡◌, replicate}
use Rattle.nl_value.specs.Plain.{PlainNumber}
use Rattle.nl_value.proofs.values.Items.filled.Given as goal

abbrev pub invariant-loop : goal.invariant-loop
invariant-loop l = l.items ≡ replicate l.counter (PlainNumber l.number)
