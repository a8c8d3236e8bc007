use Rattle.std.proofs.Common.{◌≡◌, ◌<◌, map, pos, ◌+ℤ◌, ◌*ℤ◌}
use Rattle.nl_value.specs.Plain.{PlainNumber}
use Rattle.nl_listops_series.specs.Ranges.{numbers_from}
use Rattle.nl_listops_series.proofs.ranges.numbers_from.Given as goal

abbrev pub invariant-loop-k : goal.invariant-loop-k
invariant-loop-k l = record {
  so_far : l.items ≡ map PlainNumber (numbers_from l.fn.start l.step l.k);
  at : l.k < l.length → l.next ≡ l.fn.start +ℤ (pos l.k *ℤ l.step);
}
