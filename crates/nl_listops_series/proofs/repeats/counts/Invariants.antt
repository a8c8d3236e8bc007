use Rattle.std.proofs.Common.{◌≡◌, ℕ, ◌<◌, ◌≤◌, ◌==◌, length, take, get_or}
use Rattle.std.specs.Prelude.{count_by}
use Rattle.nl_listops_series.proofs.repeats.counts.Given as goal

abbrev pub invariant-loop-number : goal.invariant-loop-number
invariant-loop-number l = record {
  long : length l.counts.items ≡ length l.numbers;
  few : (n : ℕ) → n < length l.numbers → get_or l.counts.items n 0 ≤ l.number-index;
  so_far : (n : ℕ) → n < length l.numbers → get_or l.counts.items n 0 ≡ count_by (λ m. m == n) (take l.number-index l.numbers);
}
