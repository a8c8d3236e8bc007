use Rattle.std.proofs.Common.{◌≡◌, ◌==◌, map, take}
use Rattle.std.specs.Prelude.{count_by}
use Rattle.nl_listops_series.proofs.repeats.times.Given as goal

abbrev pub invariant-loop-number : goal.invariant-loop-number
invariant-loop-number l = l.times.items ≡ map (λ n. count_by (λ m. m == n) l.numbers) (take l.number-index l.numbers)
