-- Numbers between the first and the last of a stepped choice.
use Rattle.std.proofs.Common.{◌≡◌, ℕ, ◌*◌, ◌-◌, ◌<◌, ◌≤◌, true, Some, nat_le, unsigned_abs, to_z, of_z, ℤ, pos, negsuc, ◌+ℤ◌, ◌*ℤ◌, ◌<ℤ◌, arith}
use Rattle.std.specs.Int.{w128}
use Rattle.std.proofs.lemmas.Int.{ints}
use Rattle.nl_fixed.proofs.Wide.{wide_product, product_size, size_of_count}
use Rattle.nl_experiment_sweep.specs.Sweep.{most_runs}
use Rattle.nl_fixed.specs.Numbers.{IsInRange, limit, number_at}
use Rattle.std.proofs.lemmas.Bool.Decides.{nat_tests}

times_le : (m n s : ℕ) → m ≤ n → m * s ≤ n * s
times_le m n s h = grind arith

-- what is added is no more than for the last
between_by : (from : ℤ) (m n s : ℕ) → m * s ≤ n * s → IsInRange from → IsInRange (from +ℤ (pos n *ℤ pos s)) → IsInRange (from +ℤ (pos m *ℤ pos s))
between_by from m n s h first last = record { low = omega (arith, ints, first.low, last.high); high = omega (arith, ints, last.high) }

pub between : (from step : ℤ) (count index : ℕ) → IsInRange from → pos 0 <ℤ step → IsInRange (from +ℤ (pos (count - 1) *ℤ step)) → index < count → IsInRange (from +ℤ (pos index *ℤ step))
between from (pos s) count index first up last below = between_by from index (count - 1) s (times_le index (count - 1) s (omega arith)) first last
between from (negsuc s) count index first up last below = absurd (omega (arith, ints, up))

-- so it is a number
pub number_within : (count : ℤ) → IsInRange count → number_at count ≡ Some count
number_within count within =
    let h : unsigned_abs count ≤ limit = size_of_count count within in
    let test : nat_le (unsigned_abs count) limit ≡ true = grind (arith, nat_tests) in
    rw test

small_within : (n : ℕ) → n ≤ most_runs → IsInRange (pos n)
small_within n few = record { low = omega (arith, ints); high = omega (arith, ints) }

-- a sum that is computed in 128 bits, with its product
sum_by : (from p : ℤ) → IsInRange from → unsigned_abs p ≤ limit * limit → to_z w128 (of_z w128 (from +ℤ p)) ≡ from +ℤ p
sum_by from p first size = omega (arith, ints, first.low, first.high)

pub sum_is : (r x y from step : ℤ) (n : ℕ) → r ≡ from → x ≡ pos n → y ≡ step → n ≤ most_runs → IsInRange from → IsInRange step
    → to_z w128 (of_z w128 (to_z w128 (of_z w128 r) +ℤ to_z w128 (of_z w128 (to_z w128 (of_z w128 x) *ℤ to_z w128 (of_z w128 y))))) ≡ from +ℤ (pos n *ℤ step)
sum_is r x y from step n is_from is_n is_step few first within =
    let f : to_z w128 (of_z w128 r) ≡ from = omega (arith, ints, first.low, first.high) in
    let p = wide_product x y (pos n) step is_n is_step (small_within n few) within in
    rw (f, p) (sum_by from (pos n *ℤ step) first (product_size (pos n) step (small_within n few) within))
