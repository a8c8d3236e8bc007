-- The numbers from one to another by a step end at most there.
use Rattle.std.proofs.Common.{◌≡◌, ℕ, ◌+◌, ◌*◌, ◌-◌, ◌/◌, ◌≤◌, unsigned_abs, ℤ, pos, negsuc, ◌+ℤ◌, ◌-ℤ◌, ◌*ℤ◌, ◌<ℤ◌, ◌≤ℤ◌, arith, refl, subst}
use Rattle.std.proofs.Math.Nat.{div-mul-le_self}
use Rattle.std.proofs.lemmas.Int.{ints}
use Rattle.nl_fixed.specs.Numbers.{IsInRange}
use Rattle.nl_experiment_sweep.specs.Varied.{HasValues}
use Rattle.nl_experiment_sweep.specs.declared.varied.Choice.TheVariants.{Stepped}

last_by : (from to : ℤ) (n d : ℕ) → n ≤ d → d ≡ unsigned_abs (to -ℤ from) → from ≤ℤ to → IsInRange from → IsInRange to → IsInRange (from +ℤ pos n)
last_by from to n d within span reached first last = record { low = omega (arith, ints, first.low); high = omega (arith, ints, last.high, within, span, reached) }

less_one : (n : ℕ) → n ≡ n + 1 - 1
less_one n = omega arith

pub has_values : (from step to : ℤ) → pos 0 <ℤ step → from ≤ℤ to → IsInRange from → IsInRange to → HasValues (Stepped from step (unsigned_abs (to -ℤ from) / unsigned_abs step + 1))
has_values from (pos s) to up reached first last =
    let d : ℕ = unsigned_abs (to -ℤ from) in
    (omega arith, up, subst (λ n. IsInRange (from +ℤ (pos n *ℤ pos s))) (less_one (d / s)) (last_by from to (d / s * s) d (div-mul-le_self d s) refl reached first last))
has_values from (negsuc s) to up reached first last = absurd (omega (arith, ints, up))
