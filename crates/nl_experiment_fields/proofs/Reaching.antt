-- The numbers from one to another by a step reach the other.
use Rattle.std.proofs.Common.{◌≡◌, ℕ, ◌+◌, ◌*◌, ◌-◌, ◌/◌, ◌≤◌, ◌<◌, unsigned_abs, ℤ, pos, negsuc, ◌+ℤ◌, ◌-ℤ◌, ◌*ℤ◌, ◌<ℤ◌, ◌≤ℤ◌, arith, refl, subst}
use Rattle.std.proofs.Math.Nat.{div-mul-le_self, lt-mul-div-succ, mul_comm}
use Rattle.std.proofs.lemmas.Int.{ints}
use Rattle.nl_experiment_fields.specs.Laws.{StepsReachTheEnd}

stays : (from to : ℤ) (n d : ℕ) → n ≤ d → d ≡ unsigned_abs (to -ℤ from) → from ≤ℤ to → (from +ℤ pos n) ≤ℤ to
stays from to n d within span reached = omega (arith, ints, within, span, reached)

passes : (from to : ℤ) (n d : ℕ) → d < n → d ≡ unsigned_abs (to -ℤ from) → from ≤ℤ to → to <ℤ (from +ℤ pos n)
passes from to n d beyond span reached = omega (arith, ints, beyond, span, reached)

less_one : (n : ℕ) → n ≡ n + 1 - 1
less_one n = omega arith

more_than : (d s : ℕ) → 0 < s → d < (d / s + 1) * s
more_than d s up = subst (λ n. d < n) (mul_comm s (d / s + 1)) (lt-mul-div-succ d up)

pub steps_reach_the_end : StepsReachTheEnd
steps_reach_the_end from (pos s) to up reached =
    let d : ℕ = unsigned_abs (to -ℤ from) in
    let some : 0 < s = omega (arith, ints, up) in (
      subst (λ n. (from +ℤ (pos n *ℤ pos s)) ≤ℤ to) (less_one (d / s)) (stays from to (d / s * s) d (div-mul-le_self d s) refl reached),
      passes from to ((d / s + 1) * s) d (more_than d s some) refl reached,
    )
steps_reach_the_end from (negsuc s) to up reached = absurd (omega (arith, ints, up))
