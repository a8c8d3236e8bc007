-- What a text comes to that ends in a slice.
use Rattle.std.proofs.Common.{◌≡◌, ℕ, zero, suc, ◌+◌, ◌-◌, ◌<◌, refl, sym, ap, ◌∙◌, arith}
use Rattle.std.specs.Prelude.{min}
use Rattle.std.proofs.Math.Nat.{min-eq_left, min-eq_right}
use Rattle.nl_exec_meaning.specs.State.{Outcome}
use Rattle.nl_exec.specs.Machines.{with_more}

-- with all units that are left it comes to the same, and leaves those besides that the slice hadn't
pub with_all : (rest : ℕ → Outcome) (slice left : ℕ) → (slice < left → (n : ℕ) → rest (slice + n) ≡ with_more n (rest slice))
    → rest left ≡ with_more (left - slice) (rest (min slice left))
with_all rest slice left over = by (left - slice) refl
  where
    by : (d : ℕ) → left - slice ≡ d → rest left ≡ with_more (left - slice) (rest (min slice left))
    by zero is =
        let least : min slice left ≡ left = min-eq_right (omega (arith, is)) in
        let units_is : (rest left).state.units ≡ (rest left).state.units + (left - slice) = omega (arith, is) in
        ap (λ u. record (rest left) { state = record (rest left).state { units = u } }) units_is ∙ ap (λ k. with_more (left - slice) (rest k)) (sym least)
    by (suc d) is =
        let least : min slice left ≡ slice = min-eq_left (omega (arith, is)) in
        let sum_is : left ≡ slice + (left - slice) = omega (arith, is) in
        ap rest sum_is ∙ over (omega (arith, is)) (left - slice) ∙ ap (λ k. with_more (left - slice) (rest k)) (sym least)

-- the units of the slice and the others are all
pub with_others : (slice left : ℕ) → (left - slice) + min slice left ≡ left
with_others slice left = by (left - slice) refl
  where
    by : (d : ℕ) → left - slice ≡ d → (left - slice) + min slice left ≡ left
    by zero is =
        let least : min slice left ≡ left = min-eq_right (omega (arith, is)) in
        omega (arith, is, least)
    by (suc d) is =
        let least : min slice left ≡ slice = min-eq_left (omega (arith, is)) in
        omega (arith, is, least)
