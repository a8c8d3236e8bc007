-- A walk of at most one step.
use Rattle.std.proofs.Common.{◌≡◌, ◌⊎◌, inl, inr, ◌<◌, ◌≤◌, ◌/◌, ◌%◌, ℕ, zero, suc, ℤ, pos, negsuc, unsigned_abs, refl, ap, ◌∙◌, sym, arith}
use Rattle.std.proofs.Math.Nat.{div-eq_of_lt, mod-eq_of_lt, eq-or-lt_of_le}
use Rattle.nl_fixed.specs.Numbers.{one}
use Rattle.nl_fixed.specs.declared.span.Span.{Span}
use Rattle.nl_listops.specs.Answers.{signed_as}
use Rattle.nl_exec_meaning.specs.State.{State, goes_on}
use Rattle.nl_exec_meaning.specs.Steps.{step, steps, last_step}

size_as : (by : ℤ) → signed_as by (unsigned_abs by) ≡ by
size_as (pos n) = refl
size_as (negsuc n) = refl

-- less than a whole step
rest_alone : (size : ℕ) → 0 < size → (turtle : ℕ) (by : ℤ) (place : Span) (s : State) →
    last_step turtle size by place s ≡ step turtle (signed_as by size) place s goes_on
rest_alone zero some turtle by place s = absurd (omega arith)
rest_alone (suc rest) some turtle by place s = refl

whole_or_less : (size : ℕ) → 0 < size → (size ≡ one) ⊎ (size < one) → (turtle : ℕ) (by : ℤ) (place : Span) (s : State) →
    steps (size / one) turtle (size % one) by place s ≡ step turtle (signed_as by size) place s goes_on
whole_or_less size some (inr less) turtle by place s =
    ap (λ (n : ℕ). steps n turtle (size % one) by place s) (div-eq_of_lt less)
    ∙ ap (λ (n : ℕ). last_step turtle n by place s) (mod-eq_of_lt less)
    ∙ rest_alone size some turtle by place s
whole_or_less size some (inl same) turtle by place s =
    ap (λ (n : ℕ). steps (n / one) turtle (n % one) by place s) same ∙ ap (λ (n : ℕ). step turtle (signed_as by n) place s goes_on) (sym same)

pub one_step : (by : ℤ) → 0 < unsigned_abs by → unsigned_abs by ≤ one → (turtle : ℕ) (place : Span) (s : State) →
    steps (unsigned_abs by / one) turtle (unsigned_abs by % one) by place s ≡ step turtle by place s goes_on
one_step by some most turtle place s =
    whole_or_less (unsigned_abs by) some (eq-or-lt_of_le most) turtle by place s ∙ ap (λ (x : ℤ). step turtle x place s goes_on) (size_as by)
