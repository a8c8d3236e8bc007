-- Numbers that keys are kept as give the keys back.
use Rattle.std.specs.Prelude.{◌≡◌, ℕ, zero, suc, ◌+◌, ◌-◌, ◌==◌, false, None, Some, if◌then◌else◌, refl}
use Rattle.std.proofs.Common.{ap, ap₂, ◌∙◌, arith}
use Rattle.std.proofs.lemmas.Bool.{ne_eqb}
use Rattle.nl_store_records.specs.Packed.{key_in, number_of}
use Rattle.nl_store_records.specs.declared.packed.PackedBorder.TheInside.{Inside}

number_back : (n : ℕ) → number_of (key_in n) ≡ n
number_back zero = refl
number_back (suc n) =
    let some : (suc n == 0) ≡ false = ne_eqb (suc n) 0 (λ e. absurd (omega (arith, e))) in
    let back : (suc n - 1) + 1 ≡ suc n = omega arith in
    ap (λ none. number_of (if none then None else Some (suc n - 1))) some ∙ back

border_in : ℕ → ℕ → Inside
border_in first last = record { first = first; last = last }

pub border_back : (b : Inside) → record { first = number_of (key_in b.first); last = number_of (key_in b.last) } ≡ b
unfolding border_in
border_back b = ap₂ border_in (number_back b.first) (number_back b.last)
