-- Primary colors by their index, and numbers by their counts.
use Rattle.std.specs.Prelude.{◌≡◌, ℕ, ◌*◌, ℤ, pos, negsuc, ◌≤ℤ◌, ◌<ℤ◌, Some, None, slice_get}
use Rattle.std.specs.Int.{int_rem_euclid}
use Rattle.std.proofs.Common.{sym, arith}
use Rattle.std.proofs.lemmas.Int.{ints}
use Rattle.std.proofs.lemmas.Bool.{cond_both}
use Rattle.std.proofs.lemmas.Option.{same_Some, none-some, get_or_from_slice_get}
use Rattle.nl_fixed.specs.Numbers.{one, in_range, number_at, rounded_quotient}
use Rattle.nl_value.specs.Colors.{primary_numbers}
use Rattle.nl_birth.specs.Looks.{primary, heading_in_order}

pub primary_is : (i : ℕ) (x : ℤ) → slice_get primary_numbers i ≡ Some x → x ≡ primary i
primary_is i x e = sym (get_or_from_slice_get primary_numbers i x (pos 0) e)

pub number_is : (count x : ℤ) → number_at count ≡ Some x → x ≡ count
number_is count x e =
    cond_both (in_range count) (Some count) None (λ o. o ≡ Some x → x ≡ count) (λ _ q. sym (same_Some count x q)) (λ _ q. absurd (none-some x q)) e

rest_low : (d : ℤ) → pos 0 ≤ℤ int_rem_euclid d (pos 360000000)
rest_low (pos a) = omega (arith, ints)
rest_low (negsuc a) = omega (arith, ints)

rest_high : (d : ℤ) → int_rem_euclid d (pos 360000000) <ℤ pos 360000000
rest_high (pos a) = omega (arith, ints)
rest_high (negsuc a) = omega (arith, ints)

pub heading_bounds : (count index : ℕ) → (pos 0 ≤ℤ heading_in_order count index) × (heading_in_order count index <ℤ pos 360000000)
unfolding heading_in_order
heading_bounds count index =
    let angle = rounded_quotient (pos (360 * one * index)) count in
    (rest_low angle, rest_high angle)
