-- Shares of counts are counts of 64 bits.
use Rattle.std.proofs.Common.{◌≡◌, ℕ, ◌+◌, ◌*◌, ◌<◌, ◌≤◌, ◌^◌, ℤ, pos, ◌+ℤ◌, ◌-ℤ◌, ◌*ℤ◌, ◌≤ℤ◌, unsigned_abs, Bool, true, false, sym, subst, ap, ◌∙◌, arith, to_z, of_z}
use Rattle.std.specs.Prelude.{FitsSigned}
use Rattle.std.specs.Int.{int_div_euclid, w64, w128}
use Rattle.std.proofs.Math.Nat.{mul-le-mul}
use Rattle.std.proofs.lemmas.Int.{ints, unsigned_abs-mul, fits_signed_from_abs, fits_signed_mul, to_z-of_z}
use Rattle.nl_fixed.specs.Numbers.{one}
use Rattle.nl_fixed.proofs.Integers.{floor_low, floor_high}
use Rattle.nl_motion.specs.Diffusion.{parts_of, one_share}

-- a product with a part isn't above a million times the count
product_bound : (count part : ℤ) → unsigned_abs count ≤ 2 ^ 63 → pos 0 ≤ℤ part → part ≤ℤ pos one → unsigned_abs (count *ℤ part) ≤ 2 ^ 63 * 1_000_000
product_bound count part small low high =
    let few : unsigned_abs part ≤ 1_000_000 = omega (arith, ints) in
    let most : unsigned_abs count * unsigned_abs part ≤ 2 ^ 63 * 1_000_000 = mul-le-mul small few in
    omega (arith, unsigned_abs-mul count part)

pub share_small : (four : Bool) (count part : ℤ) → unsigned_abs count ≤ 2 ^ 63 → pos 0 ≤ℤ part → part ≤ℤ pos one
    → unsigned_abs (one_share (parts_of four) part count) < 2 ^ 63
unfolding one_share
share_small true count part small low high =
    let most = product_bound count part small low high in
    let p = count *ℤ part in
    omega (arith, ints, floor_low p 4_000_000 (omega arith), floor_high p 4_000_000 (omega arith))
share_small false count part small low high =
    let most = product_bound count part small low high in
    let p = count *ℤ part in
    omega (arith, ints, floor_low p 8_000_000 (omega arith), floor_high p 8_000_000 (omega arith))

pub share_is : (four : Bool) (count part r x y : ℤ) → r ≡ int_div_euclid x y → x ≡ count *ℤ part → y ≡ pos (parts_of four * one) → r ≡ one_share (parts_of four) part count
unfolding one_share
share_is four count part r x y is top below = is ∙ ap (λ a. int_div_euclid a y) top ∙ ap (int_div_euclid (count *ℤ part)) below

-- a share as the code works it out, in wide counts
pub share_cast : (four : Bool) (count part r m n y : ℤ) → FitsSigned w64 count → FitsSigned w64 part → pos 0 ≤ℤ part → part ≤ℤ pos one → FitsSigned w128 r
    → m ≡ to_z w64 (of_z w64 count) → n ≡ to_z w64 (of_z w64 part) → y ≡ pos (parts_of four * one)
    → r ≡ int_div_euclid (to_z w128 (of_z w128 (to_z w128 (of_z w128 m) *ℤ to_z w128 (of_z w128 n)))) y
    → FitsSigned w64 (to_z w128 (of_z w128 r)) × (to_z w64 (of_z w64 (to_z w128 (of_z w128 r))) ≡ one_share (parts_of four) part count)
share_cast four count part r m n y count_fits part_fits low high wide of_count of_part parts is =
    let small : unsigned_abs count ≤ 2 ^ 63 = omega (arith, ints) in
    let few : unsigned_abs part ≤ 1_000_000 = omega (arith, ints) in
    let first : to_z w128 (of_z w128 m) ≡ count = omega (arith, ints) in
    let second : to_z w128 (of_z w128 n) ≡ part = omega (arith, ints) in
    let fits = fits_signed_mul w128 count part (2 ^ 63) 1_000_000 small few (omega arith) in
    let top : to_z w128 (of_z w128 (to_z w128 (of_z w128 m) *ℤ to_z w128 (of_z w128 n))) ≡ count *ℤ part =
    ap (λ a. to_z w128 (of_z w128 (a *ℤ to_z w128 (of_z w128 n)))) first ∙ ap (λ b. to_z w128 (of_z w128 (count *ℤ b))) second ∙ to_z-of_z w128 (count *ℤ part) fits in
    let share = share_is four count part r _ y is top parts in
    let short = fits_signed_from_abs w64 r (subst (λ z. unsigned_abs z < 2 ^ 63) (sym share) (share_small four count part small low high)) in
    let same = to_z-of_z w128 r wide in
    (subst (FitsSigned w64) (sym same) short, ap (λ z. to_z w64 (of_z w64 z)) same ∙ to_z-of_z w64 r short ∙ share)

-- what a patch keeps, as the code works it out
pub kept_cast : (neighbors : ℕ) (had share m n : ℤ) → neighbors ≤ 8 → FitsSigned w64 had → FitsSigned w64 share → m ≡ to_z w64 (of_z w64 had) → n ≡ to_z w64 (of_z w64 share)
    → FitsSigned w128 (to_z w128 (of_z w128 m) -ℤ to_z w128 (of_z w128 (to_z w128 neighbors *ℤ to_z w128 (of_z w128 n))))
    × (to_z w128 (of_z w128 (to_z w128 (of_z w128 m) -ℤ to_z w128 (of_z w128 (to_z w128 neighbors *ℤ to_z w128 (of_z w128 n))))) ≡ had -ℤ (pos neighbors *ℤ share))
    × (unsigned_abs (to_z w128 (of_z w128 (to_z w128 (of_z w128 m) -ℤ to_z w128 (of_z w128 (to_z w128 neighbors *ℤ to_z w128 (of_z w128 n)))))) ≤ 9 * 2 ^ 63)
kept_cast neighbors had share m n few had_fits share_fits of_had of_share =
    let first : to_z w128 (of_z w128 m) ≡ had = omega (arith, ints) in
    let second : to_z w128 (of_z w128 n) ≡ share = omega (arith, ints) in
    let count : to_z w128 neighbors ≡ pos neighbors = omega (arith, ints) in
    let small : unsigned_abs share ≤ 2 ^ 63 = omega (arith, ints) in
    let most : neighbors * unsigned_abs share ≤ 8 * 2 ^ 63 = mul-le-mul few small in
    let given : unsigned_abs (pos neighbors *ℤ share) ≤ 8 * 2 ^ 63 = omega (arith, unsigned_abs-mul (pos neighbors) share) in
    let product : to_z w128 neighbors *ℤ to_z w128 (of_z w128 n) ≡ pos neighbors *ℤ share =
    ap (λ a. a *ℤ to_z w128 (of_z w128 n)) count ∙ ap (λ b. pos neighbors *ℤ b) second in
    let fits : FitsSigned w128 (pos neighbors *ℤ share) = fits_signed_from_abs w128 _ (omega arith) in
    let inner = ap (λ z. to_z w128 (of_z w128 z)) product ∙ to_z-of_z w128 (pos neighbors *ℤ share) fits in
    let all : to_z w128 (of_z w128 m) -ℤ to_z w128 (of_z w128 (to_z w128 neighbors *ℤ to_z w128 (of_z w128 n))) ≡ had -ℤ (pos neighbors *ℤ share) =
    ap (λ a. a -ℤ to_z w128 (of_z w128 (to_z w128 neighbors *ℤ to_z w128 (of_z w128 n)))) first ∙ ap (λ b. had -ℤ b) inner in
    let bound : unsigned_abs (had -ℤ (pos neighbors *ℤ share)) ≤ 9 * 2 ^ 63 = omega (arith, ints) in
    let wide : FitsSigned w128 (had -ℤ (pos neighbors *ℤ share)) = fits_signed_from_abs w128 _ (omega arith) in
    let value = ap (λ z. to_z w128 (of_z w128 z)) all ∙ to_z-of_z w128 (had -ℤ (pos neighbors *ℤ share)) wide in
    (subst (FitsSigned w128) (sym all) wide, value, subst (λ z. unsigned_abs z ≤ 9 * 2 ^ 63) (sym value) bound)

-- a share more
pub got_cast : (i : ℕ) (sum share n : ℤ) → i < 8 → unsigned_abs sum ≤ i * 2 ^ 63 → FitsSigned w64 share → n ≡ to_z w64 (of_z w64 share)
    → (to_z w128 (of_z w128 (sum +ℤ to_z w128 (of_z w128 n))) ≡ sum +ℤ share) × (unsigned_abs (to_z w128 (of_z w128 (sum +ℤ to_z w128 (of_z w128 n)))) ≤ (i + 1) * 2 ^ 63)
got_cast i sum share n few small fits is =
    let same : to_z w128 (of_z w128 (sum +ℤ to_z w128 (of_z w128 n))) ≡ sum +ℤ share = omega (arith, ints) in
    (same, omega (arith, ints))

-- both together
pub sum_cast : (kept got : ℤ) → unsigned_abs kept ≤ 9 * 2 ^ 63 → unsigned_abs got ≤ 8 * 2 ^ 63
    → to_z w128 (of_z w128 (to_z w128 (of_z w128 kept) +ℤ to_z w128 (of_z w128 got))) ≡ kept +ℤ got
sum_cast kept got few less = omega (arith, ints)
