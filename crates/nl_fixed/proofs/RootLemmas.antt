-- The greatest whole number whose square is at most n, by its two bounds.
use Rattle.std.proofs.Common.{ℕ, zero, suc, ◌+◌, ◌*◌, ◌<◌, ◌≤◌, ◌≡◌, Bool, true, false, cond, ℤ, pos, negsuc, ◌≤ℤ◌, ◌<ℤ◌, unsigned_abs, Err, leb, ⊎_elim, refl, arith}
use Rattle.std.proofs.lemmas.Int.{ints}
use Rattle.std.proofs.Math.Nat.{mul-le-mul, mul-le-mul_left}
use Rattle.std.proofs.lemmas.Bool.{cases_lt, leb-true, leb-false}
use Rattle.nl_fixed.specs.declared.number.NumFault.TheVariants.{Domain}
use Rattle.nl_fixed.specs.Numbers.{one, as_number, root_up_to, whole_root, root_of}

-- its square is at most n
pub root_square : (k n : ℕ) → root_up_to k n * root_up_to k n ≤ n
unfolding root_up_to
root_square zero n = omega arith
root_square (suc k) n = by (root_square k n) (leb (suc k * suc k) n) refl
  where
    by : root_up_to k n * root_up_to k n ≤ n → (t : Bool) → leb (suc k * suc k) n ≡ t → cond t (suc k) (root_up_to k n) * cond t (suc k) (root_up_to k n) ≤ n
    by before true e = leb-true (suc k * suc k) n e
    by before false e = before

-- none of those up to k with that property is greater
pub root_greatest : (k n j : ℕ) → j ≤ k → j * j ≤ n → j ≤ root_up_to k n
unfolding root_up_to
root_greatest zero n j least square = least
root_greatest (suc k) n j least square = by (λ below. root_greatest k n j below square) (leb (suc k * suc k) n) refl
  where
    by : (j ≤ k → j ≤ root_up_to k n) → (t : Bool) → leb (suc k * suc k) n ≡ t → j ≤ cond t (suc k) (root_up_to k n)
    by before true e = least
    by before false e =
        let next : n < suc k * suc k = leb-false (suc k * suc k) n e in
        ⊎_elim (λ below. before (omega arith)) (λ above. let wide = mul-le-mul above above in absurd (omega (arith, wide))) (cases_lt j (suc k))

-- the two bounds fix it
pub whole_root_is : (n r : ℕ) → r * r ≤ n → n < (r + 1) * (r + 1) → r ≡ whole_root n
unfolding whole_root
whole_root_is n r low high =
    let within : r ≤ n = ⊎_elim (λ below. omega arith) (λ above. let wide : r * 1 ≤ r * r = mul-le-mul_left r above in omega arith) (cases_lt r 1) in
    let most = root_greatest n n r within low in
    let square = root_square n n in
    ⊎_elim
    (λ below. let above : r + 1 ≤ root_up_to n n = omega arith in let wide = mul-le-mul above above in absurd (omega (arith, wide)))
    (λ above. omega arith) (cases_lt r (root_up_to n n))

-- ---- the root of a number, by the test that the code makes of it
pub root_of_negative : (count : ℤ) → count <ℤ pos 0 → Err Domain ≡ root_of count
unfolding root_of
root_of_negative (pos count) h = absurd (omega (arith, ints))
root_of_negative (negsuc count) h = refl

pub root_of_other : (count : ℤ) → pos 0 ≤ℤ count → as_number (pos (whole_root (unsigned_abs count * one))) ≡ root_of count
unfolding root_of
root_of_other (pos count) h = refl
root_of_other (negsuc count) h = absurd (omega (arith, ints))
