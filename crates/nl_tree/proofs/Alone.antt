-- Lists of no row, or of one, in another order.
use Rattle.std.proofs.Common.{◌≡◌, ℕ, zero, suc, List, [], ◌∷◌, ◌<◌, get_or, sym, ap, arith, refl}
use Rattle.std.specs.List.Sorted.{IsPermutation}
use Rattle.std.proofs.lemmas.List.Sorted.{length_permutation, IsPermutation-sym, Contains-permutation}

pub no_other : {A : Type 0} (ys : List A) → IsPermutation [] ys → ys ≡ []
no_other [] moved = refl
no_other (y ∷ ys) moved = absurd (omega (arith, length_permutation [] (y ∷ ys) moved))

at_front : {A : Type 0} (x y : A) (k : ℕ) → k < 1 → get_or (x ∷ []) k y ≡ y → x ≡ y
at_front x y zero within is = is
at_front x y (suc k) within is = absurd (omega (arith, within))

pub no_other_order : {A : Type 0} (x : A) (ys : List A) → IsPermutation (x ∷ []) ys → ys ≡ x ∷ []
no_other_order x [] moved = absurd (omega (arith, length_permutation (x ∷ []) [] moved))
no_other_order x (y ∷ []) moved =
    let (k, within, is) = Contains-permutation (y ∷ []) (x ∷ []) y (IsPermutation-sym (x ∷ []) (y ∷ []) moved) (0, omega arith, refl) in
    ap (λ z. z ∷ []) (sym (at_front x y k within is))
no_other_order x (y ∷ z ∷ ys) moved = absurd (omega (arith, length_permutation (x ∷ []) (y ∷ z ∷ ys) moved))
