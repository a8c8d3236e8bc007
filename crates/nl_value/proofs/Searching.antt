-- A binary search among numbers that ascend.
use Rattle.std.specs.Prelude.{◌≡◌, ℕ, zero, ◌+◌, ◌<◌, ◌≤◌, ◌==◌, Bool, true, false, ◌||◌, Result, Ok, Err, ◌⊎◌, List, [], ◌∷◌, length, refl}
use Rattle.std.proofs.Common.{⊎_elim, inl, inr, ap, arith, get_or, suc, ◌∙◌, sym}
use Rattle.std.specs.List.{list_any}
use Rattle.std.specs.List.Sorted.{IsStrictlyIncreasing, IsBinarySearchResult}
use Rattle.std.specs.Ordering.{nat_cmp}
use Rattle.std.specs.Result.{is_ok}
use Rattle.std.proofs.lemmas.Bool.Decides.{Decides-eqb}
use Rattle.std.proofs.lemmas.List.{get_or_default}
use Rattle.std.proofs.lemmas.List.Sorted.{IsNonDecreasingBy-from_all_adjacent, searched}

sides : (m n : ℕ) → (m < n) ⊎ (n ≤ m)
sides m zero = inr (omega arith)
sides zero (suc n) = inl (omega arith)
sides (suc m) (suc n) = ⊎_elim (λ h. inl (omega (arith, h))) (λ h. inr (omega (arith, h))) (sides m n)

or_true : (a : Bool) → (a || true) ≡ true
or_true true = refl
or_true false = refl

or_both : (a b : Bool) → a ≡ false → b ≡ false → (a || b) ≡ false
or_both true b p q = p
or_both false b p q = q

not_equal_by : (m n : ℕ) (b : Bool) → (m == n) ≡ b → (m ≡ n → ⊥) → b ≡ false
not_equal_by m n true e h = absurd (h ((Decides-eqb m n).0 e))
not_equal_by m n false e h = refl

any_at : (xs : List ℕ) (i x : ℕ) → i < length xs → get_or xs i 0 ≡ x → list_any (λ y. y == x) xs ≡ true
any_at [] i x h e = absurd (omega (arith, h))
any_at (y ∷ ys) zero x h e = ap (λ b. b || list_any (λ z. z == x) ys) ((Decides-eqb y x).1 e)
any_at (y ∷ ys) (suc i) x h e = ap (λ b. (y == x) || b) (any_at ys i x (omega (arith, h)) e) ∙ or_true (y == x)

none_of : (xs : List ℕ) (x : ℕ) → ((k : ℕ) → k < length xs → get_or xs k 0 ≡ x → ⊥) → list_any (λ y. y == x) xs ≡ false
none_of [] x h = refl
none_of (y ∷ ys) x h =
    or_both (y == x) (list_any (λ z. z == x) ys) (not_equal_by y x (y == x) refl (h 0 (omega arith))) (none_of ys x (λ k l. h (suc k) (omega (arith, l))))

never_falls : (xs : List ℕ) → IsStrictlyIncreasing xs → (i j : ℕ) → i ≤ j → j < length xs → get_or xs i 0 ≤ get_or xs j 0
never_falls xs up i j le lt =
    IsNonDecreasingBy-from_all_adjacent (λ (x : ℕ). x) xs
    (λ k d l. let a = up k l in omega (arith, get_or_default xs k d 0 (omega arith), get_or_default xs (k + 1) d 0 l))
    i j 0 le lt

-- the search finds a number exactly where it is among them
pub found_any : (xs : List ℕ) (x : ℕ) (r : Result ℕ ℕ) → IsStrictlyIncreasing xs → IsBinarySearchResult (λ y. nat_cmp y x) xs r → is_ok r ≡ list_any (λ y. y == x) xs
found_any xs x (Ok i) up h =
    let at = searched xs x (Ok i) h (never_falls xs up) in
    sym (any_at xs i x at.0 at.1)
found_any xs x (Err i) up h =
    let at = searched xs x (Err i) h (never_falls xs up) in
    sym (none_of xs x (λ k l e. ⊎_elim (λ b. absurd (omega (arith, at.1 k b, e))) (λ a. absurd (omega (arith, at.2 k a l, e))) (sides k i)))
