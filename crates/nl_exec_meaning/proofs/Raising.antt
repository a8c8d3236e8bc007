-- One number of a list becomes one more.
use Rattle.std.proofs.Common.{◌≡◌, ℕ, zero, suc, ◌+◌, List, [], ◌∷◌, Some, None, slice_get, slice_set, refl, ap, ◌∙◌, sym, arith}
use Rattle.nl_exec_meaning.specs.Arrows.{raised}

pub raised_past : (xs : List ℕ) (i : ℕ) → None ≡ slice_get xs i → xs ≡ raised i xs
raised_past [] zero e = refl
raised_past [] (suc i) e = refl
raised_past (x ∷ xs) zero e = absurd (cc)
raised_past (x ∷ xs) (suc i) e = ap (λ ys. x ∷ ys) (raised_past xs i e)

pub raised_at : (xs : List ℕ) (i n more : ℕ) → Some n ≡ slice_get xs i → more ≡ n + 1 → slice_set xs i more ≡ raised i xs
raised_at [] i n more e is = absurd (cc)
raised_at (x ∷ xs) zero n more e is =
    let same : n ≡ x = cc in
    let one : more ≡ suc x = omega (arith, same, is) in
    ap (λ y. y ∷ xs) one
raised_at (x ∷ xs) (suc i) n more e is = ap (λ ys. x ∷ ys) (raised_at xs i n more e is)
