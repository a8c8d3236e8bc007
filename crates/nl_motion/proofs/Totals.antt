-- Totals of counts.
use Rattle.std.proofs.Common.{◌≡◌, ℕ, ◌+◌, ◌<◌, List, [], ◌∷◌, ◌++◌, length, map, take, get_or, ℤ, ◌+ℤ◌, ap, ◌∙◌, arith}
use Rattle.std.proofs.lemmas.Int.{ints}
use Rattle.std.proofs.lemmas.List.{take_more, map-append}
use Rattle.nl_motion.specs.Diffusion.{total}

pub total-push : (counts : List ℤ) (count : ℤ) → total (counts ++ count ∷ []) ≡ total counts +ℤ count
total-push [] count = omega (arith, ints)
total-push (first ∷ counts) count = omega (arith, ints, total-push counts count)

-- one more of those that are added up
pub total_more : {X : Type 0} (f : X → ℤ) (xs : List X) (i : ℕ) (d : X) → i < length xs
    → total (map f (take (i + 1) xs)) ≡ total (map f (take i xs)) +ℤ f (get_or xs i d)
total_more f xs i d within =
    ap (λ ys. total (map f ys)) (take_more xs i d within) ∙ ap total (map-append f (take i xs) (get_or xs i d ∷ [])) ∙ total-push (map f (take i xs)) (f (get_or xs i d))
