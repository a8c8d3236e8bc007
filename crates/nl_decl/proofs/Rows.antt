-- Rows that are appended one after another.
use Rattle.std.proofs.Common.{◌≡◌, ℕ, suc, ◌+◌, ◌<◌, List, [], ◌∷◌, ◌++◌, arith, length, drop, get_or, ap, subst, sym, ◌∙◌, append_assoc}
use Rattle.std.proofs.Math.Seq.{drop-cons}
use Rattle.nl_tree.specs.Term.{Term}
use Rattle.nl_tree.specs.Vocabulary.{counted}

-- a list behind a place, with the element there
pub next_of : {A : Type 0} (xs : List A) (i : ℕ) (d : A) → i < length xs → drop i xs ≡ get_or xs i d ∷ drop (i + 1) xs
next_of xs i d within = let e : suc i ≡ i + 1 = omega arith in subst (λ n. drop i xs ≡ get_or xs i d ∷ drop n xs) e (drop-cons xs i d within)

-- with one row more
pub counted_more : {A : Type 0} (row : ℕ → A → Term) (place i : ℕ) (xs : List A) (x : A) (t : Term) (old new whole : List Term)
    → drop i xs ≡ x ∷ drop (i + 1) xs → t ≡ row place x → new ≡ old ++ t ∷ [] → old ++ counted row place (drop i xs) ≡ whole
    → new ++ counted row (place + 1) (drop (i + 1) xs) ≡ whole
counted_more row place i xs x t old new whole split is add so_far =
    let later = counted row (place + 1) (drop (i + 1) xs) in
    ap (λ ts. ts ++ later) add ∙ append_assoc old (t ∷ []) later ∙ ap (λ u. old ++ u ∷ later) is
    ∙ ap (λ ys. old ++ counted row place ys) (sym split) ∙ so_far
