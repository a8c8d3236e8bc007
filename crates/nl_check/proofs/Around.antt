-- The kinds that are left around a block, and procedures that nobody calls.
use Rattle.std.proofs.Common.{◌≡◌, ℕ, zero, suc, ◌+◌, List, [], ◌∷◌, ◌++◌, refl, ap, ◌∙◌, length, arith, add-one}
use Rattle.nl_words.specs.declared.entry.Kinds.{Kinds}
use Rattle.nl_check.specs.inner.Faults.{last_or, front_of, front}
use Rattle.nl_check.specs.inner.Calls.{nobody}

pub last_push : (d : Kinds) (ks : List Kinds) (k : Kinds) → last_or d (ks ++ k ∷ []) ≡ k
last_push d [] k = refl
last_push d (l ∷ ls) k = last_push l ls k

front_of_push : (l : Kinds) (ls : List Kinds) (k : Kinds) → front_of l (ls ++ k ∷ []) ≡ l ∷ ls
front_of_push l [] k = refl
front_of_push l (m ∷ ms) k = ap (λ ks. l ∷ ks) (front_of_push m ms k)

pub front_push : (ks : List Kinds) (k : Kinds) → front (ks ++ k ∷ []) ≡ ks
front_push [] k = refl
front_push (l ∷ ls) k = front_of_push l ls k

pub nobody_more : (n : ℕ) → nobody n ++ [] ∷ [] ≡ nobody (n + 1)
nobody_more zero = refl
nobody_more (suc n) = ap (λ xs. [] ∷ xs) (nobody_more n) ∙ rw (add-one) (rw (add-one) refl)

pub nobody_length : (n : ℕ) → length (nobody n) ≡ n
nobody_length zero = refl
nobody_length (suc n) = omega (arith, nobody_length n)
