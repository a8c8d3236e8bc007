-- The parts of a plain tree are those of the tree.
use Rattle.std.proofs.Common.{◌≡◌, ℕ, zero, suc, ◌+◌, ◌<◌, ◌≤◌, List, [], ◌∷◌, map, drop, Option, Some, None, MatchOption, IfSome, refl, ap, ◌∙◌, sym, arith}
use Rattle.std.specs.Borrow.{Bor}
use Rattle.std.proofs.lemmas.List.{drop-map}
use Rattle.nl_tree.specs.declared.tree.Tree.{Tree}
use Rattle.nl_tree.specs.Tree.{Node, nodes, listed, size, sizes}
use Rattle.nl_tree.specs.Views.{plain}

pub listed_nodes : (ts : List Node) → listed (nodes ts) ≡ ts
listed_nodes [] = refl
listed_nodes (t ∷ ts) = ap (λ xs. t ∷ xs) (listed_nodes ts)

cons_apart : (t : Node) (us : List Node) → [] ≡ t ∷ us → ⊥
cons_apart t us h = cc

-- what stands from a place on is no larger than the whole
rest_size : (ts : List Node) (i : ℕ) (t : Node) (us : List Node) → drop i ts ≡ t ∷ us → suc (size t) + sizes (nodes us) ≤ sizes (nodes ts)
rest_size [] zero t us h = absurd (cons_apart t us h)
rest_size [] (suc i) t us h = absurd (cons_apart t us h)
rest_size (x ∷ ts) zero t us h = let same = ap (λ xs. sizes (nodes xs)) h in omega (arith, same)
rest_size (x ∷ ts) (suc i) t us h = let later = rest_size ts i t us h in omega (arith, later)

pub smaller : (t : Tree) (i : ℕ) (r : Option (Bor Tree)) → MatchOption r (drop i t.parts ≡ []) (λ p. drop i t.parts ≡ plain p.now ∷ drop (i + 1) t.parts) → IfSome r (λ p. size (plain p.now) < size (plain t))
smaller t i None h = tt
smaller t i (Some p) h = let low = rest_size t.parts i (plain p.now) (drop (i + 1) t.parts) h in omega (arith, low)

-- the rest of a list of trees, from a place on
pub rest_map : (ts : List Tree) (i : ℕ) (r : Option (Bor Tree)) →
    MatchOption r (drop i ts ≡ []) (λ p. drop i ts ≡ p.now ∷ drop (i + 1) ts) →
    MatchOption r (drop i (map plain ts) ≡ []) (λ p. drop i (map plain ts) ≡ plain p.now ∷ drop (i + 1) (map plain ts))
rest_map ts i None h = drop-map plain i ts ∙ ap (map plain) h
rest_map ts i (Some p) h = drop-map plain i ts ∙ ap (map plain) h ∙ sym (ap (λ xs. plain p.now ∷ xs) (drop-map plain (i + 1) ts))
