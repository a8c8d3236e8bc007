-- Sizes of trees that wait, by which the making of nodes ends.
use Rattle.std.proofs.Common.{length-append, ◌≡◌, ℕ, zero, suc, ◌+◌, ◌<◌, List, [], ◌∷◌, ◌++◌, Some, length, drop, slice_get, refl, ap, sym, arith}
use Rattle.nl_tree.specs.Tree.{Node, Nodes, node, none, more, parts, listed, nodes, size, sizes, list_size}

nodes_listed : (ts : Nodes) → nodes (listed ts) ≡ ts
nodes_listed none = refl
nodes_listed (more t ts) = ap (more t) (nodes_listed ts)

size_out : (t : Node) → size t ≡ 2 + list_size (parts t)
size_out (node l s ts) = ap (λ us. 2 + sizes us) (sym (nodes_listed ts))

size_append : (ts us : List Node) → list_size (ts ++ us) ≡ list_size ts + list_size us
size_append [] us = omega arith
size_append (t ∷ ts) us = let e = size_append ts us in omega (arith, e)

some_same : {A : Type 0} (a b : A) → Some a ≡ Some b → a ≡ b
some_same a b e = cc

-- the trees that are left, once one gave its parts
sizes_fall : (ts us : List Node) (i : ℕ) (t : Node) → slice_get ts i ≡ Some t → us ≡ ts ++ parts t → list_size (drop (suc i) us) < list_size (drop i ts)
sizes_fall [] us i t e is = absurd (cc)
sizes_fall (x ∷ ts) us zero t e is =
    rw (is) (let a = size_append ts (parts t) in let b = size_out t in let c = ap size (some_same x t e) in omega (arith, a, b, c))
sizes_fall (x ∷ ts) us (suc i) t e is = rw is (sizes_fall ts (ts ++ parts t) i t e refl)

pub work_falls : {A : Type 0} (ts us : List Node) (items next : List A) (it : A) (t : Node) → slice_get ts (length items) ≡ Some t → us ≡ ts ++ parts t → next ≡ items ++ it ∷ [] → list_size (drop (length next) us) < list_size (drop (length items) ts)
work_falls ts us items next it t e is grown =
    let n : length next ≡ suc (length items) = rw grown (omega (arith, length-append items (it ∷ []))) in
    rw n (sizes_fall ts us (length items) t e is)
