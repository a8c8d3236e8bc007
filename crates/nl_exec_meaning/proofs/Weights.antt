-- Weights of nodes.
use Rattle.std.proofs.Common.{◌≡◌, ℕ, zero, suc, ◌+◌, ◌≤◌, List, [], ◌∷◌, drop, refl, ap, arith}
use Rattle.nl_tree.specs.Tree.{Node, Nodes, node, none, more, label, parts, listed}
use Rattle.nl_tree.specs.declared.tree.Label.{Label}
use Rattle.nl_tree.specs.declared.tree.Label.TheVariants as label
use Rattle.nl_exec_meaning.specs.Weight.{weight_by, weight, weight_all, weights}

all-weights : (ts : Nodes) → weight_all ts ≡ weights (listed ts)
unfolding weight
all-weights none = refl
all-weights (more t ts) = ap (λ n. suc (weight t) + n) (all-weights ts)

pub weight_out : (t : Node) → weight t ≡ weight_by (label t) (weights (parts t))
unfolding weight
weight_out (node l s ts) = ap (weight_by l) (all-weights ts)

positive-by : (l : Label) (n : ℕ) → 2 ≤ weight_by l n
positive-by label.Commands n = omega arith
positive-by l n = omega arith

pub weight_positive : (t : Node) → 2 ≤ weight t
weight_positive t = rw (weight_out t) (positive-by (label t) (weights (parts t)))

-- the parts behind an index weigh no more than those from it on
pub weights_fall : (n : ℕ) (ts : List Node) → weights (drop (suc n) ts) ≤ weights (drop n ts)
weights_fall zero [] = omega arith
weights_fall (suc n) [] = omega arith
weights_fall zero (t ∷ ts) = omega arith
weights_fall (suc n) (t ∷ ts) = weights_fall n ts
