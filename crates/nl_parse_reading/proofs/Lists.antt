-- What the rows of trees stand for.
use Rattle.std.proofs.Common.{◌≡◌, max, List, [], ◌∷◌, ◌++◌, length, nat_eq, refl, ap, arith}
use Rattle.nl_tree.specs.Tree.{Node, Nodes, none, more, nodes, depth, depths}
use Rattle.nl_tree.specs.Grammar.{and_last}
use Rattle.nl_parse_reading.specs.inner.Limit.{is_none, is_one}

pub nodes_push : (ts : List Node) (t : Node) → nodes (ts ++ t ∷ []) ≡ and_last (nodes ts) t
nodes_push [] t = refl
nodes_push (u ∷ ts) t = ap (more u) (nodes_push ts t)

pub depths_last : (ts : Nodes) (t : Node) → depths (and_last ts t) ≡ max (depths ts) (depth t)
depths_last none t = omega arith
depths_last (more u ts) t = omega (arith, depths_last ts t)

pub no_node : (ts : List Node) → is_none (nodes ts) ≡ nat_eq (length ts) 0
no_node [] = refl
no_node (t ∷ ts) = search arith

pub one_node : (ts : List Node) → is_one (nodes ts) ≡ nat_eq (length ts) 1
one_node [] = refl
one_node (t ∷ []) = refl
one_node (t ∷ u ∷ ts) = search arith
