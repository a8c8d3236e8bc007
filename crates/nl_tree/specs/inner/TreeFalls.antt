-- A tree is smaller than the list that holds it.
use Rattle.std.specs.Prelude.{◌≤◌, List, [], ◌∷◌, map}
use Rattle.std.proofs.Common.{arith}
use denote.Param.Weighed.{most, w_this}
use Rattle.nl_tree.specs.declared.tree.Tree.{Tree}
use Rattle.nl_tree.specs.declared.tree.Trees.TheDeep.{deep-Tree}
use Rattle.nl_tree.specs.Tree.{nodes, sizes}
use Rattle.nl_tree.specs.Views.{plain}

pub falls : (ts : List Tree) → most (λ x. w_this.weight Tree deep-Tree x) ts ≤ sizes (nodes (map plain ts))
falls [] = omega arith
falls (t ∷ ts) = omega (arith, falls ts)
