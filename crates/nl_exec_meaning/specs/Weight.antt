-- How many steps a node can take before it wants a unit, at most. This is for the proof that texts come to an end or to a unit.
use Rattle.std.specs.Prelude.{ℕ, suc, ◌+◌, List, [], ◌∷◌}
use Rattle.nl_tree.specs.Tree.{Node, Nodes, node, none, more}
use Rattle.nl_tree.specs.declared.tree.Label.{Label}
use Rattle.nl_tree.specs.declared.tree.Label.TheVariants as label

-- a list of statements wants a unit before any of them
abbrev pub weight_by : Label → ℕ → ℕ
weight_by label.Commands n = 2
weight_by other n = 6 + n

unfoldable mutual
  pub weight : Node → ℕ
  weight (node l s ts) = weight_by l (weight_all ts)

  pub weight_all : Nodes → ℕ
  weight_all none = 0
  weight_all (more t ts) = suc (weight t) + weight_all ts

abbrev pub weights : List Node → ℕ
weights [] = 0
weights (t ∷ ts) = suc (weight t) + weights ts
