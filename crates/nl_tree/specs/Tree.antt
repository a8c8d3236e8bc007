-- Trees without where they lie in memory.
use Rattle.std.specs.Prelude.{ℕ, suc, max, ◌+◌, List, [], ◌∷◌}
use Rattle.nl_fixed.specs.declared.span.Span.{Span}
use Rattle.nl_tree.specs.declared.tree.Label.{Label}

-- a node: what it is, where that stands, and its parts
mutual
  pub data Node : Type 0 where
    node : (label : Label) (span : Span) (parts : Nodes) → Node

  pub data Nodes : Type 0 where
    none : Nodes
    more : (first : Node) (rest : Nodes) → Nodes

-- nodes in a row, from a list
abbrev pub nodes : List Node → Nodes
nodes [] = none
nodes (t ∷ ts) = more t (nodes ts)

-- and as a list
abbrev pub listed : Nodes → List Node
listed none = []
listed (more t ts) = t ∷ listed ts

abbrev pub label : Node → Label
label (node l s ts) = l

abbrev pub span : Node → Span
span (node l s ts) = s

abbrev pub parts : Node → List Node
parts (node l s ts) = listed ts

-- 1 plus the greatest depth of the parts
abbrev mutual
  pub depth : Node → ℕ
  depth (node l s ts) = suc (depths ts)

  pub depths : Nodes → ℕ
  depths none = 0
  depths (more t ts) = max (depth t) (depths ts)

-- a measure by which a part is smaller than its tree
abbrev mutual
  pub size : Node → ℕ
  size (node l s ts) = 2 + sizes ts

  pub sizes : Nodes → ℕ
  sizes none = 0
  sizes (more t ts) = suc (size t) + sizes ts

abbrev pub list_size : List Node → ℕ
list_size ts = sizes (nodes ts)
