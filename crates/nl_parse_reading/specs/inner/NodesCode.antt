-- A code for rows of nodes, by which a proof tells them apart.
use Rattle.std.specs.Prelude.{◌≡◌, List, refl}
use Rattle.std.proofs.Common.{ap}
use Rattle.std.specs.Coded.{Coded, code_by, coded_list}
use Rattle.nl_tree.specs.Tree.{Node, Nodes, none, more, nodes, listed}
use Rattle.nl_tree.specs.inner.TreeCode.{node_code}

pub again : (ts : Nodes) → nodes (listed ts) ≡ ts
again none = refl
again (more t ts) = ap (more t) (again ts)

abbrev pub nodes_code : Coded Nodes
nodes_code = code_by (List Node) (coded_list node_code) listed nodes again
