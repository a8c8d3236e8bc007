-- What the definition of lone texts means.
use Rattle.std.specs.Prelude.{◌≡◌, ◌⊎◌, length}
use Rattle.nl_fixed.specs.Nouns.{Bytes}
use Rattle.nl_tree.specs.Checked.{Checked}
use Rattle.nl_tree.specs.Tree.{Node}
use Rattle.nl_tree.specs.declared.declared.Form.{Form}
use Rattle.nl_check_model.specs.declared.lone_faults.Inner.{Inner}
use Rattle.nl_check_model.specs.LoneText.{IsInner, IsLoneTree}

-- a text has a tree or a first fault
abbrev pub TextsHaveTreesOrFaults : Type 0
TextsHaveTreesOrFaults =
    (p : Checked) (form : Form) (text : Bytes) → length p.bodies ≡ length p.declared.procedures
    → ((tree : Node) × IsLoneTree p form text tree) ⊎ ((inner : Inner) × IsInner p form text inner)

-- and not both
abbrev pub TreesHaveNoFaults : Type 0
TreesHaveNoFaults = (p : Checked) (form : Form) (text : Bytes) (tree : Node) (inner : Inner) → IsLoneTree p form text tree → IsInner p form text inner → ⊥

-- it has one tree at most
abbrev pub TreesAreUnique : Type 0
TreesAreUnique = (p : Checked) (form : Form) (text : Bytes) (t u : Node) → IsLoneTree p form text t → IsLoneTree p form text u → t ≡ u

-- and one first fault at most
abbrev pub InnersAreUnique : Type 0
InnersAreUnique = (p : Checked) (form : Form) (text : Bytes) (x y : Inner) → IsInner p form text x → IsInner p form text y → x ≡ y
