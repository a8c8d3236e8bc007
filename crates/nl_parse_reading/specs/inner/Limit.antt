-- What the reader asks of trees: depths, which are told apart up to the first one that is too great, and whether there is one tree, or none.
use Rattle.std.specs.Prelude.{ℕ, suc, min, Bool, true, false}
use Rattle.nl_tree.specs.Tree.{Nodes, none, more}
use Rattle.nl_tree.specs.BodyFault.{deepest}

abbrev pub capped : ℕ → ℕ
capped n = min n (suc deepest)

abbrev pub is_one : Nodes → Bool
is_one (more t none) = true
is_one ts = false

abbrev pub is_none : Nodes → Bool
is_none none = true
is_none ts = false
