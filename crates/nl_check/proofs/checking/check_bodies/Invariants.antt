use Rattle.std.proofs.Common.{◌≡◌, ◌<◌, ℕ, Some}
use Rattle.std.specs.Prelude.{slice_get}
use Rattle.nl_tree.specs.declared.declared.Procedure.{Procedure}
use Rattle.nl_tree.specs.Tree.{Node}
use Rattle.nl_tree.specs.Context.{IsRightBody}
use Rattle.nl_tree.specs.Vocabulary.{terms}
use Rattle.nl_check.proofs.checking.check_bodies.Given as goal

-- the bodies so far have no fault
abbrev pub invariant-loop-at : goal.invariant-loop-at
invariant-loop-at l = (j : ℕ) (p : Procedure) (t : Node) → j < l.at → slice_get l.declared.procedures j ≡ Some p → slice_get l.bodies j ≡ Some t → IsRightBody (terms l.declared) l.bodies p.reporter t
