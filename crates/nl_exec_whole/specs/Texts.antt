-- What a text has that was read and checked: whatever its meaning looks for.
use Rattle.std.specs.Prelude.{◌≡◌, ℕ, List, [], Some, slice_get}
use Rattle.nl_fixed.specs.Nouns.{Names}
use Rattle.nl_tree.specs.declared.declared.Declared.{Declared}
use Rattle.nl_tree.specs.declared.declared.Form.{Form}
use Rattle.nl_tree.specs.declared.declared.Procedure.{Procedure}
use Rattle.nl_tree.specs.Checked.{Checked, IsProgram}
use Rattle.nl_tree.specs.Context.{IsRightText}
use Rattle.nl_tree.specs.Grammar.{IsText}
use Rattle.nl_tree.specs.Tokens.{Token, marked}
use Rattle.nl_tree.specs.Tree as tree
use Rattle.nl_tree.specs.Tree.{Node}
use Rattle.nl_tree.specs.Vocabulary.{terms}
use Rattle.nl_exec_meaning.specs.Cases.{case_of}
use Rattle.nl_exec_whole.specs.Looks.{IsWhole}
use Rattle.nl_exec_whole.specs.Parts.{Each}
use Rattle.nl_exec_whole.specs.Scopes.{InScope}
use Rattle.nl_exec_whole.specs.Settings.{SetsWhatItMay}

-- each node is whole; each local is known at its place; and what is set may be set
pub record HasAll (d : Declared) (inputs : Names) (t : Node) : Type 0 where
  pub nodes : Each (IsWhole d) t
  pub names : InScope (terms d) inputs t
  pub settings : Each (λ u. SetsWhatItMay d (case_of d (tree.label u)) (tree.parts u)) t

-- so it is of each body of a checked program
abbrev pub ProgramsHaveAll : Type 0
ProgramsHaveAll =
    (p : Checked) → IsProgram p → (i : ℕ) (procedure : Procedure) (t : Node)
    → slice_get p.declared.procedures i ≡ Some procedure → slice_get p.bodies i ≡ Some t → HasAll p.declared procedure.inputs t

-- and of each lone text that the observer may run beside it
abbrev pub LoneTextsHaveAll : Type 0
LoneTextsHaveAll =
    (p : Checked) (form : Form) (ts : List Token) (t : Node)
    → IsText form [] (marked (terms p.declared) ts) t → IsRightText (terms p.declared) p.bodies t → HasAll p.declared [] t
