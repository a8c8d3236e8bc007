-- Which variables a text sets that may be run.
use Rattle.std.specs.Prelude.{◌⊎◌, Bool, true, false, IsTrue, IsSome, List, ◌∷◌}
use Rattle.nl_fixed.specs.Nouns.{Names}
use Rattle.nl_tree.specs.declared.declared.Declared.{Declared}
use Rattle.nl_tree.specs.declared.declared.Form.{Form}
use Rattle.nl_tree.specs.Context.{IsRightBody, IsRightText}
use Rattle.nl_tree.specs.Grammar.{IsText}
use Rattle.nl_tree.specs.Tokens.{Token, marked}
use Rattle.nl_tree.specs.Tree as tree
use Rattle.nl_tree.specs.Tree.{Node}
use Rattle.nl_tree.specs.Vocabulary.{terms}
use Rattle.nl_exec_meaning.specs.declared.words.Apart.TheVariants as apart
use Rattle.nl_exec_meaning.specs.declared.words.Built.TheVariants as built
use Rattle.nl_exec_meaning.specs.declared.words.Control.TheVariants as control
use Rattle.nl_exec_meaning.specs.Cases.{Case, case_of}
use Rattle.nl_exec_meaning.specs.Cases as case
use Rattle.nl_exec_meaning.specs.Meaning.{slot_in}
use Rattle.nl_exec_whole.specs.Parts.{Each}

-- what a turtle or a patch is, where a patch lies and what a link joins stays
abbrev pub can_be_set : Case → Bool
can_be_set (case.Aside runs apart.Xcor) = true
can_be_set (case.Aside runs apart.Ycor) = true
can_be_set (case.Aside runs apart.Breed) = true
can_be_set (case.Aside runs which) = false
can_be_set other = true

-- The variable of `set` can be set; that of `diffuse` and its kin is kept under a slot.
abbrev pub SetsWhatItMay : Declared → Case → List Node → Type 0
SetsWhatItMay d (case.Word runs breed (built.Control control.Set)) (t ∷ ts) = IsTrue (can_be_set (case_of d (tree.label t)))
SetsWhatItMay d (case.Word runs breed (built.Spread word)) (t ∷ ts) = IsSome (slot_in (case_of d (tree.label t)))
SetsWhatItMay d other ts = Unit {0}

-- So it is in each body that is right, and in each lone text that is.
abbrev pub TextsSetWhatTheyMay : Type 0
TextsSetWhatTheyMay =
    (d : Declared) (bodies : List Node) (form : Form) (names : Names) (ts : List Token) (t : Node) → IsText form names (marked (terms d) ts) t
    → ((reporter : Bool) × IsRightBody (terms d) bodies reporter t) ⊎ IsRightText (terms d) bodies t
    → Each (λ u. SetsWhatItMay d (case_of d (tree.label u)) (tree.parts u)) t
