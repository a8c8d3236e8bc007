-- What the definition of verdicts means. No law asks anything of the widgets.
use Rattle.std.specs.Prelude.{◌≡◌, ◌⊎◌, ℕ, ◌+◌, List, [], length, take, Ok, Err}
use Rattle.nl_fixed.specs.Nouns.{Bytes, Names}
use Rattle.nl_scan.specs.declared.token.Token.{Token}
use Rattle.nl_scan.specs.Tokens.{text_limit, tokens_of}
use Rattle.nl_tree.specs.declared.declared.Declared.{Declared}
use Rattle.nl_tree.specs.Checked.{Checked, IsProgram}
use Rattle.nl_tree.specs.Term.{Term}
use Rattle.nl_check_model.specs.declared.faults.ModelKind.{ModelKind}
use Rattle.nl_check_model.specs.ModelFault.{IsAccepted, IsCodeFault}
use Rattle.nl_check_model.specs.Verdict.{IsVerdict, Verdict}

-- ---- code that has tokens

-- it is a program or has a first fault
abbrev pub CodeIsAcceptedOrFaulty : Type 0
CodeIsAcceptedOrFaulty =
    (widgets : Names) (text : Bytes) (tokens : List Token)
    → ((p : Checked) × IsAccepted widgets text tokens p) ⊎ ((kind : ModelKind) × (place : ℕ) × IsCodeFault widgets text tokens kind place)

-- it has one first fault at most
abbrev pub CodeFaultsAreUnique : Type 0
CodeFaultsAreUnique =
    (widgets : Names) (text : Bytes) (tokens : List Token) → tokens_of text ≡ Ok tokens → (x y : ModelKind) (a b : ℕ)
    → IsCodeFault widgets text tokens x a → IsCodeFault widgets text tokens y b → (x ≡ y) × (a ≡ b)

-- and none where it is a program
abbrev pub AcceptedHasNoFault : Type 0
AcceptedHasNoFault =
    (widgets : Names) (text : Bytes) (tokens : List Token) → tokens_of text ≡ Ok tokens → (p : Checked) (kind : ModelKind) (place : ℕ)
    → IsAccepted widgets text tokens p → IsCodeFault widgets text tokens kind place → ⊥

-- ---- files

-- the same declarations with the words in another order
abbrev pub with_index : Declared → List Term → Declared
with_index d index = record d { index = index }

-- What a program means: its declarations and its bodies. The order of its words and the kinds that may run a body aren't looked at by what a
-- text means; that they are right is told by each program itself.
abbrev pub bare : Checked → Checked
bare p = record { declared = record p.declared { index = [] }; bodies = p.bodies; kinds = [] }

abbrev pub told : Verdict → Verdict
told (Ok p) = Ok (bare p)
told (Err fault) = Err fault

-- a model's file says something
abbrev pub FilesHaveVerdicts : Type 0
FilesHaveVerdicts = (widgets : Names) (file : Bytes) → (verdict : Verdict) × IsVerdict widgets file verdict

-- and one thing at most
abbrev pub VerdictsAreUnique : Type 0
VerdictsAreUnique = (widgets : Names) (file : Bytes) (v w : Verdict) → IsVerdict widgets file v → IsVerdict widgets file w → told v ≡ told w

-- so checked programs of one file are the same, but for the order of their words
abbrev pub ProgramsAreUnique : Type 0
ProgramsAreUnique =
    (widgets : Names) (file : Bytes) (p q : Checked) → IsProgram p → IsProgram q → IsVerdict widgets file (Ok p) → IsVerdict widgets file (Ok q)
    → q ≡ record p { declared = with_index p.declared q.declared.index }

-- a program has just these widgets
abbrev pub ProgramsHaveTheirWidgets : Type 0
ProgramsHaveTheirWidgets = (widgets : Names) (file : Bytes) (p : Checked) → IsVerdict widgets file (Ok p) → p.declared.widgets ≡ widgets

-- and as many bodies as procedures
abbrev pub ProgramsHaveTheirBodies : Type 0
ProgramsHaveTheirBodies = (widgets : Names) (file : Bytes) (p : Checked) → IsVerdict widgets file (Ok p) → length p.bodies ≡ length p.declared.procedures

-- the first bytes of a file, one more than the limit, say what the file says
abbrev pub FirstBytesSayAll : Type 0
FirstBytesSayAll = (widgets : Names) (file : Bytes) (verdict : Verdict) → IsVerdict widgets (take (text_limit + 1) file) verdict → IsVerdict widgets file verdict
