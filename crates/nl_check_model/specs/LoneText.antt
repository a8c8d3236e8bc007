-- What a lone text says to a checked program, as the observer runs it: its tree, or its first fault. That its tokens are judged first, then its
-- grammar, and who may run it last, is this project's own choice.
use Rattle.std.specs.Prelude.{◌≡◌, ◌⊎◌, ℕ, List, [], ◌∷◌, ◌++◌, length, Result, Ok, Err}
use Rattle.nl_fixed.specs.Nouns.{Bytes}
use Rattle.nl_fixed.specs.declared.span.Span.{Span}
use Rattle.nl_scan.specs.declared.token.ScanKind.{ScanKind}
use Rattle.nl_scan.specs.declared.token.Token.{Token}
use Rattle.nl_scan.specs.Faults.{ScanFault}
use Rattle.nl_scan.specs.Place.{line_and_column}
use Rattle.nl_scan.specs.Tokens.{start_of, tokens_of}
use Rattle.nl_tree.specs.BodyFault.{IsGood, IsTextFault, ends_at}
use Rattle.nl_tree.specs.Checked.{Checked, IsLoneFault}
use Rattle.nl_tree.specs.Context.{IsRightText}
use Rattle.nl_tree.specs.Tokens as plain
use Rattle.nl_tree.specs.Tree.{Node}
use Rattle.nl_tree.specs.Vocabulary.{terms}
use Rattle.nl_tree.specs.declared.declared.Form.{Form}
use Rattle.nl_tree.specs.declared.faults.BodyKind.{BodyKind}
use Rattle.nl_tree.specs.declared.faults.CheckKind.{CheckKind}
use Rattle.nl_parse_grammar.specs.Texts.{plain_tokens}
use Rattle.nl_check_model.specs.declared.lone_faults.Inner.{Inner}
use Rattle.nl_check_model.specs.declared.lone_faults.InnerKind.{InnerKind}
use Rattle.nl_check_model.specs.declared.lone_faults.LoneRefusal.{LoneRefusal}

-- ---- kinds and places

-- the kinds of all stages under their own names
abbrev pub of_scan : ScanKind → InnerKind
of_scan ScanKind.TooLong = InnerKind.TooLong
of_scan ScanKind.NotText = InnerKind.NotText
of_scan ScanKind.BadChar = InnerKind.BadChar
of_scan ScanKind.OpenText = InnerKind.OpenText
of_scan ScanKind.BadEscape = InnerKind.BadEscape
of_scan ScanKind.BadNumber = InnerKind.BadNumber

abbrev pub of_body : BodyKind → InnerKind
of_body BodyKind.UnknownName = InnerKind.UnknownName
of_body BodyKind.Unexpected = InnerKind.Unexpected
of_body BodyKind.TooDeep = InnerKind.TooDeep

abbrev pub of_check : CheckKind → InnerKind
of_check CheckKind.WrongContext = InnerKind.WrongContext
of_check CheckKind.NotSettable = InnerKind.NotSettable
of_check CheckKind.NoReport = InnerKind.NoReport

-- a fault at a byte of the text, by its line and its column there
abbrev pub told_at : Bytes → InnerKind → ℕ → Inner
told_at text kind place = let at = line_and_column text place in record { kind = kind; line = at.0; column = at.1 }

-- ---- the text

-- what ends a lone text is its end
abbrev pub end_of : Bytes → Span
end_of text = record { start = length text; len = 0 }

abbrev pub whole_text : Bytes → List Token → List plain.Token
whole_text text tokens = plain_tokens text tokens ++ ends_at (end_of text) ∷ []

-- a tree that the tokens have beside the words of the program, with no inputs
abbrev pub IsTreeOf : Checked → Form → Bytes → List Token → Node → Type 0
IsTreeOf p form text tokens tree = IsGood form [] (terms p.declared) (whole_text text tokens) tree

-- the tree of a text that the observer may run
pub record IsLoneTree (p : Checked) (form : Form) (text : Bytes) (tree : Node) : Type 0 where
  pub tokens : List Token
  pub scanned : tokens_of text ≡ Ok tokens
  pub good : IsTreeOf p form text tokens tree
  pub right : IsRightText (terms p.declared) p.bodies tree

-- ---- its first fault

-- that of its tokens
pub record IsScanInner (text : Bytes) (inner : Inner) : Type 0 where
  pub fault : ScanFault
  pub scanned : tokens_of text ≡ Err fault
  pub told : inner ≡ told_at text (of_scan fault.kind) fault.place

-- else that of its grammar, at the first token with which it can no longer be read
pub record IsBodyInner (p : Checked) (form : Form) (text : Bytes) (inner : Inner) : Type 0 where
  pub tokens : List Token
  pub scanned : tokens_of text ≡ Ok tokens
  pub kind : BodyKind
  pub place : ℕ
  pub fault : IsTextFault form [] (terms p.declared) (whole_text text tokens) place kind
  pub told : inner ≡ told_at text (of_body kind) (start_of text tokens place)

-- else that of who may run it, of what it sets, and of where it reports and stops
pub record IsCheckInner (p : Checked) (form : Form) (text : Bytes) (inner : Inner) : Type 0 where
  pub tokens : List Token
  pub scanned : tokens_of text ≡ Ok tokens
  pub tree : Node
  pub good : IsTreeOf p form text tokens tree
  pub kind : CheckKind
  pub span : Span
  pub fault : IsLoneFault p.declared p.bodies tree kind span
  pub told : inner ≡ told_at text (of_check kind) span.start

abbrev pub IsInner : Checked → Form → Bytes → Inner → Type 0
IsInner p form text inner = IsScanInner text inner ⊎ (IsBodyInner p form text inner ⊎ IsCheckInner p form text inner)

-- a refusal is the first fault of the text, or want of memory
abbrev pub RefusesText : Checked → Form → Bytes → LoneRefusal → Type 0
RefusesText p form text (LoneRefusal.Fault inner) = IsInner p form text inner
RefusesText p form text LoneRefusal.NoMemory = Unit {0}
