-- The first fault of the code of a model beside the widgets of an experiment, and what a model without one is.
-- That declarations are read before bodies, bodies in the order of the text, and who may run them last, is this project's own choice.
use Rattle.std.specs.Prelude.{◌≡◌, ◌⊎◌, ℕ, ◌+◌, ◌-◌, List, [], ◌∷◌, ◌++◌, take, drop, Option, Some, None, slice_get}
use Rattle.nl_fixed.specs.Nouns.{Bytes, Names}
use Rattle.nl_fixed.specs.declared.span.Span.{Span}
use Rattle.nl_scan.specs.declared.token.Token.{Token}
use Rattle.nl_scan.specs.Tokens.{start_of}
use Rattle.nl_tree.specs.declared.declared.Declared.{Declared}
use Rattle.nl_tree.specs.declared.declared.Form.TheVariants as form
use Rattle.nl_tree.specs.declared.declared.Procedure.{Procedure}
use Rattle.nl_tree.specs.declared.faults.BodyKind.{BodyKind}
use Rattle.nl_tree.specs.BodyFault.{IsGood, IsTextFault, ends_at}
use Rattle.nl_tree.specs.Checked.{BodiesAreRight, Checked, IsModelFault}
use Rattle.nl_tree.specs.Term.{Term}
use Rattle.nl_tree.specs.Tokens as plain
use Rattle.nl_tree.specs.Tree.{Node}
use Rattle.nl_tree.specs.Vocabulary.{terms}
use Rattle.nl_decl.specs.Outcome.{Declares, IsFaultOf}
use Rattle.nl_parse_grammar.specs.Texts.{lexemes_of, plain_tokens}
use Rattle.nl_check_model.specs.declared.faults.ModelKind.{ModelKind}

-- ---- the bodies of procedures

-- the tokens of a procedure's body
abbrev pub body_of : List Token → Procedure → List Token
body_of tokens p = take (p.after - p.first) (drop p.first tokens)

abbrev pub span_by : Option Token → Span
span_by (Some token) = token.span
span_by None = record { start = 0; len = 0 }

-- and with its `end`, which is what ends them
abbrev pub text_of_body : Bytes → List Token → Procedure → List plain.Token
text_of_body text tokens p = plain_tokens text (body_of tokens p) ++ ends_at (span_by (slice_get tokens p.after)) ∷ []

-- the tree of a procedure's body
abbrev pub IsBody : Bytes → List Token → List Term → Procedure → Node → Type 0
IsBody text tokens table p tree = IsGood form.Commands p.inputs table (text_of_body text tokens p) tree

-- the first fault of a procedure's body, and the byte at which it stands
abbrev pub IsFaultOfBody : Bytes → List Token → List Term → Procedure → BodyKind → ℕ → Type 0
IsFaultOfBody text tokens table p kind place =
    (k : ℕ) × (IsTextFault form.Commands p.inputs table (text_of_body text tokens p) k kind × (place ≡ start_of text tokens (p.first + k)))

-- these trees are those of the procedures' bodies, in the order of the text
abbrev pub AreBodies : Bytes → List Token → List Term → List Procedure → List Node → Type 0
AreBodies text tokens table [] [] = Unit {0}
AreBodies text tokens table [] (tree ∷ trees) = ⊥
AreBodies text tokens table (p ∷ ps) [] = ⊥
AreBodies text tokens table (p ∷ ps) (tree ∷ trees) = IsBody text tokens table p tree × AreBodies text tokens table ps trees

-- the first fault of the procedures' bodies: that of the first body that has one
abbrev pub IsFaultOfBodies : Bytes → List Token → List Term → List Procedure → BodyKind → ℕ → Type 0
IsFaultOfBodies text tokens table [] kind place = ⊥
IsFaultOfBodies text tokens table (p ∷ ps) kind place =
    IsFaultOfBody text tokens table p kind place ⊎ (((tree : Node) × IsBody text tokens table p tree) × IsFaultOfBodies text tokens table ps kind place)

-- ---- the whole code

-- Code that can be read: what it declares beside the widgets, and the trees of its bodies.
pub record IsRead (widgets : Names) (text : Bytes) (tokens : List Token) (declared : Declared) (bodies : List Node) : Type 0 where
  pub declares : Declares (lexemes_of text tokens) widgets declared
  pub trees : AreBodies text tokens (terms declared) declared.procedures bodies

-- The first fault of code that has tokens, and the byte at which it stands: that of its declarations, where it has them that of its bodies,
-- and where they can all be read, that of who may run them, what they set, and where they report and stop.
abbrev pub IsCodeFault : Names → Bytes → List Token → ModelKind → ℕ → Type 0
IsCodeFault widgets text tokens (ModelKind.Declaration kind) place =
    (k : ℕ) × (IsFaultOf (lexemes_of text tokens) widgets kind k × (place ≡ start_of text tokens k))
IsCodeFault widgets text tokens (ModelKind.Body kind) place =
    (d : Declared) × (Declares (lexemes_of text tokens) widgets d × IsFaultOfBodies text tokens (terms d) d.procedures kind place)
IsCodeFault widgets text tokens (ModelKind.Check kind) place =
    (d : Declared) × (bodies : List Node) × (i : ℕ) × (span : Span)
    × (IsRead widgets text tokens d bodies × IsModelFault d bodies i kind span × (place ≡ span.start))
IsCodeFault widgets text tokens (ModelKind.Scan kind) place = ⊥

-- code that has tokens and no fault is this program
pub record IsAccepted (widgets : Names) (text : Bytes) (tokens : List Token) (p : Checked) : Type 0 where
  pub read : IsRead widgets text tokens p.declared p.bodies
  pub right : BodiesAreRight p.declared p.bodies
