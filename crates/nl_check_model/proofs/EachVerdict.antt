-- Code is a program or has a fault. So each file has a verdict.
use Rattle.std.proofs.Common.{◌≡◌, ◌⊎◌, inl, inr, ℕ, ◌+◌, Bool, true, false, List, [], ◌∷◌, Option, Some, None, Result, Ok, Err, length, nat_lt, slice_get, refl, sym, ◌∙◌}
use Rattle.nl_fixed.specs.Nouns.{Bytes, Names}
use Rattle.nl_scan.specs.declared.token.ScanKind.{ScanKind}
use Rattle.nl_scan.specs.declared.token.Token.{Token}
use Rattle.nl_scan.specs.CodePart.{code_of}
use Rattle.nl_scan.specs.Faults.{ScanFault}
use Rattle.nl_scan.specs.Tokens.{start_of, text_limit, tokens_of}
use Rattle.nl_tree.specs.declared.declared.Declared.{Declared}
use Rattle.nl_tree.specs.declared.declared.Form.TheVariants as form
use Rattle.nl_tree.specs.declared.declared.Procedure.{Procedure}
use Rattle.nl_tree.specs.declared.faults.BodyKind.{BodyKind}
use Rattle.nl_tree.specs.Checked.{Checked}
use Rattle.nl_tree.specs.Tokens.{Lexeme}
use Rattle.nl_tree.specs.Tree.{Node}
use Rattle.nl_tree.specs.Vocabulary.{terms}
use Rattle.nl_decl_outline.specs.declared.declaration.Declaration.{Declaration}
use Rattle.nl_decl_outline.specs.declared.declaration.Owner.TheVariants as owner
use Rattle.nl_decl_outline.specs.declared.mode.Mode.{Mode}
use Rattle.nl_decl_outline.specs.declared.mode.Mode.TheVariants.{Between, Awaiting, Listing, Titling, Heading, Inside}
use Rattle.nl_decl_outline.specs.Declarations.{AreDeclarations, IsBadPlace}
use Rattle.nl_decl_outline.specs.inner.Reading.{State, run}
use Rattle.nl_decl_outline.proofs.Begins.{bad_end}
use Rattle.nl_decl_outline.proofs.Lawful.{are_taken, or_place}
use Rattle.nl_decl.specs.declared.refusal.DeclKind.{DeclKind}
use Rattle.nl_decl.specs.Claims.{duplicate_in}
use Rattle.nl_decl.specs.Gathered.{Gathers, breeds_in, globals_in, owned_in, procedures_in}
use Rattle.nl_decl.specs.Outcome.{Declares}
use Rattle.nl_parse_grammar.specs.Texts.{lexemes_of, plain_tokens}
use Rattle.nl_parse_grammar.proofs.Ends.{texts_are_good_or_faulty}
use Rattle.nl_parse_grammar.proofs.Good.{models_have_words}
use Rattle.nl_check.proofs.Either.{bodies_are_right_or_faulty}
use Rattle.nl_check_model.specs.declared.faults.ModelKind.{ModelKind}
use Rattle.nl_check_model.specs.Laws.{CodeIsAcceptedOrFaulty, FilesHaveVerdicts}
use Rattle.nl_check_model.specs.ModelFault.{AreBodies, IsAccepted, IsBody, IsCodeFault, IsFaultOfBodies, IsFaultOfBody, IsRead, body_of, span_by}
use Rattle.nl_check_model.specs.Verdict.{FileSays, IsVerdict, ScannedSay, TokensSay, Verdict, fault_at}
use Rattle.nl_check_model.proofs.Programs.{bodies_many}

-- ---- declarations

abbrev DeclaredOrBad : List Lexeme → Type 0
DeclaredOrBad ls = ((ds : List Declaration) × AreDeclarations ls ds) ⊎ ((k : ℕ) × IsBadPlace ls k)

-- tokens that end within a declaration have a bad place at their end
unended : (ls : List Lexeme) (m : Mode) (done : List Declaration) → run ls ≡ Some (record { mode = m; done = done }) → (m ≡ Between → ⊥) → DeclaredOrBad ls
unended ls m done e within = inr (length ls, bad_end ls (record { mode = m; done = done }) e within)

by_mode : (ls : List Lexeme) (m : Mode) (done : List Declaration) → run ls ≡ Some (record { mode = m; done = done }) → DeclaredOrBad ls
by_mode ls Between done e = inl (done, (are_taken ls done).1 e)
by_mode ls (Awaiting s) done e = unended ls (Awaiting s) done e (λ m. cc)
by_mode ls (Listing s names) done e = unended ls (Listing s names) done e (λ m. cc)
by_mode ls (Titling reporter) done e = unended ls (Titling reporter) done e (λ m. cc)
by_mode ls (Heading reporter name) done e = unended ls (Heading reporter name) done e (λ m. cc)
by_mode ls (Inside reporter name inputs n) done e = unended ls (Inside reporter name inputs n) done e (λ m. cc)

by_run : (ls : List Lexeme) (s : Option State) → run ls ≡ s → DeclaredOrBad ls
by_run ls None e = inr ((or_place ls).1 (λ ds h. let bad : None ≡ Some (record { mode = Between; done = ds }) = sym e ∙ (are_taken ls ds).0 h in cc))
by_run ls (Some s) e = by_mode ls s.mode s.done e

-- what declarations declare beside widgets; their index may be any
abbrev gathered : Names → List Declaration → Declared
gathered widgets ds = record {
  widgets = widgets;
  globals = globals_in ds;
  turtles_own = owned_in owner.AllTurtles ds;
  patches_own = owned_in owner.AllPatches ds;
  links_own = owned_in owner.AllLinks ds;
  breeds = breeds_in ds;
  procedures = procedures_in ds;
  index = [];
}

gathered_is : (widgets : Names) (ds : List Declaration) → Gathers widgets ds (gathered widgets ds)
gathered_is widgets ds = (refl, refl, refl, refl, refl, refl, refl)

-- ---- bodies

module _ (text : Bytes) (tokens : List Token) (d : Declared) where
  body_or_fault : (p : Procedure) → ((tree : Node) × IsBody text tokens (terms d) p tree) ⊎ ((kind : BodyKind) × (place : ℕ) × IsFaultOfBody text tokens (terms d) p kind place)
  body_or_fault p =
      elim (texts_are_good_or_faulty form.Commands p.inputs (terms d) (plain_tokens text (body_of tokens p)) (span_by (slice_get tokens p.after)) (models_have_words d)) [
        | inl good ↦ inl good
        | inr (k, kind, fault) ↦ inr (kind, start_of text tokens (p.first + k), (k, (fault, refl)))
      ]

  bodies_or_fault : (ps : List Procedure) → ((trees : List Node) × AreBodies text tokens (terms d) ps trees) ⊎ ((kind : BodyKind) × (place : ℕ) × IsFaultOfBodies text tokens (terms d) ps kind place)
  bodies_or_fault [] = inl ([], tt)
  bodies_or_fault (p ∷ ps) = elim (body_or_fault p) [
    | inr (kind, place, fault) ↦ inr (kind, place, inl fault)
    | inl (tree, good) ↦ elim (bodies_or_fault ps) [
      | inl (trees, are) ↦ inl (tree ∷ trees, (good, are))
      | inr (kind, place, fault) ↦ inr (kind, place, inr ((tree, good), fault))
    ]
  ]

-- ---- code

-- the program of these declarations and bodies; its kinds may be any
abbrev program_of : Declared → List Node → Checked
program_of d bodies = record { declared = d; bodies = bodies; kinds = [] }

module _ (widgets : Names) (text : Bytes) (tokens : List Token) where
  abbrev AcceptedOrFaulty : Type 0
  AcceptedOrFaulty = ((p : Checked) × IsAccepted widgets text tokens p) ⊎ ((kind : ModelKind) × (place : ℕ) × IsCodeFault widgets text tokens kind place)

  by_check : (d : Declared) (bodies : List Node) → IsRead widgets text tokens d bodies → AcceptedOrFaulty
  by_check d bodies read = elim (bodies_are_right_or_faulty d bodies (bodies_many text tokens (terms d) d.procedures bodies read.trees)) [
    | inl right ↦ inl (program_of d bodies, record { read = read; right = right })
    | inr (i, kind, span, fault) ↦ inr (ModelKind.Check kind, span.start, (d, bodies, i, span, (read, fault, refl)))
  ]

  by_bodies : (d : Declared) → Declares (lexemes_of text tokens) widgets d → AcceptedOrFaulty
  by_bodies d declares = elim (bodies_or_fault text tokens d d.procedures) [
    | inl (bodies, trees) ↦ by_check d bodies (record { declares = declares; trees = trees })
    | inr (kind, place, fault) ↦ inr (ModelKind.Body kind, place, (d, (declares, fault)))
  ]

  by_duplicate : (ds : List Declaration) → AreDeclarations (lexemes_of text tokens) ds → (found : Option ℕ) → duplicate_in widgets ds ≡ found → AcceptedOrFaulty
  by_duplicate ds are None is = by_bodies (gathered widgets ds) (ds, (are, is, gathered_is widgets ds))
  by_duplicate ds are (Some k) is = inr (ModelKind.Declaration DeclKind.Duplicate, start_of text tokens k, (k, ((ds, (are, is)), refl)))

pub code_is_accepted_or_faulty : CodeIsAcceptedOrFaulty
code_is_accepted_or_faulty widgets text tokens = elim (by_run (lexemes_of text tokens) (run (lexemes_of text tokens)) refl) [
  | inl (ds, are) ↦ by_duplicate widgets text tokens ds are (duplicate_in widgets ds) refl
  | inr (k, bad) ↦ inr (ModelKind.Declaration DeclKind.BadDeclaration, start_of text tokens k, (k, (bad, refl)))
]

-- ---- verdicts

tokens_say : (widgets : Names) (code : Bytes) (tokens : List Token) → (verdict : Verdict) × TokensSay widgets code tokens verdict
tokens_say widgets code tokens = elim (code_is_accepted_or_faulty widgets code tokens) [
  | inl (p, accepted) ↦ (Ok p, accepted)
  | inr (kind, place, fault) ↦ (Err (fault_at code kind place), (kind, place, (fault, refl)))
]

scanned_say : (widgets : Names) (code : Bytes) (scanned : Result (List Token) ScanFault) → (verdict : Verdict) × ScannedSay widgets code scanned verdict
scanned_say widgets code (Ok tokens) = tokens_say widgets code tokens
scanned_say widgets code (Err fault) = (Err (fault_at code (ModelKind.Scan fault.kind) fault.place), refl)

file_says : (limit : ℕ) (long : Bool) (widgets : Names) (file : Bytes) → (verdict : Verdict) × FileSays limit long widgets file verdict
file_says limit true widgets file = (Err (fault_at file (ModelKind.Scan ScanKind.TooLong) limit), refl)
file_says limit false widgets file = scanned_say widgets (code_of file) (tokens_of (code_of file))

pub files_have_verdicts : FilesHaveVerdicts
unfolding IsVerdict
files_have_verdicts widgets file = file_says text_limit (nat_lt text_limit (length file)) widgets file
