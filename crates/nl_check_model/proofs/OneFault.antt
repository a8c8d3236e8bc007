-- Code has one first fault at most, and none where it is accepted.
use Rattle.std.proofs.Common.{◌≡◌, inl, inr, ℕ, ◌+◌, List, [], ◌∷◌, All, refl, sym, ap, ◌∙◌, subst}
use Rattle.std.proofs.lemmas.List.Elements.{All-append, All-cons, All-nil}
use Rattle.nl_fixed.specs.Nouns.{Bytes, Names}
use Rattle.nl_scan.specs.declared.token.Token.{Token}
use Rattle.nl_scan.specs.Tokens.{start_of}
use Rattle.nl_tree.specs.declared.declared.Breed.{Breed}
use Rattle.nl_tree.specs.declared.declared.Declared.{Declared}
use Rattle.nl_tree.specs.declared.declared.Form.TheVariants as form
use Rattle.nl_tree.specs.declared.declared.Procedure.{Procedure}
use Rattle.nl_tree.specs.BodyFault.{IsTextFault}
use Rattle.nl_tree.specs.Checked.{IsModelFault}
use Rattle.nl_tree.specs.Term.{Term}
use Rattle.nl_tree.specs.Tokens as plain
use Rattle.nl_tree.specs.Tree.{Node}
use Rattle.nl_tree.specs.Vocabulary.{terms}
use Rattle.nl_decl.specs.declared.refusal.DeclKind.{DeclKind}
use Rattle.nl_decl.specs.Claims.{duplicate_in}
use Rattle.nl_decl.specs.Gathered.{Gathers}
use Rattle.nl_decl.specs.Outcome.{Declares, IsFaultOf}
use Rattle.nl_parse_grammar.specs.Texts.{lexemes_of, plain_tokens}
use Rattle.nl_decl_outline.proofs.Lawful.{one_place, or_place, unique}
use Rattle.nl_parse_grammar.proofs.Meant.{tokens_are_plain}
use Rattle.nl_tree.specs.declared.faults.BodyKind.{BodyKind}
use Rattle.nl_parse_grammar.proofs.Ends.{faults_are_unique, good_has_no_fault}
use Rattle.nl_parse_grammar.proofs.Taken.{trees_are_unique}
use Rattle.nl_tree.specs.declared.faults.CheckKind.{CheckKind}
use Rattle.nl_check.proofs.Firsts.{model_faults_are_unique, right_bodies_have_no_fault}
use Rattle.nl_check_model.specs.declared.faults.ModelKind.{ModelKind}
use Rattle.nl_check_model.specs.Laws.{AcceptedHasNoFault, CodeFaultsAreUnique, with_index}
use Rattle.nl_check_model.specs.ModelFault.{AreBodies, IsBody, IsCodeFault, IsFaultOfBodies, IsRead, body_of, text_of_body}
use Rattle.nl_check_model.proofs.Programs.{tokens_of_body}

-- ---- declarations

decl_faults_unique : (ls : List plain.Lexeme) (widgets : Names) (x y : DeclKind) (j k : ℕ) → IsFaultOf ls widgets x j → IsFaultOf ls widgets y k → (x ≡ y) × (j ≡ k)
decl_faults_unique ls widgets DeclKind.BadDeclaration DeclKind.BadDeclaration j k a b = (refl, one_place ls j k a b)
decl_faults_unique ls widgets DeclKind.BadDeclaration DeclKind.Duplicate j k a b = absurd ((or_place ls).0 (j, a) b.0 b.1.0)
decl_faults_unique ls widgets DeclKind.Duplicate DeclKind.BadDeclaration j k a b = absurd ((or_place ls).0 (k, b) a.0 a.1.0)
decl_faults_unique ls widgets DeclKind.Duplicate DeclKind.Duplicate j k a b =
    let same = sym a.1.1 ∙ ap (duplicate_in widgets) (unique ls a.0 b.0 a.1.0 b.1.0) ∙ b.1.1 in (refl, cc)

declared_has_no_fault : (ls : List plain.Lexeme) (widgets : Names) (d : Declared) (kind : DeclKind) (k : ℕ) → Declares ls widgets d → IsFaultOf ls widgets kind k → ⊥
declared_has_no_fault ls widgets d DeclKind.BadDeclaration k h fault = (or_place ls).0 (k, fault) h.0 h.1.0
declared_has_no_fault ls widgets d DeclKind.Duplicate k h fault =
    let same = sym h.1.1 ∙ ap (duplicate_in widgets) (unique ls h.0 fault.0 h.1.0 fault.1.0) ∙ fault.1.1 in cc

-- the same declarations with this index
made_of : (widgets globals turtles_own patches_own links_own : Names) → List Breed → List Procedure → List Term → Declared
made_of widgets globals turtles_own patches_own links_own breeds procedures index =
    record { widgets = widgets; globals = globals; turtles_own = turtles_own; patches_own = patches_own; links_own = links_own; breeds = breeds; procedures = procedures; index = index }

made_same : (index : List Term) (a1 b1 a2 b2 a3 b3 a4 b4 a5 b5 : Names) (a6 b6 : List Breed) (a7 b7 : List Procedure)
    → a1 ≡ b1 → a2 ≡ b2 → a3 ≡ b3 → a4 ≡ b4 → a5 ≡ b5 → a6 ≡ b6 → a7 ≡ b7 → made_of a1 a2 a3 a4 a5 a6 a7 index ≡ made_of b1 b2 b3 b4 b5 b6 b7 index
made_same index a1 b1 a2 b2 a3 b3 a4 b4 a5 b5 a6 b6 a7 b7 e1 e2 e3 e4 e5 e6 e7 = rw (e1, e2, e3, e4, e5, e6, e7)

-- what tokens declare is told but for the order of its index
pub declared_once : (ls : List plain.Lexeme) (widgets : Names) (d e : Declared) → Declares ls widgets d → Declares ls widgets e → e ≡ with_index d e.index
unfolding made_of
declared_once ls widgets d e h k =
    let same = unique ls k.0 h.0 k.1.0 h.1.0 in
    let g : Gathers widgets h.0 e = subst (λ ds. Gathers widgets ds e) same k.1.2 in
    let f = h.1.2 in
    made_same e.index e.widgets d.widgets e.globals d.globals e.turtles_own d.turtles_own e.patches_own d.patches_own e.links_own d.links_own e.breeds d.breeds e.procedures d.procedures
    (g.0 ∙ sym f.0) (g.1 ∙ sym f.1) (g.2 ∙ sym f.2) (g.3 ∙ sym f.3) (g.4 ∙ sym f.4) (g.5 ∙ sym f.5) (g.6 ∙ sym f.6)

-- ---- bodies

-- the tokens of a body and its `end`
all_of_body : (text : Bytes) (tokens : List Token) (p : Procedure) → All plain.IsToken (plain_tokens text tokens) → All plain.IsToken (text_of_body text tokens p)
all_of_body text tokens p all =
    All-append plain.IsToken (plain_tokens text (body_of tokens p)) _ (tokens_of_body text tokens p all) (All-cons plain.IsToken _ [] tt (All-nil plain.IsToken))

good_body : (text : Bytes) (tokens : List Token) (table : List Term) (p : Procedure) (tree : Node) (k : ℕ) (kind : BodyKind) → All plain.IsToken (plain_tokens text tokens)
    → IsBody text tokens table p tree → IsTextFault form.Commands p.inputs table (text_of_body text tokens p) k kind → ⊥
good_body text tokens table p tree k kind all good fault =
    good_has_no_fault form.Commands p.inputs table (text_of_body text tokens p) tree k kind (all_of_body text tokens p all) good fault

-- each body has one tree
bodies_unique : (text : Bytes) (tokens : List Token) (table : List Term) (ps : List Procedure) (xs ys : List Node)
    → AreBodies text tokens table ps xs → AreBodies text tokens table ps ys → xs ≡ ys
bodies_unique text tokens table [] [] [] a b = refl
bodies_unique text tokens table [] [] (y ∷ ys) a b = absurd b
bodies_unique text tokens table [] (x ∷ xs) ys a b = absurd a
bodies_unique text tokens table (p ∷ ps) [] ys a b = absurd a
bodies_unique text tokens table (p ∷ ps) (x ∷ xs) [] a b = absurd b
bodies_unique text tokens table (p ∷ ps) (x ∷ xs) (y ∷ ys) a b =
    let first = trees_are_unique form.Commands p.inputs table (text_of_body text tokens p) x y a.0.0 b.0.0 in
    let rest = bodies_unique text tokens table ps xs ys a.1 b.1 in cc

-- bodies that have trees have no fault
read_has_no_fault : (text : Bytes) (tokens : List Token) (table : List Term) (ps : List Procedure) (trees : List Node) (kind : BodyKind) (place : ℕ) → All plain.IsToken (plain_tokens text tokens)
    → AreBodies text tokens table ps trees → IsFaultOfBodies text tokens table ps kind place → ⊥
read_has_no_fault text tokens table [] trees kind place all h fault = fault
read_has_no_fault text tokens table (p ∷ ps) [] kind place all h fault = h
read_has_no_fault text tokens table (p ∷ ps) (x ∷ xs) kind place all h (inl fault) = good_body text tokens table p x fault.0 kind all h.0 fault.1.0
read_has_no_fault text tokens table (p ∷ ps) (x ∷ xs) kind place all h (inr later) = read_has_no_fault text tokens table ps xs kind place all h.1 later.1

body_faults_unique : (text : Bytes) (tokens : List Token) (table : List Term) (ps : List Procedure) (x y : BodyKind) (a b : ℕ) → All plain.IsToken (plain_tokens text tokens)
    → IsFaultOfBodies text tokens table ps x a → IsFaultOfBodies text tokens table ps y b → (x ≡ y) × (a ≡ b)
body_faults_unique text tokens table [] x y a b all h k = absurd h
body_faults_unique text tokens table (p ∷ ps) x y a b all (inl h) (inl k) =
    let same = faults_are_unique form.Commands p.inputs table (text_of_body text tokens p) h.0 k.0 x y h.1.0 k.1.0 in
    (same.1, h.1.1 ∙ ap (λ n. start_of text tokens (p.first + n)) same.0 ∙ sym k.1.1)
body_faults_unique text tokens table (p ∷ ps) x y a b all (inl h) (inr k) = absurd (good_body text tokens table p k.0.0 h.0 x all k.0.1 h.1.0)
body_faults_unique text tokens table (p ∷ ps) x y a b all (inr h) (inl k) = absurd (good_body text tokens table p h.0.0 k.0 y all h.0.1 k.1.0)
body_faults_unique text tokens table (p ∷ ps) x y a b all (inr h) (inr k) = body_faults_unique text tokens table ps x y a b all h.1 k.1

-- ---- who may run them

-- two readings of code have the same bodies, and are both those of the first
pub same_bodies : (widgets : Names) (text : Bytes) (tokens : List Token) (d e : Declared) (xs ys : List Node) → IsRead widgets text tokens d xs → IsRead widgets text tokens e ys → ys ≡ xs
unfolding made_of
same_bodies widgets text tokens d e xs ys h k =
    let same = declared_once (lexemes_of text tokens) widgets d e h.declares k.declares in
    bodies_unique text tokens (terms d) d.procedures ys xs (subst (λ (x : Declared). AreBodies text tokens (terms x) x.procedures ys) same k.trees) h.trees

check_faults_unique : (widgets : Names) (text : Bytes) (tokens : List Token) (x y : CheckKind) (p q : ℕ)
    → IsCodeFault widgets text tokens (ModelKind.Check x) p → IsCodeFault widgets text tokens (ModelKind.Check y) q → (x ≡ y) × (p ≡ q)
unfolding made_of
check_faults_unique widgets text tokens x y p q (d, xs, i, a, (h, fault, at)) (e, ys, j, b, (k, other, there)) =
    let same = declared_once (lexemes_of text tokens) widgets d e h.declares k.declares in
    let bodies = same_bodies widgets text tokens d e xs ys h k in
    let second : IsModelFault d xs j y b = subst (λ zs. IsModelFault d zs j y b) bodies (subst (λ (m : Declared). IsModelFault m ys j y b) same other) in
    let found = model_faults_are_unique d xs i j x y a b fault second in
    (found.1, at ∙ ap (λ s. s.start) found.2 ∙ sym there)

-- ---- code

-- bodies that have a fault aren't read
faulty_is_not_read : (widgets : Names) (text : Bytes) (tokens : List Token) (d : Declared) (bodies : List Node) (kind : BodyKind) (place : ℕ) → All plain.IsToken (plain_tokens text tokens)
    → IsRead widgets text tokens d bodies → IsCodeFault widgets text tokens (ModelKind.Body kind) place → ⊥
unfolding made_of
faulty_is_not_read widgets text tokens d bodies kind place all h (e, (declares, fault)) =
    let same = declared_once (lexemes_of text tokens) widgets d e h.declares declares in
    read_has_no_fault text tokens (terms d) d.procedures bodies kind place all h.trees (subst (λ (x : Declared). IsFaultOfBodies text tokens (terms x) x.procedures kind place) same fault)

bodies_faults_unique : (widgets : Names) (text : Bytes) (tokens : List Token) (x y : BodyKind) (p q : ℕ) → All plain.IsToken (plain_tokens text tokens)
    → IsCodeFault widgets text tokens (ModelKind.Body x) p → IsCodeFault widgets text tokens (ModelKind.Body y) q → (x ≡ y) × (p ≡ q)
unfolding made_of
bodies_faults_unique widgets text tokens x y p q all (d, (h, a)) (e, (k, b)) =
    let same = declared_once (lexemes_of text tokens) widgets d e h k in
    body_faults_unique text tokens (terms d) d.procedures x y p q all a (subst (λ (m : Declared). IsFaultOfBodies text tokens (terms m) m.procedures y q) same b)

no_declarations : (widgets : Names) (text : Bytes) (tokens : List Token) (d : Declared) (kind : DeclKind) (place : ℕ) → Declares (lexemes_of text tokens) widgets d → IsCodeFault widgets text tokens (ModelKind.Declaration kind) place → ⊥
no_declarations widgets text tokens d kind place h fault = declared_has_no_fault (lexemes_of text tokens) widgets d kind fault.0 h fault.1.0

pub code_faults_are_unique : CodeFaultsAreUnique
code_faults_are_unique widgets text tokens scanned (ModelKind.Declaration x) (ModelKind.Declaration y) p q a b =
    let same = decl_faults_unique (lexemes_of text tokens) widgets x y a.0 b.0 a.1.0 b.1.0 in
    (ap ModelKind.Declaration same.0, a.1.1 ∙ ap (start_of text tokens) same.1 ∙ sym b.1.1)
code_faults_are_unique widgets text tokens scanned (ModelKind.Body x) (ModelKind.Body y) p q a b =
    let same = bodies_faults_unique widgets text tokens x y p q (tokens_are_plain text tokens scanned) a b in (ap ModelKind.Body same.0, same.1)
code_faults_are_unique widgets text tokens scanned (ModelKind.Check x) (ModelKind.Check y) p q a b =
    let same = check_faults_unique widgets text tokens x y p q a b in (ap ModelKind.Check same.0, same.1)
code_faults_are_unique widgets text tokens scanned (ModelKind.Declaration x) (ModelKind.Body y) p q a b = absurd (no_declarations widgets text tokens b.0 x p b.1.0 a)
code_faults_are_unique widgets text tokens scanned (ModelKind.Declaration x) (ModelKind.Check y) p q a b = absurd (no_declarations widgets text tokens b.0 x p b.4.0.declares a)
code_faults_are_unique widgets text tokens scanned (ModelKind.Body x) (ModelKind.Declaration y) p q a b = absurd (no_declarations widgets text tokens a.0 y q a.1.0 b)
code_faults_are_unique widgets text tokens scanned (ModelKind.Body x) (ModelKind.Check y) p q a b = absurd (faulty_is_not_read widgets text tokens b.0 b.1 x p (tokens_are_plain text tokens scanned) b.4.0 a)
code_faults_are_unique widgets text tokens scanned (ModelKind.Check x) (ModelKind.Declaration y) p q a b = absurd (no_declarations widgets text tokens a.0 y q a.4.0.declares b)
code_faults_are_unique widgets text tokens scanned (ModelKind.Check x) (ModelKind.Body y) p q a b = absurd (faulty_is_not_read widgets text tokens a.0 a.1 y q (tokens_are_plain text tokens scanned) a.4.0 b)
code_faults_are_unique widgets text tokens scanned (ModelKind.Scan x) y p q a b = absurd a
code_faults_are_unique widgets text tokens scanned (ModelKind.Declaration x) (ModelKind.Scan y) p q a b = absurd b
code_faults_are_unique widgets text tokens scanned (ModelKind.Body x) (ModelKind.Scan y) p q a b = absurd b
code_faults_are_unique widgets text tokens scanned (ModelKind.Check x) (ModelKind.Scan y) p q a b = absurd b

pub accepted_has_no_fault : AcceptedHasNoFault
unfolding made_of
accepted_has_no_fault widgets text tokens scanned p (ModelKind.Declaration kind) place h fault = no_declarations widgets text tokens p.declared kind place h.read.declares fault
accepted_has_no_fault widgets text tokens scanned p (ModelKind.Body kind) place h fault = faulty_is_not_read widgets text tokens p.declared p.bodies kind place (tokens_are_plain text tokens scanned) h.read fault
accepted_has_no_fault widgets text tokens scanned p (ModelKind.Check kind) place h (e, ys, i, span, (k, fault, at)) =
    let same = declared_once (lexemes_of text tokens) widgets p.declared e h.read.declares k.declares in
    let bodies = same_bodies widgets text tokens p.declared e p.bodies ys h.read k in
    right_bodies_have_no_fault p.declared p.bodies i kind span h.right
    (subst (λ zs. IsModelFault p.declared zs i kind span) bodies (subst (λ (m : Declared). IsModelFault m ys i kind span) same fault))
accepted_has_no_fault widgets text tokens scanned p (ModelKind.Scan kind) place h fault = fault
