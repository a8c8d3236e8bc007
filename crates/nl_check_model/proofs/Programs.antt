-- The reading of a program: its bodies one after another, and what they are.
use Rattle.std.proofs.Common.{◌≡◌, Result, Ok, Err, IfOk, IfErr, OnOk, inl, inr, ℕ, zero, suc, ◌+◌, ◌-◌, ◌≤◌, ◌<◌, List, [], ◌∷◌, ◌++◌, length, take, drop, get_or, map, Some, slice_get, All, refl, sym, ap, ◌∙◌, subst, arith, codes}
use Rattle.std.proofs.lemmas.List.{drop-map, drop_more, length-map, take-append-drop, take-map, take_all, take_more}
use Rattle.std.proofs.lemmas.List.Elements.{All-drop, All-take}
use Rattle.std.proofs.lemmas.Option.{get_or_from_slice_get, slice_get-get_or, slice_get_read, slice_get_within}
use Rattle.nl_fixed.specs.Nouns.{Bytes, Names}
use Rattle.nl_scan.specs.declared.token.Token.{Token}
use Rattle.nl_scan.specs.Tokens.{IsTokenOf, tokens_of}
use Rattle.nl_tree.specs.declared.declared.Declared.{Declared}
use Rattle.nl_tree.specs.declared.declared.Procedure.{Procedure}
use Rattle.nl_tree.specs.Checked.{BodiesAreRight, BodiesFit, Checked}
use Rattle.nl_tree.specs.Term.{Term}
use Rattle.nl_tree.specs.Tokens as plain
use Rattle.nl_tree.specs.Tree.{Node}
use Rattle.nl_tree.specs.Vocabulary.{terms}
use Rattle.nl_decl.specs.Bodies.{LieFrom, span_of}
use Rattle.nl_decl.specs.Outcome.{Declares}
use Rattle.nl_parse_grammar.specs.Texts.{lexeme_of, lexemes_of, plain_token, plain_tokens}
use Rattle.nl_tree.specs.declared.faults.BodyKind.{BodyKind}
use Rattle.nl_check_model.specs.declared.faults.ModelKind.{ModelKind}
use Rattle.nl_check_model.specs.declared.faults.ModelRefusal.{ModelRefusal}
use Rattle.nl_check_model.specs.ModelFault.{AreBodies, IsBody, IsFaultOfBodies, IsFaultOfBody, IsRead, body_of, span_by}
use Rattle.nl_check_model.specs.Verdict.{CodeSays, ModelGives, ScannedSay, TokensSay}
use Rattle.nl_check_model.specs.inner.ProgramParts.{IsBodiesRefusal, IsBodyRefusal, IsCheckRefusal, IsCodeRefusal}

-- the tokens of a text are tokens of it
pub tokens_of_text : (text : Bytes) (tokens : List Token) → tokens_of text ≡ Ok tokens → All (IsTokenOf text) tokens
tokens_of_text text tokens is = λ k d below. (tokens, k, is, slice_get-get_or tokens k d below)

-- the tokens of a body are some of the text's
pub tokens_of_body : (text : Bytes) (tokens : List Token) (p : Procedure) → All plain.IsToken (plain_tokens text tokens) → All plain.IsToken (plain_tokens text (body_of tokens p))
tokens_of_body text tokens p all =
    let behind = subst (All plain.IsToken) (drop-map (plain_token text) p.first tokens) (All-drop plain.IsToken p.first (plain_tokens text tokens) all) in
    subst (All plain.IsToken) (take-map (plain_token text) (p.after - p.first) (drop p.first tokens)) (All-take plain.IsToken (p.after - p.first) (plain_tokens text (drop p.first tokens)) behind)

-- one tree a procedure
pub bodies_many : (text : Bytes) (tokens : List Token) (table : List Term) (ps : List Procedure) (trees : List Node) → AreBodies text tokens table ps trees → length trees ≡ length ps
bodies_many text tokens table [] [] h = refl
bodies_many text tokens table [] (tree ∷ trees) h = absurd h
bodies_many text tokens table (p ∷ ps) [] h = absurd h
bodies_many text tokens table (p ∷ ps) (tree ∷ trees) h = ap suc (bodies_many text tokens table ps trees h.1)

body_at : (text : Bytes) (tokens : List Token) (table : List Term) (ps : List Procedure) (trees : List Node) (i : ℕ) (p : Procedure) (tree : Node)
    → AreBodies text tokens table ps trees → slice_get ps i ≡ Some p → slice_get trees i ≡ Some tree → IsBody text tokens table p tree
body_at text tokens table [] trees zero p tree h a b = cc
body_at text tokens table [] trees (suc i) p tree h a b = cc
body_at text tokens table (q ∷ ps) [] zero p tree h a b = absurd h
body_at text tokens table (q ∷ ps) [] (suc i) p tree h a b = absurd h
body_at text tokens table (q ∷ ps) (first ∷ trees) zero p tree h a b =
    let same_tree : first ≡ tree = cc in
    let same : q ≡ p = cc in
    subst (λ x. IsBody text tokens table x tree) same (subst (λ x. IsBody text tokens table q x) same_tree h.0)
body_at text tokens table (q ∷ ps) (first ∷ trees) (suc i) p tree h a b = body_at text tokens table ps trees i p tree h.1 a b

-- each body is a tree of commands in which its procedure's inputs are known
pub bodies_fit : (text : Bytes) (tokens : List Token) (d : Declared) (trees : List Node) → All plain.IsToken (plain_tokens text tokens)
    → AreBodies text tokens (terms d) d.procedures trees → BodiesFit d trees
bodies_fit text tokens d trees all h = λ i p tree a b.
    (plain_tokens text (body_of tokens p), span_by (slice_get tokens p.after), (tokens_of_body text tokens p all, body_at text tokens (terms d) d.procedures trees i p tree h a b))

-- one body more
pub bodies_more : (text : Bytes) (tokens : List Token) (table : List Term) (ps : List Procedure) (trees : List Node) (p : Procedure) (tree : Node)
    → AreBodies text tokens table ps trees → IsBody text tokens table p tree → AreBodies text tokens table (ps ++ p ∷ []) (trees ++ tree ∷ [])
bodies_more text tokens table [] [] p tree h is = (is, tt)
bodies_more text tokens table [] (x ∷ trees) p tree h is = absurd h
bodies_more text tokens table (q ∷ ps) [] p tree h is = absurd h
bodies_more text tokens table (q ∷ ps) (x ∷ trees) p tree h is = (h.0, bodies_more text tokens table ps trees p tree h.1 is)

-- the fault of the body behind those that are read
pub fault_behind : (text : Bytes) (tokens : List Token) (table : List Term) (ps : List Procedure) (trees : List Node) (p : Procedure) (rest : List Procedure) (kind : BodyKind) (place : ℕ)
    → AreBodies text tokens table ps trees → IsFaultOfBody text tokens table p kind place → IsFaultOfBodies text tokens table (ps ++ p ∷ rest) kind place
fault_behind text tokens table [] [] p rest kind place h fault = inl fault
fault_behind text tokens table [] (x ∷ trees) p rest kind place h fault = absurd h
fault_behind text tokens table (q ∷ ps) [] p rest kind place h fault = absurd h
fault_behind text tokens table (q ∷ ps) (x ∷ trees) p rest kind place h fault = inr ((x, h.0), fault_behind text tokens table ps trees p rest kind place h.1 fault)

-- the tokens of a body stand in the text, and its `end` behind them
pub lies_within : (text : Bytes) (tokens : List Token) (at : ℕ) (ps : List Procedure) (i : ℕ) (p : Procedure)
    → LieFrom (lexemes_of text tokens) at (map span_of ps) → slice_get ps i ≡ Some p → (p.first ≤ p.after) × (p.after < length tokens)
lies_within text tokens at [] zero p lie there = cc
lies_within text tokens at [] (suc i) p lie there = cc
lies_within text tokens at (q ∷ ps) zero p lie there =
    let same : q ≡ p = cc in
    let within = slice_get_within (lexemes_of text tokens) q.after (plain.Word (codes "end")) lie.2 in
    let P : Procedure → Type 0 = λ x. (x.first ≤ x.after) × (x.after < length tokens) in
    let as_many : length (lexemes_of text tokens) ≡ length tokens = length-map tokens (lexeme_of text) in
    subst P same (lie.1, omega (arith, within, as_many))
lies_within text tokens at (q ∷ ps) (suc i) p lie there = lies_within text tokens (q.after + 1) ps i p lie.4 there

-- ---- what a part refuses, the whole does

pub bodies_refuse : (widgets : Names) (text : Bytes) (tokens : List Token) (d : Declared) (e : ModelRefusal) → Declares (lexemes_of text tokens) widgets d
    → IsBodiesRefusal text tokens (terms d) d.procedures e → IsCodeRefusal widgets text tokens e
bodies_refuse widgets text tokens d (ModelRefusal.Fault fault) declares h = (ModelKind.Body h.0, h.1, ((d, (declares, h.2.0)), h.2.1))
bodies_refuse widgets text tokens d ModelRefusal.NoMemory declares h = tt

pub check_refuses : (widgets : Names) (text : Bytes) (tokens : List Token) (d : Declared) (bodies : List Node) (e : ModelRefusal) → IsRead widgets text tokens d bodies
    → IsCheckRefusal text d bodies e → IsCodeRefusal widgets text tokens e
check_refuses widgets text tokens d bodies (ModelRefusal.Fault fault) read h = (ModelKind.Check h.0, h.2.start, ((d, bodies, h.1, h.2, (read, h.3.0, refl)), h.3.1))
check_refuses widgets text tokens d bodies ModelRefusal.NoMemory read h = tt

-- a body that is refused behind those that are read
pub body_refuses : (text : Bytes) (tokens : List Token) (table : List Term) (ps : List Procedure) (trees : List Node) (p : Procedure) (rest : List Procedure) (e : ModelRefusal)
    → AreBodies text tokens table ps trees → IsBodyRefusal text tokens table p e → IsBodiesRefusal text tokens table (ps ++ p ∷ rest) e
body_refuses text tokens table ps trees p rest (ModelRefusal.Fault fault) h refused =
    (refused.0, refused.1, (fault_behind text tokens table ps trees p rest refused.0 refused.1 h refused.2.0, refused.2.1))
body_refuses text tokens table ps trees p rest ModelRefusal.NoMemory h refused = tt

-- ---- procedure by procedure

-- the procedure at a place
pub procedure_there : (items ps : List Procedure) (i : ℕ) (p : Procedure) → items ≡ ps → i < length items → p ≡ get_or items i p → slice_get ps i ≡ Some p
procedure_there items ps i p is below here = ap (λ xs. slice_get xs i) (sym is) ∙ slice_get_read items (length items) i p refl below here

rest_there : (ps : List Procedure) (i : ℕ) (p : Procedure) → slice_get ps i ≡ Some p → take i ps ++ p ∷ drop (i + 1) ps ≡ ps
rest_there ps i p there =
    let rest = drop_more ps i p (slice_get_within ps i p there) ∙ ap (λ (q : Procedure). q ∷ drop (i + 1) ps) (get_or_from_slice_get ps i p p there) in
    ap (λ qs. take i ps ++ qs) (sym rest) ∙ take-append-drop i ps

more_there : (ps : List Procedure) (i : ℕ) (p : Procedure) → slice_get ps i ≡ Some p → take i ps ++ p ∷ [] ≡ take (i + 1) ps
more_there ps i p there =
    sym (take_more ps i p (slice_get_within ps i p there) ∙ ap (λ (q : Procedure). take i ps ++ q ∷ []) (get_or_from_slice_get ps i p p there))

-- the trees so far, and one more
pub read_more : (text : Bytes) (tokens : List Token) (table : List Term) (ps : List Procedure) (trees : List Node) (i : ℕ) (p : Procedure) (tree : Node) → slice_get ps i ≡ Some p
    → AreBodies text tokens table (take i ps) trees → IsBody text tokens table p tree → AreBodies text tokens table (take (i + 1) ps) (trees ++ tree ∷ [])
read_more text tokens table ps trees i p tree there h is =
    subst (λ qs. AreBodies text tokens table qs (trees ++ tree ∷ [])) (more_there ps i p there) (bodies_more text tokens table (take i ps) trees p tree h is)

-- the next body is refused, and so are all
pub refused_there : (text : Bytes) (tokens : List Token) (table : List Term) (ps : List Procedure) (trees : List Node) (i : ℕ) (p : Procedure) (e : ModelRefusal) → slice_get ps i ≡ Some p
    → AreBodies text tokens table (take i ps) trees → IsBodyRefusal text tokens table p e → IsBodiesRefusal text tokens table ps e
refused_there text tokens table ps trees i p e there h refused =
    subst (λ qs. IsBodiesRefusal text tokens table qs e) (rest_there ps i p there) (body_refuses text tokens table (take i ps) trees p (drop (i + 1) ps) e h refused)

-- and all are read
pub read_all : (text : Bytes) (tokens : List Token) (table : List Term) (items ps : List Procedure) (trees : List Node) (i : ℕ) → items ≡ ps → length items ≤ i
    → AreBodies text tokens table (take i ps) trees → AreBodies text tokens table ps trees
read_all text tokens table items ps trees i is over h =
    subst (λ qs. AreBodies text tokens table qs trees) (take_all i ps (omega (arith, over, ap length is))) h

-- ---- the program that is made

-- a program of what was read is accepted, and a refusal of it is one of the code
pub checked_says : (widgets : Names) (text : Bytes) (tokens : List Token) (d : Declared) (bodies : List Node) (result : Result Checked ModelRefusal)
    → IsRead widgets text tokens d bodies → IfOk result (λ p. p.declared ≡ d) → IfOk result (λ p. p.bodies ≡ bodies) → OnOk result (BodiesAreRight d bodies)
    → IfErr result (IsCheckRefusal text d bodies) → ModelGives (TokensSay widgets text tokens) result
checked_says widgets text tokens d bodies (Ok p) read declared are right refused =
    record {
      read = subst (λ (x : Declared). IsRead widgets text tokens x p.bodies) (sym declared) (subst (IsRead widgets text tokens d) (sym are) read);
      right = subst (λ (x : Declared). BodiesAreRight x p.bodies) (sym declared) (subst (BodiesAreRight d) (sym are) right);
    }
checked_says widgets text tokens d bodies (Err e) read declared are right refused =
    check_refuses widgets text tokens d bodies e read refused

-- ---- code

-- what tokens say, the code says whose they are
pub says_of_tokens : (widgets : Names) (code text : Bytes) (tokens ts : List Token) (result : Result Checked ModelRefusal) → tokens_of code ≡ Ok tokens → text ≡ code → ts ≡ tokens
    → ModelGives (TokensSay widgets text ts) result → ModelGives (CodeSays widgets code) result
says_of_tokens widgets code text tokens ts result scanned same all says =
    let of_code = subst (λ t. ModelGives (TokensSay widgets t ts) result) same says in
    let of_tokens = subst (λ xs. ModelGives (TokensSay widgets code xs) result) all of_code in
    subst (λ read. ModelGives (ScannedSay widgets code read) result) (sym scanned) of_tokens
