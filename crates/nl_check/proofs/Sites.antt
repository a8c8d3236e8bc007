-- The words of a body's own site: what they allow and which procedures they call, and chains of calls between bodies.
use Rattle.std.proofs.Common.{◌≡◌, ℕ, zero, suc, true, false, not, IsTrue, List, [], ◌∷◌, ◌++◌, Option, Some, None, inl, inr, refl, sym, ap, subst, ◌∙◌, arith, append_assoc, append-nil}
use Rattle.std.specs.List.{Contains}
use Rattle.std.proofs.lemmas.List.Elements.{Contains-append_left, Contains-append_right, Contains-append_cases}
use Rattle.nl_words.specs.declared.entry.Kinds.{Kinds}
use Rattle.nl_words.specs.Kinds.{everyone}
use Rattle.nl_words.specs.declared.entry.Manner.TheVariants.{Run, Set, Spread}
use Rattle.nl_tree.specs.declared.declared.What.{What}
use Rattle.nl_tree.specs.declared.declared.What.TheVariants as what
use Rattle.nl_tree.specs.Tree.{Node}
use Rattle.nl_tree.specs.Term.{Term}
use Rattle.nl_tree.specs.Vocabulary.{term_named}
use Rattle.nl_tree.specs.Context.{Kind, allows, Piece, Pieces, use_of, block_of, no_piece, a_piece, pieces, with_piece, words_after, site_words}
use Rattle.nl_check.specs.declared.calls.Call.{Call}
use Rattle.nl_check.specs.declared.step.Step.{Step}
use Rattle.nl_check.specs.declared.step.Step.TheVariants as step
use Rattle.nl_check.specs.inner.Kinds.{meet}
use Rattle.nl_check.specs.inner.Steps.{runs_of, call_of, calls_of, piece_steps, pieces_steps, steps_of}
use Rattle.nl_check.specs.inner.Calls.{runs_at, runs_in, callee_at, call_to, calls_in, body_steps}
use Rattle.nl_check.proofs.Meets.{meet_lacks, meet_assoc, meet_left, meet_right, not_both, everyone_allowed}

-- the words of a site

abbrev piece_words : Piece → List (List ℕ)
piece_words (use_of w s Run) = w ∷ []
piece_words (use_of w s Set) = w ∷ []
piece_words (use_of w s Spread) = []
piece_words (block_of first ps) = []

abbrev words_of : List Piece → List (List ℕ)
words_of [] = []
words_of (p ∷ ps) = piece_words p ++ words_of ps

with_words : (ws : List (List ℕ)) (p : Piece) → with_piece ws p ≡ ws ++ piece_words p
with_words ws (use_of w s Run) = refl
with_words ws (use_of w s Set) = refl
with_words ws (use_of w s Spread) = sym (append-nil ws)
with_words ws (block_of first ps) = sym (append-nil ws)

words_are : (ws : List (List ℕ)) (ps : List Piece) → words_after ws ps ≡ ws ++ words_of ps
words_are ws [] = sym (append-nil ws)
words_are ws (p ∷ ps) = words_are (with_piece ws p) ps ∙ ap (λ xs. xs ++ words_of ps) (with_words ws p) ∙ append_assoc ws (piece_words p) (words_of ps)

-- what they allow and call

module _ (table : List Term) where
  abbrev pub runs_words : List (List ℕ) → Kinds
  runs_words [] = everyone
  runs_words (w ∷ ws) = meet (runs_of (term_named table w)) (runs_words ws)

  abbrev pub calls_words : ℕ → List (List ℕ) → List Call
  calls_words i [] = []
  calls_words i (w ∷ ws) = call_to i (calls_of (term_named table w)) ++ calls_words i ws

  runs_append : (ss ts : List Step) → runs_in (ss ++ ts) ≡ meet (runs_in ss) (runs_in ts)
  runs_append [] ts = refl
  runs_append (s ∷ ss) ts = ap (meet (runs_at s)) (runs_append ss ts) ∙ sym (meet_assoc (runs_at s) (runs_in ss) (runs_in ts))

  calls_append : (i : ℕ) (ss ts : List Step) → calls_in i (ss ++ ts) ≡ calls_in i ss ++ calls_in i ts
  calls_append i [] ts = refl
  calls_append i (s ∷ ss) ts = ap (λ cs. call_to i (callee_at s) ++ cs) (calls_append i ss ts) ∙ sym (append_assoc (call_to i (callee_at s)) (calls_in i ss) (calls_in i ts))

  -- a block that other agents run adds nothing
  mutual
    inner_runs : (p : Piece) → runs_in (piece_steps table true p) ≡ everyone
    inner_runs (use_of w s m) = refl
    inner_runs (block_of first ps) = runs_append (pieces_steps table true ps) (step.Close ∷ []) ∙ ap (λ k. meet k everyone) (inner_runs_all ps)

    inner_runs_all : (ps : Pieces) → runs_in (pieces_steps table true ps) ≡ everyone
    inner_runs_all no_piece = refl
    inner_runs_all (a_piece p ps) = runs_append (piece_steps table true p) (pieces_steps table true ps) ∙ ap (λ k. meet k (runs_in (pieces_steps table true ps))) (inner_runs p) ∙ ap (meet everyone) (inner_runs_all ps)

  mutual
    inner_calls : (i : ℕ) (p : Piece) → calls_in i (piece_steps table true p) ≡ []
    inner_calls i (use_of w s m) = refl
    inner_calls i (block_of first ps) = calls_append i (pieces_steps table true ps) (step.Close ∷ []) ∙ ap (λ cs. cs ++ []) (inner_calls_all i ps)

    inner_calls_all : (i : ℕ) (ps : Pieces) → calls_in i (pieces_steps table true ps) ≡ []
    inner_calls_all i no_piece = refl
    inner_calls_all i (a_piece p ps) = calls_append i (piece_steps table true p) (pieces_steps table true ps) ∙ ap (λ cs. cs ++ calls_in i (pieces_steps table true ps)) (inner_calls i p) ∙ inner_calls_all i ps

  piece_runs : (p : Piece) → runs_in (piece_steps table false p) ≡ runs_words (piece_words p)
  piece_runs (use_of w s Run) = refl
  piece_runs (use_of w s Set) = refl
  piece_runs (use_of w s Spread) = refl
  piece_runs (block_of first ps) = runs_append (pieces_steps table true ps) (step.Close ∷ []) ∙ ap (λ k. meet k everyone) (inner_runs_all ps)

  piece_calls : (i : ℕ) (p : Piece) → calls_in i (piece_steps table false p) ≡ calls_words i (piece_words p)
  piece_calls i (use_of w s Run) = refl
  piece_calls i (use_of w s Set) = refl
  piece_calls i (use_of w s Spread) = refl
  piece_calls i (block_of first ps) = calls_append i (pieces_steps table true ps) (step.Close ∷ []) ∙ ap (λ cs. cs ++ []) (inner_calls_all i ps)

  runs_words_append : (vs ws : List (List ℕ)) → runs_words (vs ++ ws) ≡ meet (runs_words vs) (runs_words ws)
  runs_words_append [] ws = refl
  runs_words_append (v ∷ vs) ws = ap (meet (runs_of (term_named table v))) (runs_words_append vs ws) ∙ sym (meet_assoc (runs_of (term_named table v)) (runs_words vs) (runs_words ws))

  calls_words_append : (i : ℕ) (vs ws : List (List ℕ)) → calls_words i (vs ++ ws) ≡ calls_words i vs ++ calls_words i ws
  calls_words_append i [] ws = refl
  calls_words_append i (v ∷ vs) ws = ap (λ cs. call_to i (calls_of (term_named table v)) ++ cs) (calls_words_append i vs ws) ∙ sym (append_assoc (call_to i (calls_of (term_named table v))) (calls_words i vs) (calls_words i ws))

  site_runs : (ps : List Piece) → runs_in (steps_of table false ps) ≡ runs_words (words_of ps)
  site_runs [] = refl
  site_runs (p ∷ ps) =
      runs_append (piece_steps table false p) (steps_of table false ps) ∙ ap (λ k. meet k (runs_in (steps_of table false ps))) (piece_runs p) ∙ ap (meet (runs_words (piece_words p))) (site_runs ps)
      ∙ sym (runs_words_append (piece_words p) (words_of ps))

  site_calls : (i : ℕ) (ps : List Piece) → calls_in i (steps_of table false ps) ≡ calls_words i (words_of ps)
  site_calls i [] = refl
  site_calls i (p ∷ ps) =
      calls_append i (piece_steps table false p) (steps_of table false ps) ∙ ap (λ cs. cs ++ calls_in i (steps_of table false ps)) (piece_calls i p) ∙ ap (λ cs. calls_words i (piece_words p) ++ cs) (site_calls i ps)
      ∙ sym (calls_words_append i (piece_words p) (words_of ps))

  pub body_runs : (t : Node) → runs_in (body_steps table t) ≡ runs_words (site_words table t)
  body_runs t = site_runs (pieces table t) ∙ ap runs_words (sym (words_are [] (pieces table t)))

  pub body_calls : (i : ℕ) (t : Node) → calls_in i (body_steps table t) ≡ calls_words i (site_words table t)
  body_calls i t = site_calls i (pieces table t) ∙ ap (calls_words i) (sym (words_are [] (pieces table t)))

  -- a word that doesn't allow a kind
  abbrev pub Denies : List (List ℕ) → Kind → Type 0
  Denies ws kind = (w : List ℕ) × (t : Term) × (Contains ws w × (term_named table w ≡ Some t) × IsTrue (not (allows t.runs kind)))

  denied_by : (w : List ℕ) (o : Option Term) (kind : Kind) → term_named table w ≡ o → IsTrue (not (allows (runs_of o) kind)) → (t : Term) × ((term_named table w ≡ Some t) × IsTrue (not (allows t.runs kind)))
  denied_by w None kind is out = absurd (not_both (allows everyone kind) (everyone_allowed kind) out)
  denied_by w (Some t) kind is out = (t, (is, out))

  pub at_front : (w : List ℕ) (ws : List (List ℕ)) → Contains (w ∷ ws) w
  at_front w ws = (0, omega arith, refl)

  pub denies : (ws : List (List ℕ)) (kind : Kind) → IsTrue (not (allows (runs_words ws) kind)) → Denies ws kind
  denies [] kind out = absurd (not_both (allows everyone kind) (everyone_allowed kind) out)
  denies (w ∷ ws) kind out = elim (meet_lacks (runs_of (term_named table w)) (runs_words ws) kind out) [
    | inl here ↦ let (t, (row, unfit)) = denied_by w (term_named table w) kind refl here in (w, t, (at_front w ws, row, unfit))
    | inr later ↦ let (v, t, (within, row, unfit)) = denies ws kind later in (v, t, (Contains-append_right (w ∷ []) ws v within, row, unfit))
  ]

  denied_here : (w : List ℕ) (t : Term) (rest : Kinds) (kind : Kind) → term_named table w ≡ Some t → IsTrue (not (allows t.runs kind)) → IsTrue (allows (meet (runs_of (term_named table w)) rest) kind) → ⊥
  denied_here w t rest kind row unfit h = not_both (allows t.runs kind) (subst (λ o. IsTrue (allows (runs_of o) kind)) row (meet_left (runs_of (term_named table w)) rest kind h)) unfit

  pub denied : (ws : List (List ℕ)) (kind : Kind) (w : List ℕ) (t : Term) → Contains ws w → term_named table w ≡ Some t → IsTrue (not (allows t.runs kind)) → IsTrue (allows (runs_words ws) kind) → ⊥
  denied [] kind w t (k, inside, is) row unfit h = absurd (omega (arith, inside))
  denied (v ∷ ws) kind w t here row unfit h = elim (Contains-append_cases (v ∷ []) ws w here) [
    | inl (zero, _, same) ↦ denied_here w t (runs_words ws) kind row unfit (subst (λ x. IsTrue (allows (meet (runs_of (term_named table x)) (runs_words ws)) kind)) same h)
    | inl (suc n, inside, _) ↦ absurd (omega (arith, inside))
    | inr later ↦ denied ws kind w t later row unfit (meet_right (runs_of (term_named table v)) (runs_words ws) kind h)
  ]

  -- a word that calls a procedure
  abbrev pub CallsTo : List (List ℕ) → ℕ → Type 0
  CallsTo ws j = (w : List ℕ) × (t : Term) × (Contains ws w × (term_named table w ≡ Some t) × (t.what ≡ what.Procedure j))

  called_what : (i j : ℕ) (it : What) → Contains (call_to i (call_of it)) (record { caller = i; callee = j }) → it ≡ what.Procedure j
  called_what i j (what.Procedure n) (zero, _, same) = let e : n ≡ j = ap (λ (c : Call). c.callee) same in ap what.Procedure e
  called_what i j (what.Procedure n) (suc k, inside, _) = absurd (omega (arith, inside))
  called_what i j (what.Base code) (k, inside, _) = absurd (omega (arith, inside))
  called_what i j (what.Global n) (k, inside, _) = absurd (omega (arith, inside))
  called_what i j (what.Own n) (k, inside, _) = absurd (omega (arith, inside))
  called_what i j (what.Made n code) (k, inside, _) = absurd (omega (arith, inside))

  called_by : (i j : ℕ) (w : List ℕ) (o : Option Term) → term_named table w ≡ o → Contains (call_to i (calls_of o)) (record { caller = i; callee = j }) → (t : Term) × ((term_named table w ≡ Some t) × (t.what ≡ what.Procedure j))
  called_by i j w None is (k, inside, _) = absurd (omega (arith, inside))
  called_by i j w (Some t) is here = (t, (is, called_what i j t.what here))

  pub calls_to : (i j : ℕ) (ws : List (List ℕ)) → Contains (calls_words i ws) (record { caller = i; callee = j }) → CallsTo ws j
  calls_to i j [] (k, inside, _) = absurd (omega (arith, inside))
  calls_to i j (w ∷ ws) here = elim (Contains-append_cases (call_to i (calls_of (term_named table w))) (calls_words i ws) (record { caller = i; callee = j }) here) [
    | inl first ↦ let (t, (row, calls)) = called_by i j w (term_named table w) refl first in (w, t, (at_front w ws, row, calls))
    | inr later ↦ let (v, t, (within, row, calls)) = calls_to i j ws later in (v, t, (Contains-append_right (w ∷ []) ws v within, row, calls))
  ]

  call_here : (i j : ℕ) (w : List ℕ) (t : Term) → term_named table w ≡ Some t → t.what ≡ what.Procedure j → Contains (call_to i (calls_of (term_named table w))) (record { caller = i; callee = j })
  call_here i j w t row calls =
      subst (λ o. Contains (call_to i (calls_of o)) (record { caller = i; callee = j })) (sym row) (subst (λ it. Contains (call_to i (call_of it)) (record { caller = i; callee = j })) (sym calls) (0, omega arith, refl))

  pub call_there : (i j : ℕ) (ws : List (List ℕ)) (w : List ℕ) (t : Term) → Contains ws w → term_named table w ≡ Some t → t.what ≡ what.Procedure j → Contains (calls_words i ws) (record { caller = i; callee = j })
  call_there i j [] w t (k, inside, _) row calls = absurd (omega (arith, inside))
  call_there i j (v ∷ ws) w t here row calls = elim (Contains-append_cases (v ∷ []) ws w here) [
    | inl (zero, _, same) ↦ Contains-append_left (call_to i (calls_of (term_named table v))) (calls_words i ws) (record { caller = i; callee = j })
        (subst (λ x. Contains (call_to i (calls_of (term_named table x))) (record { caller = i; callee = j })) (sym same) (call_here i j w t row calls))
    | inl (suc n, inside, _) ↦ absurd (omega (arith, inside))
    | inr later ↦ Contains-append_right (call_to i (calls_of (term_named table v))) (calls_words i ws) (record { caller = i; callee = j }) (call_there i j ws w t later row calls)
  ]
