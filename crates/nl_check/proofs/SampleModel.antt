-- The model of the tests.
use Rattle.std.proofs.Common.{◌≡◌, ℕ, zero, suc, ◌<◌, List, [], ◌∷◌, Option, Some, None, All, map, length, refl, sym, ap, subst, ◌∙◌, arith, lit<, true, false, codes}
use Rattle.std.specs.Prelude.{slice_get, IfSome}
use Rattle.std.specs.List.Sorted.{IsPermutation}
use Rattle.std.proofs.lemmas.List.Elements.{All-nil, All-cons}
use Rattle.nl_words.specs.Rows.{rows}
use Rattle.nl_tree.specs.declared.declared.Form.TheVariants as form
use Rattle.nl_tree.specs.declared.declared.Declared.{Declared}
use Rattle.nl_tree.specs.declared.index.NamedWord.{NamedWord}
use Rattle.nl_tree.specs.Tree.{Node, none}
use Rattle.nl_tree.specs.Term.{Term}
use Rattle.nl_tree.specs.Index.{term_of}
use Rattle.nl_tree.specs.Names.{IsDeclared}
use Rattle.nl_tree.specs.Checked.{BodiesFit}
use Rattle.nl_tree.specs.BodyFault.{Fits}
use Rattle.nl_tree.specs.Grammar.{at_end}
use Rattle.nl_tree.specs.Vocabulary.{counted, procedure_term, terms}
use Rattle.nl_check.specs.declared.calls.Call.{Call}
use Rattle.nl_check.specs.inner.Calls.{call_to, reversed, nobody}
use Rattle.nl_check.specs.inner.Reach.{ArePlaces}
use Rattle.nl_check.specs.inner.Samples.{procedure_named, sample_procedures, model_of, empty_body}
use Rattle.nl_check.proofs.Around.{nobody_length}
use Rattle.nl_check.proofs.Graph.{reversed_length, reversed_places}

pub sample_names : (index : List Term) → IsPermutation (counted procedure_term 0 sample_procedures) index → IsDeclared (model_of index)
unfolding rows
sample_names index moved = (refl, lit< tt, moved)

pub sample_index : (words : List NamedWord) (a b c r : NamedWord) (index : List Term) → words ≡ a ∷ b ∷ c ∷ r ∷ []
    → term_of a ≡ procedure_term 0 (procedure_named (codes "a") false) → term_of b ≡ procedure_term 1 (procedure_named (codes "b") false) → term_of c ≡ procedure_term 2 (procedure_named (codes "c") false) → term_of r ≡ procedure_term 3 (procedure_named (codes "r") true)
    → IsPermutation (map term_of words) index → IsPermutation (counted procedure_term 0 sample_procedures) index
sample_index words a b c r index are is_a is_b is_c is_r moved =
    let same : map term_of words ≡ counted procedure_term 0 sample_procedures = ap (map term_of) are ∙ ap (λ x. x ∷ term_of b ∷ term_of c ∷ term_of r ∷ []) is_a ∙ ap (λ x. procedure_term 0 (procedure_named (codes "a") false) ∷ x ∷ term_of c ∷ term_of r ∷ []) is_b
    ∙ ap (λ x. procedure_term 0 (procedure_named (codes "a") false) ∷ procedure_term 1 (procedure_named (codes "b") false) ∷ x ∷ term_of r ∷ []) is_c
    ∙ ap (λ x. procedure_term 0 (procedure_named (codes "a") false) ∷ procedure_term 1 (procedure_named (codes "b") false) ∷ procedure_term 2 (procedure_named (codes "c") false) ∷ x ∷ []) is_r in
    subst (λ ts. IsPermutation ts index) same moved

-- a body without words fits in any model
pub empty_fits : (inputs : List (List ℕ)) (table : List Term) (t : Node) → t ≡ empty_body → Fits form.Commands inputs table t
empty_fits inputs table t is = subst (Fits form.Commands inputs table) (sym is) ([], record { start = 0; len = 3 }, ((λ k d h. absurd (omega (arith, h))), ((none, refl, at_end), omega arith)))

abbrev AllEmpty : List Node → Type 0
AllEmpty [] = Unit {0}
AllEmpty (t ∷ ts) = (t ≡ empty_body) × AllEmpty ts

empty_at : (ts : List Node) → AllEmpty ts → (i : ℕ) (t : Node) → slice_get ts i ≡ Some t → t ≡ empty_body
empty_at [] all i t here = cc
empty_at (u ∷ us) all zero t here = let same : u ≡ t = cc in sym same ∙ all.0
empty_at (u ∷ us) all (suc i) t here = empty_at us all.1 i t here

pub empties_fit : (d : Declared) (bodies : List Node) (a b c r : Node) → bodies ≡ a ∷ b ∷ c ∷ r ∷ [] → a ≡ empty_body → b ≡ empty_body → c ≡ empty_body → r ≡ empty_body → BodiesFit d bodies
empties_fit d bodies a b c r are is_a is_b is_c is_r i p t is_p is_t =
    empty_fits p.inputs (terms d) t (empty_at (a ∷ b ∷ c ∷ r ∷ []) (is_a, (is_b, (is_c, (is_r, tt)))) i t (ap (λ xs. slice_get xs i) (sym are) ∙ is_t))

-- a chain or a ring
pub call_fits : (n i : ℕ) (o : Option ℕ) → i < n → IfSome o (λ j. j < n) → All (λ c. (c.caller < n) × (c.callee < n)) (call_to i o)
call_fits n i None low fits = All-nil (λ (c : Call). (c.caller < n) × (c.callee < n))
call_fits n i (Some j) low fits = All-cons (λ (c : Call). (c.caller < n) × (c.callee < n)) (record { caller = i; callee = j }) [] (low, fits) (All-nil (λ (c : Call). (c.caller < n) × (c.callee < n)))

pub callees : (n : ℕ) (cs : List Call) → All (λ c. (c.caller < n) × (c.callee < n)) cs → All (λ c. c.callee < n) cs
callees n cs all k d within = (all k d within).1

pub callers_fit : (n : ℕ) (cs : List Call) → All (λ c. (c.caller < n) × (c.callee < n)) cs → ArePlaces n (reversed (nobody n) cs)
callers_fit n cs all = reversed_places n cs (callees n cs all) (λ k d within. (all k d within).0)

pub as_many : (n : ℕ) (cs : List Call) → length (reversed (nobody n) cs) ≡ n
as_many n cs = reversed_length (nobody n) cs ∙ nobody_length n
