-- What the answers of the check say of a model and of a lone text.
use Rattle.std.proofs.Common.{◌≡◌, ℕ, ◌+◌, ◌<◌, ◌≤◌, take, false, List, [], ◌∷◌, ◌++◌, Option, Some, None, Result, Ok, Err, IfOk, OnOk, length, inl, inr, refl, sym, ap, subst, ◌∙◌, arith}
use Rattle.std.specs.Prelude.{slice_get, IfErr}
use Rattle.std.proofs.lemmas.Option.{slice_get_within, get_or_from_slice_get}
use Rattle.std.proofs.lemmas.List.{take_more}
use Rattle.std.proofs.lemmas.Bool.{cases_lt}
use Rattle.nl_fixed.specs.declared.memory.NoMemory.{NoMemory}
use Rattle.nl_words.specs.declared.entry.Kinds.{Kinds}
use Rattle.nl_words.specs.Kinds.{everyone, observers}
use Rattle.nl_tree.specs.declared.declared.Declared.{Declared}
use Rattle.nl_tree.specs.declared.declared.Procedure.{Procedure}
use Rattle.nl_tree.specs.declared.declared.What.TheVariants as what
use Rattle.nl_tree.specs.Tree.{Node}
use Rattle.nl_tree.specs.Term.{Term}
use Rattle.nl_tree.specs.Vocabulary.{terms, term_named}
use Rattle.nl_tree.specs.Context.{pieces, packed, IsRightBody, IsRightText}
use Rattle.nl_tree.specs.Checked.{IsInRange, BodiesAreRight, KindsAreLeft}
use Rattle.nl_tree.proofs.Range.{named_in_range}
use Rattle.nl_check.specs.declared.refusal.CheckRefusal.{CheckRefusal}
use Rattle.nl_check.specs.declared.refusal.CheckRefusal.TheVariants as refusal
use Rattle.nl_check.specs.declared.faults.Wrong.{Wrong}
use Rattle.nl_check.specs.inner.Steps.{steps_of}
use Rattle.nl_check.specs.inner.Faults.{first_wrong}
use Rattle.nl_check.specs.Answers.{IsModelRefusal, IsTextRefusal}
use Rattle.nl_check.specs.inner.Judged.{IsRightAt, IsBodyFault, IsJudged, answered}
use Rattle.nl_check.proofs.Graph.{called_left}
use Rattle.nl_check.proofs.Verdicts.{none_found, some_found}

-- a procedure that a word calls is one of the model
pub callee_there : (d : Declared) (bodies : List Node) → length bodies ≡ length d.procedures → (w : List ℕ) (t : Term) (j : ℕ) → term_named (terms d) w ≡ Some t → t.what ≡ what.Procedure j → j < length bodies
callee_there d bodies many w t j row calls = omega (arith, many, subst (IsInRange d) calls (named_in_range d w t row))

pub if_ok : {A : Type 0} {P Q : A → Type 0} (r : Result A NoMemory) → ((a : A) → P a → Q a) → IfOk r P → IfOk r Q
if_ok (Ok a) f h = f a h
if_ok (Err e) f h = tt

-- what holds anyway holds of an answer that accepts
pub told_ok : {P : Type 0} (r : Result (Unit {0}) CheckRefusal) → P → OnOk r P
told_ok (Ok x) h = h
told_ok (Err e) h = tt

module _ (d : Declared) (bodies : List Node) (called : List Kinds) (many : length called ≡ length bodies) (left : KindsAreLeft d bodies called) where
  -- a body
  module _ (i : ℕ) (p : Procedure) (t : Node) (is_p : slice_get d.procedures i ≡ Some p) (is_t : slice_get bodies i ≡ Some t) where
    pub body_judged : (found : Option Wrong) → found ≡ first_wrong called p.reporter [] everyone (steps_of (terms d) false (pieces (terms d) t)) → IsJudged d bodies i (answered (i + 1) found)
    body_judged (Some w) is = (refl, (p, t, (is_p, is_t, some_found (terms d) bodies p.reporter called (called_left (terms d) bodies called many left) everyone (packed (pieces (terms d) t)) (Some w) is w refl)))
    body_judged None is = λ q u is_q is_u.
        let one : Some p ≡ Some q = sym is_p ∙ is_q in
        let two : Some t ≡ Some u = sym is_t ∙ is_u in
        let same_p : p ≡ q = cc in
        let same_t : t ≡ u = cc in
        subst (λ (x : Procedure). IsRightBody (terms d) bodies x.reporter u) same_p (subst (IsRightBody (terms d) bodies p.reporter) same_t (none_found (terms d) bodies p.reporter called (called_left (terms d) bodies called many left) everyone (packed (pieces (terms d) t)) None is refl))

  -- a lone text
  module _ (t : Node) where
    pub text_right : (found : Option Wrong) → found ≡ first_wrong called false [] observers (steps_of (terms d) false (pieces (terms d) t)) → OnOk (answered 0 found) (IsRightText (terms d) bodies t)
    text_right (Some w) is = tt
    text_right None is = none_found (terms d) bodies false called (called_left (terms d) bodies called many left) observers (packed (pieces (terms d) t)) None is refl

    pub text_refused : (found : Option Wrong) → found ≡ first_wrong called false [] observers (steps_of (terms d) false (pieces (terms d) t)) → IfErr (answered 0 found) (IsTextRefusal d bodies t)
    text_refused None is = tt
    text_refused (Some w) is = (refl, some_found (terms d) bodies false called (called_left (terms d) bodies called many left) observers (packed (pieces (terms d) t)) (Some w) is w refl)

-- all bodies
module _ (d : Declared) (bodies : List Node) where
  abbrev pub RightBelow : ℕ → Type 0
  RightBelow n = (j : ℕ) (p : Procedure) (t : Node) → j < n → slice_get d.procedures j ≡ Some p → slice_get bodies j ≡ Some t → IsRightBody (terms d) bodies p.reporter t

  pub right_more : (n : ℕ) → RightBelow n → IsRightAt d bodies n → RightBelow (n + 1)
  right_more n before here j p t below is_p is_t = elim (cases_lt j n) [
    | inl less ↦ before j p t less is_p is_t
    | inr past ↦ let same : j ≡ n = omega (arith, past, below) in here p t (ap (slice_get d.procedures) (sym same) ∙ is_p) (ap (slice_get bodies) (sym same) ∙ is_t)
  ]

  pub all_right : (n : ℕ) → length d.procedures ≤ n → RightBelow n → BodiesAreRight d bodies
  all_right n past before i p t is_p is_t = before i p t (omega (arith, past, slice_get_within d.procedures i p is_p)) is_p is_t

  -- the first body that is refused
  pub first_refused : (n : ℕ) (e : CheckRefusal) → RightBelow n → IsBodyFault d bodies n e → IsModelRefusal d bodies e
  first_refused n refusal.NoMemory before h = tt
  first_refused n (refusal.Fault kind body span) before (number, (p, t, (is_p, is_t, first))) = (n, (number, (p, t, (is_p, is_t, first, before))))

-- one entry more
pub taken_more : {A : Type 0} (xs : List A) (i : ℕ) (x : A) → Some x ≡ slice_get xs i → take i xs ++ x ∷ [] ≡ take (i + 1) xs
taken_more xs i x here =
    let more = take_more xs i x (slice_get_within xs i x (sym here)) in
    ap (λ y. take i xs ++ y ∷ []) (sym (get_or_from_slice_get xs i x x (sym here))) ∙ sym more
