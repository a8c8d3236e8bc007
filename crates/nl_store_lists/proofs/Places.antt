-- Lemmas on places, and on functions that are changed at one number.
use Rattle.std.proofs.Common.{◌≡◌, ◌≢◌, ◌⊎◌, ℕ, true, false, Option, Some, None, eqb, cond, refl, sym, ap, ◌∙◌, inl, inr, arith, subst}
use Rattle.std.proofs.lemmas.Bool.{cases_eq}
use Rattle.nl_store_lists.specs.Chained.{at_number, is_in, IsPlace}

pub at-here : {A : Type 0} (f : ℕ → A) (number : ℕ) (value : A) → at_number f number value number ≡ value
at-here f number value = let e : eqb number number ≡ true = grind arith in ap (λ b. cond b value (f number)) e

pub at-other : {A : Type 0} (f : ℕ → A) (number : ℕ) (value : A) (n : ℕ) → n ≢ number → at_number f number value n ≡ f n
at-other f number value n ne = let e : eqb n number ≡ false = grind arith in ap (λ b. cond b value (f n)) e

-- what holds of the changed one, and of each other as it was, holds of all
pub at-each : {A : Type 0} (Q : ℕ → A → Type 0) (f : ℕ → A) (number : ℕ) (value : A) → Q number value → ((n : ℕ) → n ≢ number → Q n (f n)) → (n : ℕ) → Q n (at_number f number value n)
at-each Q f number value here others n = elim (cases_eq n number) [
  | inl e ↦ subst (λ (m : ℕ). Q m (at_number f number value m)) (sym e) (subst (Q number) (sym (at-here f number value)) here)
  | inr ne ↦ subst (Q n) (sym (at-other f number value n ne)) (others n ne)
]

pub place-cases : (a b : Option ℕ) → (a ≡ b) ⊎ (a ≢ b)
place-cases None None = inl refl
place-cases None (Some j) = inr (λ e. absurd (cc))
place-cases (Some k) None = inr (λ e. absurd (cc))
place-cases (Some k) (Some j) = elim (cases_eq k j) [
  | inl e ↦ inl (ap Some e)
  | inr ne ↦ inr (λ e. ne (cc))
]

-- a place of one list and one of another, or the same
pub spot-cases : (n m : ℕ) (a b : Option ℕ) → ((n ≡ m) × (a ≡ b)) ⊎ (n ≡ m → a ≢ b)
spot-cases n m a b = elim (cases_eq n m) [
  | inl e ↦ elim (place-cases a b) [
    | inl p ↦ inl (e, p)
    | inr np ↦ inr (λ _. np)
  ]
  | inr ne ↦ inr (λ e. absurd (ne e))
]

pub at-spot : (P : ℕ → Option ℕ → Type 0) (n m : ℕ) (a b : Option ℕ) → n ≡ m → a ≡ b → P m b → P n a
at-spot P n m a b e p h = subst (λ (x : ℕ). P x a) (sym e) (subst (P m) (sym p) h)

pub is_in-here : (number : ℕ) → is_in (Some number) number ≡ true
is_in-here number = grind arith

pub is_in-true : (o : Option ℕ) (number : ℕ) → is_in o number ≡ true → o ≡ Some number
is_in-true None number h = absurd (cc)
is_in-true (Some n) number h = let e : n ≡ number = grind arith in ap Some e

pub is_in-other : (n number : ℕ) → number ≢ n → is_in (Some n) number ≡ false
is_in-other n number ne = let e : n ≢ number = λ q. ne (sym q) in grind arith

-- a place that stays when a key is in no list any more
pub place-kept : (home : ℕ → Option ℕ) (key n : ℕ) (a : Option ℕ) → IsPlace (at_number home key None) n a → IsPlace home n a × (a ≢ Some key)
place-kept home key n None h = (tt, λ e. absurd (cc))
place-kept home key n (Some j) h = elim (cases_eq j key) [
  | inl e ↦ (let z = subst (λ x. at_number home key None x ≡ Some n) e h in let y = at-here home key None in absurd (cc))
  | inr ne ↦ (sym (at-other home key None j ne) ∙ h, λ e. ne (cc))
]

pub place-stays : (home : ℕ → Option ℕ) (key n : ℕ) (a : Option ℕ) → IsPlace home n a → a ≢ Some key → IsPlace (at_number home key None) n a
place-stays home key n None h ne = tt
place-stays home key n (Some j) h ne = at-other home key None j (λ e. ne (ap Some e)) ∙ h

-- a place when a key was put in a list
pub place-new : (home : ℕ → Option ℕ) (key number n : ℕ) (a : Option ℕ) → IsPlace (at_number home key (Some number)) n a → ((n ≡ number) × (a ≡ Some key)) ⊎ IsPlace home n a
place-new home key number n None h = inr tt
place-new home key number n (Some j) h = elim (cases_eq j key) [
  | inl e ↦ inl (let z = subst (λ x. at_number home key (Some number) x ≡ Some n) e h in let y = at-here home key (Some number) in let s : n ≡ number = cc in (s, ap Some e))
  | inr ne ↦ inr (sym (at-other home key (Some number) j ne) ∙ h)
]

pub place-old : (home : ℕ → Option ℕ) (key number n : ℕ) (a : Option ℕ) → home key ≡ None → IsPlace home n a → IsPlace (at_number home key (Some number)) n a
place-old home key number n None none h = tt
place-old home key number n (Some j) none h = elim (cases_eq j key) [
  | inl e ↦ (let z = subst (λ x. home x ≡ Some n) e h in absurd (cc))
  | inr ne ↦ at-other home key (Some number) j ne ∙ h
]
