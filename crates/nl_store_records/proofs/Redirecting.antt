-- Lemmas on steps that lead elsewhere from one place.
use Rattle.std.proofs.Common.{◌≡◌, ◌≢◌, ℕ, Bool, true, false, Option, Some, None, is_some, eqb, cond, ◌&&◌, ◌||◌, refl, sym, ap, ◌∙◌, inl, inr, arith, subst}
use Rattle.std.proofs.lemmas.Bool.{cases_eq}
use Rattle.nl_store_lists.specs.Chained.{at_number, IsPlace, Turns}
use Rattle.nl_store_lists.proofs.Places.{place-kept}
use Rattle.nl_store_records.specs.Filed.{same_place, Redirects, Stays}

-- whether a redirect of a place of list n is one of a place of list m
abbrev hits : ℕ → Option ℕ → ℕ → Option ℕ → Bool
hits n place m a = same_place a place && (is_some a || eqb m n)

hits-itself : (n : ℕ) (place : Option ℕ) → hits n place n place ≡ true
hits-itself n None = grind arith
hits-itself n (Some k) = grind arith

hits-other : (home : ℕ → Option ℕ) (n m : ℕ) (place a : Option ℕ) → IsPlace home n place → IsPlace home m a → (m ≡ n → a ≢ place) → hits n place m a ≡ false
hits-other home n m None None np na away = elim (cases_eq m n) [
  | inl e ↦ absurd (away e refl)
  | inr ne ↦ grind arith
]
hits-other home n m (Some k) None np na away = refl
hits-other home n m None (Some j) np na away = refl
hits-other home n m (Some k) (Some j) np na away = elim (cases_eq j k) [
  | inl e ↦ (let z = subst (λ x. home x ≡ Some m) e na in let s : m ≡ n = cc in absurd (away s (ap Some e)))
  | inr ne ↦ grind arith
]

pub turns-by : (home : ℕ → Option ℕ) (n : ℕ) (place to : Option ℕ) (f g : ℕ → Option ℕ → Option ℕ) → IsPlace home n place → Redirects n place to f g → Turns home n place to f g
turns-by home n place to f g np r = record {
  hit = r n place ∙ ap (λ b. cond b to (f n place)) (hits-itself n place);
  miss = λ m a na away. r m a ∙ ap (λ b. cond b to (f m a)) (hits-other home n m place a np na away);
}

-- steps before and after it that are the same
pub turns-then : (home : ℕ → Option ℕ) (n : ℕ) (place to : Option ℕ) (f g h : ℕ → Option ℕ → Option ℕ) → Turns home n place to f g → Stays g h → Turns home n place to f h
turns-then home n place to f g h t s = record {
  hit = s n place ∙ t.hit;
  miss = λ m a na away. s m a ∙ t.miss m a na away;
}

pub turns-behind : (home : ℕ → Option ℕ) (n : ℕ) (place to : Option ℕ) (f g h : ℕ → Option ℕ → Option ℕ) → ((m : ℕ) (a : Option ℕ) → IsPlace home m a → g m a ≡ f m a) → Turns home n place to g h → Turns home n place to f h
turns-behind home n place to f g h s t = record {
  hit = t.hit;
  miss = λ m a na away. t.miss m a na away ∙ s m a na;
}

-- it stays one where a key is in no list any more
pub turns-without : (home : ℕ → Option ℕ) (k n : ℕ) (place to : Option ℕ) (f g : ℕ → Option ℕ → Option ℕ) → Turns home n place to f g → Turns (at_number home k None) n place to f g
turns-without home k n place to f g t = record {
  hit = t.hit;
  miss = λ m a na away. t.miss m a (place-kept home k m a na).0 away;
}

-- a key that is in no list leads elsewhere: no place notes it
not_same : (home : ℕ → Option ℕ) (k m : ℕ) (a : Option ℕ) → home k ≡ None → IsPlace home m a → same_place a (Some k) ≡ false
not_same home k m None none na = refl
not_same home k m (Some j) none na = elim (cases_eq j k) [
  | inl e ↦ (let z = subst (λ x. home x ≡ Some m) e na in absurd (cc))
  | inr ne ↦ grind arith
]

pub passes : (home : ℕ → Option ℕ) (n k : ℕ) (to : Option ℕ) (f g : ℕ → Option ℕ → Option ℕ) → home k ≡ None → Redirects n (Some k) to f g → (m : ℕ) (a : Option ℕ) → IsPlace home m a → g m a ≡ f m a
passes home n k to f g none r m a na = r m a ∙ ap (λ b. cond (b && (is_some a || eqb m n)) to (f m a)) (not_same home k m a none na)

-- the key itself
pub takes : (n k m : ℕ) (to : Option ℕ) (f g : ℕ → Option ℕ → Option ℕ) → Redirects n (Some k) to f g → g m (Some k) ≡ to
takes n k m to f g r = r m (Some k) ∙ ap (λ b. cond (b && true) to (f m (Some k))) (let e : eqb k k ≡ true = grind arith in e)

-- a key where another place leads elsewhere
pub keeps : (home : ℕ → Option ℕ) (n k : ℕ) (place to : Option ℕ) (f g : ℕ → Option ℕ → Option ℕ) → home k ≡ None → IsPlace home n place → Redirects n place to f g → g n (Some k) ≡ f n (Some k)
keeps home n k place to f g none np r = r n (Some k) ∙ ap (λ b. cond (b && true) to (f n (Some k))) (other place np)
  where
    other : (a : Option ℕ) → IsPlace home n a → same_place (Some k) a ≡ false
    other None na = refl
    other (Some j) na = elim (cases_eq k j) [
      | inl e ↦ (let z = subst (λ x. home x ≡ Some n) (sym e) na in absurd (cc))
      | inr ne ↦ grind arith
    ]
