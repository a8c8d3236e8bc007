-- Inputs of words with an arrow block.
use Rattle.std.specs.Prelude.{MatchOption}
use Rattle.std.proofs.Common.{◌≡◌, ℕ, zero, suc, ◌+◌, ◌<◌, ◌≤◌, List, [], ◌∷◌, Option, Some, None, drop, take, length, slice_get, refl, ap, ◌∙◌, sym, arith}
use Rattle.nl_fixed.specs.declared.span.Span.{Span}
use Rattle.nl_value.specs.Plain.{Plain}
use Rattle.nl_tree.specs.Tree.{Node, span, parts}
use Rattle.nl_exec_acts.specs.declared.fail.ErrorKind.TheVariants.{WrongType}
use Rattle.nl_exec_meaning.specs.declared.words.Arrow.{Arrow}
use Rattle.nl_exec_meaning.specs.declared.words.Arrow.TheVariants as arrow
use Rattle.nl_exec_meaning.specs.State.{State, Eval, Outcome, found, rest_of, with_number, ◌>>=◌}
use Rattle.nl_exec_meaning.specs.Blocks.{values}
use Rattle.nl_exec_meaning.specs.Arrows.{arrow_case, list_in}
use Rattle.nl_exec_meaning.specs.Rounds.{begun, first_input, inputs_from, inputs_in, one_of}
use Rattle.nl_exec_meaning.specs.Weight.{weights}

take_all : {A : Type 0} (xs : List A) → take (length xs) xs ≡ xs
take_all [] = refl
take_all (x ∷ xs) = ap (λ ys. x ∷ ys) (take_all xs)

-- ---- the first so many

pub take_here : {A : Type 0} (n : ℕ) (xs : List A) (at : ℕ) (x : A) → at < n → drop at xs ≡ x ∷ drop (at + 1) xs → drop at (take n xs) ≡ x ∷ drop (at + 1) (take n xs)
take_here zero xs at x less here = absurd (omega (arith, less))
take_here (suc n) [] zero x less here = absurd (cc)
take_here (suc n) [] (suc at) x less here = absurd (cc)
take_here (suc n) (y ∷ xs) zero x less here = let same : y ≡ x = cc in ap (λ z. z ∷ take n xs) same
take_here (suc n) (y ∷ xs) (suc at) x less here =
    let m : suc at + 1 ≡ suc (at + 1) = omega arith in
    rw m (take_here n xs at x (omega (arith, less)) (rw m at here))

pub take_gone : {A : Type 0} (n : ℕ) (xs : List A) (at : ℕ) → drop at xs ≡ [] → drop at (take n xs) ≡ []
take_gone zero xs zero gone = refl
take_gone zero xs (suc at) gone = refl
take_gone (suc n) [] at gone = gone
take_gone (suc n) (x ∷ xs) zero gone = absurd (cc)
take_gone (suc n) (x ∷ xs) (suc at) gone = take_gone n xs at gone

pub take_past : {A : Type 0} (n : ℕ) (xs : List A) (at : ℕ) → n ≤ at → drop at (take n xs) ≡ []
take_past zero xs zero past = refl
take_past zero xs (suc at) past = refl
take_past (suc n) xs zero past = absurd (omega (arith, past))
take_past (suc n) [] (suc at) past = refl
take_past (suc n) (x ∷ xs) (suc at) past = take_past n xs at (omega (arith, past))

-- ---- a word is what its inputs make

module _ (prev : Eval) (place : Span) (s : State) (next : Plain → State → Outcome) where
  abbrev of_one : List Plain → State → Outcome
  of_one made s1 = found (one_of made) WrongType place s1 (λ value. next value s1)

  second_is : (ts : List Node) → found (slice_get ts 1) WrongType place s (λ part. prev part s >>= next) ≡ values prev (drop 1 (take 2 ts)) [] s of_one
  second_is [] = refl
  second_is (x ∷ []) = refl
  second_is (x ∷ y ∷ ts) = refl

  first_is : (ts : List Node) → found (slice_get ts 0) WrongType place s (λ part. prev part s >>= next) ≡ values prev (drop 0 (take 1 ts)) [] s of_one
  first_is [] = refl
  first_is (x ∷ ts) = refl

pub word_is : (word : Arrow) (prev : Eval) (t : Node) (s : State) → inputs_from word prev t (first_input word) [] s ≡ arrow_case word prev t s
word_is arrow.ForEach prev t s = refl
word_is arrow.Map prev t s = ap (λ (ts : List Node). values prev (drop 1 ts) [] s (λ all s1. begun arrow.Map prev t all s1)) (take_all (parts t))
word_is arrow.Filter prev t s = sym (second_is prev (span t) s _ (parts t))
word_is arrow.Reduce prev t s = sym (second_is prev (span t) s _ (parts t))
word_is arrow.SortBy prev t s = sym (second_is prev (span t) s _ (parts t))
word_is arrow.NValues prev t s = sym (first_is prev (span t) s _ (parts t))

-- ---- weights

pub weights_drop : (n : ℕ) (ts : List Node) → weights (drop n ts) ≤ weights ts
weights_drop zero ts = omega arith
weights_drop (suc n) [] = omega arith
weights_drop (suc n) (t ∷ ts) = let h = weights_drop n ts in omega (arith, h)

-- ---- one of two

pub match_on : {X A B : Type 0} {P Q : X → Type 0} (o : Option X) → MatchOption o A P → (A → B) → ((x : X) → P x → Q x) → MatchOption o B Q
match_on None h none some = none h
match_on (Some x) h none some = some x h
