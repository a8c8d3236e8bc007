-- Lemmas on walks through a list.
use Rattle.std.proofs.Common.{◌≡◌, ◌≢◌, ℕ, true, false, List, [], ◌∷◌, ◌++◌, Option, Some, None, refl, sym, ap, ◌∙◌, inl, inr, arith, subst}
use Rattle.std.proofs.lemmas.Grind.{common_steps}
use Rattle.std.proofs.lemmas.Bool.{cases_eq}
use Rattle.nl_store_lists.specs.Chained.{has, IsOnce, without, IsWalk}
use Rattle.nl_store_lists.proofs.Members.{has-first, has-later, has-rest}

-- the first step of a walk leads to a key of it
walk-first : (f : Option ℕ → Option ℕ) (from : Option ℕ) (xs : List ℕ) (key : ℕ) → IsWalk f from xs → f from ≡ Some key → has xs key ≡ true
walk-first f from [] key w e = absurd (cc)
walk-first f from (x ∷ xs) key w e = let p = w.0 in let s : x ≡ key = cc in subst (λ y. has (x ∷ xs) y ≡ true) s (has-first x xs)

-- a step from a key of a walk leads to a key of it
walk-into : (f : Option ℕ → Option ℕ) (from : Option ℕ) (xs : List ℕ) (j key : ℕ) → IsWalk f from xs → has xs j ≡ true → f (Some j) ≡ Some key → has xs key ≡ true
walk-into f from [] j key w h e = absurd (cc)
walk-into f from (x ∷ xs) j key w h e = elim (cases_eq j x) [
  | inl s ↦ has-later x xs key (walk-first f (Some x) xs key w.1 (subst (λ y. f (Some y) ≡ Some key) s e))
  | inr ne ↦ has-later x xs key (walk-into f (Some x) xs j key w.1 (has-rest x xs j h ne) e)
]

-- no key of a walk leads to itself
pub walk-moves : (f : Option ℕ → Option ℕ) (from : Option ℕ) (xs : List ℕ) (key : ℕ) → IsWalk f from xs → IsOnce xs → has xs key ≡ true → f (Some key) ≢ Some key
walk-moves f from [] key w once h = absurd (cc)
walk-moves f from (x ∷ xs) key w once h = elim (cases_eq key x) [
  | inl s ↦ λ e.
      let z = walk-first f (Some x) xs x w.1 (subst (λ y. f (Some y) ≡ Some y) s e) in
      let y = once.0 in
      absurd (cc)
  | inr ne ↦ walk-moves f (Some x) xs key w.1 once.1 (has-rest x xs key h ne)
]

-- a walk stays one where the steps are the same, also from another place that leads to the same key
pub walk-same : (f g : Option ℕ → Option ℕ) (a b : Option ℕ) (xs : List ℕ) → g b ≡ f a → ((j : ℕ) → has xs j ≡ true → g (Some j) ≡ f (Some j)) → IsWalk f a xs → IsWalk g b xs
walk-same f g a b [] here there w = here ∙ w
walk-same f g a b (x ∷ xs) here there w = (here ∙ w.0, walk-same f g (Some x) (Some x) xs (there x (has-first x xs)) (λ j h. there j (has-later x xs j h)) w.1)

-- the walk that leaves a key out
pub walk-without : (f g : Option ℕ → Option ℕ) (key : ℕ) (from : Option ℕ) (xs : List ℕ) →
    (f from ≡ Some key → g from ≡ f (Some key)) → (f from ≢ Some key → g from ≡ f from) →
    ((j : ℕ) → has xs j ≡ true → j ≢ key → f (Some j) ≡ Some key → g (Some j) ≡ f (Some key)) →
    ((j : ℕ) → has xs j ≡ true → j ≢ key → f (Some j) ≢ Some key → g (Some j) ≡ f (Some j)) →
    IsOnce xs → IsWalk f from xs → IsWalk g from (without key xs)
walk-without f g key from [] hit0 miss0 hit miss once w = miss0 (λ e. absurd (cc)) ∙ w
walk-without f g key from (x ∷ xs) hit0 miss0 hit miss once w = elim (cases_eq key x) [
  | inl s ↦
      let e : without key (x ∷ xs) ≡ xs = grind (arith, common_steps) in
      let absent : has xs key ≡ false = subst (λ y. has xs y ≡ false) (sym s) once.0 in
      let at_key : f from ≡ Some key = w.0 ∙ ap Some (sym s) in
      let rest : IsWalk f (Some key) xs = subst (λ y. IsWalk f (Some y) xs) (sym s) w.1 in
      subst (λ ys. IsWalk g from ys) (sym e) (walk-same f g (Some key) from xs (hit0 at_key)
      (λ j h. miss j (has-later x xs j h) (λ q. (let z = subst (λ y. has xs y ≡ true) q h in absurd (cc))) (λ q. (let z = walk-into f (Some key) xs j key rest h q in absurd (cc))))
      rest)
  | inr ne ↦
      let e : without key (x ∷ xs) ≡ x ∷ without key xs = grind (arith, common_steps) in
      let p = w.0 in
      let away : f from ≢ Some key = λ q. ne (cc) in
      let other : x ≢ key = λ q. ne (sym q) in
      subst (λ ys. IsWalk g from ys) (sym e) (
        miss0 away ∙ w.0,
        walk-without f g key (Some x) xs (hit x (has-first x xs) other) (miss x (has-first x xs) other) (λ j h. hit j (has-later x xs j h)) (λ j h. miss j (has-later x xs j h)) once.1 w.1,
      )
]

-- the walk with a key at its end
pub walk-append : (f g : Option ℕ → Option ℕ) (key : ℕ) (from : Option ℕ) (xs : List ℕ) →
    (f from ≡ None → g from ≡ Some key) → (f from ≢ None → g from ≡ f from) →
    ((j : ℕ) → has xs j ≡ true → f (Some j) ≡ None → g (Some j) ≡ Some key) →
    ((j : ℕ) → has xs j ≡ true → f (Some j) ≢ None → g (Some j) ≡ f (Some j)) →
    g (Some key) ≡ None → IsWalk f from xs → IsWalk g from (xs ++ key ∷ [])
walk-append f g key from [] hit0 miss0 hit miss ends w = (hit0 w, ends)
walk-append f g key from (x ∷ xs) hit0 miss0 hit miss ends w =
    let p = w.0 in
    (miss0 (λ e. absurd (cc)) ∙ w.0, walk-append f g key (Some x) xs (hit x (has-first x xs)) (miss x (has-first x xs)) (λ j h. hit j (has-later x xs j h)) (λ j h. miss j (has-later x xs j h)) ends w.1)

-- a step walks through one list only
pub walk-one : (f : Option ℕ → Option ℕ) (from : Option ℕ) (xs ys : List ℕ) → IsWalk f from xs → IsWalk f from ys → xs ≡ ys
walk-one f from [] [] v w = refl
walk-one f from [] (y ∷ ys) v w = let p = w.0 in absurd (cc)
walk-one f from (x ∷ xs) [] v w = let p = v.0 in absurd (cc)
walk-one f from (x ∷ xs) (y ∷ ys) v w =
    let p = v.0 in
    let q = w.0 in
    let s : x ≡ y = cc in
    ap (λ z. z ∷ xs) s ∙ ap (λ zs. y ∷ zs) (walk-one f (Some y) xs ys (subst (λ z. IsWalk f (Some z) xs) s v.1) w.1)
