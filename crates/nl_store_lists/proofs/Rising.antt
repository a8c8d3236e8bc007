-- Lemmas on lists that rise.
use Rattle.std.proofs.Common.{◌≡◌, ◌≢◌, ℕ, zero, suc, ◌<◌, ◌≤◌, Bool, true, false, List, [], ◌∷◌, ◌++◌, length, get_or, eqb, cond, ◌||◌, sum_by, refl, sym, ap, ◌∙◌, inl, inr, arith, subst}
use Rattle.std.specs.List.{list_any}
use Rattle.std.specs.List.Sorted.{IsPermutation, IsNonDecreasing}
use Rattle.std.proofs.lemmas.Grind.{common_steps}
use Rattle.std.proofs.lemmas.Bool.{cases_eq}
use Rattle.std.proofs.lemmas.List.Sums.{sum_by-cons}
use Rattle.std.proofs.lemmas.List.Sorted.{sum_by-IsPermutation, list_any-IsPermutation}
use Rattle.nl_store_lists.specs.Chained.{has, IsOnce, without}
use Rattle.nl_store_lists.specs.Rising.{IsRisingBy}
use Rattle.nl_store_lists.specs.Laws.{IsInOrder}
use Rattle.nl_store_lists.proofs.Members.{has-first, has-later, has-rest, has-append}

pub has-of_without : (key : ℕ) (xs : List ℕ) (j : ℕ) → has (without key xs) j ≡ true → has xs j ≡ true
has-of_without key [] j h = absurd (cc)
has-of_without key (x ∷ xs) j h = elim (cases_eq key x) [
  | inl e ↦ has-later x xs j (let w : without key (x ∷ xs) ≡ xs = grind (arith, common_steps) in subst (λ ys. has ys j ≡ true) w h)
  | inr ne ↦
      let w : without key (x ∷ xs) ≡ x ∷ without key xs = grind (arith, common_steps) in
      let there : has (x ∷ without key xs) j ≡ true = subst (λ ys. has ys j ≡ true) w h in
      elim (cases_eq j x) [
        | inl s ↦ subst (λ y. has (x ∷ xs) y ≡ true) (sym s) (has-first x xs)
        | inr other ↦ has-later x xs j (has-of_without key xs j (has-rest x (without key xs) j there other))
      ]
]

pub rising-without : (f : ℕ → ℕ) (xs : List ℕ) (key : ℕ) → IsRisingBy f xs → IsRisingBy f (without key xs)
rising-without f [] key r = tt
rising-without f (x ∷ xs) key r = elim (cases_eq key x) [
  | inl e ↦ (let w : without key (x ∷ xs) ≡ xs = grind (arith, common_steps) in subst (IsRisingBy f) (sym w) r.1)
  | inr ne ↦ (let w : without key (x ∷ xs) ≡ x ∷ without key xs = grind (arith, common_steps) in subst (IsRisingBy f) (sym w) (λ y h. r.0 y (has-of_without key xs y h), rising-without f xs key r.1))
]

pub rising-append : (f : ℕ → ℕ) (xs : List ℕ) (key : ℕ) → IsRisingBy f xs → ((j : ℕ) → has xs j ≡ true → f j < f key) → IsRisingBy f (xs ++ key ∷ [])
rising-append f [] key r above = (λ y h. absurd (cc), tt)
rising-append f (x ∷ xs) key r above = (
  λ y h. elim (cases_eq y key) [
    | inl e ↦ subst (λ z. f x < f z) (sym e) (above x (has-first x xs))
    | inr ne ↦ r.0 y (let a = has-append xs key y in grind (arith, common_steps))
  ],
  rising-append f xs key r.1 (λ j h. above j (has-later x xs j h)),
)

pub rising-same : (f g : ℕ → ℕ) (xs : List ℕ) → ((j : ℕ) → has xs j ≡ true → g j ≡ f j) → IsRisingBy f xs → IsRisingBy g xs
rising-same f g [] same r = tt
rising-same f g (x ∷ xs) same r = (
  λ y h. (let a = same x (has-first x xs) in let b = same y (has-later x xs y h) in let l = r.0 y h in omega arith),
  rising-same f g xs (λ j h. same j (has-later x xs j h)) r.1,
)

-- a key is not behind itself
pub rising-fresh : (f : ℕ → ℕ) (x : ℕ) (xs : List ℕ) → IsRisingBy f (x ∷ xs) → has xs x ≡ false
rising-fresh f x xs r = go (has xs x) refl
  where
    go : (b : Bool) → has xs x ≡ b → has xs x ≡ false
    go false e = e
    go true e = let l = r.0 x e in absurd (omega arith)

pub rising-once : (f : ℕ → ℕ) (xs : List ℕ) → IsRisingBy f xs → IsOnce xs
rising-once f [] r = tt
rising-once f (x ∷ xs) r = (rising-fresh f x xs r, rising-once f xs r.1)

pub rising-one : (f : ℕ → ℕ) (xs ys : List ℕ) → IsRisingBy f xs → IsRisingBy f ys → ((j : ℕ) → has xs j ≡ has ys j) → xs ≡ ys
rising-one f [] [] r s same = refl
rising-one f [] (y ∷ ys) r s same = let a = same y in let b = has-first y ys in absurd (cc)
rising-one f (x ∷ xs) [] r s same = let a = same x in let b = has-first x xs in absurd (cc)
rising-one f (x ∷ xs) (y ∷ ys) r s same = elim (cases_eq x y) [
  | inl e ↦
      let s' : IsRisingBy f (x ∷ ys) = subst (λ z. IsRisingBy f (z ∷ ys)) (sym e) s in
      let fresh = rising-fresh f x xs r in
      let fresh' = rising-fresh f x ys s' in
      let rest : (j : ℕ) → has xs j ≡ has ys j = λ j. elim (cases_eq j x) [
        | inl q ↦ ap (has xs) q ∙ fresh ∙ sym fresh' ∙ ap (has ys) (sym q)
        | inr ne ↦ (let a = same j in let ny : j ≢ y = λ q. ne (q ∙ sym e) in grind (arith, common_steps))
      ] in
      ap (λ z. z ∷ xs) e ∙ ap (λ zs. y ∷ zs) (rising-one f xs ys r.1 s'.1 rest)
  | inr ne ↦
      let back : y ≢ x = λ q. ne (sym q) in
      let a : f y < f x = s.0 x (has-rest y ys x (sym (same x) ∙ has-first x xs) ne) in
      let b : f x < f y = r.0 y (has-rest x xs y (same y ∙ has-first y ys) back) in
      absurd (omega arith)
]

-- ---- sorted lists

has-any : (xs : List ℕ) (j : ℕ) → has xs j ≡ list_any (eqb j) xs
has-any [] j = refl
has-any (x ∷ xs) j = go (eqb j x) ∙ ap (λ b. eqb j x || b) (has-any xs j)
  where
    go : (b : Bool) → cond b true (has xs j) ≡ (b || has xs j)
    go true = refl
    go false = refl

-- one where the number is this one
abbrev one_of : ℕ → ℕ → ℕ
one_of j x = cond (eqb j x) 1 0

times-none : (j : ℕ) (xs : List ℕ) → has xs j ≡ false → sum_by (one_of j) xs ≡ 0
times-none j [] h = refl
times-none j (x ∷ xs) h = rw (sum_by-cons (one_of j) x xs) (elim (cases_eq j x) [
  | inl e ↦ absurd (grind (arith, common_steps))
  | inr ne ↦ (let rest = times-none j xs (grind (arith, common_steps)) in let z : one_of j x ≡ 0 = grind arith in omega (arith, rest, z))
])

times-once : (j : ℕ) (xs : List ℕ) → IsOnce xs → sum_by (one_of j) xs ≤ 1
times-once j [] once = omega arith
times-once j (x ∷ xs) once = rw (sum_by-cons (one_of j) x xs) (elim (cases_eq j x) [
  | inl e ↦ (let z : one_of j x ≡ 1 = grind arith in let rest = times-none j xs (subst (λ y. has xs y ≡ false) (sym e) once.0) in omega arith)
  | inr ne ↦ (let z : one_of j x ≡ 0 = grind arith in let rest = times-once j xs once.1 in omega arith)
])

times-some : (j : ℕ) (xs : List ℕ) → has xs j ≡ true → 1 ≤ sum_by (one_of j) xs
times-some j [] h = absurd (cc)
times-some j (x ∷ xs) h = rw (sum_by-cons (one_of j) x xs) (elim (cases_eq j x) [
  | inl e ↦ (let z : one_of j x ≡ 1 = grind arith in omega arith)
  | inr ne ↦ (let rest = times-some j xs (has-rest x xs j h ne) in omega arith)
])

has-place : (xs : List ℕ) (j : ℕ) → has xs j ≡ true → (i : ℕ) × (i < length xs) × (get_or xs i 0 ≡ j)
has-place [] j h = absurd (cc)
has-place (x ∷ xs) j h = elim (cases_eq j x) [
  | inl e ↦ (zero, omega arith, sym e)
  | inr ne ↦ (let r = has-place xs j (has-rest x xs j h ne) in (suc r.0, omega (arith, r.1), r.2))
]

rising-from : (xs : List ℕ) → IsNonDecreasing xs → ((j : ℕ) → sum_by (one_of j) xs ≤ 1) → IsRisingBy (λ x. x) xs
rising-from [] up once = tt
rising-from (x ∷ xs) up once = (
  λ y h.
      let r = has-place xs y h in
      let le : x ≤ y = subst (λ z. x ≤ z) r.2 (up zero (suc r.0) 0 (omega arith) (omega (arith, r.1))) in
      let apart : x ≢ y = λ e. (
      let one : one_of x x ≡ 1 = grind arith in
      let sum = sum_by-cons (one_of x) x xs in
      let more = times-some x xs (subst (λ z. has xs z ≡ true) (sym e) h) in
      let most = once x in
      absurd (omega arith)) in
      omega arith,
  rising-from xs (λ i j d l m. up (suc i) (suc j) d (omega arith) (omega arith)) (λ j. let most = once j in let sum = sum_by-cons (one_of j) x xs in omega arith),
)

pub rising-sorted : (xs ys : List ℕ) → IsOnce xs → IsPermutation xs ys → IsNonDecreasing ys → IsInOrder xs ys
rising-sorted xs ys once perm up = record {
  rises = rising-from ys up (λ j. let e = sum_by-IsPermutation (one_of j) xs ys perm in let most = times-once j xs once in omega arith);
  same = λ j. has-any ys j ∙ sym (list_any-IsPermutation (eqb j) xs ys perm) ∙ sym (has-any xs j);
}
