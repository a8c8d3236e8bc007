-- Lemmas on the keys of a list.
use Rattle.std.proofs.Common.{◌≡◌, ◌≢◌, ℕ, true, false, List, [], ◌∷◌, ◌++◌, eqb, cond, refl, inl, inr, arith}
use Rattle.std.proofs.lemmas.Grind.{common_steps}
use Rattle.std.proofs.lemmas.Bool.{cases_eq}
use Rattle.nl_store_lists.specs.Chained.{has, IsOnce, without}

pub has-first : (x : ℕ) (xs : List ℕ) → has (x ∷ xs) x ≡ true
has-first x xs = grind (arith, common_steps)

pub has-later : (x : ℕ) (xs : List ℕ) (key : ℕ) → has xs key ≡ true → has (x ∷ xs) key ≡ true
has-later x xs key h = grind (arith, common_steps)

pub has-rest : (x : ℕ) (xs : List ℕ) (key : ℕ) → has (x ∷ xs) key ≡ true → key ≢ x → has xs key ≡ true
has-rest x xs key h ne = grind (arith, common_steps)

pub has-without : (key : ℕ) (xs : List ℕ) (j : ℕ) → IsOnce xs → has (without key xs) j ≡ cond (eqb j key) false (has xs j)
has-without key [] j once = elim (cases_eq j key) [ inl e ↦ grind arith | inr ne ↦ grind arith ]
has-without key (x ∷ xs) j once = let rest = has-without key xs j once.1 in grind (arith, common_steps)

pub without-absent : (key : ℕ) (xs : List ℕ) → has xs key ≡ false → without key xs ≡ xs
without-absent key [] h = refl
without-absent key (x ∷ xs) h = grind (arith, common_steps, without-absent key xs)

pub once-without : (key : ℕ) (xs : List ℕ) → IsOnce xs → IsOnce (without key xs)
once-without key [] once = tt
once-without key (x ∷ xs) once = elim (cases_eq key x) [
  | inl e ↦ grind (arith, common_steps)
  | inr ne ↦
      let rest = once-without key xs once.1 in
      let gone = has-without key xs x once.1 in
      grind (arith, common_steps)
]

pub has-append : (xs : List ℕ) (key j : ℕ) → has (xs ++ key ∷ []) j ≡ cond (eqb j key) true (has xs j)
has-append [] key j = refl
has-append (x ∷ xs) key j = let rest = has-append xs key j in grind (arith, common_steps)

pub once-append : (xs : List ℕ) (key : ℕ) → IsOnce xs → has xs key ≡ false → IsOnce (xs ++ key ∷ [])
once-append [] key once h = (refl, tt)
once-append (x ∷ xs) key once h = elim (cases_eq key x) [
  | inl e ↦ absurd (grind (arith, common_steps))
  | inr ne ↦
      let rest : IsOnce (xs ++ key ∷ []) = once-append xs key once.1 (grind (arith, common_steps)) in
      let e = has-append xs key x in
      let fresh : has (xs ++ key ∷ []) x ≡ false = grind (arith, common_steps) in
      (fresh, rest)
]
