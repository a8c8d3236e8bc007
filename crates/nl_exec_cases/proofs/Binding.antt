-- The inputs of a call by their names.
use Rattle.std.proofs.Common.{◌≡◌, ◌&&◌, ◌<◌, ◌≤◌, ℕ, zero, suc, Bool, true, IsTrue, List, [], ◌∷◌, ◌++◌, Some, None, length, map, take, slice_get, refl, ap, ◌∙◌, sym, arith}
use Rattle.std.specs.List.{list_all}
use Rattle.std.proofs.lemmas.Bool.{and_parts}
use Rattle.std.proofs.lemmas.List.{length-map}
use Rattle.nl_fixed.specs.Nouns.{Name, Names}
use Rattle.nl_value.specs.Plain.{Plain}
use Rattle.nl_value.specs.Views.{plain}
use Rattle.nl_value.specs.declared.values.Value.{Value}
use Rattle.nl_exec_meaning.specs.Calls.{bound}

pub bound_more : (names : Names) (made : List Plain) (value : Plain) (name : Name) → slice_get names (length made) ≡ Some name →
    bound names (made ++ value ∷ []) ≡ bound names made ++ record { name = name; value = value } ∷ []
bound_more [] made value name is = absurd (cc)
bound_more (n ∷ names) [] value name is = let same : n ≡ name = cc in ap (λ (x : Name). record { name = x; value = value } ∷ bound names []) same ∙ none names
  where
    none : (ns : Names) → record { name = name; value = value } ∷ bound ns [] ≡ record { name = name; value = value } ∷ []
    none [] = refl
    none (m ∷ ms) = refl
bound_more (n ∷ names) (m ∷ made) value name is = ap (λ bs. record { name = n; value = m } ∷ bs) (bound_more names made value name is)

pub bound_none : (names : Names) → bound names [] ≡ []
bound_none [] = refl
bound_none (n ∷ names) = refl

inside : {A : Type 0} (xs : List A) (i : ℕ) → i < length xs → None ≡ slice_get xs i → ⊥
inside [] i h none = omega (arith, h)
inside (x ∷ xs) zero h none = cc
inside (x ∷ xs) (suc i) h none = inside xs i (omega (arith, h)) none

-- there is a name for each value
pub named : (names : Names) (made : List Plain) (items : List Value) (i n : ℕ) → map plain items ≡ made → length made ≡ length names → i < length items → n ≡ i → None ≡ slice_get names n → ⊥
named names made items i n same many h is none =
    let l : length items ≡ length made = sym (length-map items plain) ∙ ap length same in
    inside names n (omega (arith, l, many, h, is)) none

pub taken : (items : List Value) (i : ℕ) → i ≤ length items → length (map plain (take i items)) ≡ i
taken items zero h = refl
taken [] (suc i) h = absurd (omega (arith, h))
taken (x ∷ items) (suc i) h = ap suc (taken items i (omega (arith, h)))

pub front_passes : {A : Type 0} (test : A → Bool) (xs : List A) (x : A) → IsTrue (list_all test (xs ++ x ∷ [])) → IsTrue (list_all test xs) × IsTrue (test x)
front_passes test [] x all = (refl, (and_parts (test x) true all).0)
front_passes test (y ∷ xs) x all =
    let both = and_parts (test y) (list_all test (xs ++ x ∷ [])) all in
    let rest = front_passes test xs x both.1 in
    (ap (λ b. b && list_all test xs) both.0 ∙ rest.0, rest.1)
