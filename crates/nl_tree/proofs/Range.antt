-- The numbers in a model's word table are places in the model.
use Rattle.std.proofs.Common.{◌≡◌, ℕ, zero, suc, ◌+◌, ◌<◌, ◌≤◌, Bool, true, false, cond, List, [], ◌∷◌, ◌++◌, map, length, Option, Some, None, All, bytes_eq, find, refl, subst, arith, ltb, codes}
use Rattle.std.specs.List.{list_all, Contains}
use Rattle.std.specs.List.Sorted.{IsPermutation}
use Rattle.std.specs.Cmp.{first_so, second_so}
use Rattle.std.proofs.lemmas.Bool.{ltb-true}
use Rattle.std.proofs.lemmas.List.Sorted.{Contains-permutation, IsPermutation-sym}
use Rattle.nl_words.specs.Row.{Row, row_named}
use Rattle.nl_words.specs.Rows.{rows}
use Rattle.nl_tree.specs.declared.declared.Declared.{Declared}
use Rattle.nl_tree.specs.declared.declared.Breed.{Breed}
use Rattle.nl_tree.specs.declared.declared.NamedWhat.{NamedWhat}
use Rattle.nl_tree.specs.Checked.{IsInRange}
use Rattle.nl_tree.specs.Term.{Term}
use Rattle.nl_tree.specs.Vocabulary.{Pattern, base_term, counted, global_names, global_term, owned_names, owned_term, made_as, made_name, made_terms, patterns, breed_terms, procedure_term, terms, term_named, named_what, whats}

found_first : (p q : Row → Bool) (x : Row) (rs : List Row) (r : Row) (same : Bool) → p x ≡ same → q x ≡ true → cond same (Some x) (find p rs) ≡ Some r → (find p rs ≡ Some r → q r ≡ true) → q r ≡ true
found_first p q x rs r true is passes here later = let it : x ≡ r = cc in subst (λ y. q y ≡ true) it passes
found_first p q x rs r false is passes here later = later here

-- a row that is found passes each test that all rows pass
pub found_passes : (p q : Row → Bool) (rs : List Row) (r : Row) → list_all q rs ≡ true → find p rs ≡ Some r → q r ≡ true
found_passes p q [] r all here = cc
found_passes p q (x ∷ rs) r all here = found_first p q x rs r (p x) refl (first_so (q x) (list_all q rs) all) here (found_passes p q rs r (second_so (q x) (list_all q rs) all))

abbrev has_place : Row → Bool
has_place r = ltb r.code (length rows)

all_codes : list_all (λ r. ltb r.code (length rows)) rows ≡ true
unfolding rows
all_codes = refl

module _ (d : Declared) where
  abbrev Fit : List Term → Type 0
  Fit [] = Unit {0}
  Fit (t ∷ ts) = IsInRange d t.what × Fit ts

  fit_append : (ts us : List Term) → Fit ts → Fit us → Fit (ts ++ us)
  fit_append [] us h k = k
  fit_append (t ∷ ts) us h k = (h.0, fit_append ts us h.1 k)

  fit_base : (rs : List Row) → list_all (λ r. ltb r.code (length rows)) rs ≡ true → Fit (map base_term rs)
  fit_base [] h = tt
  fit_base (r ∷ rs) h =
      (ltb-true r.code (length rows) (first_so (ltb r.code (length rows)) (list_all (λ (x : Row). ltb x.code (length rows)) rs) h), fit_base rs (second_so (ltb r.code (length rows)) (list_all (λ (x : Row). ltb x.code (length rows)) rs) h))

  fit_counted : {A : Type 0} (f : ℕ → A → Term) (limit : ℕ) → ((n : ℕ) (x : A) → n < limit → IsInRange d (f n x).what) → (n : ℕ) (xs : List A) → n + length xs ≤ limit → Fit (counted f n xs)
  fit_counted f limit each n [] h = tt
  fit_counted f limit each n (x ∷ xs) h = (each n x (omega (arith, h)), fit_counted f limit each (n + 1) xs (omega (arith, h)))

  fit_made_as : (n : ℕ) (name : List ℕ) (o : Option Row) → 0 < n → n ≤ length d.breeds → ((r : Row) → o ≡ Some r → r.code < length rows) → Fit (made_as n name o)
  fit_made_as n name None some low codes = tt
  fit_made_as n name (Some r) some low codes = ((some, low, codes r refl), tt)

  fit_made : (n : ℕ) (b : Breed) (ps : List Pattern) → 0 < n → n ≤ length d.breeds → Fit (made_terms n b ps)
  fit_made n b [] some low = tt
  fit_made n b (p ∷ ps) some low =
      fit_append (made_as n (made_name b p) (row_named rows p.base)) (made_terms n b ps)
      (fit_made_as n (made_name b p) (row_named rows p.base) some low (λ r here. ltb-true r.code (length rows) (found_passes (λ x. bytes_eq x.name p.base) has_place rows r all_codes here)))
      (fit_made n b ps some low)

  fit_breeds : (n : ℕ) (bs : List Breed) → 0 < n → n + length bs ≤ length d.breeds + 1 → Fit (breed_terms n bs)
  fit_breeds n [] some h = tt
  fit_breeds n (b ∷ bs) some h =
      fit_append (made_terms n b (patterns b)) (breed_terms (n + 1) bs) (fit_made n b (patterns b) some (omega (arith, h))) (fit_breeds (n + 1) bs (omega arith) (omega (arith, h)))

  fit_terms : Fit (terms d)
  fit_terms =
      let base = fit_base rows all_codes in
      let globals = fit_counted global_term (length (global_names d)) (λ n x h. h) 0 (global_names d) (omega arith) in
      let owned = fit_counted (owned_term d) (length (owned_names d)) (λ n x h. h) 0 (owned_names d) (omega arith) in
      let breeds = fit_breeds 1 d.breeds (omega arith) (omega arith) in
      let procedures = fit_counted procedure_term (length d.procedures) (λ n x h. h) 0 d.procedures (omega arith) in
      fit_append _ _ base (fit_append _ _ (fit_append _ _ (fit_append _ _ globals owned) breeds) procedures)

  found_fits : (name : List ℕ) (t u : Term) (ts : List Term) (same : Bool) → Fit (u ∷ ts) → cond same (Some u) (term_named ts name) ≡ Some t → (term_named ts name ≡ Some t → IsInRange d t.what) → IsInRange d t.what
  found_fits name t u ts true fit here later = let it : u ≡ t = cc in subst (λ (x : Term). IsInRange d x.what) it fit.0
  found_fits name t u ts false fit here later = later here

  named_fits : (name : List ℕ) (t : Term) (ts : List Term) → Fit ts → term_named ts name ≡ Some t → IsInRange d t.what
  named_fits name t [] fit here = cc
  named_fits name t (u ∷ ts) fit here = found_fits name t u ts (bytes_eq u.name name) fit here (named_fits name t ts fit.1)

  -- and so are those of the row of a name
  pub named_in_range : (name : List ℕ) (t : Term) → term_named (terms d) name ≡ Some t → IsInRange d t.what
  named_in_range name t here = named_fits name t (terms d) fit_terms here

  all_of : (ts : List Term) → Fit ts → All (λ w. IsInRange d w.what) (map named_what ts)
  all_of [] h k w within = absurd (omega (arith, within))
  all_of (t ∷ ts) h zero w within = h.0
  all_of (t ∷ ts) h (suc k) w within = all_of ts h.1 k w (omega (arith, within))

  -- and so are those of its rows in any order
  pub in_range : (named : List NamedWhat) (r : NamedWhat) → IsPermutation (whats d) named → Contains named r → IsInRange d r.what
  in_range named r moved within =
      let (k, inside, is) = Contains-permutation named (whats d) r (IsPermutation-sym (whats d) named moved) within in
      subst (λ x. IsInRange d x.what) is (all_of (terms d) fit_terms k r inside)
