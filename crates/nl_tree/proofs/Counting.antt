-- How many rows of a model's word table are those of widgets and globals, and that there are few.
use Rattle.std.proofs.Common.{◌≡◌, ℕ, ◌+◌, ◌<◌, ◌≤◌, ◌^◌, not, cond, List, [], ◌∷◌, ◌++◌, map, length, filter, Option, Some, None, refl, ◌∙◌, arith, length-append}
use Rattle.std.specs.List.{sum_by, count_by}
use Rattle.std.specs.List.Sorted.{IsPermutation}
use Rattle.std.proofs.lemmas.List.Sums.{sum_by-cons, length-filter, count_by-le-length}
use Rattle.std.proofs.lemmas.List.Sorted.{sum_by-IsPermutation}
use Rattle.nl_words.specs.Row.{Row, row_named}
use Rattle.nl_words.specs.Rows.{rows}
use Rattle.nl_tree.specs.declared.declared.Declared.{Declared}
use Rattle.nl_tree.specs.declared.declared.Breed.{Breed}
use Rattle.nl_tree.specs.declared.declared.NamedWhat.{NamedWhat}
use Rattle.nl_tree.specs.Names.{IsDeclared, breeds_names, procedures_names}
use Rattle.nl_tree.specs.Term.{Term}
use Rattle.nl_tree.specs.Slots.{is_global}
use Rattle.nl_tree.specs.Vocabulary.{Pattern, among, base_term, counted, global_names, global_term, owned_names, owned_term, made_as, made_name, made_terms, patterns, breed_terms, procedure_term, terms, named_what, whats}

abbrev weight : NamedWhat → ℕ
weight r = cond (is_global r) 1 0

abbrev count : List Term → ℕ
count ts = sum_by weight (map named_what ts)

count_cons : (t : Term) (ts : List Term) → count (t ∷ ts) ≡ weight (named_what t) + count ts
count_cons t ts = sum_by-cons weight (named_what t) (map named_what ts)

count_append : (ts us : List Term) → count (ts ++ us) ≡ count ts + count us
count_append [] us = omega arith
count_append (t ∷ ts) us = omega (arith, count_cons t (ts ++ us), count_cons t ts, count_append ts us)

count_base : (rs : List Row) → count (map base_term rs) ≡ 0
count_base [] = refl
count_base (r ∷ rs) = omega (arith, count_cons (base_term r) (map base_term rs), count_base rs)

count_ones : {A : Type 0} (f : ℕ → A → Term) → ((n : ℕ) (x : A) → weight (named_what (f n x)) ≡ 1) → (n : ℕ) (xs : List A) → count (counted f n xs) ≡ length xs
count_ones f each n [] = refl
count_ones f each n (x ∷ xs) = omega (arith, count_cons (f n x) (counted f (n + 1) xs), each n x, count_ones f each (n + 1) xs)

count_none : {A : Type 0} (f : ℕ → A → Term) → ((n : ℕ) (x : A) → weight (named_what (f n x)) ≡ 0) → (n : ℕ) (xs : List A) → count (counted f n xs) ≡ 0
count_none f each n [] = refl
count_none f each n (x ∷ xs) = omega (arith, count_cons (f n x) (counted f (n + 1) xs), each n x, count_none f each (n + 1) xs)

count_made_as : (n : ℕ) (name : List ℕ) (o : Option Row) → count (made_as n name o) ≡ 0
count_made_as n name None = refl
count_made_as n name (Some r) = refl

count_made : (n : ℕ) (b : Breed) (ps : List Pattern) → count (made_terms n b ps) ≡ 0
count_made n b [] = refl
count_made n b (p ∷ ps) =
    let here = made_as n (made_name b p) (row_named rows p.base) in
    omega (arith, count_append here (made_terms n b ps), count_made_as n (made_name b p) (row_named rows p.base), count_made n b ps)

count_breeds : (n : ℕ) (bs : List Breed) → count (breed_terms n bs) ≡ 0
count_breeds n [] = refl
count_breeds n (b ∷ bs) = omega (arith, count_append (made_terms n b (patterns b)) (breed_terms (n + 1) bs), count_made n b (patterns b), count_breeds (n + 1) bs)

module _ (d : Declared) where
  count_terms : count (terms d) ≡ length (global_names d)
  count_terms =
      let g = counted global_term 0 (global_names d) in
      let o = counted (owned_term d) 0 (owned_names d) in
      let b = breed_terms 1 d.breeds in
      let p = counted procedure_term 0 d.procedures in
      omega (
        arith,
        count_append (map base_term rows) (g ++ o ++ b ++ p),
        count_append (g ++ o ++ b) p,
        count_append (g ++ o) b,
        count_append g o,
        count_base rows,
        count_ones global_term (λ n x. refl) 0 (global_names d),
        count_none (owned_term d) (λ n x. refl) 0 (owned_names d),
        count_breeds 1 d.breeds,
        count_none procedure_term (λ n x. refl) 0 d.procedures,
      )

  -- in any order
  pub count_rows : (named : List NamedWhat) → IsPermutation (whats d) named → count_by is_global named ≡ length (global_names d)
  count_rows named moved = sum_by-IsPermutation weight (whats d) named moved ∙ count_terms

  pub few_globals : IsDeclared d → length (global_names d) + 1 < 2 ^ 32
  few_globals fit =
      let new = filter (λ y. not (among y d.widgets)) d.globals in
      let fewer : length new ≤ length d.globals = omega (arith, length-filter (λ y. not (among y d.widgets)) d.globals, count_by-le-length (λ y. not (among y d.widgets)) d.globals) in
      let all = length-append (d.widgets ++ d.globals ++ d.turtles_own ++ d.patches_own ++ d.links_own ++ breeds_names d.breeds) (procedures_names d.procedures) in
      let five = length-append (d.widgets ++ d.globals ++ d.turtles_own ++ d.patches_own ++ d.links_own) (breeds_names d.breeds) in
      let four = length-append (d.widgets ++ d.globals ++ d.turtles_own ++ d.patches_own) d.links_own in
      let three = length-append (d.widgets ++ d.globals ++ d.turtles_own) d.patches_own in
      let two = length-append (d.widgets ++ d.globals) d.turtles_own in
      omega (arith, length-append d.widgets new, fewer, all, five, four, three, two, length-append d.widgets d.globals, fit.1)
