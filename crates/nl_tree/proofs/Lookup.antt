-- What a look-up in a model's whole word table gives.
use Rattle.std.proofs.Common.{◌≡◌, ℕ, Bool, true, false, not, List, [], ◌∷◌, ◌++◌, map, Some, None, All, bytes_eq, ap, subst, ◌∙◌, refl}
use Rattle.std.specs.Option.{option_map, option_or}
use Rattle.std.specs.List.{Contains}
use Rattle.std.specs.Cmp.{second_so}
use Rattle.std.proofs.lemmas.List.Sorted.{Contains-permutation, All-permutation, IsPermutation-sym}
use Rattle.std.proofs.lemmas.List.{map-append}
use Rattle.std.proofs.lemmas.List.Folds.{find-append}
use Rattle.nl_words.specs.Row.{Row, row_named}
use Rattle.nl_words.specs.Rows.{rows}
use Rattle.nl_tree.specs.declared.declared.Declared.{Declared}
use Rattle.nl_tree.specs.Term.{Term}
use Rattle.nl_tree.specs.Vocabulary.{among, base_term, own_terms, terms, term_named}
use Rattle.nl_tree.specs.Names.{are_distinct, IsDeclared}
use Rattle.nl_tree.proofs.Finding.{absent, found, distinct_terms}

abbrev pub term_name : Term → List ℕ
term_name t = t.name

by_test : (r : Row) (rs : List Row) (name : List ℕ) (b : Bool) → bytes_eq r.name name ≡ b → term_named (map base_term rs) name ≡ option_map base_term (row_named rs name) → term_named (map base_term (r ∷ rs)) name ≡ option_map base_term (row_named (r ∷ rs) name)
by_test r rs name true is later = rw is refl
by_test r rs name false is later = rw is later

-- a built-in word has the row of the built-in table
base_found : (rs : List Row) (name : List ℕ) → term_named (map base_term rs) name ≡ option_map base_term (row_named rs name)
base_found [] name = refl
base_found (r ∷ rs) name = by_test r rs name (bytes_eq r.name name) refl (base_found rs name)

-- the rest of a list whose names differ
pub rest_distinct : (xs ys : List (List ℕ)) → are_distinct (xs ++ ys) ≡ true → are_distinct ys ≡ true
rest_distinct [] ys h = h
rest_distinct (x ∷ xs) ys h = rest_distinct xs ys (second_so (not (among x (xs ++ ys))) (are_distinct (xs ++ ys)) h)

module _ (d : Declared) (fit : IsDeclared d) (name : List ℕ) where
  distinct_own : are_distinct (map term_name (own_terms d)) ≡ true
  distinct_own = rest_distinct (map term_name (map base_term rows)) (map term_name (own_terms d)) (subst (λ ns. are_distinct ns ≡ true) (map-append term_name (map base_term rows) (own_terms d)) (distinct_terms d fit))

  pub own_found : (t : Term) → t.name ≡ name → Contains d.index t → term_named (own_terms d) name ≡ Some t
  own_found t named within =
      let (k, inside, is) = Contains-permutation d.index (own_terms d) t (IsPermutation-sym (own_terms d) d.index fit.2) within in
      let here : term_named (own_terms d) t.name ≡ Some t = subst (λ (x : Term). term_named (own_terms d) x.name ≡ Some x) is (found term_name (own_terms d) distinct_own k t inside) in
      subst (λ n. term_named (own_terms d) n ≡ Some t) named here

  pub own_absent : All (λ (t : Term). bytes_eq t.name name ≡ false) d.index → term_named (own_terms d) name ≡ None
  own_absent none = absent term_name (own_terms d) name (All-permutation (λ (t : Term). bytes_eq t.name name ≡ false) d.index (own_terms d) (IsPermutation-sym (own_terms d) d.index fit.2) none)

  split : term_named (terms d) name ≡ option_or (option_map base_term (row_named rows name)) (term_named (own_terms d) name)
  split = find-append (λ (t : Term). bytes_eq t.name name) (map base_term rows) (own_terms d) ∙ ap (λ o. option_or o (term_named (own_terms d) name)) (base_found rows name)

  pub base_row : (r : Row) → row_named rows name ≡ Some r → term_named (terms d) name ≡ Some (base_term r)
  base_row r here = split ∙ ap (λ o. option_or (option_map base_term o) (term_named (own_terms d) name)) here

  pub own_row : row_named rows name ≡ None → term_named (terms d) name ≡ term_named (own_terms d) name
  own_row none = split ∙ ap (λ o. option_or (option_map base_term o) (term_named (own_terms d) name)) none
