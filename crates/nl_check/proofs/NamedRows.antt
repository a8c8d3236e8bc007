-- The rows of a model's whole word table, one after another.
use Rattle.std.proofs.Common.{◌≡◌, ℕ, zero, suc, ◌+◌, List, [], ◌∷◌, ◌++◌, drop, map, Some, refl, sym, ap, subst, ◌∙◌, append_assoc, add-one}
use Rattle.std.specs.Prelude.{slice_get}
use Rattle.std.specs.List.Sorted.{IsPermutation}
use Rattle.std.proofs.lemmas.List.{map-append}
use Rattle.std.proofs.lemmas.List.Sorted.{IsPermutation-map, IsPermutation-append_right}
use Rattle.nl_words.specs.Row.{Row}
use Rattle.nl_words.specs.Rows.{rows}
use Rattle.nl_tree.specs.declared.declared.Declared.{Declared}
use Rattle.nl_tree.specs.declared.declared.NamedWhat.{NamedWhat}
use Rattle.nl_tree.specs.Names.{IsDeclared}
use Rattle.nl_tree.specs.Checked.{AreRows}
use Rattle.nl_tree.specs.Vocabulary.{base_term, own_terms, named_what}
use Rattle.nl_check.specs.inner.Tables.{base_what, base_whats}

next_there : (rs : List Row) (k : ℕ) (r : Row) → slice_get rs k ≡ Some r → base_whats (drop k rs) ≡ base_what r ∷ base_whats (drop (k + 1) rs)
next_there [] k r here = cc
next_there (x ∷ rs) zero r here = let same : x ≡ r = cc in ap (λ y. base_what y ∷ base_whats rs) same
next_there (x ∷ rs) (suc k) r here = next_there rs k r here ∙ rw (add-one) (rw (add-one) refl)

-- one row more
pub row_step : (rs : List Row) (k : ℕ) (r : Row) (list all : List NamedWhat) → slice_get rs k ≡ Some r → list ++ base_whats (drop k rs) ≡ all → (list ++ base_what r ∷ []) ++ base_whats (drop (k + 1) rs) ≡ all
row_step rs k r list all here before = append_assoc list (base_what r ∷ []) (base_whats (drop (k + 1) rs)) ∙ sym (ap (λ xs. list ++ xs) (next_there rs k r here)) ∙ before

map_twice : (rs : List Row) → base_whats rs ≡ map named_what (map base_term rs)
map_twice [] = refl
map_twice (r ∷ rs) = ap (λ xs. base_what r ∷ xs) (map_twice rs)

-- the built-in words and the index are the whole table
pub are_rows : (d : Declared) (list : List NamedWhat) → IsDeclared d → list ≡ base_whats rows ++ map named_what d.index → AreRows d list
are_rows d list fit is =
    let whole = map-append named_what (map base_term rows) (own_terms d) in
    let moved = IsPermutation-append_right (map named_what (map base_term rows)) (map named_what (own_terms d)) (map named_what d.index) (IsPermutation-map named_what (own_terms d) d.index fit.2) in
    let made : list ≡ map named_what (map base_term rows) ++ map named_what d.index = is ∙ ap (λ xs. xs ++ map named_what d.index) (map_twice rows) in
    subst (λ xs. IsPermutation xs list) (sym whole) (subst (IsPermutation (map named_what (map base_term rows) ++ map named_what (own_terms d))) (sym made) moved)
