-- What a look-up by name gives in a list of rows whose names ascend.
use Rattle.std.proofs.Common.{◌≡◌, ℕ, zero, suc, ◌+◌, ◌<◌, Bool, true, false, cond, List, [], ◌∷◌, map, length, get_or, Option, Some, None, Result, Ok, Err, MatchResult, All, bytes_eq, Ordering, sym, ap, subst, ◌∙◌, refl, arith, add-one, inl, inr, ◌&&◌, ◌==◌, add-zero, zero-add, slice_get, option_map, IfSome, Bor}
use Rattle.std.specs.List.{list_all}
use Rattle.std.specs.List.Sorted.{IsSearchInRange, IsBinarySearchResult, IsNonDecreasingBy}
use Rattle.std.specs.declared.cmp.Ordering.TheVariants.{Less, Equal, Greater}
use Rattle.std.specs.Ordering.{is_lt, is_eq, nat_cmp, ordering_index, ordering_reverse}
use Rattle.std.specs.Cmp.{first_so, second_so}
use Rattle.std.specs.Cmp.Lexicographic.{slice_cmp}
use Rattle.std.specs.Option.{option_copied}
use Rattle.std.specs.Slice.{IsItemAt}
use Rattle.std.proofs.lemmas.Option.{slice_get-map, slice_get_read}
use Rattle.std.specs.FinMap.{slice_cmp-IsAntisymmetric, nat_cmp-IsAntisymmetric}
use Rattle.std.proofs.lemmas.Cmp.{nat_list_cmp_total}
use Rattle.std.proofs.lemmas.Map.Text.{is_eq-slice_cmp}
use Rattle.std.proofs.lemmas.Slice.Eq.{bytes_eq-Decides}
use Rattle.std.proofs.Math.ListN.{get_or-map, length-map}
use Rattle.std.proofs.lemmas.Bool.{cases_lt, eqb-true}
use Rattle.std.proofs.lemmas.List.Sorted.{searchable_from_sorted}
use Rattle.nl_words.specs.declared.entry.Entry.{Entry}
use Rattle.nl_words.specs.Row.{Row, row_of, row_named}
use Rattle.nl_words.specs.Table.{is_before, ascends, counts_from, is_name, is_table}

abbrev order : List ℕ → List ℕ → Ordering
order = slice_cmp nat_cmp

less : (o : Ordering) → is_lt o ≡ true → o ≡ Less
less Less h = refl
less Equal h = cc
less Greater h = cc

-- the test for the same name, from the order of the two
tested : (xs ys : List ℕ) (o : Ordering) → order xs ys ≡ o → bytes_eq xs ys ≡ is_eq o
tested xs ys o is = sym (is_eq-slice_cmp xs ys) ∙ ap is_eq is

first_pair : (row next : Row) (rows : List Row) → ascends (row ∷ next ∷ rows) ≡ true → order row.name next.name ≡ Less
first_pair row next rows up = less (order row.name next.name) (first_so (is_before row.name next.name) (ascends (next ∷ rows)) up)

rest_ascends : (row : Row) (rows : List Row) → ascends (row ∷ rows) ≡ true → ascends rows ≡ true
rest_ascends row [] up = refl
rest_ascends row (next ∷ rows) up = second_so (is_before row.name next.name) (ascends (next ∷ rows)) up

-- the name of the first row stands before each later one
before_later : (row : Row) (rows : List Row) (k : ℕ) (d : Row) → ascends (row ∷ rows) ≡ true → k < length rows → order row.name (get_or rows k d).name ≡ Less
before_later row [] k d up within = absurd (omega arith)
before_later row (next ∷ rows) zero d up within = first_pair row next rows up
before_later row (next ∷ rows) (suc k) d up within =
    nat_list_cmp_total.trans row.name next.name (get_or rows k d).name (first_pair row next rows up) (before_later next rows k d (rest_ascends row (next ∷ rows) up) (omega arith))

-- a row of the list is found by its name
found : (rows : List Row) (k : ℕ) (d : Row) → ascends rows ≡ true → k < length rows → row_named rows (get_or rows k d).name ≡ Some (get_or rows k d)
found [] k d up within = absurd (omega arith)
found (row ∷ rows) zero d up within = rw ((bytes_eq-Decides row.name row.name).1 refl) refl
found (row ∷ rows) (suc k) d up within =
    rw (tested row.name (get_or rows k d).name Less (before_later row rows k d up (omega arith))) (found rows k d (rest_ascends row rows up) (omega arith))

-- a row of a name is the only one
pub named_only : (rows : List Row) (name : List ℕ) → ascends rows ≡ true → All (λ row. row.name ≡ name → row_named rows name ≡ Some row) rows
named_only rows name up k d within same = subst (λ n. row_named rows n ≡ Some (get_or rows k d)) same (found rows k d up within)

-- where no row has the name, none is found
absent : (entries : List Entry) (name : List ℕ) → ((k : ℕ) (d : Entry) → k < length entries → bytes_eq (get_or entries k d).name.now name ≡ false) → None ≡ row_named (map row_of entries) name
absent [] name none = refl
absent (entry ∷ entries) name none = rw (none 0 entry (omega arith)) (absent entries name (λ k d within. none (suc k) d (omega arith)))

-- each name stands before the next
adjacent : (rows : List Row) (k : ℕ) (d : Row) → ascends rows ≡ true → suc k < length rows → order (get_or rows k d).name (get_or rows (suc k) d).name ≡ Less
adjacent [] k d up within = absurd (omega arith)
adjacent (row ∷ rows) zero d up within = before_later row rows zero d up (omega arith)
adjacent (row ∷ rows) (suc k) d up within = adjacent rows k d (rest_ascends row rows up) (omega arith)

module _ (entries : List Entry) (name : List ℕ) (up : ascends (map row_of entries) ≡ true) where
  -- the comparisons with the name rise along the rows, as a binary search asks
  comparisons_rise : IsNonDecreasingBy (λ entry. ordering_index (order entry.name.now name)) entries
  comparisons_rise = searchable_from_sorted nat_list_cmp_total (λ (entry : Entry). entry.name.now) entries name (λ k d low within.
      let here = get_or entries k d in
      let next = get_or entries (suc k) d in
      let rising : order here.name.now next.name.now ≡ Less = simp (get_or-map row_of) at (adjacent (map row_of entries) k (row_of d) up (simp length-map (omega (arith, within)))) in
      rw add-one (ap is_lt (nat_list_cmp_total.antisymm next.name.now here.name.now ∙ ap ordering_reverse rising)))

  pub answers : (r : Result ℕ ℕ) → IsSearchInRange r (length entries) → IsBinarySearchResult (λ entry. order entry.name.now name) entries r → MatchResult r (λ at. (d : Entry) → Some (row_of (get_or entries at d)) ≡ row_named (map row_of entries) name) (λ _. None ≡ row_named (map row_of entries) name)
  answers (Ok at) within same = λ d.
      let here : row_named (map row_of entries) (get_or entries at d).name.now ≡ Some (row_of (get_or entries at d)) = simp (get_or-map row_of) at (found (map row_of entries) at (row_of d) up (simp length-map within)) in
      let name_is : (get_or entries at d).name.now ≡ name = slice_cmp-IsAntisymmetric nat_cmp-IsAntisymmetric (get_or entries at d).name.now name (same d) in
      sym (subst (λ n. row_named (map row_of entries) n ≡ Some (row_of (get_or entries at d))) name_is here)
  answers (Err at) within parted = absent entries name (λ k d inside.
      let sides = parted comparisons_rise in
      elim (cases_lt k at) [
        | inl lt ↦ tested _ name Less (sides.0 k d (omega arith) lt)
        | inr le ↦ tested _ name Greater (sides.1 k d le inside)
      ])

pub table_ascends : (rows : List Row) → is_table rows ≡ true → ascends rows ≡ true
table_ascends rows table = first_so (ascends rows) (list_all (λ row. is_name row.name) rows) (first_so (ascends rows && list_all (λ row. is_name row.name) rows) (counts_from 0 rows) table)

pub table_counts : (rows : List Row) → is_table rows ≡ true → counts_from 0 rows ≡ true
table_counts rows table = second_so (ascends rows && list_all (λ row. is_name row.name) rows) (counts_from 0 rows) table

counted : (place : ℕ) (rows : List Row) (k : ℕ) (row : Row) → counts_from place rows ≡ true → slice_get rows k ≡ Some row → row.code ≡ place + k
counted place [] k row counts at = cc
counted place (first ∷ rows) zero row counts at =
    let here : first.code ≡ place = eqb-true first.code place (first_so (first.code == place) (counts_from (place + 1) rows) counts) in
    let same : first ≡ row = cc in
    sym (ap (λ (r : Row). r.code) same) ∙ here ∙ sym (add-zero place)
counted place (first ∷ rows) (suc k) row counts at =
    let rest = counted (place + 1) rows k row (second_so (first.code == place) (counts_from (place + 1) rows) counts) at in
    omega (arith, rest)

-- the row that stands at a place has it as its code
pub placed : (entries : List Entry) (k : ℕ) (found : Option (Bor Entry)) → is_table (map row_of entries) ≡ true → IsItemAt entries k found → IfSome found (λ entry. entry.now.code ≡ k)
placed entries k None table item = tt
placed entries k (Some entry) table item =
    let at : slice_get (map row_of entries) k ≡ Some (row_of entry.now) = slice_get-map row_of entries k ∙ ap (option_map row_of) (slice_get_read entries (length entries) k entry.now refl item.3.0 item.1) in
    counted 0 (map row_of entries) k (row_of entry.now) (table_counts (map row_of entries) table) at ∙ zero-add k

-- what it takes for a row to be found: it has the name, and stands at a place
abbrev Stands : List Row → List ℕ → Row → Type 0
Stands rows name row = (row.name ≡ name) × ((k : ℕ) × (slice_get rows k ≡ Some row))

first_or_later : (first : Row) (rows : List Row) (name : List ℕ) (row : Row) (same : Bool) → bytes_eq first.name name ≡ same → cond same (Some first) (row_named rows name) ≡ Some row → (row_named rows name ≡ Some row → Stands rows name row) → Stands (first ∷ rows) name row
first_or_later first rows name row true same at later =
    let it : first ≡ row = cc in
    (ap (λ (r : Row). r.name) (sym it) ∙ (bytes_eq-Decides first.name name).0 same, (0, ap Some it))
first_or_later first rows name row false other at later = let rest = later at in (rest.0, (suc (rest.1).0, (rest.1).1))

stands : (rows : List Row) (name : List ℕ) (row : Row) → row_named rows name ≡ Some row → Stands rows name row
stands [] name row at = cc
stands (first ∷ rows) name row at = first_or_later first rows name row (bytes_eq first.name name) refl at (stands rows name row)

-- a row that is found has the name
pub named : (rows : List Row) (name : List ℕ) (found : Option (Bor Entry)) → option_map row_of (option_copied found) ≡ row_named rows name → IfSome found (λ entry. entry.now.name.now ≡ name)
named rows name None at = tt
named rows name (Some entry) at = (stands rows name (row_of entry.now) (sym at)).0

-- and stands in a table at the place that is its code
pub coded : (rows : List Row) (name : List ℕ) (found : Option (Bor Entry)) → is_table rows ≡ true → option_map row_of (option_copied found) ≡ row_named rows name → IfSome found (λ entry. slice_get rows entry.now.code ≡ Some (row_of entry.now))
coded rows name None table at = tt
coded rows name (Some entry) table at =
    let (k, here) = (stands rows name (row_of entry.now) (sym at)).1 in
    let code : entry.now.code ≡ k = counted 0 rows k (row_of entry.now) (table_counts rows table) here ∙ zero-add k in
    ap (slice_get rows) code ∙ here
