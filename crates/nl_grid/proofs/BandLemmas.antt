-- Patches by row and column, against bands of rows and columns.
use Rattle.std.proofs.Common.{ℕ, ◌+◌, ◌*◌, ◌/◌, ◌%◌, ◌^◌, ◌<◌, ◌≤◌, ◌≡◌, Bool, true, false, ◌&&◌, nat_lt, List, Contains, find, slice_get, Option, Some, None, IfSome, IfNone, inl, inr, arith, refl, sym, ap, subst, ◌∙◌}
use Rattle.std.specs.Option.{SomeIff}
use Rattle.std.proofs.lemmas.Bool.{cases_lt, cases_eq}
use Rattle.std.proofs.lemmas.Nat.{div-add-mod', div-mul-add, mod-mul-add, mod_below, mul-le, le-div, mul-add-lt}
use Rattle.nl_grid.proofs.RangeLemmas.{in_filter, from_filter, head_found, head_none, find_above, find_none, next_index}
use Rattle.nl_grid.specs.declared.band.Band.{Band}
use Rattle.nl_grid.specs.Geometry.{ComesAfter}
use Rattle.nl_grid.specs.inner.Bands.{in_band, in_bands, patches_in, IsBand, IsFirstIndex, NoIndexFrom, AreBands, IsFirstFrom, NoneFrom}

-- the row and the column of a patch
pub row_of : (r c w : ℕ) → c < w → (r * w + c) / w ≡ r
row_of r c w below = div-mul-add r w c below

pub column_of : (r c w : ℕ) → c < w → (r * w + c) % w ≡ c
column_of r c w below = mod-mul-add r w c below

-- a patch isn't in a later row than a patch after it
pub rows_ascend : (a b w : ℕ) → 0 < w → a ≤ b → a / w ≤ b / w
rows_ascend a b w some order = le-div (a / w) b w some (omega (arith, div-add-mod' a w))

-- in one row the columns ascend
pub columns_ascend : (a b w : ℕ) → a / w ≡ b / w → a ≤ b → a % w ≤ b % w
columns_ascend a b w same order =
    let product = ap (λ r. r * w) same in
    omega (arith, div-add-mod' a w, div-add-mod' b w, product)

pub columns_below : (a b w : ℕ) → a / w ≡ b / w → a < b → a % w < b % w
columns_below a b w same order =
    let product = ap (λ r. r * w) same in
    omega (arith, div-add-mod' a w, div-add-mod' b w, product)

-- a patch of a later row comes later
pub later_row : (a r c w : ℕ) → 0 < w → a / w < r → a ≤ r * w + c
later_row a r c w some below =
    let next : a / w + 1 ≤ r = omega (arith, below) in
    omega (arith, div-add-mod' a w, mod_below a w some, mul-le (a / w + 1) w r w next (omega arith))

and_false_left : (a b : Bool) → a ≡ false → (a && b) ≡ false
and_false_left a b fails = rw fails refl

pub and_false_right : (a b : Bool) → b ≡ false → (a && b) ≡ false
and_false_right true b fails = fails
and_false_right false b fails = refl

pub outside_by_column : (columns rows : Band) (patch : ℕ) → in_band columns (patch % columns.side) ≡ false → in_bands columns rows patch ≡ false
outside_by_column columns rows patch fails = and_false_left (in_band columns (patch % columns.side)) (in_band rows (patch / columns.side)) fails

pub outside_by_row : (columns rows : Band) (patch : ℕ) → in_band rows (patch / columns.side) ≡ false → in_bands columns rows patch ≡ false
outside_by_row columns rows patch fails = and_false_right (in_band columns (patch % columns.side)) (in_band rows (patch / columns.side)) fails

-- a patch of bands by its row and column
pub inside_bands : (columns rows : Band) (r c : ℕ) → c < columns.side → in_band columns c ≡ true → in_band rows r ≡ true → in_bands columns rows (r * columns.side + c) ≡ true
inside_bands columns rows r c below column row = rw (row_of r c columns.side below, column_of r c columns.side below, column, row) refl

-- the first one from a patch on lies in its row
pub first_in_row : (columns rows : Band) (patch c : ℕ) → AreBands columns rows → in_band rows (patch / columns.side) ≡ true → IsFirstIndex columns (patch % columns.side) c → IsFirstFrom columns rows patch (patch / columns.side * columns.side + c)
first_in_row columns rows patch c bands at_row at_column = record {
  from = omega (arith, div-add-mod' patch columns.side, at_column.start);
  passes = inside_bands columns rows (patch / columns.side) c at_column.below at_column.passes at_row;
  first = λ other after before.
      let row_low = rows_ascend patch other columns.side bands.columns_are.some after in
      let row_high = rows_ascend other (patch / columns.side * columns.side + c) columns.side bands.columns_are.some (omega (arith, before)) in
      let same : patch / columns.side ≡ other / columns.side = omega (arith, row_low, row_high, row_of (patch / columns.side) c columns.side at_column.below) in
      let product = ap (λ r. r * columns.side) same in
      outside_by_column columns rows other (at_column.first (other % columns.side) (columns_ascend patch other columns.side same after) (omega (arith, div-add-mod' other columns.side, product, before)));
}

-- no patch of the row from this one on is in the bands
pub RowIsDone : Band → Band → ℕ → Type 0
RowIsDone columns rows patch = (other : ℕ) → patch ≤ other → patch / columns.side ≡ other / columns.side → in_bands columns rows other ≡ false

pub done_by_row : (columns rows : Band) (patch : ℕ) → in_band rows (patch / columns.side) ≡ false → RowIsDone columns rows patch
unfolding RowIsDone
done_by_row columns rows patch fails other after same = outside_by_row columns rows other (rw (← same) fails)

pub done_by_columns : (columns rows : Band) (patch : ℕ) → NoIndexFrom columns (patch % columns.side) → RowIsDone columns rows patch
unfolding RowIsDone
done_by_columns columns rows patch none other after same = outside_by_column columns rows other (none (other % columns.side) (columns_ascend patch other columns.side same after))

-- the first one from a patch on lies in a later row
pub first_in_later_row : (columns rows : Band) (patch r c : ℕ) → AreBands columns rows → RowIsDone columns rows patch → IsFirstIndex rows (patch / columns.side + 1) r → IsFirstIndex columns 0 c → IsFirstFrom columns rows patch (r * columns.side + c)
unfolding RowIsDone
first_in_later_row columns rows patch r c bands done at_row at_column = record {
  from = later_row patch r c columns.side bands.columns_are.some (omega (arith, at_row.start));
  passes = inside_bands columns rows r c at_column.below at_column.passes at_row.passes;
  first = λ other after before.
      let row_low = rows_ascend patch other columns.side bands.columns_are.some after in
      let row_high = rows_ascend other (r * columns.side + c) columns.side bands.columns_are.some (omega (arith, before)) in
      let last = row_of r c columns.side at_column.below in
      elim (cases_eq (patch / columns.side) (other / columns.side)) [
        | inl same ↦ done other after same
        | inr apart ↦ elim (cases_eq (other / columns.side) r) [
          | inl here ↦ outside_by_column columns rows other (at_column.first (other % columns.side) (omega arith) (let product = ap (λ x. x * columns.side) here in omega (arith, div-add-mod' other columns.side, product, before)))
          | inr between ↦ outside_by_row columns rows other (at_row.first (other / columns.side) (omega (arith, row_low, apart)) (omega (arith, row_high, last, between)))
        ]
      ];
}

-- no later row is in the bands
pub none_by_rows : (columns rows : Band) (patch : ℕ) → AreBands columns rows → RowIsDone columns rows patch → NoIndexFrom rows (patch / columns.side + 1) → NoneFrom columns rows patch
unfolding RowIsDone
none_by_rows columns rows patch bands done none other after =
    let row_low = rows_ascend patch other columns.side bands.columns_are.some after in
    elim (cases_eq (patch / columns.side) (other / columns.side)) [
      | inl same ↦ done other after same
      | inr apart ↦ outside_by_row columns rows other (none (other / columns.side) (omega (arith, row_low, apart)))
    ]

-- no column is
pub none_by_columns : (columns rows : Band) (patch : ℕ) → NoIndexFrom columns 0 → NoneFrom columns rows patch
none_by_columns columns rows patch none other after = outside_by_column columns rows other (none (other % columns.side) (omega arith))

-- ---- the list of the patches in bands

band_below : (band : Band) (index : ℕ) → IsBand band → in_band band index ≡ true → index < band.side
band_below band index is passes = grind (arith, is.ends, passes)

and_true_right : (a b : Bool) → (a && b) ≡ true → b ≡ true
and_true_right true b passes = passes
and_true_right false b passes = absurd (let wrong = passes in cc)

pub in_bands_below : (columns rows : Band) (patch : ℕ) → AreBands columns rows → in_bands columns rows patch ≡ true → patch < columns.side * rows.side
in_bands_below columns rows patch bands passes =
    let row = band_below rows (patch / columns.side) bands.rows_are (and_true_right (in_band columns (patch % columns.side)) (in_band rows (patch / columns.side)) passes) in
    omega (arith, div-add-mod' patch columns.side, mul-add-lt (patch / columns.side) columns.side (patch % columns.side) rows.side row (mod_below patch columns.side bands.columns_are.some))

pub and_is : (a b x y : Bool) → x ≡ a → x ≡ true → y ≡ b → y ≡ (a && b)
and_is a b x y is_a passes is_b = let known = sym is_a ∙ passes in rw known is_b

pub and_is_not : (a b x : Bool) → x ≡ a → x ≡ false → x ≡ (a && b)
and_is_not a b x is_a fails = let known = sym is_a ∙ fails in rw known fails

pub contains_is : (columns rows : Band) (list : List ℕ) (patch : ℕ) (answer : Bool) → AreBands columns rows → patches_in columns rows ≡ list → answer ≡ in_bands columns rows patch → (answer ≡ true → Contains list patch) × (Contains list patch → answer ≡ true)
contains_is columns rows list patch answer bands view is =
    let P : List ℕ → Type 0 = λ xs. Contains xs patch in (
      λ passes. let known = sym is ∙ passes in subst P view (in_filter (in_bands columns rows) 0 (columns.side * rows.side) patch (omega arith) (omega (arith, in_bands_below columns rows patch bands known)) known),
      λ found. is ∙ (from_filter (in_bands columns rows) 0 (columns.side * rows.side) patch (subst P (sym view) found)).2,
    )

pub first_is : (columns rows : Band) (list : List ℕ) (answer : Option ℕ) → AreBands columns rows → patches_in columns rows ≡ list → IfSome answer (IsFirstFrom columns rows 0) → IfNone answer (NoneFrom columns rows 0) → answer ≡ slice_get list 0
first_is columns rows list (Some found) bands view is none =
    let P : List ℕ → Type 0 = λ xs. Some found ≡ slice_get xs 0 in
    subst P view (sym (head_found (in_bands columns rows) 0 (columns.side * rows.side) found is.from (omega (arith, in_bands_below columns rows found bands is.passes)) is.passes is.first))
first_is columns rows list None bands view is none =
    let P : List ℕ → Type 0 = λ xs. None ≡ slice_get xs 0 in
    subst P view (sym (head_none (in_bands columns rows) 0 (columns.side * rows.side) (λ other from below. none other from)))

pub next_is : (columns rows : Band) (list : List ℕ) (patch from : ℕ) (answer : Option ℕ) → AreBands columns rows → patches_in columns rows ≡ list → from ≡ patch + 1 → IfSome answer (IsFirstFrom columns rows from) → IfNone answer (NoneFrom columns rows from) → answer ≡ find (λ other. nat_lt patch other) list
next_is columns rows list patch from (Some found) bands view after is none =
    let P : List ℕ → Type 0 = λ xs. Some found ≡ find (λ other. nat_lt patch other) xs in
    subst P view (sym (find_above (in_bands columns rows) patch 0 (columns.side * rows.side) found (omega (arith, after, is.from)) (omega arith) (omega (arith, in_bands_below columns rows found bands is.passes)) is.passes (λ other over start below. is.first other (omega (arith, after, over)) below)))
next_is columns rows list patch from None bands view after is none =
    let P : List ℕ → Type 0 = λ xs. None ≡ find (λ other. nat_lt patch other) xs in
    subst P view (sym (find_none (in_bands columns rows) patch 0 (columns.side * rows.side) (λ other over start below. none other (omega (arith, after, over)))))

-- no patch comes after one that is beyond the world
pub none_beyond : (columns rows : Band) (list : List ℕ) (patch : ℕ) → AreBands columns rows → patches_in columns rows ≡ list → 262144 ≤ patch → None ≡ find (λ other. nat_lt patch other) list
none_beyond columns rows list patch bands view beyond =
    let P : List ℕ → Type 0 = λ xs. None ≡ find (λ other. nat_lt patch other) xs in
    subst P view (sym (find_none (in_bands columns rows) patch 0 (columns.side * rows.side) (λ other over start below. absurd (omega (arith, over, below, beyond, bands.few)))))

-- a walk goes from index to index
pub walk_is : (columns rows : Band) (list : List ℕ) (patch : ℕ) (answer : Option ℕ) → patches_in columns rows ≡ list → answer ≡ find (λ other. nat_lt patch other) list → ComesAfter list patch answer
walk_is columns rows list patch answer view is index here =
    let P : List ℕ → Type 0 = λ xs. slice_get xs index ≡ Some patch → find (λ other. nat_lt patch other) xs ≡ slice_get xs (index + 1) in
    is ∙ subst P view (next_index (in_bands columns rows) 0 (columns.side * rows.side) index patch) here

-- what follows where there is no answer
pub if_none : {P : Type 0} (answer : Option ℕ) → answer ≡ None → IfNone answer P → P
if_none {P} answer is none = let Q : Option ℕ → Type 0 = λ o. IfNone o P in subst Q is none

pub if_refused : {P : Type 0} (answer : Option ℕ) → ((x : ℕ) → answer ≡ Some x → ⊥) → IfNone answer P → P
if_refused (Some x) refused none = absurd (refused x refl)
if_refused None refused none = none

pub in_any_case : {P : Type 0} (answer : Option ℕ) → P → IfNone answer P
in_any_case (Some x) fact = tt
in_any_case None fact = fact

-- the number after a number, and that the greatest of 32 bits has none
pub number_after : (n from : ℕ) (answer : Option ℕ) → answer ≡ Some from → SomeIff answer (n + 1 < 2 ^ 32) (n + 1) → from ≡ n + 1
number_after n from answer is sum = let Q : Option ℕ → Type 0 = λ o. SomeIff o (n + 1 < 2 ^ 32) (n + 1) in (subst Q is sum).1

pub no_number_after : (n : ℕ) (answer : Option ℕ) → answer ≡ None → SomeIff answer (n + 1 < 2 ^ 32) (n + 1) → 262144 ≤ n
no_number_after n answer is sum = let Q : Option ℕ → Type 0 = λ o. SomeIff o (n + 1 < 2 ^ 32) (n + 1) in let past = subst Q is sum in elim (cases_lt n 262144) [ inl small ↦ absurd (past (omega (arith, small))) | inr large ↦ large ]
