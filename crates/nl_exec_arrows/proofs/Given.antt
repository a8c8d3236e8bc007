-- The values of a turn, one after another.
use Rattle.std.proofs.Common.{◌≡◌, ◌&&◌, ℕ, zero, suc, ◌+◌, ◌<◌, ◌==◌, Bool, true, IsTrue, List, [], ◌∷◌, ◌++◌, Option, Some, None, drop, take, length, get_or, slice_get, refl, ap, ◌∙◌, sym, arith}
use Rattle.std.specs.List.{list_all}
use Rattle.std.proofs.lemmas.Bool.{and_parts, eqb-true}
use Rattle.std.proofs.lemmas.Option.{slice_get-get_or}
use Rattle.nl_value.specs.Plain.{Plain, PlainItems, PlainNobody, plains}
use Rattle.nl_value.proofs.Lists.{items_of-plains}
use Rattle.nl_exec_meaning.specs.Arrows.{column}
use Rattle.nl_exec_meaning.specs.Rounds.{first_of, listed, lists_of}

pub first_taken : (xs : List Plain) (at : ℕ) → slice_get (take 1 (drop at xs)) 0 ≡ slice_get xs at
first_taken [] zero = refl
first_taken [] (suc at) = refl
first_taken (x ∷ xs) zero = refl
first_taken (x ∷ xs) (suc at) = first_taken xs at

pub none_taken : (xs : List Plain) (at k : ℕ) → slice_get (take 1 (drop at xs)) (suc k) ≡ None
none_taken [] zero k = refl
none_taken [] (suc at) k = refl
none_taken (x ∷ xs) zero k = refl
none_taken (x ∷ xs) (suc at) k = none_taken xs at k

-- the item at a place inside of the list
pub item_taken : (xs : List Plain) (at : ℕ) → at < length xs → take 1 (drop at xs) ≡ get_or xs at PlainNobody ∷ []
item_taken [] at h = absurd (omega (arith, h))
item_taken (x ∷ xs) zero h = refl
item_taken (x ∷ xs) (suc at) h = item_taken xs at (omega (arith, h))

pub second_taken : (xs ys : List Plain) (at : ℕ) → at < length xs → slice_get (take 1 (drop at xs) ++ ys) 1 ≡ slice_get ys 0
second_taken xs ys at h = ap (λ (zs : List Plain). slice_get (zs ++ ys) 1) (item_taken xs at h)

pub first_of_two : (xs ys : List Plain) (at : ℕ) → at < length xs → slice_get (take 1 (drop at xs) ++ ys) 0 ≡ slice_get xs at
first_of_two xs ys at h = ap (λ (zs : List Plain). slice_get (zs ++ ys) 0) (item_taken xs at h) ∙ sym (slice_get-get_or xs at PlainNobody h)

pub no_third : (xs ys : List Plain) (at place k : ℕ) → at < length xs → slice_get (take 1 (drop at xs) ++ take 1 (drop place ys)) (suc (suc k)) ≡ None
no_third xs ys at place k h =
    ap (λ (zs : List Plain). slice_get (zs ++ take 1 (drop place ys)) (suc (suc k))) (item_taken xs at h) ∙ none_taken ys place k

-- ---- lists side by side

abbrev AllLong : ℕ → List (List Plain) → Type 0
AllLong many lists = IsTrue (list_all (λ xs. length xs == many) lists)

pub column_some : (lists : List (List Plain)) (many at k : ℕ) (xs : List Plain) → AllLong many lists → at < many → slice_get lists k ≡ Some xs →
    slice_get (column lists at) k ≡ slice_get xs at
column_some [] many at k xs long less is = absurd (cc)
column_some (ys ∷ lists) many at zero xs long less is =
    let both = and_parts (length ys == many) (list_all (λ zs. length zs == many) lists) long in
    let same : ys ≡ xs = cc in
    let full = eqb-true (length ys) many both.0 in
    first_of_two ys (column lists at) at (omega (arith, full, less)) ∙ ap (λ (zs : List Plain). slice_get zs at) same
column_some (ys ∷ lists) many at (suc k) xs long less is =
    let both = and_parts (length ys == many) (list_all (λ zs. length zs == many) lists) long in
    let full = eqb-true (length ys) many both.0 in
    ap (λ (zs : List Plain). slice_get (zs ++ column lists at) (suc k)) (item_taken ys at (omega (arith, full, less)))
    ∙ column_some lists many at k xs both.1 less is

pub column_none : (lists : List (List Plain)) (many at k : ℕ) → AllLong many lists → at < many → slice_get lists k ≡ None → slice_get (column lists at) k ≡ None
column_none [] many at k long less is = refl
column_none (ys ∷ lists) many at zero long less is = absurd (cc)
column_none (ys ∷ lists) many at (suc k) long less is =
    let both = and_parts (length ys == many) (list_all (λ zs. length zs == many) lists) long in
    let full = eqb-true (length ys) many both.0 in
    ap (λ (zs : List Plain). slice_get (zs ++ column lists at) (suc k)) (item_taken ys at (omega (arith, full, less)))
    ∙ column_none lists many at k both.1 less is

pub and_nothing : (xs : List Plain) → xs ++ [] ≡ xs
and_nothing [] = refl
and_nothing (x ∷ xs) = ap (λ (ys : List Plain). x ∷ ys) (and_nothing xs)

-- ---- the item at a place, if there is one

pub taken_some : (xs : List Plain) (at : ℕ) (x : Plain) → slice_get xs at ≡ Some x → take 1 (drop at xs) ≡ x ∷ []
taken_some [] at x is = absurd (cc)
taken_some (y ∷ xs) zero x is = let same : y ≡ x = cc in ap (λ (z : Plain). z ∷ []) same
taken_some (y ∷ xs) (suc at) x is = taken_some xs at x is

pub taken_none : (xs : List Plain) (at : ℕ) → slice_get xs at ≡ None → take 1 (drop at xs) ≡ []
taken_none [] zero is = refl
taken_none [] (suc at) is = refl
taken_none (y ∷ xs) zero is = absurd (cc)
taken_none (y ∷ xs) (suc at) is = taken_none xs at is

-- ---- values as lists

pub first_items : (xs ys : List Plain) → slice_get xs 0 ≡ Some (PlainItems (plains ys)) → listed (first_of xs) ≡ ys
first_items [] ys is = absurd (cc)
first_items (x ∷ xs) ys is = let same : x ≡ PlainItems (plains ys) = cc in ap listed same ∙ items_of-plains ys

pub listed_some : (xs : List Plain) (k : ℕ) (v : Plain) → slice_get xs k ≡ Some v → slice_get (lists_of xs) k ≡ Some (listed v)
listed_some [] k v is = absurd (cc)
listed_some (x ∷ xs) zero v is = let same : x ≡ v = cc in ap (λ (y : Plain). Some (listed y)) same
listed_some (x ∷ xs) (suc k) v is = listed_some xs k v is

pub listed_none : (xs : List Plain) (k : ℕ) → slice_get xs k ≡ None → slice_get (lists_of xs) k ≡ None
listed_none [] k is = refl
listed_none (x ∷ xs) zero is = absurd (cc)
listed_none (x ∷ xs) (suc k) is = listed_none xs k is
