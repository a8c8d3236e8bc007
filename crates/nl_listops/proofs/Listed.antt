-- Lists as values, and numbers among inputs.
use Rattle.std.proofs.Common.{◌≡◌, ℕ, zero, suc, ◌+◌, ◌<◌, ◌≤◌, ℤ, Ok, Err, Bool, true, false, ◌&&◌, ◌||◌, is_some, position, cond, not, nat_lt, Some, None, List, [], ◌∷◌, ◌++◌, length, map, take, drop, get_or, refl, sym, ap, ◌∙◌, arith, append_assoc}
use Rattle.std.proofs.lemmas.List.{take_more, drop_more, drop_all, append-nil, map-append}
use Rattle.std.specs.List.{list_all, list_any, position_or_len}
use Rattle.std.proofs.lemmas.Bool.{false≢true}
use Rattle.std.proofs.lemmas.Bool.Decides.{nat_tests}
use Rattle.nl_value.specs.Living.{Living, fits}
use Rattle.nl_value.specs.declared.values.Value.{Value}
use Rattle.nl_value.specs.Plain.{Plain, Plains, no_items, item_then, PlainNumber, PlainTruth, PlainWords, PlainItems, PlainTurtle, PlainPatch, PlainLink, PlainNobody, PlainSet, plains, items_of}
use Rattle.nl_value.specs.Views.{plain}
use Rattle.nl_listops_series.specs.declared.fail.ListFail.{ListFail}
use Rattle.nl_listops_series.specs.Outcomes.{ListOutcome, and_then}
use Rattle.nl_listops.specs.Inputs.{as_number, as_list, value_at, list_at, numbers_in}

-- the items of a list as a value are the list
pub items_of_plains : (ps : List Plain) → items_of (plains ps) ≡ ps
items_of_plains [] = refl
items_of_plains (p ∷ ps) = ap (λ rest. p ∷ rest) (items_of_plains ps)

pub plains_of_items : (ps : Plains) → plains (items_of ps) ≡ ps
plains_of_items no_items = refl
plains_of_items (item_then p ps) = ap (item_then p) (plains_of_items ps)

-- ---- numbers so far

-- numbers, and behind them those of the outcome
abbrev pub behind : List ℤ → ListOutcome (List ℤ) → ListOutcome (List ℤ)
behind ns outcome = and_then outcome (λ rest. Ok (ns ++ rest))

behind_none : (o : ListOutcome (List ℤ)) → o ≡ behind [] o
behind_none (Ok ns) = refl
behind_none (Err fail) = refl

pub from_first : (values : List Value) → numbers_in (map plain values) ≡ behind [] (numbers_in (map plain values))
from_first values = behind_none (numbers_in (map plain values))

behind_one : (ns : List ℤ) (n : ℤ) (o : ListOutcome (List ℤ)) → behind ns (and_then o (λ rest. Ok (n ∷ rest))) ≡ behind (ns ++ n ∷ []) o
behind_one ns n (Ok rest) = ap Ok (sym (append_assoc ns (n ∷ []) rest))
behind_one ns n (Err fail) = refl

rest_is : (values : List Value) (i : ℕ) (v : Value) → i < length values → v ≡ get_or values i v →
    numbers_in (map plain (drop i values)) ≡ and_then (as_number (plain v)) (λ n. and_then (numbers_in (map plain (drop (i + 1) values))) (λ ns. Ok (n ∷ ns)))
rest_is values i v h is =
    ap (λ vs. numbers_in (map plain vs)) (drop_more values i v h)
    ∙ ap (λ u. and_then (as_number (plain u)) (λ n. and_then (numbers_in (map plain (drop (i + 1) values))) (λ ns. Ok (n ∷ ns)))) (sym is)

pub one_number : (values : List Value) (ns : List ℤ) (i : ℕ) (v : Value) (n : ℤ) → i < length values → v ≡ get_or values i v → as_number (plain v) ≡ Ok n →
    behind ns (numbers_in (map plain (drop i values))) ≡ behind (ns ++ n ∷ []) (numbers_in (map plain (drop (i + 1) values)))
one_number values ns i v n h is given =
    ap (behind ns) (rest_is values i v h is ∙ ap (λ o. and_then o (λ m. and_then (numbers_in (map plain (drop (i + 1) values))) (λ ms. Ok (m ∷ ms)))) given)
    ∙ behind_one ns n (numbers_in (map plain (drop (i + 1) values)))

pub no_number : (values : List Value) (ns : List ℤ) (i : ℕ) (v : Value) (fail : ListFail) → i < length values → v ≡ get_or values i v → as_number (plain v) ≡ Err fail →
    behind ns (numbers_in (map plain (drop i values))) ≡ Err fail
no_number values ns i v fail h is given =
    ap (behind ns) (rest_is values i v h is ∙ ap (λ o. and_then o (λ m. and_then (numbers_in (map plain (drop (i + 1) values))) (λ ms. Ok (m ∷ ms)))) given)

pub all_numbers : (values : List Value) (ns : List ℤ) (i : ℕ) → length values ≤ i → behind ns (numbers_in (map plain (drop i values))) ≡ Ok ns
all_numbers values ns i h = ap (λ vs. behind ns (numbers_in (map plain vs))) (drop_all i values h) ∙ ap Ok (append-nil ns)

-- ---- what fits a world

both : (p q : Bool) → (p && q) ≡ true → (p ≡ true) × (q ≡ true)
both true q e = (refl, e)
both false q e = absurd (false≢true e)

-- a list fits as its items do
pub items_fit : (w : Living) (ps : List Plain) → list_all (fits w) ps ≡ fits w (PlainItems (plains ps))
items_fit w [] = refl
items_fit w (p ∷ ps) = ap (λ b. fits w p && b) (items_fit w ps)

-- ---- whether an item passes

first_passes : (test : Plain → Bool) (x : Plain) (xs : List Plain) → test x ≡ true → position test (x ∷ xs) ≡ Some 0
first_passes test x xs is =
    let none : position_or_len test (x ∷ xs) ≡ 0 = ap (λ b. cond (not b) (1 + position_or_len test xs) 0) is in
    let inside : nat_lt (position_or_len test (x ∷ xs)) (length (x ∷ xs)) ≡ true = grind (arith, nat_tests, none) in
    ap (λ b. cond b (Some (position_or_len test (x ∷ xs))) None) inside ∙ ap Some none

some_by : (b : Bool) (n : ℕ) → is_some (cond b (Some n) None) ≡ b
some_by true n = refl
some_by false n = refl

next_passes : (test : Plain → Bool) (x : Plain) (xs : List Plain) → test x ≡ false → is_some (position test (x ∷ xs)) ≡ is_some (position test xs)
next_passes test x xs is =
    let next : position_or_len test (x ∷ xs) ≡ 1 + position_or_len test xs = ap (λ b. cond (not b) (1 + position_or_len test xs) 0) is in
    let same : nat_lt (position_or_len test (x ∷ xs)) (length (x ∷ xs)) ≡ nat_lt (position_or_len test xs) (length xs) = ap (λ n. nat_lt n (length (x ∷ xs))) next ∙ both_more (position_or_len test xs) (length xs) in
    some_by (nat_lt (position_or_len test (x ∷ xs)) (length (x ∷ xs))) (position_or_len test (x ∷ xs))
    ∙ (same ∙ sym (some_by (nat_lt (position_or_len test xs) (length xs)) (position_or_len test xs)))
  where
    both_more : (m n : ℕ) → nat_lt (1 + m) (suc n) ≡ nat_lt m n
    both_more m n = grind (arith, nat_tests)

any_first : (test : Plain → Bool) (x : Plain) (xs : List Plain) (b : Bool) → test x ≡ b → list_any test xs ≡ is_some (position test xs) → (b || list_any test xs) ≡ is_some (position test (x ∷ xs))
any_first test x xs true is rest = sym (ap is_some (first_passes test x xs is))
any_first test x xs false is rest = rest ∙ sym (next_passes test x xs is)

pub any_is_some : (test : Plain → Bool) (xs : List Plain) → list_any test xs ≡ is_some (position test xs)
any_is_some test [] = refl
any_is_some test (x ∷ xs) = any_first test x xs (test x) refl (any_is_some test xs)

-- an input fits where all inputs do
pub input_fits : (w : Living) (inputs : List Plain) (at : ℕ) (p : Plain) → list_all (fits w) inputs ≡ true → Ok p ≡ value_at inputs at → fits w p ≡ true
input_fits w [] at p all is = cc
input_fits w (x ∷ xs) zero p all is = let same : x ≡ p = cc in ap (fits w) (sym same) ∙ (both (fits w x) (list_all (fits w) xs) all).0
input_fits w (x ∷ xs) (suc at) p all is = input_fits w xs at p (both (fits w x) (list_all (fits w) xs) all).1 is

list_told : (p : Plain) (items : List Plain) → Ok items ≡ as_list p → p ≡ PlainItems (plains items)
list_told (PlainItems inner) items is = let same : items ≡ items_of inner = cc in ap PlainItems (sym (plains_of_items inner)) ∙ ap (λ ps. PlainItems (plains ps)) (sym same)
list_told (PlainNumber n) items is = cc
list_told (PlainTruth b) items is = cc
list_told (PlainWords bytes) items is = cc
list_told (PlainTurtle n) items is = cc
list_told (PlainPatch n) items is = cc
list_told (PlainLink n) items is = cc
list_told PlainNobody items is = cc
list_told (PlainSet set) items is = cc

pub list_input_fits : (w : Living) (inputs : List Plain) (at : ℕ) (items : List Plain) → list_all (fits w) inputs ≡ true → Ok items ≡ list_at inputs at → list_all (fits w) items ≡ true
list_input_fits w inputs at items all is = by (value_at inputs at) refl is
  where
    by : (o : ListOutcome Plain) → value_at inputs at ≡ o → Ok items ≡ and_then o as_list → list_all (fits w) items ≡ true
    by (Ok p) found given = items_fit w items ∙ (ap (fits w) (sym (list_told p items given)) ∙ input_fits w inputs at p all (sym found))
    by (Err fail) found given = cc
