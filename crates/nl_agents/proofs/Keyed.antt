-- Lists of items with a key, in which the keys ascend: what a look-up gives, and what a change or a removal by the key leaves.
use Rattle.std.specs.Prelude.{length, ◌≡◌, ℕ, zero, suc, ◌+◌, ◌<◌, ◌==◌, Bool, not, if◌then◌else◌, List, [], ◌∷◌, ◌++◌, map, filter, find, remove, slice_get, slice_set, Some, None, option_map, All, AllPairs}
use Rattle.std.specs.List.Sorted.{IsStrictlyIncreasing, IsSortedBy, IsBinarySearchResult}
use Rattle.std.specs.List.Sorted.{IsSearchInRange}
use Rattle.std.specs.Cmp.{nat_cmp_is}
use Rattle.std.specs.Ordering.{nat_cmp, is_lt}
use Rattle.std.proofs.Common.{Ordering, Less, Equal, Greater, Result, Ok, Err, MatchResult, ⊎_elim}
use Rattle.std.proofs.lemmas.Cmp.{nat_cmp_total}
use Rattle.std.proofs.lemmas.Map.Lookups.{exact_unsigned}
use Rattle.std.proofs.lemmas.List.Sorted.{searchable_from_sorted}
use Rattle.std.proofs.Common.{arith, ap, ap₂, ◌∙◌, sym, refl, get_or, subst}
use Rattle.std.proofs.lemmas.Bool.{cond-true, cond-false, ne_eqb, eq-eqb, eqb-true, cond_both, cases_lt, not_from_true, not_from_false}
use Rattle.std.proofs.lemmas.List.{map_push, length-map, get_or-map}
use Rattle.std.proofs.lemmas.List.Elements.{All-head, All-tail, All-nil, All-same, All-push, All-map, All-filter}
use Rattle.std.proofs.lemmas.List.Kept.{AllPairs-from_increasing, AllPairs-cons}
use Rattle.std.proofs.lemmas.Option.{same_Some, none-some, slice_get-map, get_or_from_slice_get, slice_get_within, slice_get_cases}

-- ---- numbers that ascend

-- each number is below all later ones
abbrev pub IsRising : List ℕ → Type 0
IsRising ns = AllPairs (λ m n. m < n) ns

pub rising : (ns : List ℕ) → IsStrictlyIncreasing ns → IsRising ns
rising ns up = AllPairs-from_increasing ns up

pub from_rising : (ns : List ℕ) → IsRising ns → IsStrictlyIncreasing ns
from_rising ns up k l = up k (k + 1) 0 (omega arith) l

pub rising_tail : (n : ℕ) (ns : List ℕ) → IsRising (n ∷ ns) → IsRising ns
rising_tail n ns up i j d a b = up (suc i) (suc j) d (omega (arith, a)) (omega (arith, b))

pub rising_head : (n : ℕ) (ns : List ℕ) → IsRising (n ∷ ns) → All (λ m. n < m) ns
rising_head n ns up k d l = up 0 (suc k) d (omega arith) (omega (arith, l))

pub rising_cons : (n : ℕ) (ns : List ℕ) → All (λ m. n < m) ns → IsRising ns → IsRising (n ∷ ns)
rising_cons n ns below up = AllPairs-cons (λ a b. a < b) n ns below up

pub ascend_tail : (n : ℕ) (ns : List ℕ) → IsStrictlyIncreasing (n ∷ ns) → IsStrictlyIncreasing ns
ascend_tail n ns up = from_rising ns (rising_tail n ns (rising (n ∷ ns) up))

pub ascend_head : (n : ℕ) (ns : List ℕ) → IsStrictlyIncreasing (n ∷ ns) → All (λ m. n < m) ns
ascend_head n ns up = rising_head n ns (rising (n ∷ ns) up)

pub ascend_cons : (n : ℕ) (ns : List ℕ) → All (λ m. n < m) ns → IsStrictlyIncreasing ns → IsStrictlyIncreasing (n ∷ ns)
ascend_cons n ns below up = from_rising (n ∷ ns) (rising_cons n ns below (rising ns up))

pub ascend_nil : IsStrictlyIncreasing []
ascend_nil k l = absurd (omega (arith, l))

-- ---- by a key

module _ {X : Type 0} (key : X → ℕ) where
  -- the test by which an item of a key is found
  abbrev pub has_key : ℕ → X → Bool
  has_key k x = key x == k

  -- the items are in the order of their keys
  abbrev pub Ascend : List X → Type 0
  Ascend xs = IsStrictlyIncreasing (map key xs)

  key_at : (xs : List X) (i : ℕ) (x : X) → slice_get xs i ≡ Some x → get_or (map key xs) i 0 ≡ key x
  key_at xs i x e =
      get_or_from_slice_get (map key xs) i (key x) 0 (slice_get-map key xs i ∙ ap (λ o. option_map key o) e)

  -- an item's key is below that of each later one
  pub before : (x : X) (xs : List X) (i : ℕ) (y : X) → Ascend (x ∷ xs) → slice_get xs i ≡ Some y → key x < key y
  before x xs i y up e =
      let l = ascend_head (key x) (map key xs) up i 0 (subst (λ n. i < n) (sym (length-map xs key)) (slice_get_within xs i y e)) in
      subst (λ n. key x < n) (key_at xs i y e) l

  -- the item at an index is the one that is found by its key
  pub found_at : (xs : List X) (k i : ℕ) (x : X) → Ascend xs → slice_get xs i ≡ Some x → key x ≡ k → find (λ y. key y == k) xs ≡ Some x
  found_at [] k i x up e h = absurd (none-some x e)
  found_at (y ∷ ys) k zero x up e h =
      cond-true (key y == k) (Some y) (find (λ z. key z == k) ys) (eq-eqb (key y) k (ap key (same_Some y x e) ∙ h)) ∙ e
  found_at (y ∷ ys) k (suc i) x up e h =
      let l = before y ys i x up e in
      cond-false (key y == k) (Some y) (find (λ z. key z == k) ys) (ne_eqb (key y) k (λ q. omega (arith, l, h, q)))
      ∙ found_at ys k i x (ascend_tail (key y) (map key ys) up) e h

  -- a key that no item has finds nothing
  pub not_found : (xs : List X) (k : ℕ) → ((i : ℕ) (x : X) → slice_get xs i ≡ Some x → key x ≡ k → ⊥) → find (λ y. key y == k) xs ≡ None
  not_found [] k h = refl
  not_found (y ∷ ys) k h =
      cond-false (key y == k) (Some y) (find (λ z. key z == k) ys) (ne_eqb (key y) k (h 0 y refl))
      ∙ not_found ys k (λ i x e. h (suc i) x e)

  -- what is found has the key
  pub found_has : (xs : List X) (k : ℕ) (x : X) → find (λ y. key y == k) xs ≡ Some x → key x ≡ k
  found_has [] k x e = absurd (none-some x e)
  found_has (y ∷ ys) k x e =
      cond_both (key y == k) (Some y) (find (λ z. key z == k) ys) (λ o. o ≡ Some x → key x ≡ k)
      (λ t q. sym (ap key (same_Some y x q)) ∙ eqb-true (key y) k t)
      (λ t q. found_has ys k x q)
      e

  -- a change of the items of a key that none has changes nothing
  pub map_none : (change : X → X) (xs : List X) (k : ℕ) → find (λ y. key y == k) xs ≡ None → map (λ y. if key y == k then change y else y) xs ≡ xs
  map_none change [] k h = refl
  map_none change (y ∷ ys) k h =
      cond_both (key y == k) (Some y) (find (λ z. key z == k) ys) (λ o. o ≡ None → map (λ z. if key z == k then change z else z) (y ∷ ys) ≡ y ∷ ys)
      (λ t e. absurd (none-some y (sym e)))
      (λ t e. ap₂ (λ z zs. z ∷ zs) (cond-false (key y == k) (change y) y t) (map_none change ys k e))
      h

  -- and their removal removes nothing
  pub filter_none : (xs : List X) (k : ℕ) → find (λ y. key y == k) xs ≡ None → filter (λ y. not (key y == k)) xs ≡ xs
  filter_none [] k h = refl
  filter_none (y ∷ ys) k h =
      cond_both (key y == k) (Some y) (find (λ z. key z == k) ys) (λ o. o ≡ None → filter (λ z. not (key z == k)) (y ∷ ys) ≡ y ∷ ys)
      (λ t e. absurd (none-some y (sym e)))
      (λ t e.
      cond-true (not (key y == k)) (y ∷ filter (λ z. not (key z == k)) ys) (filter (λ z. not (key z == k)) ys) (not_from_false (key y == k) t)
      ∙ ap (λ zs. y ∷ zs) (filter_none ys k e))
      h

  -- no later item has the key of an earlier one
  none_after : (y : X) (ys : List X) (k : ℕ) → Ascend (y ∷ ys) → key y ≡ k → find (λ z. key z == k) ys ≡ None
  none_after y ys k up h = not_found ys k (λ i x e q. let l = before y ys i x up e in omega (arith, l, h, q))

  -- a change of the items of a key is a change at the index of the one that has it
  pub changed_at : (change : X → X) (xs : List X) (k i : ℕ) (x : X) → Ascend xs → slice_get xs i ≡ Some x → key x ≡ k → map (λ y. if key y == k then change y else y) xs ≡ slice_set xs i (change x)
  changed_at change [] k i x up e h = absurd (none-some x e)
  changed_at change (y ∷ ys) k zero x up e h =
      let q = ap key (same_Some y x e) ∙ h in
      ap₂ (λ z zs. z ∷ zs)
      (cond-true (key y == k) (change y) y (eq-eqb (key y) k q) ∙ ap change (same_Some y x e))
      (map_none change ys k (none_after y ys k up q))
  changed_at change (y ∷ ys) k (suc i) x up e h =
      let l = before y ys i x up e in
      ap₂ (λ z zs. z ∷ zs)
      (cond-false (key y == k) (change y) y (ne_eqb (key y) k (λ q. omega (arith, l, h, q))))
      (changed_at change ys k i x (ascend_tail (key y) (map key ys) up) e h)

  -- what is left without the items of a key is what is left without the index of the one that has it
  pub removed_at : (xs : List X) (k i : ℕ) (x : X) → Ascend xs → slice_get xs i ≡ Some x → key x ≡ k → filter (λ y. not (key y == k)) xs ≡ remove xs i
  removed_at [] k i x up e h = absurd (none-some x e)
  removed_at (y ∷ ys) k zero x up e h =
      let q = ap key (same_Some y x e) ∙ h in
      cond-false (not (key y == k)) (y ∷ filter (λ z. not (key z == k)) ys) (filter (λ z. not (key z == k)) ys) (not_from_true (key y == k) (eq-eqb (key y) k q))
      ∙ filter_none ys k (none_after y ys k up q)
  removed_at (y ∷ ys) k (suc i) x up e h =
      let l = before y ys i x up e in
      cond-true (not (key y == k)) (y ∷ filter (λ z. not (key z == k)) ys) (filter (λ z. not (key z == k)) ys)
      (not_from_false (key y == k) (ne_eqb (key y) k (λ q. omega (arith, l, h, q))))
      ∙ ap (λ zs. y ∷ zs) (removed_at ys k i x (ascend_tail (key y) (map key ys) up) e h)

  -- ---- what keeps the order

  pub appended : (xs : List X) (x : X) → Ascend xs → All (λ y. key y < key x) xs → Ascend (xs ++ x ∷ [])
  appended [] x up below = ascend_cons (key x) [] (All-nil (λ m. key x < m)) ascend_nil
  appended (y ∷ ys) x up below =
      ascend_cons (key y) (map key (ys ++ x ∷ []))
      (All-same (λ m. key y < m) (map key (ys ++ x ∷ [])) (map key ys ++ key x ∷ []) (map_push key ys x)
      (All-push (λ m. key y < m) (map key ys) (key x) (ascend_head (key y) (map key ys) up) (All-head (λ z. key z < key x) y ys below)))
      (appended ys x (ascend_tail (key y) (map key ys) up) (All-tail (λ z. key z < key x) y ys below))

  -- the first is below all that are kept
  pub above : (y : X) (ys : List X) → Ascend (y ∷ ys) → All (λ z. key y < key z) ys
  above y ys up k d l =
      subst (λ n. key y < n) (get_or-map key ys k d 0 l)
      (ascend_head (key y) (map key ys) up k 0 (subst (λ n. k < n) (sym (length-map ys key)) l))

  pub filtered : (test : X → Bool) (xs : List X) → Ascend xs → Ascend (filter test xs)
  filtered test [] up = up
  filtered test (y ∷ ys) up =
      cond_both (test y) (y ∷ filter test ys) (filter test ys) Ascend
      (λ t. ascend_cons (key y) (map key (filter test ys))
      (All-map (λ m. key y < m) key (filter test ys) (All-filter test (λ z. key y < key z) ys (above y ys up)))
      (filtered test ys (ascend_tail (key y) (map key ys) up)))
      (λ t. filtered test ys (ascend_tail (key y) (map key ys) up))

  -- a change of items that leaves their keys
  pub keys_stay : (change : X → X) → ((x : X) → key (change x) ≡ key x) → (xs : List X) → map key (map change xs) ≡ map key xs
  keys_stay change h [] = refl
  keys_stay change h (y ∷ ys) = ap₂ (λ z zs. z ∷ zs) (h y) (keys_stay change h ys)

  -- ---- a binary search by the key

  in_order : (xs : List X) → Ascend xs → IsSortedBy (λ a b. is_lt (nat_cmp (key a) (key b))) xs
  in_order xs up j d z l =
      let a = up j (subst (λ n. j + 1 < n) (sym (length-map xs key)) l) in
      let low = get_or-map key xs j d 0 (omega (arith, l)) in
      let high = get_or-map key xs (j + 1) d 0 l in
      ap is_lt (sym (nat_cmp_is (key (get_or xs (j + 1) d)) (key (get_or xs j d)) Greater (omega (arith, a, low, high))))

  not_equal : (m n : ℕ) (r : Ordering) → nat_cmp m n ≡ r → (r ≡ Equal → ⊥) → m ≡ n → ⊥
  not_equal m n r e h q = h (sym e ∙ sym (nat_cmp_is m n Equal q))

  -- it finds the item of the key and its index exactly where there is one
  pub searched_by_key : (xs : List X) (k : ℕ) (r : Result ℕ ℕ) → Ascend xs → IsSearchInRange r (length xs) → IsBinarySearchResult (λ y. nat_cmp (key y) k) xs r
      → MatchResult r (λ i. (x : X) × (slice_get xs i ≡ Some x) × (key x ≡ k) × (find (λ y. key y == k) xs ≡ Some x)) (λ i. find (λ y. key y == k) xs ≡ None)
  searched_by_key xs k (Ok i) up within h =
      ⊎_elim
      (λ at.
      let same = ap key (sym (at.3)) ∙ exact_unsigned (key (get_or xs i at.0)) k (h at.0) in
      (at.0, at.2, same, found_at xs k i at.0 up at.2 same))
      (λ past. absurd (omega (arith, within, past.0)))
      ((slice_get_cases xs i).1)
  searched_by_key xs k (Err i) up within h =
      let parts = h (searchable_from_sorted nat_cmp_total key xs k (in_order xs up)) in
      not_found xs k (λ j x e q.
      let here = get_or_from_slice_get xs j x x e in
      let l = slice_get_within xs j x e in
      ⊎_elim
      (λ b. not_equal (key (get_or xs j x)) k Less (parts.0 j x (omega arith) b) (λ f. cc) (ap key here ∙ q))
      (λ a. not_equal (key (get_or xs j x)) k Greater (parts.1 j x a l) (λ f. cc) (ap key here ∙ q))
      (cases_lt j i))
