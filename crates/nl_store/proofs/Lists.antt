-- Lists of items with a key of their own, and how many of them pass a test, after one came, went or was changed.
use Rattle.std.specs.Prelude.{◌≡◌, ℕ, zero, suc, ◌+◌, ◌<◌, ◌≤◌, ◌==◌, ◌||◌, Bool, true, false, cond, not, if◌then◌else◌, List, [], ◌∷◌, ◌++◌, map, filter, find, length, take, slice_get, option_map, Option, Some, None, IsSome}
use Rattle.std.specs.List.{list_any}
use Rattle.std.proofs.Common.{arith, ap, ap₂, ◌∙◌, sym, refl, subst, get_or}
use Rattle.std.proofs.lemmas.List.Sums.{length-filter, count_by-le-length, sum_by_push}
use Rattle.std.proofs.lemmas.Bool.{cond-true, cond-false, cond_both, eqb-true, not_from_true, not_from_false, false≢true}
use Rattle.std.proofs.lemmas.Option.{none-some, same_Some, get_or_from_slice_get, slice_get-map, slice_get_within}
use Rattle.std.proofs.lemmas.List.{length-map, take_more}
use Rattle.std.proofs.lemmas.Grind.{common_steps}
use Rattle.nl_agents.proofs.Keyed.{Ascend, ascend_tail, before, found_at, rising, filter_none, map_none, not_found}

module _ {X : Type 0} (p : X → Bool) where
  pub one-more : (xs : List X) (x : X) → length (filter p (xs ++ x ∷ [])) ≡ length (filter p xs) + cond (p x) 1 0
  one-more xs x =
      length-filter p (xs ++ x ∷ []) ∙ sum_by_push (λ y. cond (p y) 1 0) xs x
      ∙ ap (λ (n : ℕ). n + cond (p x) 1 0) (sym (length-filter p xs))

  pub at-most-all : (xs : List X) → length (filter p xs) ≤ length xs
  at-most-all xs = subst (λ (n : ℕ). n ≤ length xs) (sym (length-filter p xs)) (count_by-le-length p xs)

  -- one counts, or it doesn't
  pub counted : (b : Bool) (x : X) (ys : List X) → p x ≡ b → length (filter p (x ∷ ys)) ≡ cond b 1 0 + length (filter p ys)
  counted true x ys e = ap length (cond-true (p x) (x ∷ filter p ys) (filter p ys) e) ∙ omega arith
  counted false x ys e = ap length (cond-false (p x) (x ∷ filter p ys) (filter p ys) e) ∙ omega arith

  pub counts : (x : X) (ys : List X) → length (filter p (x ∷ ys)) ≡ cond (p x) 1 0 + length (filter p ys)
  counts x ys = counted (p x) x ys refl

  -- a change of items that the test doesn't see
  pub unseen : (f : X → X) → ((x : X) → p (f x) ≡ p x) → (xs : List X) → length (filter p (map f xs)) ≡ length (filter p xs)
  unseen f same [] = refl
  unseen f same (x ∷ xs) =
      counts (f x) (map f xs) ∙ ap₂ (λ (b : Bool) (n : ℕ). cond b 1 0 + n) (same x) (unseen f same xs) ∙ sym (counts x xs)

  -- where no item passes, none is taken out
  pub all-kept : (xs : List X) → list_any p xs ≡ false → filter (λ x. not (p x)) xs ≡ xs
  all-kept [] h = refl
  all-kept (x ∷ xs) h = let ih = all-kept xs in grind (arith, common_steps)

  -- none passes that is kept of those that don't
  pub none-left : (xs : List X) → list_any p (filter (λ x. not (p x)) xs) ≡ false
  none-left [] = refl
  none-left (x ∷ xs) = go (p x) refl (none-left xs)
    where
      go : (b : Bool) → p x ≡ b → list_any p (filter (λ y. not (p y)) xs) ≡ false → list_any p (filter (λ y. not (p y)) (x ∷ xs)) ≡ false
      go true e ih = ap (list_any p) (cond-false (not (p x)) (x ∷ filter (λ y. not (p y)) xs) (filter (λ y. not (p y)) xs) (not_from_true (p x) e)) ∙ ih
      go false e ih =
          ap (list_any p) (cond-true (not (p x)) (x ∷ filter (λ y. not (p y)) xs) (filter (λ y. not (p y)) xs) (not_from_false (p x) e))
          ∙ ap₂ (λ (a b : Bool). a || b) e ih

  -- without the items that pass the list is shorter, where there is one
  pub shorter : (xs : List X) → IsSome (find p xs) → length (filter (λ x. not (p x)) xs) < length xs
  shorter [] h = absurd (false≢true h)
  shorter (x ∷ xs) h = go (p x) refl (shorter xs)
    where
      go : (b : Bool) → p x ≡ b → (IsSome (find p xs) → length (filter (λ y. not (p y)) xs) < length xs) → length (filter (λ y. not (p y)) (x ∷ xs)) < length (x ∷ xs)
      go true e ih =
          let le = count_by-le-length (λ y. not (p y)) xs in
          let l = length-filter (λ y. not (p y)) xs in
          let s = ap length (cond-false (not (p x)) (x ∷ filter (λ y. not (p y)) xs) (filter (λ y. not (p y)) xs) (not_from_true (p x) e)) in
          omega (arith, le, l, s)
      go false e ih =
          let found : IsSome (find p xs) = subst (λ o. IsSome o) (cond-false (p x) (Some x) (find p xs) e) h in
          let l = ih found in
          let s = ap length (cond-true (not (p x)) (x ∷ filter (λ y. not (p y)) xs) (filter (λ y. not (p y)) xs) (not_from_false (p x) e)) in
          omega (arith, l, s)

module _ {X : Type 0} (key : X → ℕ) where
  -- no later item has the key of an earlier one
  none-behind : (y : X) (ys : List X) (k : ℕ) → Ascend key (y ∷ ys) → key y ≡ k → find (λ z. key z == k) ys ≡ None
  none-behind y ys k up h = not_found key ys k (λ i x e q. let l = before key y ys i x up e in omega (arith, l, h, q))

  -- the item of a key is changed: how many pass a test goes by what it was and what it is
  pub one-changed : (change : X → X) (p : X → Bool) (xs : List X) (k : ℕ) (x : X) → Ascend key xs → find (λ y. key y == k) xs ≡ Some x
      → length (filter p (map (λ y. if key y == k then change y else y) xs)) + cond (p x) 1 0 ≡ length (filter p xs) + cond (p (change x)) 1 0
  one-changed change p [] k x up e = absurd (none-some x e)
  one-changed change p (y ∷ ys) k x up e = go (key y == k) refl (one-changed change p ys k x (ascend_tail (key y) (map key ys) up))
    where
      changed : X → X
      changed z = if key z == k then change z else z

      go : (b : Bool) → (key y == k) ≡ b
          → (find (λ z. key z == k) ys ≡ Some x → length (filter p (map (λ z. if key z == k then change z else z) ys)) + cond (p x) 1 0 ≡ length (filter p ys) + cond (p (change x)) 1 0)
          → length (filter p (map (λ z. if key z == k then change z else z) (y ∷ ys))) + cond (p x) 1 0 ≡ length (filter p (y ∷ ys)) + cond (p (change x)) 1 0
      go true t ih =
          let same : y ≡ x = same_Some y x (sym (cond-true (key y == k) (Some y) (find (λ z. key z == k) ys) t) ∙ e) in
          let here : changed y ≡ change x = cond-true (key y == k) (change y) y t ∙ ap change same in
          let rest = map_none key change ys k (none-behind y ys k up (eqb-true (key y) k t)) in
          let a = counts p (changed y) (map changed ys) in
          let b = counts p y ys in
          let c = ap (λ (z : X). cond {A = ℕ} (p z) 1 0) here in
          let d = ap (λ (z : X). cond {A = ℕ} (p z) 1 0) same in
          let f = ap (λ zs. length (filter p zs)) rest in
          omega (arith, a, b, c, d, f)
      go false t ih =
          let found = sym (cond-false (key y == k) (Some y) (find (λ z. key z == k) ys) t) ∙ e in
          let left = ih found in
          let here : changed y ≡ y = cond-false (key y == k) (change y) y t in
          let a = counts p (changed y) (map changed ys) in
          let b = counts p y ys in
          let c = ap (λ (z : X). cond {A = ℕ} (p z) 1 0) here in
          omega (arith, left, a, b, c)

  -- what goes, and is passed over by a filter anyway, leaves what the filter keeps
  pub passed-over : (q : X → Bool) (xs : List X) (k : ℕ) (x : X) → Ascend key xs → find (λ y. key y == k) xs ≡ Some x → q x ≡ false
      → filter q (filter (λ y. not (key y == k)) xs) ≡ filter q xs
  passed-over q [] k x up e h = refl
  passed-over q (y ∷ ys) k x up e h = go (key y == k) refl (λ found. passed-over q ys k x (ascend_tail (key y) (map key ys) up) found h)
    where
      others : List X → List X
      others zs = filter (λ z. not (key z == k)) zs

      go : (b : Bool) → (key y == k) ≡ b → (find (λ z. key z == k) ys ≡ Some x → filter q (filter (λ z. not (key z == k)) ys) ≡ filter q ys) → filter q (others (y ∷ ys)) ≡ filter q (y ∷ ys)
      go true t ih =
          let same : y ≡ x = same_Some y x (sym (cond-true (key y == k) (Some y) (find (λ z. key z == k) ys) t) ∙ e) in
          ap (filter q) (cond-false (not (key y == k)) (y ∷ others ys) (others ys) (not_from_true (key y == k) t) ∙ filter_none key ys k (none-behind y ys k up (eqb-true (key y) k t)))
          ∙ sym (cond-false (q y) (y ∷ filter q ys) (filter q ys) (ap q same ∙ h))
      go false t ih =
          let found = sym (cond-false (key y == k) (Some y) (find (λ z. key z == k) ys) t) ∙ e in
          ap (filter q) (cond-true (not (key y == k)) (y ∷ others ys) (others ys) (not_from_false (key y == k) t))
          ∙ ap (λ zs. cond (q y) (y ∷ zs) zs) (ih found)

-- what is found, and passes another test, is counted by that
pub found-counted : {X : Type 0} (test p : X → Bool) (xs : List X) (x : X) → find test xs ≡ Some x → p x ≡ true → 0 < length (filter p xs)
found-counted test p [] x e h = absurd (none-some x e)
found-counted test p (y ∷ ys) x e h =
    let c = counts p y ys in
    cond_both (test y) (Some y) (find test ys) (λ o. o ≡ Some x → 0 < length (filter p (y ∷ ys)))
    (λ t q. let one = ap (λ (b : Bool). cond {A = ℕ} b 1 0) (ap p (same_Some y x q) ∙ h) in omega (arith, c, one))
    (λ t q. let more = found-counted test p ys x q h in omega (arith, c, more))
    e

-- ---- the items of a list whose keys ascend, one by one

-- the item at a place, which is found by its key
pub record Stands {X : Type 0} (key : X → ℕ) (xs : List X) (i k : ℕ) : Type 0 where
  pub item : X
  pub inside : i < length xs
  pub there : slice_get xs i ≡ Some item
  pub key_is : key item ≡ k
  pub found : find (λ y. key y == k) xs ≡ Some item

is-none : {X : Type 0} (xs : List X) (i : ℕ) → i < length xs → slice_get xs i ≡ None → ⊥
is-none [] i l e = omega (arith, l)
is-none (x ∷ xs) zero l e = none-some x (sym e)
is-none (x ∷ xs) (suc i) l e = is-none xs i (omega (arith, l)) e

module _ {X : Type 0} (key : X → ℕ) (xs : List X) (up : Ascend key xs) where
  -- it is found by what a list of the keys has at the place
  pub stands : (ks : List ℕ) (i k : ℕ) → ks ≡ map key xs → i < length ks → k ≡ get_or ks i 0 → Stands key xs i k
  stands ks i k same inside is =
      let l : i < length xs = subst (λ (n : ℕ). i < n) (ap length same ∙ length-map xs key) inside in
      go (slice_get xs i) refl l
    where
      go : (o : Option X) → slice_get xs i ≡ o → i < length xs → Stands key xs i k
      go None e l = absurd (is-none xs i l e)
      go (Some x) e l =
          let here : key x ≡ k =
          sym (get_or_from_slice_get (map key xs) i (key x) 0 (slice_get-map key xs i ∙ ap (λ o. option_map key o) e))
          ∙ ap (λ (ns : List ℕ). get_or ns i 0) (sym same) ∙ sym is in
          record { item = x; inside = l; there = e; key_is = here; found = found_at key xs k i x up e here }

  -- one more of them
  pub one-more-taken : (i k : ℕ) (s : Stands key xs i k) → take (i + 1) xs ≡ take i xs ++ s.item ∷ []
  one-more-taken i k s =
      take_more xs i s.item s.inside
      ∙ ap (λ (x : X). take i xs ++ x ∷ []) (get_or_from_slice_get xs i s.item s.item s.there)

  -- later ones have greater keys
  pub greater : (i j k : ℕ) (s : Stands key xs i k) (x : X) → i + 1 ≤ j → slice_get xs j ≡ Some x → k + 1 ≤ key x
  greater i j k s x le e =
      let inside : j < length (map key xs) = subst (λ (n : ℕ). j < n) (sym (length-map xs key)) (slice_get_within xs j x e) in
      let less = rising (map key xs) up i j 0 (omega (arith, le)) inside in
      let low = get_or_from_slice_get (map key xs) i (key s.item) 0 (slice_get-map key xs i ∙ ap (λ o. option_map key o) s.there) in
      let high = get_or_from_slice_get (map key xs) j (key x) 0 (slice_get-map key xs j ∙ ap (λ o. option_map key o) e) in
      omega (arith, less, low, high, s.key_is)
