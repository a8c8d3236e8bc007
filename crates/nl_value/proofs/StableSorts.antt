-- A sorted list with the ties of another one in their order is that one's `sorted_by`.
use Rattle.std.specs.Prelude.{◌≡◌, ℕ, zero, ◌+◌, ◌<◌, ◌≤◌, Bool, true, false, ◌&&◌, not, cond, if◌then◌else◌, List, [], ◌∷◌, length, map, refl}
use Rattle.std.proofs.Common.{ap, sym, ◌∙◌, arith, get_or, suc, subst, add-one}
use Rattle.std.proofs.lemmas.Bool.{false≢true}
use Rattle.std.proofs.lemmas.List.Sorted.{sorted_far}
use Rattle.std.specs.List.{filter}
use Rattle.std.specs.List.Sorted.{IsSortedBy, IsStableBy, ties}
use Rattle.std.specs.Cmp.{IsStrictWeakOrder}
use Rattle.nl_value.specs.Sorting.{inserted, sorted_by}

never_both : (b : Bool) → (b ≡ true → b ≡ false) → b ≡ false
never_both true h = h refl
never_both false h = refl

first_not : (a b : Bool) → not a && not b ≡ true → a ≡ false
first_not true b h = absurd (false≢true h)
first_not false b h = refl

second_not : (a b : Bool) → not a && not b ≡ true → b ≡ false
second_not true b h = absurd (false≢true h)
second_not false true h = absurd (false≢true h)
second_not false false h = refl

swapped : {X : Type 0} (a b : Bool) (x y : X) (l : List X) → (a ≡ true → b ≡ true → ⊥) → cond a (y ∷ cond b (x ∷ l) l) (cond b (x ∷ l) l) ≡ cond b (x ∷ cond a (y ∷ l) l) (cond a (y ∷ l) l)
swapped true true x y l h = absurd (h refl refl)
swapped true false x y l h = refl
swapped false true x y l h = refl
swapped false false x y l h = refl

same_rest : {X : Type 0} (b : Bool) (u : X) (l m : List X) → cond b (u ∷ l) l ≡ cond b (u ∷ m) m → l ≡ m
same_rest true u l m h = cc
same_rest false u l m h = h

module _ {X : Type 0} (lt : X → X → Bool) where
  -- no item of the list comes before x
  abbrev Above : X → List X → Type 0
  Above x [] = Unit {0}
  Above x (y ∷ ys) = (lt y x ≡ false) × Above x ys

  abbrev Rises : List X → Type 0
  Rises [] = Unit {0}
  Rises (x ∷ xs) = Above x xs × Rises xs

  above_of : (x : X) (xs : List X) → ((k : ℕ) → k < length xs → lt (get_or xs k x) x ≡ false) → Above x xs
  above_of x [] h = tt
  above_of x (y ∷ ys) h = (h 0 (omega arith), above_of x ys (λ k p. h (suc k) (omega arith)))

  rises_far : (xs : List X) → ((i j : ℕ) (d : X) → i ≤ j → j < length xs → lt (get_or xs j d) (get_or xs i d) ≡ false) → Rises xs
  rises_far [] h = tt
  rises_far (x ∷ xs) h = (above_of x xs (λ k p. h 0 (suc k) x (omega arith) (omega arith)), rises_far xs (λ i j d p q. h (suc i) (suc j) d (omega arith) (omega arith)))

  inserted-before : (x y : X) (ys : List X) → lt y x ≡ false → inserted lt x (y ∷ ys) ≡ x ∷ y ∷ ys
  inserted-before x y ys h = rw h refl

  inserted-behind : (x y : X) (ys : List X) → lt y x ≡ true → inserted lt x (y ∷ ys) ≡ y ∷ inserted lt x ys
  inserted-behind x y ys h = rw h refl

  kept : (p : X → Bool) (x : X) (xs : List X) → p x ≡ true → filter p (x ∷ xs) ≡ x ∷ filter p xs
  kept p x xs h = rw h refl

  module _ (o : IsStrictWeakOrder lt) where
    itself : (x : X) → lt x x ≡ false
    itself x = never_both (lt x x) (o.one_way x x)

    tied : (x : X) → ties lt x x ≡ true
    tied x = rw (itself x) refl

    above_chain : (x y : X) (zs : List X) → lt y x ≡ false → Above y zs → Above x zs
    above_chain x y [] h a = tt
    above_chain x y (z ∷ zs) h a = (o.chain z y x a.0 h, above_chain x y zs h a.1)

    -- ---- two sorted lists with the same ties are the same list

    not_before_by : (x w y : X) (l : List X) (z : X) (zs : List X) (b : Bool) → ties lt x y ≡ b → lt y w ≡ false → (l ≡ z ∷ zs → lt x w ≡ false) → cond b (y ∷ l) l ≡ z ∷ zs → lt x w ≡ false
    not_before_by x w y l z zs true e a f h = o.chain x y w (first_not (lt x y) (lt y x) e) a
    not_before_by x w y l z zs false e a f h = f h

    -- what ties with an item of a list doesn't come before what none of the list comes before
    not_before : (x w : X) (ys : List X) (z : X) (zs : List X) → Above w ys → filter (ties lt x) ys ≡ z ∷ zs → lt x w ≡ false
    not_before x w [] z zs a h = cc
    not_before x w (y ∷ ys) z zs a h = not_before_by x w y (filter (ties lt x) ys) z zs (ties lt x y) refl a.0 (not_before x w ys z zs a.1) h

    unique : (us vs : List X) → Rises us → Rises vs → ((x : X) → filter (ties lt x) us ≡ filter (ties lt x) vs) → us ≡ vs
    unique [] [] a b h = refl
    unique [] (v ∷ vs) a b h = let e : [] ≡ v ∷ filter (ties lt v) vs = h v ∙ kept (ties lt v) v vs (tied v) in cc
    unique (u ∷ us) [] a b h = let e : u ∷ filter (ties lt u) us ≡ [] = sym (kept (ties lt u) u us (tied u)) ∙ h u in cc
    unique (u ∷ us) (v ∷ vs) a b h =
        let hu : filter (ties lt u) (v ∷ vs) ≡ u ∷ filter (ties lt u) us = sym (h u) ∙ kept (ties lt u) u us (tied u) in
        let hv : filter (ties lt v) (u ∷ us) ≡ v ∷ filter (ties lt v) vs = h v ∙ kept (ties lt v) v vs (tied v) in
        let uv : lt u v ≡ false = not_before u v (v ∷ vs) u (filter (ties lt u) us) (itself v, b.0) hu in
        let vu : lt v u ≡ false = not_before v u (u ∷ us) v (filter (ties lt v) vs) (itself u, a.0) hv in
        let tie : ties lt u v ≡ true = rw (uv, vu) refl in
        let both : u ∷ filter (ties lt u) us ≡ v ∷ filter (ties lt u) vs = sym hu ∙ kept (ties lt u) v vs tie in
        let same : u ≡ v = cc in
        let rest : us ≡ vs = unique us vs a.1 b.1 (λ x. same_rest (ties lt x u) u (filter (ties lt x) us) (filter (ties lt x) vs) (h x ∙ ap (λ (w : X). filter (ties lt x) (w ∷ vs)) (sym same))) in
        ap (λ (w : X). w ∷ us) same ∙ ap (λ (ws : List X). v ∷ ws) rest

    -- ---- `sorted_by` is sorted, with the ties in their order

    inserted_stable_by : (z x y : X) (ys : List X) (b : Bool) → lt y x ≡ b → filter (ties lt z) (inserted lt x ys) ≡ filter (ties lt z) (x ∷ ys) → filter (ties lt z) (inserted lt x (y ∷ ys)) ≡ filter (ties lt z) (x ∷ y ∷ ys)
    inserted_stable_by z x y ys true e f =
        ap (filter (ties lt z)) (inserted-behind x y ys e)
        ∙ ap (λ (l : List X). cond (ties lt z y) (y ∷ l) l) f
        ∙ swapped (ties lt z y) (ties lt z x) x y (filter (ties lt z) ys) (λ p q. false≢true (sym (o.chain y z x (second_not (lt z y) (lt y z) p) (first_not (lt z x) (lt x z) q)) ∙ e))
    inserted_stable_by z x y ys false e f = ap (filter (ties lt z)) (inserted-before x y ys e)

    inserted_stable : (z x : X) (ys : List X) → filter (ties lt z) (inserted lt x ys) ≡ filter (ties lt z) (x ∷ ys)
    inserted_stable z x [] = refl
    inserted_stable z x (y ∷ ys) = inserted_stable_by z x y ys (lt y x) refl (inserted_stable z x ys)

    pub sorted_by-stable : (xs : List X) → IsStableBy lt xs (sorted_by lt xs)
    sorted_by-stable [] z = refl
    sorted_by-stable (x ∷ xs) z = inserted_stable z x (sorted_by lt xs) ∙ ap (λ (l : List X). cond (ties lt z x) (x ∷ l) l) (sorted_by-stable xs z)

    above_inserted_by : (w x y : X) (ys : List X) (b : Bool) → lt y x ≡ b → lt x w ≡ false → Above w (y ∷ ys) → Above w (inserted lt x ys) → Above w (inserted lt x (y ∷ ys))
    above_inserted_by w x y ys true e h a f = subst (Above w) (sym (inserted-behind x y ys e)) (a.0, f)
    above_inserted_by w x y ys false e h a f = subst (Above w) (sym (inserted-before x y ys e)) (h, a)

    above_inserted : (w x : X) (ys : List X) → lt x w ≡ false → Above w ys → Above w (inserted lt x ys)
    above_inserted w x [] h a = (h, tt)
    above_inserted w x (y ∷ ys) h a = above_inserted_by w x y ys (lt y x) refl h a (above_inserted w x ys h a.1)

    rises_inserted_by : (x y : X) (ys : List X) (b : Bool) → lt y x ≡ b → Rises (y ∷ ys) → Rises (inserted lt x ys) → Rises (inserted lt x (y ∷ ys))
    rises_inserted_by x y ys true e r f = subst Rises (sym (inserted-behind x y ys e)) (above_inserted y x ys (o.one_way y x e) r.0, f)
    rises_inserted_by x y ys false e r f = subst Rises (sym (inserted-before x y ys e)) ((e, above_chain x y ys e r.0), r)

    rises_inserted : (x : X) (ys : List X) → Rises ys → Rises (inserted lt x ys)
    rises_inserted x [] r = (tt, tt)
    rises_inserted x (y ∷ ys) r = rises_inserted_by x y ys (lt y x) refl r (rises_inserted x ys r.1)

    sorted_by-rises : (xs : List X) → Rises (sorted_by lt xs)
    sorted_by-rises [] = tt
    sorted_by-rises (x ∷ xs) = rises_inserted x (sorted_by lt xs) (sorted_by-rises xs)

    next_not_less : (xs : List X) (k : ℕ) (d : X) → Rises xs → suc k < length xs → lt (get_or xs (suc k) d) (get_or xs k d) ≡ false
    next_not_less [] k d r h = absurd (omega arith)
    next_not_less (x ∷ []) k d r h = absurd (omega arith)
    next_not_less (x ∷ y ∷ ys) zero d r h = r.0.0
    next_not_less (x ∷ y ∷ ys) (suc k) d r h = next_not_less (y ∷ ys) k d r.1 (omega arith)

    pub sorted_by-sorted : (xs : List X) → IsSortedBy lt (sorted_by lt xs)
    sorted_by-sorted xs k d low h =
        ap (λ n. lt (get_or (sorted_by lt xs) n d) (get_or (sorted_by lt xs) k d)) (add-one k) ∙ next_not_less (sorted_by lt xs) k d (sorted_by-rises xs) (omega arith)

    -- what a stable sort makes of a list
    pub sorted_is : (xs ys : List X) → IsSortedBy lt ys → IsStableBy lt xs ys → ys ≡ sorted_by lt xs
    sorted_is xs ys up stable = unique ys (sorted_by lt xs) (rises_far ys (sorted_far lt o ys up)) (sorted_by-rises xs) (λ z. stable z ∙ sym (sorted_by-stable xs z))

  -- ---- the items stay

  inserted-length_by : (x y : X) (ys : List X) (b : Bool) → length (inserted lt x ys) ≡ length ys + 1 → length (if b then y ∷ inserted lt x ys else x ∷ y ∷ ys) ≡ length (y ∷ ys) + 1
  inserted-length_by x y ys true h = omega arith
  inserted-length_by x y ys false h = omega arith

  inserted-length : (x : X) (ys : List X) → length (inserted lt x ys) ≡ length ys + 1
  inserted-length x [] = refl
  inserted-length x (y ∷ ys) = inserted-length_by x y ys (lt y x) (inserted-length x ys)

  pub sorted_by-length : (xs : List X) → length (sorted_by lt xs) ≡ length xs
  sorted_by-length [] = refl
  sorted_by-length (x ∷ xs) = omega (arith, inserted-length x (sorted_by lt xs), sorted_by-length xs)

-- ---- a sort by what a function gives

module _ {X Y : Type 0} (f : X → Y) (lt : Y → Y → Bool) where
  map-choice : (b : Bool) (l m : List X) → map f (if b then l else m) ≡ (if b then map f l else map f m)
  map-choice true l m = refl
  map-choice false l m = refl

  inserted-map : (x : X) (ys : List X) → map f (inserted (λ a b. lt (f a) (f b)) x ys) ≡ inserted lt (f x) (map f ys)
  inserted-map x [] = refl
  inserted-map x (y ∷ ys) =
      map-choice (lt (f y) (f x)) (y ∷ inserted (λ a b. lt (f a) (f b)) x ys) (x ∷ y ∷ ys)
      ∙ ap (λ (l : List Y). if lt (f y) (f x) then f y ∷ l else f x ∷ f y ∷ map f ys) (inserted-map x ys)

  pub sorted_by-map : (xs : List X) → map f (sorted_by (λ a b. lt (f a) (f b)) xs) ≡ sorted_by lt (map f xs)
  sorted_by-map [] = refl
  sorted_by-map (x ∷ xs) = inserted-map x (sorted_by (λ a b. lt (f a) (f b)) xs) ∙ ap (inserted lt (f x)) (sorted_by-map xs)
