-- What is sorted has just the items, and depends on no more of the test than what it says of these.
use Rattle.std.proofs.Common.{◌≡◌, Bool, true, false, List, [], ◌∷◌, map, refl, ap, ◌∙◌, if◌then◌else◌}
use Rattle.std.specs.List.Sorted.{IsPermutation}
use Rattle.std.proofs.lemmas.List.Sorted.{IsPermutation-refl, IsPermutation-trans, IsPermutation-append_left, IsPermutation-append_comm, IsPermutation-cons}
use Rattle.nl_value.specs.Sorting.{inserted, sorted_by}

-- ---- just the items, seen by a function

module _ {X Y : Type 0} (f : X → Y) (comes_first : X → X → Bool) where
  swapped : (x y : Y) (ys : List Y) → IsPermutation (x ∷ y ∷ ys) (y ∷ x ∷ ys)
  swapped x y ys = IsPermutation-append_left ys (x ∷ y ∷ []) (y ∷ x ∷ []) (IsPermutation-append_comm (x ∷ []) (y ∷ []))

  insert_permutes : (x : X) (ys : List X) → IsPermutation (f x ∷ map f ys) (map f (inserted comes_first x ys))
  insert_permutes x [] = IsPermutation-refl (f x ∷ [])
  insert_permutes x (y ∷ ys) = elim (comes_first y x) as (λ b. IsPermutation (f x ∷ f y ∷ map f ys) (map f (if b then y ∷ inserted comes_first x ys else x ∷ y ∷ ys))) [
    | true ↦
        IsPermutation-trans (f x ∷ f y ∷ map f ys) (f y ∷ f x ∷ map f ys) (f y ∷ map f (inserted comes_first x ys)) (swapped (f x) (f y) (map f ys))
        (IsPermutation-cons (f y) (f x ∷ map f ys) (map f (inserted comes_first x ys)) (insert_permutes x ys))
    | false ↦ IsPermutation-refl (f x ∷ f y ∷ map f ys)
  ]

  pub sort_permutes : (xs : List X) → IsPermutation (map f xs) (map f (sorted_by comes_first xs))
  sort_permutes [] = IsPermutation-refl []
  sort_permutes (x ∷ xs) =
      IsPermutation-trans (f x ∷ map f xs) (f x ∷ map f (sorted_by comes_first xs)) (map f (inserted comes_first x (sorted_by comes_first xs)))
      (IsPermutation-cons (f x) (map f xs) (map f (sorted_by comes_first xs)) (sort_permutes xs))
      (insert_permutes x (sorted_by comes_first xs))

-- ---- two tests that agree on the items

-- this holds of each item
abbrev pub Each : {X : Type 0} → (X → Type 0) → List X → Type 0
Each P [] = Unit {0}
Each P (x ∷ xs) = P x × Each P xs

module _ {X : Type 0} (P : X → Type 0) (comes_first precedes : X → X → Bool) (agree : (a b : X) → P a → P b → comes_first a b ≡ precedes a b) where
  each_inserted : (x : X) (ys : List X) → P x → Each P ys → Each P (inserted precedes x ys)
  each_inserted x [] p all = (p, tt)
  each_inserted x (y ∷ ys) p all = elim (precedes y x) as (λ b. Each P (if b then y ∷ inserted precedes x ys else x ∷ y ∷ ys)) [
    | true ↦ (all.0, each_inserted x ys p all.1)
    | false ↦ (p, all)
  ]

  each_sorted : (xs : List X) → Each P xs → Each P (sorted_by precedes xs)
  each_sorted [] all = tt
  each_sorted (x ∷ xs) all = each_inserted x (sorted_by precedes xs) all.0 (each_sorted xs all.1)

  same_inserted : (x : X) (ys : List X) → P x → Each P ys → inserted comes_first x ys ≡ inserted precedes x ys
  same_inserted x [] p all = refl
  same_inserted x (y ∷ ys) p all =
      ap (λ (b : Bool). if b then y ∷ inserted comes_first x ys else x ∷ y ∷ ys) (agree y x all.0 p)
      ∙ ap (λ (zs : List X). if precedes y x then y ∷ zs else x ∷ y ∷ ys) (same_inserted x ys p all.1)

  pub same_sorted : (xs : List X) → Each P xs → sorted_by comes_first xs ≡ sorted_by precedes xs
  same_sorted [] all = refl
  same_sorted (x ∷ xs) all =
      ap (inserted comes_first x) (same_sorted xs all.1) ∙ same_inserted x (sorted_by precedes xs) all.0 (each_sorted xs all.1)
