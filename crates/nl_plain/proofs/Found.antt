-- What a search by serial finds, and what a change or a removal there leaves.
use Rattle.std.specs.Prelude.{◌≡◌, ℕ, zero, suc, [], ◌∷◌, ◌<◌, ◌==◌, not, List, map, filter, find, length, remove, slice_set, Result, Ok, Err, Option, Some, None, MatchOption, if◌then◌else◌}
use Rattle.std.specs.Result.{result_ok}
use Rattle.std.specs.Ordering.{nat_cmp}
use Rattle.std.specs.List.Sorted.{IsStrictlyIncreasing, IsSearchInRange, IsBinarySearchResult}
use Rattle.std.proofs.Common.{arith, ap, ◌∙◌, sym, get_or, subst}
use Rattle.std.proofs.lemmas.Bool.{eq-eqb, eqb-true}
use Rattle.std.proofs.lemmas.Option.{get_or_from_slice_get, slice_get_within}
use Rattle.nl_agents.proofs.Keyed.{searched_by_key, changed_at, removed_at}
use Rattle.nl_agents.specs.Nouns.{Vars}
use Rattle.nl_agents.specs.Changes.{changed_at as patch_changed}
use Rattle.nl_plain.specs.Lists.{StandsAt}

module _ {X : Type 0} (key : X → ℕ) where
  pub place_found : (xs : List X) (k : ℕ) (r : Result ℕ ℕ) → IsStrictlyIncreasing (map key xs) → IsSearchInRange r (length xs) → IsBinarySearchResult (λ y. nat_cmp (key y) k) xs r
      → MatchOption (result_ok r) (find (λ y. key y == k) xs ≡ None) (StandsAt (λ y. key y == k) xs)
  place_found xs k (Ok i) up l h =
      let at = searched_by_key key xs k (Ok i) up l h in
      record { item = at.0; stands = at.1; passes = eq-eqb (key at.0) k at.2; first = at.3 }
  place_found xs k (Err i) up l h = searched_by_key key xs k (Err i) up l h

  found_at_place : (xs : List X) (k : ℕ) (o : Option ℕ) (at : ℕ) → MatchOption o (find (λ y. key y == k) xs ≡ None) (StandsAt (λ y. key y == k) xs) → o ≡ Some at → StandsAt (λ y. key y == k) xs at
  found_at_place xs k o at h e = subst (λ q. MatchOption q (find (λ y. key y == k) xs ≡ None) (StandsAt (λ y. key y == k) xs)) e h

  found_seen : (xs seen : List X) (k : ℕ) (o : Option ℕ) (at : ℕ) → seen ≡ xs → MatchOption o (find (λ y. key y == k) seen ≡ None) (StandsAt (λ y. key y == k) seen) → o ≡ Some at → StandsAt (λ y. key y == k) xs at
  found_seen xs seen k o at same h e =
      found_at_place xs k o at (subst (λ ys. MatchOption o (find (λ y. key y == k) ys ≡ None) (StandsAt (λ y. key y == k) ys)) same h) e

  -- what was found stands in the list
  pub found_inside : (xs seen : List X) (k : ℕ) (o : Option ℕ) (at : ℕ) → seen ≡ xs
      → MatchOption o (find (λ y. key y == k) seen ≡ None) (StandsAt (λ y. key y == k) seen) → o ≡ Some at → at < length xs
  found_inside xs seen k o at same h e = let s = found_seen xs seen k o at same h e in slice_get_within xs at s.item s.stands

  -- a change of the item that was found is a change by the key
  pub changed_found : (change : X → X) (xs seen : List X) (k : ℕ) (o : Option ℕ) (at : ℕ) (x : X) → IsStrictlyIncreasing (map key xs) → seen ≡ xs
      → MatchOption o (find (λ y. key y == k) seen ≡ None) (StandsAt (λ y. key y == k) seen) → o ≡ Some at → x ≡ get_or xs at x
      → slice_set xs at (change x) ≡ map (λ y. if key y == k then change y else y) xs
  changed_found change xs seen k o at x up same h e is =
      let s = found_seen xs seen k o at same h e in
      ap (λ y. slice_set xs at (change y)) (is ∙ get_or_from_slice_get xs at s.item x s.stands)
      ∙ sym (changed_at key change xs k at s.item up s.stands (eqb-true (key s.item) k s.passes))

  -- its removal is a filter by the key
  pub removed_found : (xs seen : List X) (k : ℕ) (o : Option ℕ) (at : ℕ) → IsStrictlyIncreasing (map key xs) → seen ≡ xs
      → MatchOption o (find (λ y. key y == k) seen ≡ None) (StandsAt (λ y. key y == k) seen) → o ≡ Some at
      → remove xs at ≡ filter (λ y. not (key y == k)) xs
  removed_found xs seen k o at up same h e =
      let s = found_seen xs seen k o at same h e in
      sym (removed_at key xs k at s.item up s.stands (eqb-true (key s.item) k s.passes))

-- a change of the patch of a number is one at its index
pub changed_patch : (change : Vars → Vars) (patches : List Vars) (patch : ℕ) (vars : Vars) → patch < length patches → vars ≡ get_or patches patch vars → slice_set patches patch (change vars) ≡ patch_changed change patch patches
changed_patch change [] patch vars l e = absurd (omega (arith, l))
changed_patch change (p ∷ ps) zero vars l e = ap (λ v. change v ∷ ps) e
changed_patch change (p ∷ ps) (suc n) vars l e = ap (λ vs. p ∷ vs) (changed_patch change ps n vars (omega (arith, l)) e)
