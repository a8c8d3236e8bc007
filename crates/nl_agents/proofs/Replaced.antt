-- An item put at a place of a list, and the one that stood there, both seen by a view.
use Rattle.std.proofs.Common.{◌≡◌, ◌<◌, ℕ, List, length, map, get_or, set, slice_get, Some, ap, ◌∙◌, sym, refl, arith}
use Rattle.std.specs.Option.{option_map}
use Rattle.std.proofs.lemmas.List.{map-set, length-map}
use Rattle.std.proofs.lemmas.Option.{slice_get-map, slice_get_read}

module _ {X Y : Type 0} (view : X → Y) where
  pub put : (xs : List X) (ys : List Y) (k : ℕ) (x z : X) → map view xs ≡ ys → z ≡ x → map view (set xs k z) ≡ set ys k (view x)
  put xs ys k x z e f = map-set view xs k z ∙ ap (λ (u : X). set (map view xs) k (view u)) f ∙ ap (λ (us : List Y). set us k (view x)) e

  pub stood : (xs : List X) (ys : List Y) (k : ℕ) (x z : X) → map view xs ≡ ys → k < length ys → z ≡ x → x ≡ get_or xs k x → slice_get ys k ≡ Some (view z)
  stood xs ys k x z e h s f =
      let l : k < length xs = omega (arith, simp length-map at (ap length e)) in
      ap (λ (us : List Y). slice_get us k) (sym e) ∙ slice_get-map view xs k ∙ ap (option_map view) (slice_get_read xs (length xs) k x refl l f) ∙ ap (λ (u : X). Some (view u)) (sym s)
