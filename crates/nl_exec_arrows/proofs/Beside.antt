-- Lists that are gone through side by side.
use Rattle.std.proofs.Common.{◌≡◌, ℕ, zero, List, [], ◌∷◌, Some, None, length, slice_get, refl, ap, sym}
use Rattle.nl_value.specs.Plain.{Plain}
use Rattle.nl_exec_meaning.specs.Arrows.{first_length}
use Rattle.nl_exec_meaning.specs.Rounds.{listed, lists_of}

pub first_is : (xs : List Plain) (v : Plain) → slice_get xs 0 ≡ Some v → length (listed v) ≡ first_length (lists_of xs)
first_is [] v is = absurd (cc)
first_is (x ∷ xs) v is = let same : x ≡ v = cc in ap (λ (y : Plain). length (listed y)) (sym same)

pub none_first : (xs : List Plain) → slice_get xs 0 ≡ None → 0 ≡ first_length (lists_of xs)
none_first [] none = refl
none_first (x ∷ xs) none = absurd (cc)
