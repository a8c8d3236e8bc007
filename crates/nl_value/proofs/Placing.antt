-- Places of a list of values, seen as plain data.
use Rattle.std.proofs.Common.{◌≡◌, ◌<◌, ℕ, List, length, map, get_or, set, slice_get, Some, ap, ◌∙◌, sym, refl, arith}
use Rattle.std.specs.Option.{option_map}
use Rattle.std.proofs.lemmas.List.{map-set, length-map}
use Rattle.std.proofs.lemmas.Option.{slice_get-map, slice_get_read}
use Rattle.nl_value.specs.declared.values.Value.{Value}
use Rattle.nl_value.specs.Plain.{Plain}
use Rattle.nl_value.specs.Views.{plain}

-- a value put at a place
pub put : (vs : List Value) (ps : List Plain) (k : ℕ) (v w : Value) → map plain vs ≡ ps → w ≡ v → map plain (set vs k w) ≡ set ps k (plain v)
put vs ps k v w e f = map-set plain vs k w ∙ ap (λ (u : Value). set (map plain vs) k (plain u)) f ∙ ap (λ (us : List Plain). set us k (plain v)) e

-- the value at a place
pub stood : (vs : List Value) (ps : List Plain) (k : ℕ) (v w : Value) → map plain vs ≡ ps → k < length ps → w ≡ v → v ≡ get_or vs k v → slice_get ps k ≡ Some (plain w)
stood vs ps k v w e h s f =
    let l : k < length vs = omega (arith, simp length-map at (ap length e)) in
    ap (λ (us : List Plain). slice_get us k) (sym e) ∙ slice_get-map plain vs k ∙ ap (option_map plain) (slice_get_read vs (length vs) k v refl l f) ∙ ap (λ (u : Value). Some (plain u)) (sym s)
