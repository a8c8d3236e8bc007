-- Locals by the numbers of their names.
use Rattle.std.proofs.Common.{◌≡◌, ◌==◌, ◌<◌, ℕ, suc, Bool, true, false, IsTrue, List, [], ◌∷◌, Option, Some, None, length, slice_get, option_map, refl, ap, ◌∙◌, sym, arith}
use Rattle.std.specs.Option.{option_and_then}
use Rattle.nl_fixed.specs.Nouns.{Names}
use Rattle.nl_value.specs.Plain.{Plain}
use Rattle.nl_exec_meaning.specs.Code.{IsOneToOne, name_of}
use Rattle.nl_exec_meaning.specs.State.{Held}
use Rattle.nl_exec_meaning.specs.Variables.{later, last_index, local_value}
use Rattle.nl_exec_meaning.specs.Ground.{Ground, fits}
use Rattle.nl_exec_meaning.specs.Kept.{Kept, held, all_held}
use Rattle.nl_exec_meaning.specs.Standing.{LocalsFit}
use Rattle.nl_exec_meaning.proofs.Grounds.{pass_get}
use Rattle.nl_exec_meaning.proofs.Newest.{newest_is, held_at}

-- the value at a place
abbrev pub value_at : List Kept → ℕ → Option Plain
value_at ks at = option_map (λ (k : Kept). k.value) (slice_get ks at)

held_value : (names : Names) (ks : List Kept) (at : ℕ) → option_map (λ (l : Held). l.value) (slice_get (all_held names ks) at) ≡ value_at ks at
held_value names ks at = rw (held_at names ks at) (by (slice_get ks at))
  where
    by : (o : Option Kept) → option_map (λ (l : Held). l.value) (option_map (held names) o) ≡ option_map (λ (k : Kept). k.value) o
    by None = refl
    by (Some k) = refl

pub local_value_is : (names : Names) (ks : List Kept) (id : ℕ) → IsOneToOne names →
    local_value (name_of names id) (all_held names ks) ≡ option_and_then (value_at ks) (last_index (λ k. k.id == id) ks)
local_value_is names ks id apart = rw (newest_is names ks id apart) (by (last_index (λ k. k.id == id) ks))
  where
    by : (o : Option ℕ) → option_map (λ (l : Held). l.value) (option_and_then (slice_get (all_held names ks)) o) ≡ option_and_then (value_at ks) o
    by None = refl
    by (Some at) = held_value names ks at

pub local_fits : (g : Ground) (ks : List Kept) (at : ℕ) (value : Plain) → LocalsFit g ks → Some value ≡ value_at ks at → IsTrue (fits g value)
local_fits g ks at value all is = by (slice_get ks at) refl is
  where
    by : (o : Option Kept) → slice_get ks at ≡ o → Some value ≡ option_map (λ (k : Kept). k.value) o → IsTrue (fits g value)
    by None at-is is = absurd (cc)
    by (Some k) at-is is = let same : k.value ≡ value = cc in ap (fits g) (sym same) ∙ pass_get (λ (x : Kept). fits g x.value) ks at k all at-is

within-by : (o : Option ℕ) (passes : Bool) (n at : ℕ) → ((i : ℕ) → o ≡ Some i → i < n) → later o passes ≡ Some at → at < suc n
within-by (Some i) passes n at inside is = let here = inside i refl in let same : suc i ≡ at = cc in omega (arith, here, same)
within-by None true n at inside is = let same : 0 ≡ at = cc in omega (arith, same)
within-by None false n at inside is = absurd (cc)

pub index_within : {A : Type 0} (test : A → Bool) (xs : List A) (at : ℕ) → last_index test xs ≡ Some at → at < length xs
index_within test [] at is = absurd (cc)
index_within test (x ∷ xs) at is = within-by (last_index test xs) (test x) (length xs) at (λ i found. index_within test xs i found) is
