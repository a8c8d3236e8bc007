-- Values by their names, one after another.
use Rattle.std.proofs.Common.{◌≡◌, ℕ, zero, suc, ◌+◌, List, [], ◌∷◌, ◌++◌, Some, None, take, slice_get, refl, ap, ◌∙◌, sym, arith}
use Rattle.nl_fixed.specs.Nouns.{Name, Names}
use Rattle.nl_value.specs.Plain.{Plain}
use Rattle.nl_exec_meaning.specs.Calls.{bound}
use Rattle.nl_exec_meaning.specs.State.{Held}

abbrev pub local : Name → Plain → Held
local name value = record { name = name; value = value }

pub bound_next : (names : Names) (values : List Plain) (k : ℕ) (name : Name) (value : Plain) → slice_get names k ≡ Some name → slice_get values k ≡ Some value →
    bound (take (k + 1) names) values ≡ bound (take k names) values ++ local name value ∷ []
bound_next [] values k name value is has = absurd (cc)
bound_next (n ∷ names) [] k name value is has = absurd (cc)
bound_next (n ∷ names) (v ∷ values) zero name value is has =
    let one : n ≡ name = cc in
    let other : v ≡ value = cc in
    ap (λ (x : Name). local x v ∷ []) one ∙ ap (λ (x : Plain). local name x ∷ []) other
bound_next (n ∷ names) (v ∷ values) (suc k) name value is has =
    let m : suc k + 1 ≡ suc (k + 1) = omega arith in rw m (ap (λ (hs : List Held). local n v ∷ hs) (bound_next names values k name value is has))

-- where there is no further value, no further name has one
pub bound_out : (names : Names) (values : List Plain) (k : ℕ) → slice_get values k ≡ None → bound (take k names) values ≡ bound names values
bound_out [] values zero out = refl
bound_out [] values (suc k) out = refl
bound_out (n ∷ names) [] zero out = refl
bound_out (n ∷ names) [] (suc k) out = refl
bound_out (n ∷ names) (v ∷ values) zero out = absurd (cc)
bound_out (n ∷ names) (v ∷ values) (suc k) out = ap (λ (hs : List Held). local n v ∷ hs) (bound_out names values k out)
