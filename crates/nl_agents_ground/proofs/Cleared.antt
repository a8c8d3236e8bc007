-- Global variables after a clear, one by one.
use Rattle.std.specs.Prelude.{◌≡◌, ℕ, zero, suc, ◌+◌, Bool, true, false, List, [], ◌∷◌, ◌++◌, length, take, drop, slice_get, slice_set, Some, if◌then◌else◌}
use Rattle.std.proofs.Common.{arith, ap, ◌∙◌, sym, refl}
use Rattle.std.proofs.lemmas.Option.{same_Some, none-some}
use Rattle.nl_value.specs.Plain.{Plain}
use Rattle.nl_agents_layout.specs.Nouns.{Slots}
use Rattle.nl_agents_layout.specs.BuiltIn.{zero_value}
use Rattle.nl_agents_layout.specs.Layouts.{has_slot}
use Rattle.nl_agents.specs.Changes.{cleared_from}
use Rattle.nl_agents.proofs.Splices.{spliced, kept}

abbrev cleared : Bool → Plain → Plain
cleared coded value = if coded then zero_value else value

cleared_at : (coded : Slots) (k : ℕ) (vs : List Plain) (i : ℕ) (v : Plain) → slice_get vs i ≡ Some v → slice_get (cleared_from coded k vs) i ≡ Some (cleared (has_slot coded (k + i)) v)
cleared_at coded k [] i v e = absurd (none-some v e)
cleared_at coded k (w ∷ ws) zero v e =
    ap (λ (u : Plain). Some (cleared (has_slot coded k) u)) (same_Some w v e) ∙ ap (λ n. Some (cleared (has_slot coded n) v)) (omega arith)
cleared_at coded k (w ∷ ws) (suc i) v e =
    cleared_at coded (k + 1) ws i v e ∙ ap (λ n. Some (cleared (has_slot coded n) v)) (omega arith)

pub cleared_length : (coded : Slots) (k : ℕ) (vs : List Plain) → length (cleared_from coded k vs) ≡ length vs
cleared_length coded k [] = refl
cleared_length coded k (v ∷ vs) = ap suc (cleared_length coded (k + 1) vs)

cleared_first : (coded : Slots) (vs : List Plain) (i : ℕ) (v : Plain) → slice_get vs i ≡ Some v → slice_get (cleared_from coded 0 vs) i ≡ Some (cleared (has_slot coded i) v)
cleared_first coded vs i v e = cleared_at coded 0 vs i v e ∙ ap (λ n. Some (cleared (has_slot coded n) v)) (omega arith)

-- one more is cleared, or stays
pub cleared_more : (coded : Slots) (old now after : List Plain) (i : ℕ) (v : Plain) (is : Bool) → slice_get old i ≡ Some v
    → now ≡ take i (cleared_from coded 0 old) ++ drop i old → is ≡ has_slot coded i → after ≡ (if is then slice_set now i zero_value else now)
    → after ≡ take (i + 1) (cleared_from coded 0 old) ++ drop (i + 1) old
cleared_more coded old now after i v true e h is said =
    let new = cleared_from coded 0 old in
    let there = cleared_first coded old i v e ∙ ap (λ b. Some (cleared b v)) (sym is) in
    said ∙ ap (λ vs. slice_set vs i zero_value) h ∙ spliced new old i zero_value there (sym (cleared_length coded 0 old))
cleared_more coded old now after i v false e h is said =
    let new = cleared_from coded 0 old in
    let there = cleared_first coded old i v e ∙ ap (λ b. Some (cleared b v)) (sym is) in
    said ∙ h ∙ kept new old i v there e
