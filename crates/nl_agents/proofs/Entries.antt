-- What an agent keeps under a slot, by the slot's place among the slots of its kind.
use Rattle.std.specs.Prelude.{◌≡◌, ℕ, List, zero, suc, ◌<◌, ◌==◌, true, false, [], ◌∷◌, slice_get, slice_set, slice_index_or, Some, None, All}
use Rattle.std.specs.List.Sorted.{IsStrictlyIncreasing}
use Rattle.std.proofs.Common.{arith, ap, ap₂, ◌∙◌, refl, subst}
use Rattle.std.proofs.lemmas.Bool.{cond-true, cond-false, ne_eqb, eq-eqb, or_parts, or_from}
use Rattle.std.proofs.lemmas.Option.{same_Some, none-some, get_or_from_slice_get, slice_get_within}
use Rattle.std.proofs.lemmas.List.Elements.{All-head, All-tail}
use Rattle.std.proofs.lemmas.List.Folds.{list_any_at}
use Rattle.nl_value.specs.Plain.{Plain}
use Rattle.nl_agents_layout.specs.Nouns.{Slot, Slots}
use Rattle.nl_agents.specs.Nouns.{Vars}
use Rattle.nl_agents.specs.Changes.{value_in, value_set, set_entry, changed_at}
use Rattle.nl_agents_layout.specs.Layouts.{has_slot}
use Rattle.nl_agents.proofs.Keyed.{ascend_tail, ascend_head}

-- a slot that stands at an index is among these
pub has_slot_at : (slots : Slots) (i : ℕ) (slot : Slot) → slice_get slots i ≡ Some slot → has_slot slots slot ≡ true
has_slot_at slots i slot e =
    list_any_at (λ other. other == slot) slots i 0 (slice_get_within slots i slot e) (eq-eqb _ slot (get_or_from_slice_get slots i slot 0 e))

-- a slot is below each later one
slot_before : (s : Slot) (ss : Slots) (i : ℕ) (slot : Slot) → IsStrictlyIncreasing (s ∷ ss) → slice_get ss i ≡ Some slot → s < slot
slot_before s ss i slot up e =
    subst (λ n. s < n) (get_or_from_slice_get ss i slot 0 e) (ascend_head s ss up i 0 (slice_get_within ss i slot e))

-- under a slot that isn't among these nothing is kept
pub value_nowhere : (slots : Slots) (vars : Vars) (slot : Slot) → has_slot slots slot ≡ false → value_in slots vars slot ≡ None
value_nowhere [] vars slot h = refl
value_nowhere (s ∷ ss) [] slot h = refl
value_nowhere (s ∷ ss) (v ∷ vs) slot h =
    let parts = or_parts (s == slot) (has_slot ss slot) h in
    cond-false (s == slot) v (value_in ss vs slot) parts.0 ∙ value_nowhere ss vs slot parts.1

-- and setting it changes nothing
pub set_nowhere : (slots : Slots) (vars : Vars) (slot : Slot) (value : Plain) → has_slot slots slot ≡ false → value_set slots vars slot value ≡ vars
set_nowhere [] vars slot value h = refl
set_nowhere (s ∷ ss) [] slot value h = refl
set_nowhere (s ∷ ss) (v ∷ vs) slot value h =
    let parts = or_parts (s == slot) (has_slot ss slot) h in
    ap₂ (λ w ws. w ∷ ws) (cond-false (s == slot) (set_entry value v) v parts.0) (set_nowhere ss vs slot value parts.1)

absent_above : (s : Slot) (ss : Slots) → All (λ m. s < m) ss → has_slot ss s ≡ false
absent_above s [] h = refl
absent_above s (r ∷ rs) h =
    let l = All-head (λ m. s < m) r rs h in
    or_from (r == s) (has_slot rs s) (ne_eqb r s (λ q. omega (arith, l, q))) (absent_above s rs (All-tail (λ m. s < m) r rs h))

-- a slot isn't among those after it
absent_after : (s : Slot) (ss : Slots) → IsStrictlyIncreasing (s ∷ ss) → has_slot ss s ≡ false
absent_after s ss up = absent_above s ss (ascend_head s ss up)

-- under the slot at an index stands the entry at that index; past the end there is none
pub value_at : (slots : Slots) (vars : Vars) (i : ℕ) (slot : Slot) → IsStrictlyIncreasing slots → slice_get slots i ≡ Some slot → value_in slots vars slot ≡ slice_index_or vars i None
value_at [] vars i slot up e = absurd (none-some slot e)
value_at (s ∷ ss) [] i slot up e = refl
value_at (s ∷ ss) (v ∷ vs) zero slot up e = cond-true (s == slot) v (value_in ss vs slot) (eq-eqb s slot (same_Some s slot e))
value_at (s ∷ ss) (v ∷ vs) (suc i) slot up e =
    let l = slot_before s ss i slot up e in
    cond-false (s == slot) v (value_in ss vs slot) (ne_eqb s slot (λ q. omega (arith, l, q))) ∙ value_at ss vs i slot (ascend_tail s ss up) e

-- setting the slot at an index sets the entry at that index; past the end it changes nothing
pub set_at : (slots : Slots) (vars : Vars) (i : ℕ) (slot : Slot) (value : Plain) → IsStrictlyIncreasing slots → slice_get slots i ≡ Some slot → value_set slots vars slot value ≡ slice_set vars i (set_entry value (slice_index_or vars i None))
set_at [] vars i slot value up e = absurd (none-some slot e)
set_at (s ∷ ss) [] i slot value up e = refl
set_at (s ∷ ss) (v ∷ vs) zero slot value up e =
    let q = same_Some s slot e in
    ap₂ (λ w ws. w ∷ ws) (cond-true (s == slot) (set_entry value v) v (eq-eqb s slot q))
    (set_nowhere ss vs slot value (subst (λ x. has_slot ss x ≡ false) q (absent_after s ss up)))
set_at (s ∷ ss) (v ∷ vs) (suc i) slot value up e =
    let l = slot_before s ss i slot up e in
    ap₂ (λ w ws. w ∷ ws) (cond-false (s == slot) (set_entry value v) v (ne_eqb s slot (λ q. omega (arith, l, q))))
    (set_at ss vs i slot value (ascend_tail s ss up) e)

-- what the patch of a number keeps is changed at its index
pub patch_changed_at : (change : Vars → Vars) (patches : List Vars) (patch : ℕ) (vars : Vars) → slice_get patches patch ≡ Some vars → changed_at change patch patches ≡ slice_set patches patch (change vars)
patch_changed_at change [] patch vars e = absurd (none-some vars e)
patch_changed_at change (p ∷ ps) zero vars e = ap (λ v. change v ∷ ps) (same_Some p vars e)
patch_changed_at change (p ∷ ps) (suc n) vars e = ap (λ l. p ∷ l) (patch_changed_at change ps n vars e)
