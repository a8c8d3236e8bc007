-- What an agent keeps, at first, after a change of breed and after a variable was set: what stands under a slot, and that it is still one
-- entry a slot with a value exactly where the variable is owned.
use Rattle.std.specs.Prelude.{◌≡◌, ◌==◌, ◌||◌, Bool, true, false, cond, [], ◌∷◌, map, Option, Some, None, IfSome, is_some}
use Rattle.std.specs.List.{list_all}
use Rattle.std.proofs.Common.{ap, ap₂, ◌∙◌, sym, refl, subst}
use Rattle.std.proofs.lemmas.Bool.{cond-true, cond-false, cond_both, ne_eqb, eqb-true, eqb-false, and_parts, and_from, true≢false, false≢true}
use Rattle.nl_value.specs.Plain.{Plain}
use Rattle.nl_agents_layout.specs.Nouns.{Slot, Slots}
use Rattle.nl_agents.specs.Nouns.{Vars}
use Rattle.nl_agents_layout.specs.BuiltIn.{zero_value}
use Rattle.nl_agents_layout.specs.Layouts.{has_slot}
use Rattle.nl_agents.specs.World.{first_vars}
use Rattle.nl_agents.specs.Changes.{value_in, value_set, set_entry, bred_entry, bred_entries}
use Rattle.nl_agents.specs.Standing.{AreVars, entry_fits}

-- ---- what stands under a slot

-- at first: nothing, or its first value
pub first_under : (P : Option Plain → Type 0) (owns : Slot → Bool) (first : Slot → Plain) (slots : Slots) (slot : Slot) → P None → P (Some (first slot)) → P (value_in slots (first_vars owns first slots) slot)
first_under P owns first [] slot none some = none
first_under P owns first (s ∷ ss) slot none some =
    cond_both (s == slot) (cond (owns s) (Some (first s)) None) (value_in ss (first_vars owns first ss) slot) P
    (λ t. cond_both (owns s) (Some (first s)) None P (λ _. subst (λ n. P (Some (first n))) (sym (eqb-true s slot t)) some) (λ _. none))
    (λ _. first_under P owns first ss slot none some)

-- after a change of breed: nothing, 0, or what stood there
bred_any : (P : Option Plain → Type 0) (owned : Bool) (old : Option Plain) → P None → P (Some zero_value) → P old → P (bred_entry owned old)
bred_any P false old none zero h = none
bred_any P true None none zero h = zero
bred_any P true (Some value) none zero h = h

pub bred_under : (P : Option Plain → Type 0) (owns : Slot → Bool) (slots : Slots) (vars : Vars) (slot : Slot) → P None → P (Some zero_value) → P (value_in slots vars slot) → P (value_in slots (bred_entries owns slots vars) slot)
bred_under P owns [] vars slot none zero h = none
bred_under P owns (s ∷ ss) [] slot none zero h = none
bred_under P owns (s ∷ ss) (v ∷ vs) slot none zero h =
    cond_both (s == slot) (bred_entry (owns s) v) (value_in ss (bred_entries owns ss vs) slot) P
    (λ t. bred_any P (owns s) v none zero (subst P (cond-true (s == slot) v (value_in ss vs slot) t) h))
    (λ t. bred_under P owns ss vs slot none zero (subst P (cond-false (s == slot) v (value_in ss vs slot) t) h))

-- after its variable was set: the new value, where it is owned
same_step : (here : Bool) (value : Plain) (v a b : Option Plain) → a ≡ set_entry value b → cond here (cond here (set_entry value v) v) a ≡ set_entry value (cond here v b)
same_step true value v a b e = refl
same_step false value v a b e = e

pub set_same : (slots : Slots) (vars : Vars) (slot : Slot) (value : Plain) → value_in slots (value_set slots vars slot value) slot ≡ set_entry value (value_in slots vars slot)
set_same [] vars slot value = refl
set_same (s ∷ ss) [] slot value = refl
set_same (s ∷ ss) (v ∷ vs) slot value =
    same_step (s == slot) value v (value_in ss (value_set ss vs slot value) slot) (value_in ss vs slot) (set_same ss vs slot value)

-- after another was set: what stood there
other_step : (here there : Bool) (x v a b : Option Plain) → (here ≡ true → there ≡ false) → a ≡ b → cond here (cond there x v) a ≡ cond here v b
other_step true there x v a b h e = cond-false there x v (h refl)
other_step false there x v a b h e = e

pub set_other : (slots : Slots) (vars : Vars) (slot other : Slot) (value : Plain) → (slot == other) ≡ false → value_in slots (value_set slots vars slot value) other ≡ value_in slots vars other
set_other [] vars slot other value h = refl
set_other (s ∷ ss) [] slot other value h = refl
set_other (s ∷ ss) (v ∷ vs) slot other value h =
    other_step (s == other) (s == slot) (set_entry value v) v (value_in ss (value_set ss vs slot value) other) (value_in ss vs other)
    (λ t. ne_eqb s slot (λ q. eqb-false slot other h (sym q ∙ eqb-true s other t)))
    (set_other ss vs slot other value h)

-- a variable that two breeds own has its value after a change from the one to the other and back
bred_twice : (a b : Bool) (v : Option Plain) → is_some v ≡ a → a ≡ true → b ≡ true → bred_entry a (bred_entry b v) ≡ v
bred_twice a b None o p q = absurd (true≢false (sym (o ∙ p)))
bred_twice a b (Some value) o p q = ap₂ (λ x y. bred_entry x (bred_entry y (Some value))) p q

twice_step : (here : Bool) (x v a b : Option Plain) → (here ≡ true → x ≡ v) → a ≡ b → cond here x a ≡ cond here v b
twice_step true x v a b h e = h refl
twice_step false x v a b h e = e

pub there_and_back : (own other : Slot → Bool) (slots : Slots) (vars : Vars) (slot : Slot) → map is_some vars ≡ map own slots → own slot ≡ true → other slot ≡ true
    → value_in slots (bred_entries own slots (bred_entries other slots vars)) slot ≡ value_in slots vars slot
there_and_back own other [] vars slot o p q = refl
there_and_back own other (s ∷ ss) [] slot o p q = refl
there_and_back own other (s ∷ ss) (v ∷ vs) slot o p q =
    let head : is_some v ≡ own s = cc in
    let tail : map is_some vs ≡ map own ss = cc in
    twice_step (s == slot) (bred_entry (own s) (bred_entry (other s) v)) v
    (value_in ss (bred_entries own ss (bred_entries other ss vs)) slot) (value_in ss vs slot)
    (λ t. let e = eqb-true s slot t in bred_twice (own s) (other s) v head (ap own e ∙ p) (ap other e ∙ q))
    (there_and_back own other ss vs slot tail p q)

or_right_of : (a b : Bool) → a ≡ false → (a || b) ≡ b
or_right_of true b e = absurd (false≢true (sym e))
or_right_of false b e = refl

-- exactly what stands under a slot at first, and after a change of breed
first_step : (here : Bool) (x a y : Option Plain) → (here ≡ true → x ≡ y) → (here ≡ false → a ≡ y) → cond here x a ≡ y
first_step true x a y p q = p refl
first_step false x a y p q = q refl

pub first_exactly : (owns : Slot → Bool) (first : Slot → Plain) (slots : Slots) (slot : Slot) → has_slot slots slot ≡ true → value_in slots (first_vars owns first slots) slot ≡ cond (owns slot) (Some (first slot)) None
first_exactly owns first [] slot h = absurd (false≢true h)
first_exactly owns first (s ∷ ss) slot h =
    first_step (s == slot) (cond (owns s) (Some (first s)) None) (value_in ss (first_vars owns first ss) slot) (cond (owns slot) (Some (first slot)) None)
    (λ t. ap (λ n. cond (owns n) (Some (first n)) None) (eqb-true s slot t))
    (λ t. first_exactly owns first ss slot (sym (or_right_of (s == slot) (has_slot ss slot) t) ∙ h))

bred_step : (here : Bool) (x v a b : Option Plain) (owned : Bool) → (here ≡ true → x ≡ bred_entry owned v) → (here ≡ false → a ≡ bred_entry owned b) → cond here x a ≡ bred_entry owned (cond here v b)
bred_step true x v a b owned p q = p refl
bred_step false x v a b owned p q = q refl

pub bred_exactly : (old owns : Slot → Bool) (slots : Slots) (vars : Vars) (slot : Slot) → map is_some vars ≡ map old slots → has_slot slots slot ≡ true
    → value_in slots (bred_entries owns slots vars) slot ≡ bred_entry (owns slot) (value_in slots vars slot)
bred_exactly old owns [] vars slot o h = absurd (false≢true h)
bred_exactly old owns (s ∷ ss) [] slot o h = cc
bred_exactly old owns (s ∷ ss) (v ∷ vs) slot o h =
    let tail : map is_some vs ≡ map old ss = cc in
    bred_step (s == slot) (bred_entry (owns s) v) v (value_in ss (bred_entries owns ss vs) slot) (value_in ss vs slot) (owns slot)
    (λ t. ap (λ n. bred_entry (owns n) v) (eqb-true s slot t))
    (λ t. bred_exactly old owns ss vs slot tail (sym (or_right_of (s == slot) (has_slot ss slot) t) ∙ h))

-- ---- what is owned

first_owned_step : (b : Bool) (value : Plain) → is_some (cond b (Some value) None) ≡ b
first_owned_step true value = refl
first_owned_step false value = refl

first_owned : (owns : Slot → Bool) (first : Slot → Plain) (slots : Slots) → map is_some (first_vars owns first slots) ≡ map owns slots
first_owned owns first [] = refl
first_owned owns first (s ∷ ss) = ap₂ (λ b bs. b ∷ bs) (first_owned_step (owns s) (first s)) (first_owned owns first ss)

bred_owned_step : (b : Bool) (v : Option Plain) → is_some (bred_entry b v) ≡ b
bred_owned_step false v = refl
bred_owned_step true None = refl
bred_owned_step true (Some value) = refl

bred_owned : (old owns : Slot → Bool) (slots : Slots) (vars : Vars) → map is_some vars ≡ map old slots → map is_some (bred_entries owns slots vars) ≡ map owns slots
bred_owned old owns [] [] h = refl
bred_owned old owns [] (v ∷ vs) h = cc
bred_owned old owns (s ∷ ss) [] h = cc
bred_owned old owns (s ∷ ss) (v ∷ vs) h =
    let tail : map is_some vs ≡ map old ss = cc in
    ap₂ (λ b bs. b ∷ bs) (bred_owned_step (owns s) v) (bred_owned old owns ss vs tail)

set_owned_step : (b : Bool) (value : Plain) (v : Option Plain) → is_some (cond b (set_entry value v) v) ≡ is_some v
set_owned_step false value v = refl
set_owned_step true value None = refl
set_owned_step true value (Some old) = refl

set_owned : (owns : Slot → Bool) (slots : Slots) (vars : Vars) (slot : Slot) (value : Plain) → map is_some vars ≡ map owns slots → map is_some (value_set slots vars slot value) ≡ map owns slots
set_owned owns [] vars slot value h = h
set_owned owns (s ∷ ss) [] slot value h = h
set_owned owns (s ∷ ss) (v ∷ vs) slot value h =
    let head : is_some v ≡ owns s = cc in
    let tail : map is_some vs ≡ map owns ss = cc in
    ap₂ (λ b bs. b ∷ bs) (set_owned_step (s == slot) value v ∙ head) (set_owned owns ss vs slot value tail)

-- ---- what fits

module _ (fits : Plain → Bool) where
  first_fit_step : (b : Bool) (value : Plain) → fits value ≡ true → entry_fits fits (cond b (Some value) None) ≡ true
  first_fit_step true value h = h
  first_fit_step false value h = refl

  first_fit : (owns : Slot → Bool) (first : Slot → Plain) (slots : Slots) → ((slot : Slot) → fits (first slot) ≡ true) → list_all (entry_fits fits) (first_vars owns first slots) ≡ true
  first_fit owns first [] h = refl
  first_fit owns first (s ∷ ss) h =
      and_from (entry_fits fits (cond (owns s) (Some (first s)) None)) (list_all (entry_fits fits) (first_vars owns first ss))
      (first_fit_step (owns s) (first s) (h s)) (first_fit owns first ss h)

  bred_fit : (owns : Slot → Bool) (slots : Slots) (vars : Vars) → fits zero_value ≡ true → list_all (entry_fits fits) vars ≡ true → list_all (entry_fits fits) (bred_entries owns slots vars) ≡ true
  bred_fit owns [] vars zero h = refl
  bred_fit owns (s ∷ ss) [] zero h = refl
  bred_fit owns (s ∷ ss) (v ∷ vs) zero h =
      let parts = and_parts (entry_fits fits v) (list_all (entry_fits fits) vs) h in
      and_from (entry_fits fits (bred_entry (owns s) v)) (list_all (entry_fits fits) (bred_entries owns ss vs))
      (bred_any (λ o. entry_fits fits o ≡ true) (owns s) v refl zero parts.0) (bred_fit owns ss vs zero parts.1)

  set_fit_step : (b : Bool) (value : Plain) (v : Option Plain) → fits value ≡ true → entry_fits fits v ≡ true → entry_fits fits (cond b (set_entry value v) v) ≡ true
  set_fit_step false value v h e = e
  set_fit_step true value None h e = refl
  set_fit_step true value (Some old) h e = h

  set_fit : (slots : Slots) (vars : Vars) (slot : Slot) (value : Plain) → fits value ≡ true → list_all (entry_fits fits) vars ≡ true → list_all (entry_fits fits) (value_set slots vars slot value) ≡ true
  set_fit [] vars slot value good h = h
  set_fit (s ∷ ss) [] slot value good h = refl
  set_fit (s ∷ ss) (v ∷ vs) slot value good h =
      let parts = and_parts (entry_fits fits v) (list_all (entry_fits fits) vs) h in
      and_from (entry_fits fits (cond (s == slot) (set_entry value v) v)) (list_all (entry_fits fits) (value_set ss vs slot value))
      (set_fit_step (s == slot) value v good parts.0) (set_fit ss vs slot value good parts.1)

  fits_of_entry : (v : Option Plain) → entry_fits fits v ≡ true → IfSome v (λ value. fits value ≡ true)
  fits_of_entry None h = tt
  fits_of_entry (Some value) h = h

  -- what stands under a slot fits
  pub fits_under : (slots : Slots) (vars : Vars) (slot : Slot) → list_all (entry_fits fits) vars ≡ true → IfSome (value_in slots vars slot) (λ value. fits value ≡ true)
  fits_under [] vars slot h = tt
  fits_under (s ∷ ss) [] slot h = tt
  fits_under (s ∷ ss) (v ∷ vs) slot h =
      let parts = and_parts (entry_fits fits v) (list_all (entry_fits fits) vs) h in
      cond_both (s == slot) v (value_in ss vs slot) (λ o. IfSome o (λ value. fits value ≡ true))
      (λ _. fits_of_entry v parts.0)
      (λ _. fits_under ss vs slot parts.1)

  -- ---- that they are an agent's variables

  pub first_are_vars : (owns : Slot → Bool) (first : Slot → Plain) (slots : Slots) → ((slot : Slot) → fits (first slot) ≡ true) → AreVars fits slots owns (first_vars owns first slots)
  first_are_vars owns first slots h = record { owned = first_owned owns first slots; fit = first_fit owns first slots h }

  pub bred_are_vars : (old owns : Slot → Bool) (slots : Slots) (vars : Vars) → fits zero_value ≡ true → AreVars fits slots old vars → AreVars fits slots owns (bred_entries owns slots vars)
  bred_are_vars old owns slots vars zero h = record { owned = bred_owned old owns slots vars h.owned; fit = bred_fit owns slots vars zero h.fit }

  pub set_are_vars : (owns : Slot → Bool) (slots : Slots) (vars : Vars) (slot : Slot) (value : Plain) → fits value ≡ true → AreVars fits slots owns vars → AreVars fits slots owns (value_set slots vars slot value)
  set_are_vars owns slots vars slot value good h = record { owned = set_owned owns slots vars slot value h.owned; fit = set_fit slots vars slot value good h.fit }
