-- A list whose items become those of another one, place by place.
use Rattle.std.specs.Prelude.{◌≡◌, ℕ, zero, suc, ◌+◌, Bool, List, [], ◌∷◌, ◌++◌, length, take, drop, slice_get, slice_set, Option, Some}
use Rattle.std.proofs.Common.{arith, ap, ap₂, ◌∙◌, sym, refl}
use Rattle.std.proofs.lemmas.Option.{same_Some, none-some}
use native.Mathlib.Numerals.{unary_clauses}
use Rattle.nl_value.specs.Plain.{Plain}
use Rattle.nl_agents_layout.specs.Nouns.{Slot, Slots}
use Rattle.nl_agents.specs.Nouns.{Vars}
use Rattle.nl_agents.specs.Changes.{bred_entry, bred_entries}

module _ {Y : Type 0} where
  spliced_suc : (new old : List Y) (i : ℕ) (y : Y) → slice_get new i ≡ Some y → length old ≡ length new → slice_set (take i new ++ drop i old) i y ≡ take (suc i) new ++ drop (suc i) old
  spliced_suc [] old i y e h = absurd (none-some y e)
  spliced_suc (n ∷ ns) [] i y e h = absurd (omega (arith, h))
  spliced_suc (n ∷ ns) (o ∷ os) zero y e h = ap (λ z. z ∷ os) (sym (same_Some n y e))
  spliced_suc (n ∷ ns) (o ∷ os) (suc i) y e h = ap (λ zs. n ∷ zs) (spliced_suc ns os i y e (omega (arith, h)))

  -- the next item put in its place
  pub spliced : (new old : List Y) (i : ℕ) (y : Y) → slice_get new i ≡ Some y → length old ≡ length new → slice_set (take i new ++ drop i old) i y ≡ take (i + 1) new ++ drop (i + 1) old
  spliced new old i y e h = simp unary_clauses (spliced_suc new old i y e h)

  kept_suc : (new old : List Y) (i : ℕ) (y : Y) → slice_get new i ≡ Some y → slice_get old i ≡ Some y → take i new ++ drop i old ≡ take (suc i) new ++ drop (suc i) old
  kept_suc [] old i y e f = absurd (none-some y e)
  kept_suc (n ∷ ns) [] i y e f = absurd (none-some y f)
  kept_suc (n ∷ ns) (o ∷ os) zero y e f = ap (λ z. z ∷ os) (same_Some o y f ∙ sym (same_Some n y e))
  kept_suc (n ∷ ns) (o ∷ os) (suc i) y e f = ap (λ zs. n ∷ zs) (kept_suc ns os i y e f)

  -- the next item left in its place, where it is the old one
  pub kept : (new old : List Y) (i : ℕ) (y : Y) → slice_get new i ≡ Some y → slice_get old i ≡ Some y → take i new ++ drop i old ≡ take (i + 1) new ++ drop (i + 1) old
  kept new old i y e f = simp unary_clauses (kept_suc new old i y e f)

  -- the old item that stands there until then
  pub not_yet : (new old : List Y) (i : ℕ) (y : Y) → slice_get (take i new ++ drop i old) i ≡ Some y → length old ≡ length new → slice_get old i ≡ Some y
  not_yet [] [] zero y e h = e
  not_yet [] [] (suc i) y e h = e
  not_yet [] (o ∷ os) i y e h = absurd (omega (arith, h))
  not_yet (n ∷ ns) [] i y e h = absurd (omega (arith, h))
  not_yet (n ∷ ns) (o ∷ os) zero y e h = e
  not_yet (n ∷ ns) (o ∷ os) (suc i) y e h = not_yet ns os i y e (omega (arith, h))

  pub spliced_length : (new old : List Y) (i : ℕ) → length old ≡ length new → length (take i new ++ drop i old) ≡ length new
  spliced_length [] [] zero h = refl
  spliced_length [] [] (suc i) h = refl
  spliced_length [] (o ∷ os) i h = absurd (omega (arith, h))
  spliced_length (n ∷ ns) [] i h = absurd (omega (arith, h))
  spliced_length (n ∷ ns) (o ∷ os) zero h = h
  spliced_length (n ∷ ns) (o ∷ os) (suc i) h = ap suc (spliced_length ns os i (omega (arith, h)))

  pub all_spliced : (new old : List Y) (i : ℕ) → length old ≡ length new → i ≡ length new → take i new ++ drop i old ≡ new
  all_spliced [] [] zero h e = refl
  all_spliced [] [] (suc i) h e = refl
  all_spliced [] (o ∷ os) i h e = absurd (omega (arith, h))
  all_spliced (n ∷ ns) [] i h e = absurd (omega (arith, h))
  all_spliced (n ∷ ns) (o ∷ os) zero h e = absurd (omega (arith, e))
  all_spliced (n ∷ ns) (o ∷ os) (suc i) h e = ap (λ zs. n ∷ zs) (all_spliced ns os i (omega (arith, h)) (omega (arith, e)))

-- an entry after a change of breed
pub bred_at : (owns : Slot → Bool) (slots : Slots) (vars : Vars) (i : ℕ) (slot : Slot) (old : Option Plain) → slice_get slots i ≡ Some slot → slice_get vars i ≡ Some old → slice_get (bred_entries owns slots vars) i ≡ Some (bred_entry (owns slot) old)
bred_at owns [] vars i slot old e f = absurd (none-some slot e)
bred_at owns (s ∷ ss) [] i slot old e f = absurd (none-some old f)
bred_at owns (s ∷ ss) (v ∷ vs) zero slot old e f = ap₂ (λ t w. Some (bred_entry (owns t) w)) (same_Some s slot e) (same_Some v old f)
bred_at owns (s ∷ ss) (v ∷ vs) (suc i) slot old e f = bred_at owns ss vs i slot old e f

pub bred_length : (owns : Slot → Bool) (slots : Slots) (vars : Vars) → length vars ≡ length slots → length (bred_entries owns slots vars) ≡ length slots
bred_length owns [] vars h = refl
bred_length owns (s ∷ ss) [] h = absurd (omega (arith, h))
bred_length owns (s ∷ ss) (v ∷ vs) h = ap suc (bred_length owns ss vs (omega (arith, h)))
