-- What patches keep after a field was set.
use Rattle.std.proofs.Common.{◌≡◌, ℕ, zero, suc, ◌+◌, ◌<◌, true, List, [], ◌∷◌, length, take, get_or, ℤ, pos, Option, Some, None, refl, sym, ap, ◌∙◌, subst, arith}
use Rattle.std.specs.Prelude.{is_some, slice_get}
use Rattle.std.proofs.lemmas.Bool.{false≢true}
use Rattle.std.proofs.lemmas.List.FromFn.{fill_by_all}
use Rattle.nl_value.specs.Plain.{Plain, PlainNumber}
use Rattle.nl_grid.specs.Geometry.{patches_of}
use Rattle.nl_agents_layout.specs.Nouns.{Slot, Slots}
use Rattle.nl_agents.specs.Nouns.{Vars}
use Rattle.nl_agents.specs.World.{World}
use Rattle.nl_agents.specs.Changes.{changed_at, value_in, value_set, set_entry, value_of, in_patch, revalued}
use Rattle.nl_agents_layout.specs.declared.layout.Layout.{Layout}
use Rattle.nl_agents.specs.declared.agents.Owner.TheVariants as owner
use Rattle.nl_agents.proofs.Vars.{set_same}
use Rattle.nl_motion.specs.Motion.{held_number, or_zero}
use Rattle.nl_motion.specs.Climbing.{patch_number}
use Rattle.nl_motion.specs.Diffusion.{are_numbers, field_of, with_counts, field_set}
use Rattle.nl_motion.proofs.Fields.{there_at}

-- one count more
more_suc : (slots : Slots) (slot : Slot) (counts : List ℤ) (patches : List Vars) (k : ℕ) → k < length counts
    → changed_at (λ vars. value_set slots vars slot (PlainNumber (get_or counts k (pos 0)))) k (with_counts slots slot (take k counts) patches)
    ≡ with_counts slots slot (take (suc k) counts) patches
more_suc slots slot [] patches k within = absurd (omega (arith, within))
more_suc slots slot (c ∷ cs) [] zero within = refl
more_suc slots slot (c ∷ cs) [] (suc k) within = refl
more_suc slots slot (c ∷ cs) (vars ∷ rest) zero within = refl
more_suc slots slot (c ∷ cs) (vars ∷ rest) (suc k) within =
    ap (λ ps. value_set slots vars slot (PlainNumber c) ∷ ps) (more_suc slots slot cs rest k (omega (arith, within)))

-- the patches from there on keep what they had
later : (slots : Slots) (slot : Slot) (counts : List ℤ) (patches : List Vars) (k : ℕ) → slice_get (with_counts slots slot (take k counts) patches) k ≡ slice_get patches k
later slots slot [] patches zero = refl
later slots slot [] patches (suc k) = refl
later slots slot (c ∷ cs) patches zero = refl
later slots slot (c ∷ cs) [] (suc k) = refl
later slots slot (c ∷ cs) (vars ∷ rest) (suc k) = later slots slot cs rest k

set_more : (slot : Slot) (counts : List ℤ) (w here : World) (k : ℕ) → k < length counts → here ≡ field_set slot (take k counts) w
    → revalued (owner.Patch k) slot (PlainNumber (get_or counts k (pos 0))) here ≡ field_set slot (take (k + 1) counts) w
set_more slot counts w here k within is =
    let e : suc k ≡ k + 1 = omega arith in
    ap (revalued (owner.Patch k) slot (PlainNumber (get_or counts k (pos 0)))) is
    ∙ ap (λ ps. record w { rest = record w.rest { patches = ps } }) (more_suc w.rest.layout.every_patch slot counts w.rest.patches k within)
    ∙ ap (λ n. field_set slot (take n counts) w) e

pub set_at_turn : (slot : Slot) (counts : List ℤ) (w here after : World) (k : ℕ) (count : ℤ) → k < length counts → count ≡ get_or counts k (pos 0)
    → here ≡ field_set slot (take k counts) w → after ≡ revalued (owner.Patch k) slot (PlainNumber count) here → after ≡ field_set slot (take (k + 1) counts) w
set_at_turn slot counts w here after k count within read is turn =
    turn ∙ ap (λ x. revalued (owner.Patch k) slot (PlainNumber x) here) read ∙ set_more slot counts w here k within is

some_value : (value : Option Plain) → is_some (held_number value) ≡ true → is_some value ≡ true
some_value None there = absurd (false≢true there)
some_value (Some value) there = refl

-- a patch that kept a number keeps something before its turn
pub owned_later : (slot : Slot) (counts : List ℤ) (w here : World) (k : ℕ) → are_numbers slot w ≡ true → k < patches_of w.rest.shape
    → here ≡ field_set slot (take k counts) w → is_some (value_of (owner.Patch k) slot here) ≡ true
owned_later slot counts w here k all below is =
    ap (λ v. is_some (value_of (owner.Patch k) slot v)) is
    ∙ ap (λ o. is_some (in_patch w.rest.layout slot o)) (later w.rest.layout.every_patch slot counts w.rest.patches k)
    ∙ some_value (value_of (owner.Patch k) slot w) (there_at (patch_number w slot) (patches_of w.rest.shape) k all below)

-- ---- the field that was set

entry_set : (value : Plain) (old : Option Plain) → is_some old ≡ true → set_entry value old ≡ Some value
entry_set value None there = absurd (false≢true there)
entry_set value (Some old) there = refl

set_at : (layout : Layout) (slot : Slot) (counts : List ℤ) (patches : List Vars) (k : ℕ) → k < length counts
    → is_some (in_patch layout slot (slice_get patches k)) ≡ true
    → in_patch layout slot (slice_get (with_counts layout.every_patch slot counts patches) k) ≡ Some (PlainNumber (get_or counts k (pos 0)))
set_at layout slot [] patches k within there = absurd (omega (arith, within))
set_at layout slot (c ∷ cs) [] zero within there = absurd (false≢true there)
set_at layout slot (c ∷ cs) [] (suc k) within there = absurd (false≢true there)
set_at layout slot (c ∷ cs) (vars ∷ rest) zero within there =
    set_same layout.every_patch vars slot (PlainNumber c) ∙ entry_set (PlainNumber c) (value_in layout.every_patch vars slot) there
set_at layout slot (c ∷ cs) (vars ∷ rest) (suc k) within there = set_at layout slot cs rest k (omega (arith, within)) there

-- where all patches kept numbers, the field is what it was set to
pub field_is_set : (slot : Slot) (counts : List ℤ) (w : World) → are_numbers slot w ≡ true → length counts ≡ patches_of w.rest.shape
    → field_of slot (field_set slot counts w) ≡ counts
field_is_set slot counts w all many =
    sym (fill_by_all (λ patch. or_zero (patch_number (field_set slot counts w) slot patch)) counts (patches_of w.rest.shape) (pos 0) many
    (λ k below.
    let there = some_value (value_of (owner.Patch k) slot w) (there_at (patch_number w slot) (patches_of w.rest.shape) k all below) in
    let within : k < length counts = subst (λ n. k < n) (sym many) below in
    sym (ap (λ o. or_zero (held_number o)) (set_at w.rest.layout slot counts w.rest.patches k within there))))
