-- What patches give to each other: `diffuse` and `diffuse4`, by the NetLogo Dictionary. That a share is cut to whole millionths, and that
-- a patch keeps what it has no neighbor to give to, is this project's own choice of a rounding that loses nothing.
use Rattle.std.specs.Prelude.{◌≡◌, ◌⊎◌, ℕ, ◌*◌, ℤ, pos, ◌+ℤ◌, ◌-ℤ◌, ◌*ℤ◌, int_le, Bool, not, ◌&&◌, if◌then◌else◌, List, [], ◌∷◌, map, length, slice_index_or, Option, Some, None, is_some, Result, Ok, Err}
use Rattle.std.specs.List.{list_all}
use Rattle.nl_fixed.specs.Numbers.{one, floor_quotient, in_range}
use Rattle.nl_value.specs.Plain.{PlainNumber}
use Rattle.nl_grid.specs.Geometry.{Plane, all_patches}
use Rattle.nl_agents_layout.specs.Nouns.{Slot, Slots}
use Rattle.nl_agents.specs.Nouns.{Vars}
use Rattle.nl_agents.specs.World.{World}
use Rattle.nl_agents.specs.Changes.{on_rest, value_set}
use Rattle.nl_motion.specs.Motion.{or_zero}
use Rattle.nl_motion.specs.Climbing.{ring_of, patch_number}
use Rattle.nl_motion.specs.declared.faults.MoveFault.{MoveFault}
use Rattle.nl_motion.specs.declared.faults.MoveFault.TheVariants as fault

-- ---- the field of a variable

-- every patch keeps a number under the slot
abbrev pub are_numbers : Slot → World → Bool
are_numbers slot w = list_all (λ patch. is_some (patch_number w slot patch)) (all_patches w.rest.shape)

-- what the patches keep under the slot, in order, as counts of millionths
abbrev pub field_of : Slot → World → List ℤ
field_of slot w = map (λ patch. or_zero (patch_number w slot patch)) (all_patches w.rest.shape)

abbrev pub total : List ℤ → ℤ
total [] = pos 0
total (count ∷ counts) = count +ℤ total counts

-- the count at a place of a list
abbrev pub count_at : List ℤ → ℕ → ℤ
count_at counts patch = slice_index_or counts patch (pos 0)

-- ---- shares

-- into how many shares a patch divides what it gives
abbrev pub parts_of : Bool → ℕ
parts_of four = if four then 4 else 8

-- one share of a count, where a part of so many millionths is divided: cut to a whole count
unfoldable pub one_share : ℕ → ℤ → ℤ → ℤ
one_share parts part count = floor_quotient (count *ℤ part) (parts * one)

-- what a patch keeps that has so many neighbors: what it had, less a share for each of them
abbrev pub kept_by : ℕ → List ℤ → List ℤ → ℕ → ℤ
kept_by neighbors field shares patch = count_at field patch -ℤ (pos neighbors *ℤ count_at shares patch)

-- what a patch has after all gave: what it keeps, and a share of each of its neighbors
unfoldable pub count_after : Bool → Plane → List ℤ → List ℤ → ℕ → ℤ
count_after four plane field shares patch =
    let ring = ring_of four plane patch in
    kept_by (length ring) field shares patch +ℤ total (map (count_at shares) ring)

-- the field after all patches gave a part of it, at once
abbrev pub diffused_field : Bool → Plane → ℤ → List ℤ → List ℤ
diffused_field four plane part field =
    map (count_after four plane field (map (one_share (parts_of four) part) field)) (all_patches plane)

-- ---- the world

-- the patches, in order, keep the counts of a list under the slot; where it is shorter, those left keep what they had
abbrev pub with_counts : Slots → Slot → List ℤ → List Vars → List Vars
with_counts slots slot [] patches = patches
with_counts slots slot (count ∷ counts) [] = []
with_counts slots slot (count ∷ counts) (vars ∷ rest) = value_set slots vars slot (PlainNumber count) ∷ with_counts slots slot counts rest

abbrev pub field_set : Slot → List ℤ → World → World
field_set slot counts = on_rest (λ r. record r { patches = with_counts r.layout.every_patch slot counts r.patches })

-- the world after all patches gave a part of what they keep under the slot
abbrev pub diffused : Slot → ℤ → Bool → World → World
diffused slot part four w = field_set slot (diffused_field four w.rest.shape part (field_of slot w)) w

-- ---- refusals

-- the part is from 0 to 1
abbrev pub is_part : ℤ → Bool
is_part part = int_le (pos 0) part && int_le part (pos one)

abbrev pub are_in_range : List ℤ → Bool
are_in_range counts = list_all in_range counts

-- why nothing is given, if so: the part, a value that is no number, or a count out of range, in this order
unfoldable pub diffuse_fault : Slot → ℤ → Bool → World → Option MoveFault
diffuse_fault slot part four w =
    if not (is_part part) then Some fault.Domain
    else if not (are_numbers slot w) then Some fault.WrongType
    else if not (are_in_range (diffused_field four w.rest.shape part (field_of slot w))) then Some fault.Overflow
    else None

-- a call is refused exactly for this cause, or for want of memory
abbrev pub IsRefusedFor : {X : Type 0} → Option MoveFault → Result X MoveFault → Type 0
IsRefusedFor cause (Ok x) = cause ≡ None
IsRefusedFor cause (Err why) = (why ≡ fault.NoMemory) ⊎ (cause ≡ Some why)
