-- Neighbors by steps on the axes: a patch is near another one where steps of -1, 0 and 1 lead to it.
use Rattle.std.proofs.Common.{ℕ, zero, suc, ◌+◌, ◌-◌, ◌*◌, ◌<◌, ◌≤◌, ◌≡◌, ◌≢◌, min, true, false, ◌==◌, int_le, ℤ, pos, negsuc, ◌+ℤ◌, ◌-ℤ◌, ◌*ℤ◌, unsigned_abs, Contains, Option, Some, None, if◌then◌else◌, ◌⊎◌, inl, inr, arith, refl, sym, ap, subst, ◌∙◌}
use Rattle.std.specs.Option.{option_map}
use Rattle.std.proofs.lemmas.Bool.{cases_lt, leb-true, eq-eqb, eqb-true}
use Rattle.std.proofs.lemmas.Int.{ints}
use Rattle.nl_fixed.specs.Numbers.{one, floor_quotient}
use Rattle.nl_fixed.proofs.Integers.{floor_low, floor_high, floor_only}
use Rattle.nl_grid.specs.declared.axis.Axis.{Axis}
use Rattle.nl_grid.specs.declared.point.Point.{Point}
use Rattle.nl_grid.specs.Geometry.{Plane, IsAxis, IsWithinLimits, IsInside, IsPointOf, side, length_of, begin_of, patches_of, moved_inside, wrapped, point_of_both, wrapped_point, patch_coordinate, patch_at, patch_by_coordinates, center_of, column, row, pxcor_of, pycor_of, steps_between, is_within, is_near, is_in_line, neighbors_of, neighbors4_of}
use Rattle.nl_grid.specs.GeometryLaws.{IsStepAway, IsStraightStep}
use Rattle.nl_grid.proofs.AxisLemmas.{by_bool, end_is, wrapped_moved, wrapped_within, wrapped_lies_inside, center_inside_up, center_inside_down, some_same}
use Rattle.nl_grid.proofs.RangeLemmas.{some_is, by_test}
use Rattle.nl_grid.proofs.TallyLemmas.{and_first, and_second, or_second}
use Rattle.nl_grid.proofs.ShapeLemmas.{column_below, row_below}
use Rattle.nl_grid.proofs.CoverLemmas.{le_true, column_at, row_at, patch_at_below}
use Rattle.nl_grid.proofs.FewLemmas.{same_patch, or_right}
use Rattle.nl_grid.proofs.LawLemmas.{rounded_whole, center_patch, wrapping_moves, from_neighbors, into_neighbors, from_neighbors4, into_neighbors4, neighbors_are_others, other_from_apart}

-- ---- one axis, from a step to the test

steps_small : (axis : Axis) (i j : ℕ) → is_within axis (pos 1) i j ≡ true → ((i - j) + (j - i) ≤ 1) ⊎ ((axis.wraps ≡ true) × (side axis - ((i - j) + (j - i)) ≤ 1))
steps_small axis i j near =
    let plain = (i - j) + (j - i) in
    by_bool axis.wraps
    (λ wraps.
    let steps : steps_between axis i j ≡ min plain (side axis - plain) = rw wraps refl in
    let small : min plain (side axis - plain) ≤ 1 = leb-true (min plain (side axis - plain)) 1 (sym (ap (λ s. int_le (pos s) (pos 1)) steps) ∙ near) in
    elim (cases_lt 1 plain) [ inl far ↦ inr (wraps, omega (arith, small, far)) | inr close ↦ inl close ])
    (λ flat.
    let steps : steps_between axis i j ≡ plain = rw flat refl in
    inl (leb-true plain 1 (sym (ap (λ s. int_le (pos s) (pos 1)) steps) ∙ near)))

near_straight : (axis : Axis) (i j : ℕ) → (i - j) + (j - i) ≤ 1 → is_within axis (pos 1) i j ≡ true
near_straight axis i j small =
    let plain = (i - j) + (j - i) in
    by_bool axis.wraps
    (λ wraps. let steps : steps_between axis i j ≡ min plain (side axis - plain) = rw wraps refl in rw steps (le_true (pos (min plain (side axis - plain))) (pos 1) (omega (arith, ints, small))))
    (λ flat. let steps : steps_between axis i j ≡ plain = rw flat refl in rw steps (le_true (pos plain) (pos 1) (omega (arith, ints, small))))

near_round : (axis : Axis) (i j : ℕ) → axis.wraps ≡ true → side axis - ((i - j) + (j - i)) ≤ 1 → is_within axis (pos 1) i j ≡ true
near_round axis i j wraps small =
    let plain = (i - j) + (j - i) in
    let steps : steps_between axis i j ≡ min plain (side axis - plain) = rw wraps refl in
    rw steps (le_true (pos (min plain (side axis - plain))) (pos 1) (omega (arith, ints, small)))

-- a length more or less leads inside
pub moved_up : (axis : Axis) (at to : ℤ) → IsAxis axis → IsInside axis to → to ≡ at +ℤ pos (length_of axis) → moved_inside axis at ≡ to
unfolding moved_inside
moved_up axis at to limits inside is =
    let some : 0 < length_of axis = omega arith in
    let past = at -ℤ begin_of axis in
    let below : floor_quotient past (length_of axis) ≡ negsuc 0 = floor_only past (length_of axis) (floor_quotient past (length_of axis)) (negsuc 0) (floor_low past (length_of axis) some) (floor_high past (length_of axis) some) (omega (arith, ints, inside.from, is)) (omega (arith, ints, inside.below, is, end_is axis limits)) in
    rw below (omega (arith, ints, is))

pub moved_down : (axis : Axis) (at to : ℤ) → IsAxis axis → IsInside axis to → to ≡ at -ℤ pos (length_of axis) → moved_inside axis at ≡ to
unfolding moved_inside
moved_down axis at to limits inside is =
    let some : 0 < length_of axis = omega arith in
    let past = at -ℤ begin_of axis in
    let above : floor_quotient past (length_of axis) ≡ pos 1 = floor_only past (length_of axis) (floor_quotient past (length_of axis)) (pos 1) (floor_low past (length_of axis) some) (floor_high past (length_of axis) some) (omega (arith, ints, inside.from, is)) (omega (arith, ints, inside.below, is, end_is axis limits)) in
    rw above (omega (arith, ints, is))

-- where a step leads from an index
record Step (axis : Axis) (from to : ℤ) : Type 0 where
  by : ℤ
  short : unsigned_abs by ≤ 1
  leads : wrapped axis ((from +ℤ by) *ℤ pos one) ≡ Some (to *ℤ pos one)

step_reaches : (axis : Axis) (i j : ℕ) → IsAxis axis → i < side axis → j < side axis → is_within axis (pos 1) i j ≡ true → Step axis (axis.least +ℤ pos i) (axis.least +ℤ pos j)
step_reaches axis i j limits below_i below_j near =
    let from = axis.least +ℤ pos i in
    let to = axis.least +ℤ pos j in
    let inside = center_inside_up axis j (to *ℤ pos one) limits below_j refl in
    elim (steps_small axis i j near) [
      | inl straight ↦ record {
        by = pos j -ℤ pos i;
        short = omega (arith, ints, straight);
        leads = let there : (from +ℤ (pos j -ℤ pos i)) ≡ to = omega (arith, ints) in rw there (sym (wrapped_within axis (to *ℤ pos one) limits inside));
      }
      | inr round ↦ elim (cases_lt i j) [
        | inl up ↦ record {
          by = negsuc 0;
          short = omega arith;
          leads = let moved = moved_up axis ((from +ℤ negsuc 0) *ℤ pos one) (to *ℤ pos one) limits inside (omega (arith, ints, round.1, up, below_i, below_j)) in wrapped_moved axis ((from +ℤ negsuc 0) *ℤ pos one) round.0 ∙ ap (λ z. Some z) moved;
        }
        | inr down ↦ record {
          by = pos 1;
          short = omega arith;
          leads = let moved = moved_down axis ((from +ℤ pos 1) *ℤ pos one) (to *ℤ pos one) limits inside (omega (arith, ints, round.1, down, below_i, below_j)) in wrapped_moved axis ((from +ℤ pos 1) *ℤ pos one) round.0 ∙ ap (λ z. Some z) moved;
        }
      ]
    ]

-- ---- one axis, from the test to a step

sides_times : (n : ℕ) (k : ℤ) → pos (n * one) *ℤ k ≡ (pos n *ℤ k) *ℤ pos one
sides_times n (pos zero) = omega (arith, ints)
sides_times n (pos (suc k)) = omega (arith, ints)
sides_times n (negsuc k) = omega (arith, ints)

mul_suc_above : (n k : ℕ) → n ≤ n * suc k
mul_suc_above n k = omega arith

near_by_sides : (axis : Axis) (i j : ℕ) (step sides : ℤ) → i < side axis → j < side axis → unsigned_abs step ≤ 1 → pos j ≡ (pos i +ℤ step) +ℤ (pos (side axis) *ℤ sides) → (axis.wraps ≡ false → (pos (side axis) *ℤ sides) ≡ pos 0) → is_within axis (pos 1) i j ≡ true
near_by_sides axis i j step (pos zero) below_i below_j short lands flat = near_straight axis i j (omega (arith, ints, lands, short))
near_by_sides axis i j step (pos (suc k)) below_i below_j short lands flat =
    by_bool axis.wraps
    (λ wraps. near_round axis i j wraps (omega (arith, ints, lands, short, below_i, below_j, mul_suc_above (side axis) k)))
    (λ level. near_straight axis i j (let none = flat level in omega (arith, ints, lands, short, none)))
near_by_sides axis i j step (negsuc k) below_i below_j short lands flat =
    by_bool axis.wraps
    (λ wraps. near_round axis i j wraps (omega (arith, ints, lands, short, below_i, below_j, mul_suc_above (side axis) k)))
    (λ level. near_straight axis i j (let none = flat level in omega (arith, ints, lands, short, none)))

step_is_near : (axis : Axis) (i j : ℕ) (step at : ℤ) → IsAxis axis → i < side axis → unsigned_abs step ≤ 1 → wrapped axis ((axis.least +ℤ pos i +ℤ step) *ℤ pos one) ≡ Some at → pos j ≡ patch_coordinate at -ℤ axis.least → j < side axis → is_within axis (pos 1) i j ≡ true
step_is_near axis i j step at limits below_i short is index below_j =
    let moved = wrapping_moves axis ((axis.least +ℤ pos i +ℤ step) *ℤ pos one) at limits is in
    let times = sides_times (side axis) moved.sides in
    let whole : at ≡ ((axis.least +ℤ pos i +ℤ step) +ℤ (pos (side axis) *ℤ moved.sides)) *ℤ pos one = omega (arith, ints, moved.moved, times) in
    let rounded = ap patch_coordinate whole ∙ rounded_whole ((axis.least +ℤ pos i +ℤ step) +ℤ (pos (side axis) *ℤ moved.sides)) in
    let lands : pos j ≡ (pos i +ℤ step) +ℤ (pos (side axis) *ℤ moved.sides) = omega (arith, ints, index, rounded) in
    near_by_sides axis i j step moved.sides below_i below_j short lands (λ flat. omega (arith, ints, moved.moved, moved.flat flat, times))

-- ---- rows count from the top

turned : (axis : Axis) (i j : ℕ) → i < side axis → j < side axis → is_within axis (pos 1) (side axis - 1 - i) (side axis - 1 - j) ≡ is_within axis (pos 1) i j
turned axis i j below_i below_j =
    let n = side axis in
    let same : ((n - 1 - i) - (n - 1 - j)) + ((n - 1 - j) - (n - 1 - i)) ≡ (i - j) + (j - i) = omega (arith, below_i, below_j) in
    ap (λ plain. int_le (pos (if axis.wraps then min plain (n - plain) else plain)) (pos 1)) same

from_top : (axis : Axis) (i : ℕ) → IsAxis axis → i < side axis → axis.greatest -ℤ pos i ≡ axis.least +ℤ pos (side axis - 1 - i)
from_top axis i limits below = omega (arith, ints, below, limits.low, limits.high)

-- ---- both axes

coordinates_lead : (plane : Plane) (patch other : ℕ) (pxcor pycor : ℤ) → IsWithinLimits plane → other < patches_of plane → wrapped plane.x (pxcor *ℤ pos one) ≡ Some (pxcor_of plane other *ℤ pos one) → wrapped plane.y (pycor *ℤ pos one) ≡ Some (pycor_of plane other *ℤ pos one) → patch_by_coordinates plane pxcor pycor ≡ Some other
unfolding patch_by_coordinates wrapped_point center_of
coordinates_lead plane patch other pxcor pycor limits below is_x is_y = rw (is_x, is_y) (ap (λ n. Some n) (center_patch plane other limits below))

-- the steps that lead to a patch that is near
step_across : (plane : Plane) (patch other : ℕ) → IsWithinLimits plane → is_near plane (pos 1) patch other ≡ true → Step plane.x (pxcor_of plane patch) (pxcor_of plane other)
unfolding is_near
step_across plane patch other limits near =
    let in_columns = is_within plane.x (pos 1) (column plane patch) (column plane other) in
    let in_rows = is_within plane.y (pos 1) (row plane patch) (row plane other) in
    step_reaches plane.x (column plane patch) (column plane other) limits.x (column_below plane patch) (column_below plane other) (and_first in_columns in_rows near)

step_up : (plane : Plane) (patch other : ℕ) → IsWithinLimits plane → patch < patches_of plane → other < patches_of plane → is_near plane (pos 1) patch other ≡ true → Step plane.y (pycor_of plane patch) (pycor_of plane other)
unfolding is_near
step_up plane patch other limits below_patch below_other near =
    let n = side plane.y in
    let in_columns = is_within plane.x (pos 1) (column plane patch) (column plane other) in
    let in_rows = is_within plane.y (pos 1) (row plane patch) (row plane other) in
    let row_patch = row_below plane patch below_patch in
    let row_other = row_below plane other below_other in
    let low = step_reaches plane.y (n - 1 - row plane patch) (n - 1 - row plane other) limits.y (omega (arith, row_patch)) (omega (arith, row_other)) (turned plane.y (row plane patch) (row plane other) row_patch row_other ∙ and_second in_columns in_rows near) in
    let P : ℤ → Type 0 = λ from. Step plane.y from (plane.y.least +ℤ pos (n - 1 - row plane other)) in
    let Q : ℤ → Type 0 = λ to. Step plane.y (pycor_of plane patch) to in
    subst Q (sym (from_top plane.y (row plane other) limits.y row_other)) (subst P (sym (from_top plane.y (row plane patch) limits.y row_patch)) low)

pub neighbor_is_step : (plane : Plane) (patch other : ℕ) → IsWithinLimits plane → patch < patches_of plane → Contains (neighbors_of plane patch) other → IsStepAway plane patch other
neighbor_is_step plane patch other limits below held =
    let known = from_neighbors plane patch other held in
    let x = step_across plane patch other limits known.1 in
    let y = step_up plane patch other limits below known.0 known.1 in
    record {
      across = x.by;
      up = y.by;
      short_across = x.short;
      short_up = y.short;
      leads = coordinates_lead plane patch other (pxcor_of plane patch +ℤ x.by) (pycor_of plane patch +ℤ y.by) limits known.0 x.leads y.leads;
    }

-- the point of coordinates that have a patch
record Decoded (plane : Plane) (pxcor pycor : ℤ) (other : ℕ) : Type 0 where
  x : ℤ
  y : ℤ
  is_x : wrapped plane.x (pxcor *ℤ pos one) ≡ Some x
  is_y : wrapped plane.y (pycor *ℤ pos one) ≡ Some y
  is : patch_at plane (record { x = x; y = y }) ≡ other

record BothSome (f : Point → ℕ) (a b : Option ℤ) (other : ℕ) : Type 0 where
  x : ℤ
  y : ℤ
  is_x : a ≡ Some x
  is_y : b ≡ Some y
  is : f (record { x = x; y = y }) ≡ other

both_some : (f : Point → ℕ) (a b : Option ℤ) (other : ℕ) → option_map f (point_of_both a b) ≡ Some other → BothSome f a b other
both_some f (Some x) (Some y) other is = record { x = x; y = y; is_x = refl; is_y = refl; is = some_is is }
both_some f (Some x) None other is = absurd (let wrong = is in cc)
both_some f None b other is = absurd (let wrong = is in cc)

decoded : (plane : Plane) (pxcor pycor : ℤ) (other : ℕ) → patch_by_coordinates plane pxcor pycor ≡ Some other → Decoded plane pxcor pycor other
unfolding patch_by_coordinates wrapped_point
decoded plane pxcor pycor other is =
    let both = both_some (patch_at plane) (wrapped plane.x (pxcor *ℤ pos one)) (wrapped plane.y (pycor *ℤ pos one)) other is in
    record { x = both.x; y = both.y; is_x = both.is_x; is_y = both.is_y; is = both.is }

pub step_is_neighbor : (plane : Plane) (patch other : ℕ) → IsWithinLimits plane → patch < patches_of plane → other ≢ patch → IsStepAway plane patch other → Contains (neighbors_of plane patch) other
unfolding is_near
step_is_neighbor plane patch other limits below apart step =
    let found = decoded plane (pxcor_of plane patch +ℤ step.across) (pycor_of plane patch +ℤ step.up) other step.leads in
    let at : Point = record { x = found.x; y = found.y } in
    let point : IsPointOf plane at = record { x = wrapped_lies_inside plane.x ((pxcor_of plane patch +ℤ step.across) *ℤ pos one) found.x limits.x found.is_x; y = wrapped_lies_inside plane.y ((pycor_of plane patch +ℤ step.up) *ℤ pos one) found.y limits.y found.is_y } in
    let n = side plane.y in
    let below_other = subst (λ p. p < patches_of plane) found.is (patch_at_below plane at limits point) in
    let row_patch = row_below plane patch below in
    let row_other = row_below plane other below_other in
    let index_x = subst (λ p. pos (column plane p) ≡ patch_coordinate found.x -ℤ plane.x.least) found.is (column_at plane at limits point) in
    let index_y = subst (λ p. pos (row plane p) ≡ plane.y.greatest -ℤ patch_coordinate found.y) found.is (row_at plane at limits point) in
    let across = step_is_near plane.x (column plane patch) (column plane other) step.across found.x limits.x (column_below plane patch) step.short_across found.is_x index_x (column_below plane other) in
    let P : ℤ → Type 0 = λ from. wrapped plane.y ((from +ℤ step.up) *ℤ pos one) ≡ Some found.y in
    let up_low = step_is_near plane.y (n - 1 - row plane patch) (n - 1 - row plane other) step.up found.y limits.y (omega (arith, row_patch)) step.short_up (subst P (from_top plane.y (row plane patch) limits.y row_patch) found.is_y) (omega (arith, ints, index_y, row_other, limits.y.low, limits.y.high)) (omega (arith, row_other)) in
    let up = sym (turned plane.y (row plane patch) (row plane other) row_patch row_other) ∙ up_low in
    into_neighbors plane patch other below_other (rw (across, up) refl) (other_from_apart patch other apart)

-- ---- steps on just one axis

-- no step stays
step_stays : (axis : Axis) (from step at : ℤ) → IsAxis axis → IsInside axis (from *ℤ pos one) → step ≡ pos 0 → wrapped axis ((from +ℤ step) *ℤ pos one) ≡ Some at → at ≡ from *ℤ pos one
step_stays axis from step at limits inside none is =
    let P : ℤ → Type 0 = λ z. wrapped axis (z *ℤ pos one) ≡ Some at in
    let same : (from +ℤ step) ≡ from = omega (arith, ints, none) in
    sym (some_same (wrapped_within axis (from *ℤ pos one) limits inside ∙ subst P same is))

stay : (axis : Axis) (from to : ℤ) → IsAxis axis → IsInside axis (from *ℤ pos one) → from ≡ to → wrapped axis ((from +ℤ pos 0) *ℤ pos one) ≡ Some (to *ℤ pos one)
stay axis from to limits inside same =
    let there : (from +ℤ pos 0) ≡ from = omega (arith, ints) in
    rw (there, ← same) (sym (wrapped_within axis (from *ℤ pos one) limits inside))

-- what leads elsewhere is a step
step_is_one : (axis : Axis) (from to : ℤ) (step : Step axis from to) → IsAxis axis → IsInside axis (from *ℤ pos one) → (from ≡ to → ⊥) → unsigned_abs step.by ≡ 1
step_is_one axis from to step limits inside apart =
    elim (cases_lt 0 (unsigned_abs step.by)) [
      | inl some ↦ omega (arith, some, step.short)
      | inr none ↦ absurd (apart (let same = step_stays axis from step.by (to *ℤ pos one) limits inside (omega (arith, ints, none)) step.leads in omega (arith, ints, same)))
    ]

inside_x : (plane : Plane) (patch : ℕ) → IsWithinLimits plane → IsInside plane.x (pxcor_of plane patch *ℤ pos one)
inside_x plane patch limits = center_inside_up plane.x (column plane patch) (pxcor_of plane patch *ℤ pos one) limits.x (column_below plane patch) refl

inside_y : (plane : Plane) (patch : ℕ) → IsWithinLimits plane → patch < patches_of plane → IsInside plane.y (pycor_of plane patch *ℤ pos one)
inside_y plane patch limits below = center_inside_down plane.y (row plane patch) (pycor_of plane patch *ℤ pos one) limits.y (row_below plane patch below) refl

pub neighbor4_is_step : (plane : Plane) (patch other : ℕ) → IsWithinLimits plane → patch < patches_of plane → Contains (neighbors4_of plane patch) other → IsStraightStep plane patch other
neighbor4_is_step plane patch other limits below held =
    let both = from_neighbors4 plane patch other held in
    let known = from_neighbors plane patch other both.0 in
    let differ = (neighbors_are_others plane patch other both.0).0 in
    let x = step_across plane patch other limits known.1 in
    let y = step_up plane patch other limits below known.0 known.1 in
    by_test (column plane other == column plane patch)
    (λ line.
    let same_column = eqb-true (column plane other) (column plane patch) line in
    let turned_to : pycor_of plane patch ≡ pycor_of plane other → ⊥ = λ same_row. differ (same_patch other patch (side plane.x) same_column (omega (arith, ints, same_row))) in
    let single = step_is_one plane.y (pycor_of plane patch) (pycor_of plane other) y limits.y (inside_y plane patch limits below) turned_to in
    record {
      across = pos 0;
      up = y.by;
      single = omega (arith, single);
      leads = coordinates_lead plane patch other (pxcor_of plane patch +ℤ pos 0) (pycor_of plane patch +ℤ y.by) limits known.0
          (stay plane.x (pxcor_of plane patch) (pxcor_of plane other) limits.x (inside_x plane patch limits) (omega (arith, ints, same_column))) y.leads;
    })
    (λ turned_away.
    let same_row = eqb-true (row plane other) (row plane patch) (or_second (column plane other == column plane patch) (row plane other == row plane patch) turned_away both.1) in
    let turned_to : pxcor_of plane patch ≡ pxcor_of plane other → ⊥ = λ same_column. differ (same_patch other patch (side plane.x) (omega (arith, ints, same_column)) same_row) in
    let single = step_is_one plane.x (pxcor_of plane patch) (pxcor_of plane other) x limits.x (inside_x plane patch limits) turned_to in
    record {
      across = x.by;
      up = pos 0;
      single = omega (arith, single);
      leads = coordinates_lead plane patch other (pxcor_of plane patch +ℤ x.by) (pycor_of plane patch +ℤ pos 0) limits known.0 x.leads
          (stay plane.y (pycor_of plane patch) (pycor_of plane other) limits.y (inside_y plane patch limits below) (omega (arith, ints, same_row)));
    })

straight_in_line : (plane : Plane) (patch other : ℕ) → IsWithinLimits plane → patch < patches_of plane → IsStraightStep plane patch other → is_in_line plane patch other ≡ true
straight_in_line plane patch other limits below step =
    let found = decoded plane (pxcor_of plane patch +ℤ step.across) (pycor_of plane patch +ℤ step.up) other step.leads in
    let at : Point = record { x = found.x; y = found.y } in
    let point : IsPointOf plane at = record { x = wrapped_lies_inside plane.x ((pxcor_of plane patch +ℤ step.across) *ℤ pos one) found.x limits.x found.is_x; y = wrapped_lies_inside plane.y ((pycor_of plane patch +ℤ step.up) *ℤ pos one) found.y limits.y found.is_y } in
    let index_x = subst (λ p. pos (column plane p) ≡ patch_coordinate found.x -ℤ plane.x.least) found.is (column_at plane at limits point) in
    let index_y = subst (λ p. pos (row plane p) ≡ plane.y.greatest -ℤ patch_coordinate found.y) found.is (row_at plane at limits point) in
    elim (cases_lt 0 (unsigned_abs step.across)) [
      | inl moves ↦
          let stays = step_stays plane.y (pycor_of plane patch) step.up found.y limits.y (inside_y plane patch limits below) (omega (arith, ints, moves, step.single)) found.is_y in
          let rounded = ap patch_coordinate stays ∙ rounded_whole (pycor_of plane patch) in
          or_right (column plane other == column plane patch) (row plane other == row plane patch) (eq-eqb (row plane other) (row plane patch) (omega (arith, ints, index_y, rounded)))
      | inr still ↦
          let stays = step_stays plane.x (pxcor_of plane patch) step.across found.x limits.x (inside_x plane patch limits) (omega (arith, ints, still)) found.is_x in
          let rounded = ap patch_coordinate stays ∙ rounded_whole (pxcor_of plane patch) in
          let line = eq-eqb (column plane other) (column plane patch) (omega (arith, ints, index_x, rounded)) in
          rw line refl
    ]

pub step_is_neighbor4 : (plane : Plane) (patch other : ℕ) → IsWithinLimits plane → patch < patches_of plane → other ≢ patch → IsStraightStep plane patch other → Contains (neighbors4_of plane patch) other
step_is_neighbor4 plane patch other limits below differ step =
    let away : IsStepAway plane patch other = record { across = step.across; up = step.up; short_across = omega (arith, step.single); short_up = omega (arith, step.single); leads = step.leads } in
    into_neighbors4 plane patch other (step_is_neighbor plane patch other limits below differ away) (straight_in_line plane patch other limits below step)
