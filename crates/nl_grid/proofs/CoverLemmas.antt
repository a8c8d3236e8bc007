-- The box of a radius holds each patch on which one within the radius can stand.
use Rattle.std.proofs.Common.{ℕ, zero, suc, ◌+◌, ◌-◌, ◌*◌, ◌<◌, ◌≤◌, ◌≡◌, min, nat_lt, true, false, int_le, ℤ, pos, ◌+ℤ◌, ◌-ℤ◌, neg_ℤ, ◌≤ℤ◌, ◌<ℤ◌, unsigned_abs, Contains, to_z, of_z, ◌⊎◌, inl, inr, arith, refl, sym, ap, ◌∙◌}
use Rattle.std.specs.Int.{w64, int_div_euclid}
use lib.Signed.{lt_z}
use Rattle.std.proofs.Math.Nat.{add_comm}
use Rattle.std.proofs.lemmas.Nat.{mul-add-lt, div-mul-add, mod-mul-add}
use Rattle.std.proofs.lemmas.Int.{ints}
use Rattle.nl_fixed.specs.Numbers.{one, IsInRange, whole_root}
use Rattle.nl_fixed.proofs.Integers.{floor_low, floor_high, rounded_low, rounded_high, rounded_only}
use Rattle.nl_fixed.proofs.RootLemmas.{root_greatest}
use Rattle.nl_grid.specs.declared.axis.Axis.{Axis}
use Rattle.nl_grid.specs.declared.point.Point.{Point}
use Rattle.nl_grid.specs.Ways.{shorter}
use Rattle.nl_grid.specs.Geometry.{Plane, IsAxis, IsWithinLimits, IsInside, IsPointOf, side, length_of, patches_of, patch_coordinate, patch_at, number_of_patch, column, row, axis_offset, x_offset, y_offset, distance_of, steps_between, is_within, is_near, patches_near, reach_of, box_patches}
use Rattle.nl_grid.proofs.AxisLemmas.{by_bool}
use Rattle.nl_grid.proofs.ShapeLemmas.{column_below, row_below}
use Rattle.nl_grid.proofs.RangeLemmas.{by_test, in_filter}

-- the shorter one is one of the two
pub shorter_is_one : (a b : ℤ) → (shorter a b ≡ a) ⊎ (shorter a b ≡ b)
shorter_is_one a b =
    by_test (nat_lt (unsigned_abs a) (unsigned_abs b))
    (λ first. inl (rw first refl))
    (λ other. by_test (nat_lt (unsigned_abs b) (unsigned_abs a))
    (λ second. inr (rw (other, second) refl))
    (λ tie. by_test (lt_z b a) (λ greater. inl (rw (other, tie, greater) refl)) (λ least. inr (rw (other, tie, least) refl))))

-- an offset is one of the three ways
pub offset_is_way : (axis : Axis) (from to : ℤ) → axis.wraps ≡ true → (axis_offset axis from to ≡ to -ℤ from) ⊎ ((axis_offset axis from to ≡ (to -ℤ from) +ℤ pos (length_of axis)) ⊎ (axis_offset axis from to ≡ (to -ℤ from) -ℤ pos (length_of axis)))
unfolding axis_offset
offset_is_way axis from to wraps =
    let plain = to -ℤ from in
    let up = plain +ℤ pos (length_of axis) in
    let down = plain -ℤ pos (length_of axis) in
    elim (shorter_is_one (shorter plain up) down) [
      | inl first ↦ elim (shorter_is_one plain up) [ inl one ↦ inl (rw wraps (first ∙ one)) | inr two ↦ inr (inl (rw wraps (first ∙ two))) ]
      | inr second ↦ inr (inr (rw wraps second))
    ]

square_above : (a : ℕ) → a ≤ a * a
square_above zero = omega arith
square_above (suc a) = omega arith

-- a root is no less than each of its parts
pub part_of_root : (a b root : ℕ) → root ≡ whole_root (a * a + b * b) → a ≤ root
unfolding whole_root
part_of_root a b root is =
    let n = a * a + b * b in
    let most = root_greatest n n a (omega (arith, square_above a)) (omega arith) in
    rw is most

-- the patches of two coordinates are no farther apart than these, rounded up
rounded_apart : (a b : ℤ) (radius : ℤ) → (b -ℤ a) ≤ℤ radius → (patch_coordinate b -ℤ patch_coordinate a) <ℤ reach_of radius
rounded_apart a b radius near =
    let some : 0 < one = omega arith in
    omega (arith, ints, near, rounded_high b one some, rounded_low a one some, floor_low (neg_ℤ radius) one some)

pub rounded_near : (a b : ℤ) (radius : ℤ) → pos (unsigned_abs (b -ℤ a)) ≤ℤ radius → pos (unsigned_abs (patch_coordinate b -ℤ patch_coordinate a)) ≤ℤ reach_of radius
rounded_near a b radius near = omega (arith, ints, rounded_apart a b radius (omega (arith, ints, near)), rounded_apart b a radius (omega (arith, ints, near)))

-- a length more on the axis is a side more in patches
rounded_side : (axis : Axis) (a : ℤ) → patch_coordinate (a +ℤ pos (length_of axis)) ≡ patch_coordinate a +ℤ pos (side axis)
rounded_side axis a =
    let some : 0 < one = omega arith in
    sym (rounded_only (a +ℤ pos (length_of axis)) one (patch_coordinate a +ℤ pos (side axis)) some (omega (arith, ints, rounded_low a one some)) (omega (arith, ints, rounded_high a one some)))

pub le_true : (a b : ℤ) → a ≤ℤ b → int_le a b ≡ true
le_true a b h = grind (arith, ints)

pub offset_flat : (axis : Axis) (from to : ℤ) → axis.wraps ≡ false → axis_offset axis from to ≡ to -ℤ from
unfolding axis_offset
offset_flat axis from to flat = rw flat refl

-- on one axis: two indices are within the reach of a radius that the offset doesn't pass
pub axis_covers : (axis : Axis) (at to radius : ℤ) (i j : ℕ) → IsAxis axis → i < side axis → j < side axis → (i - j) + (j - i) ≡ unsigned_abs (patch_coordinate to -ℤ patch_coordinate at) → pos (unsigned_abs (axis_offset axis at to)) ≤ℤ radius → is_within axis (reach_of radius) i j ≡ true
axis_covers axis at to radius i j limits below_i below_j apart near =
    let plain = (i - j) + (j - i) in
    by_bool axis.wraps
    (λ wraps.
    let steps : steps_between axis i j ≡ min plain (side axis - plain) = rw wraps refl in
    let small : pos (min plain (side axis - plain)) ≤ℤ reach_of radius =
    elim (offset_is_way axis at to wraps) [
      | inl straight ↦ omega (arith, ints, apart, rounded_near at to radius (rw (← straight) near))
      | inr round ↦ elim round [
        | inl up ↦ omega (arith, ints, apart, below_i, below_j, rounded_side axis to, rounded_near at (to +ℤ pos (length_of axis)) radius (omega (arith, ints, near, up)))
        | inr down ↦ omega (arith, ints, apart, below_i, below_j, rounded_side axis at, rounded_near (at +ℤ pos (length_of axis)) to radius (omega (arith, ints, near, down)))
      ]
    ] in
    rw steps (le_true (pos (min plain (side axis - plain))) (reach_of radius) small))
    (λ flat.
    let steps : steps_between axis i j ≡ plain = rw flat refl in
    let straight = offset_flat axis at to flat in
    rw steps (le_true (pos plain) (reach_of radius) (omega (arith, ints, apart, rounded_near at to radius (omega (arith, ints, near, straight))))))

-- ---- the indices of the patch of a point

rounded_inside : (axis : Axis) (at : ℤ) → IsAxis axis → IsInside axis at → (axis.least ≤ℤ patch_coordinate at) × (patch_coordinate at ≤ℤ axis.greatest)
rounded_inside axis at limits inside =
    let some : 0 < one = omega arith in
    let low = rounded_low at one some in
    let high = rounded_high at one some in
    (omega (arith, ints, low, inside.from), omega (arith, ints, high, inside.below))

pub column_at : (plane : Plane) (at : Point) → IsWithinLimits plane → IsPointOf plane at → pos (column plane (patch_at plane at)) ≡ patch_coordinate at.x -ℤ plane.x.least
unfolding patch_at number_of_patch
column_at plane at limits point =
    let across = unsigned_abs (patch_coordinate at.x -ℤ plane.x.least) in
    let up = unsigned_abs (plane.y.greatest -ℤ patch_coordinate at.y) in
    let ends = rounded_inside plane.x at.x limits.x point.x in
    let below : across < side plane.x = omega (arith, ints, ends.0, ends.1) in
    let is = mod-mul-add up (side plane.x) across below in
    rw is (omega (arith, ints, ends.0))

pub row_at : (plane : Plane) (at : Point) → IsWithinLimits plane → IsPointOf plane at → pos (row plane (patch_at plane at)) ≡ plane.y.greatest -ℤ patch_coordinate at.y
unfolding patch_at number_of_patch
row_at plane at limits point =
    let across = unsigned_abs (patch_coordinate at.x -ℤ plane.x.least) in
    let up = unsigned_abs (plane.y.greatest -ℤ patch_coordinate at.y) in
    let ends_x = rounded_inside plane.x at.x limits.x point.x in
    let ends = rounded_inside plane.y at.y limits.y point.y in
    let below : across < side plane.x = omega (arith, ints, ends_x.0, ends_x.1) in
    let is = div-mul-add up (side plane.x) across below in
    rw is (omega (arith, ints, ends.1))

pub patch_at_below : (plane : Plane) (at : Point) → IsWithinLimits plane → IsPointOf plane at → patch_at plane at < patches_of plane
unfolding patch_at number_of_patch
patch_at_below plane at limits point =
    let across = unsigned_abs (patch_coordinate at.x -ℤ plane.x.least) in
    let up = unsigned_abs (plane.y.greatest -ℤ patch_coordinate at.y) in
    let ends_x = rounded_inside plane.x at.x limits.x point.x in
    let ends = rounded_inside plane.y at.y limits.y point.y in
    let left : across < side plane.x = omega (arith, ints, ends_x.0, ends_x.1) in
    let high : up < side plane.y = omega (arith, ints, ends.0, ends.1) in
    omega (arith, mul-add-lt up (side plane.x) across (side plane.y) high left)

-- ---- both axes

offsets_near : (plane : Plane) (at to : Point) (radius : ℤ) → pos (distance_of plane at to) ≤ℤ radius → (pos (unsigned_abs (x_offset plane at to)) ≤ℤ radius) × (pos (unsigned_abs (y_offset plane at to)) ≤ℤ radius)
unfolding distance_of
offsets_near plane at to radius near =
    let x = unsigned_abs (x_offset plane at to) in
    let y = unsigned_abs (y_offset plane at to) in
    let turned = ap whole_root (add_comm (x * x) (y * y)) in
    (omega (arith, ints, near, part_of_root x y (whole_root (x * x + y * y)) refl), omega (arith, ints, near, part_of_root y x (whole_root (x * x + y * y)) turned))

pub box_covers : (plane : Plane) (at to : Point) (radius : ℤ) → IsWithinLimits plane → IsPointOf plane at → IsPointOf plane to → pos (distance_of plane at to) ≤ℤ radius → Contains (box_patches plane at radius) (patch_at plane to)
unfolding box_patches patches_near is_near
box_covers plane at to radius limits from_point to_point near =
    let here = patch_at plane at in
    let there = patch_at plane to in
    let offsets = offsets_near plane at to radius near in
    let below_here = row_below plane here (patch_at_below plane at limits from_point) in
    let below_there = row_below plane there (patch_at_below plane to limits to_point) in
    let across = axis_covers plane.x at.x to.x radius (column plane here) (column plane there) limits.x (column_below plane here) (column_below plane there)
    (omega (arith, ints, column_at plane at limits from_point, column_at plane to limits to_point)) offsets.0 in
    let up = axis_covers plane.y at.y to.y radius (row plane here) (row plane there) limits.y below_here below_there
    (omega (arith, ints, row_at plane at limits from_point, row_at plane to limits to_point)) offsets.1 in
    in_filter (is_near plane (reach_of radius) here) 0 (patches_of plane) there (omega arith) (omega (arith, patch_at_below plane to limits to_point)) (rw (across, up) refl)

pub box_is : (plane : Plane) (at : Point) (radius : ℤ) → patches_near plane (reach_of radius) (patch_at plane at) ≡ box_patches plane at radius
unfolding box_patches
box_is plane at radius = refl

-- the reach of a radius as the code works it out
pub reach_is : (radius count quotient : ℤ) → IsInRange count → count ≡ radius → quotient ≡ int_div_euclid (to_z w64 (of_z w64 (pos 0 -ℤ to_z w64 (of_z w64 count)))) (pos 1000000) → to_z w64 (of_z w64 (pos 1 -ℤ to_z w64 (of_z w64 quotient))) ≡ reach_of radius
reach_is radius count quotient range is is_quotient =
    let some : 0 < 1000000 = omega arith in
    let opposite : to_z w64 (of_z w64 (pos 0 -ℤ to_z w64 (of_z w64 count))) ≡ neg_ℤ radius = omega (arith, ints) in
    let floor = is_quotient ∙ ap (λ z. int_div_euclid z (pos 1000000)) opposite in
    omega (arith, ints, floor, floor_low (neg_ℤ radius) 1000000 some, floor_high (neg_ℤ radius) 1000000 some)
