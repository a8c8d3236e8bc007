-- The geometry of a world: an axis of patches a side, points in millionths, and patches by number from the top left.
-- All of it is said over unbounded whole numbers.
use Rattle.std.specs.Prelude.{ℕ, ◌+◌, ◌-◌, ◌*◌, ◌/◌, ◌%◌, ◌<◌, ◌≤◌, ◌≡◌, ℤ, pos, negsuc, ◌+ℤ◌, ◌-ℤ◌, ◌*ℤ◌, neg_ℤ, ◌≤ℤ◌, ◌<ℤ◌, Bool, ◌&&◌, ◌||◌, not, ◌==◌, int_le, int_lt, unsigned_abs, min, filter, slice_get, Contains, Option, Some, None, IfSome, Result, Ok, Err, IfOk, if◌then◌else◌}
use Rattle.std.specs.List.{range_with_len}
use Rattle.std.specs.Option.{option_map}
use Rattle.std.specs.Result.{result_ok}
use Rattle.nl_fixed.specs.declared.number.NumFault.{NumFault}
use Rattle.nl_fixed.specs.Sines.{sine_of, cosine_of, heading_of}
use Rattle.nl_fixed.specs.Numbers.{one, rounded_quotient, floor_quotient, whole_root, sum_of}
use Rattle.nl_grid.specs.Nouns.{Patches}
use Rattle.nl_grid.specs.Ways.{shorter}
use Rattle.nl_grid.specs.declared.axis.Axis.{Axis}
use Rattle.nl_grid.specs.declared.point.Point.{Point}

-- a world's shape: its two axes
pub record Plane : Type 0 where
  pub x : Axis
  pub y : Axis

-- the plane with these outermost coordinates
abbrev pub plane_of : ℤ → ℤ → ℤ → ℤ → Bool → Bool → Plane
plane_of min_x max_x min_y max_y wrap_x wrap_y = record {
  x = record { least = min_x; greatest = max_x; wraps = wrap_x };
  y = record { least = min_y; greatest = max_y; wraps = wrap_y };
}

-- ---- sides and limits

-- how many patches lie along an axis, whose least coordinate isn't above the greatest
abbrev pub side : Axis → ℕ
side axis = unsigned_abs (axis.greatest -ℤ axis.least) + 1

abbrev pub patches_of : Plane → ℕ
patches_of plane = side plane.x * side plane.y

-- 0 is a coordinate of the axis, and it has at most 1,001 patches
pub record IsAxis (axis : Axis) : Type 0 where
  pub low : axis.least ≤ℤ pos 0
  pub high : pos 0 ≤ℤ axis.greatest
  pub few : side axis ≤ 1001

-- both axes are as said, and the world has at most 262,144 patches
pub record IsWithinLimits (plane : Plane) : Type 0 where
  pub x : IsAxis plane.x
  pub y : IsAxis plane.y
  pub few : patches_of plane ≤ 262144

-- ---- points on an axis, in millionths

-- half a patch
abbrev pub half : ℕ
half = 500_000

-- where an axis begins: half a patch below its least coordinate
abbrev pub begin_of : Axis → ℤ
begin_of axis = (axis.least *ℤ pos one) -ℤ pos half

-- where it ends: half a patch above its greatest coordinate
abbrev pub end_of : Axis → ℤ
end_of axis = (axis.greatest *ℤ pos one) +ℤ pos half

-- how long it is
abbrev pub length_of : Axis → ℕ
length_of axis = side axis * one

-- a coordinate is inside from the beginning on and below the end
pub record IsInside (axis : Axis) (at : ℤ) : Type 0 where
  pub from : begin_of axis ≤ℤ at
  pub below : at <ℤ end_of axis

-- both coordinates of a point are inside
pub record IsPointOf (plane : Plane) (at : Point) : Type 0 where
  pub x : IsInside plane.x at.x
  pub y : IsInside plane.y at.y

-- the coordinate moved by whole sides into the axis
unfoldable pub moved_inside : Axis → ℤ → ℤ
moved_inside axis at =
    at -ℤ (pos (length_of axis) *ℤ floor_quotient (at -ℤ begin_of axis) (length_of axis))

-- a coordinate of the axis: on one that wraps each is moved inside, on another one it has to be inside
unfoldable pub wrapped : Axis → ℤ → Option ℤ
wrapped axis at =
    if axis.wraps then Some (moved_inside axis at)
    else if int_le (begin_of axis) at && int_lt at (end_of axis) then Some at else None

abbrev pub point_of_both : Option ℤ → Option ℤ → Option Point
point_of_both (Some x) (Some y) = Some (record { x = x; y = y })
point_of_both (Some x) None = None
point_of_both None y = None

-- the point of a plane that has these coordinates
unfoldable pub wrapped_point : Plane → ℤ → ℤ → Option Point
wrapped_point plane x y = point_of_both (wrapped plane.x x) (wrapped plane.y y)

-- ---- points by an offset, and by a heading and a distance

-- the point of two sums: the fault of the first one that has none, and else the point of the plane that has them
-- as coordinates, if there is one
abbrev pub point_of_sums : Plane → Result ℤ NumFault → Result ℤ NumFault → Result (Option Point) NumFault
point_of_sums plane (Ok x) (Ok y) = Ok (wrapped_point plane x y)
point_of_sums plane (Ok x) (Err fault) = Err fault
point_of_sums plane (Err fault) y = Err fault

-- the point at this offset from a point
unfoldable pub point_beside : Plane → Point → ℤ → ℤ → Result (Option Point) NumFault
point_beside plane at dx dy = point_of_sums plane (sum_of at.x dx) (sum_of at.y dy)

-- how far a distance leads along an axis, by the sine or the cosine of its heading
abbrev pub share_of : ℤ → ℤ → ℤ
share_of distance sine = rounded_quotient (distance *ℤ sine) one

-- the point so far ahead of a point under a heading
unfoldable pub point_ahead : Plane → Point → ℤ → ℤ → Result (Option Point) NumFault
point_ahead plane at heading distance =
    point_beside plane at (share_of distance (sine_of heading)) (share_of distance (cosine_of heading))

-- what was found is a point of the plane
abbrev pub FindsPointOf : Plane → Result (Option Point) NumFault → Type 0
FindsPointOf plane found = IfOk found (λ at. IfSome at (IsPointOf plane))

-- ---- patches by number

-- the coordinate of the patch on which a point stands: the nearest whole number, a half upwards
abbrev pub patch_coordinate : ℤ → ℤ
patch_coordinate at = rounded_quotient at one

-- the number of the patch at these coordinates: row by row from the top, each from the left
unfoldable pub number_of_patch : Plane → ℤ → ℤ → ℕ
number_of_patch plane pxcor pycor =
    unsigned_abs (plane.y.greatest -ℤ pycor) * side plane.x + unsigned_abs (pxcor -ℤ plane.x.least)

-- the patch on which a point stands
unfoldable pub patch_at : Plane → Point → ℕ
patch_at plane at = number_of_patch plane (patch_coordinate at.x) (patch_coordinate at.y)

-- the column of a patch, counted from the left, and its row, counted from the top
abbrev pub column : Plane → ℕ → ℕ
column plane patch = patch % side plane.x

abbrev pub row : Plane → ℕ → ℕ
row plane patch = patch / side plane.x

-- its coordinates
abbrev pub pxcor_of : Plane → ℕ → ℤ
pxcor_of plane patch = plane.x.least +ℤ pos (column plane patch)

abbrev pub pycor_of : Plane → ℕ → ℤ
pycor_of plane patch = plane.y.greatest -ℤ pos (row plane patch)

-- its center
unfoldable pub center_of : Plane → ℕ → Point
center_of plane patch = record {
  x = pxcor_of plane patch *ℤ pos one;
  y = pycor_of plane patch *ℤ pos one;
}

-- the patch at whole coordinates, where they are those of a point of the plane
unfoldable pub patch_by_coordinates : Plane → ℤ → ℤ → Option ℕ
patch_by_coordinates plane pxcor pycor =
    option_map (patch_at plane) (wrapped_point plane (pxcor *ℤ pos one) (pycor *ℤ pos one))

-- ---- offset, distance and direction

-- how far a coordinate is from another one: the difference, and on an axis that wraps the shortest of it, it plus the
-- length of the axis and it minus that
unfoldable pub axis_offset : Axis → ℤ → ℤ → ℤ
axis_offset axis from to =
    let plain = to -ℤ from in
    if axis.wraps
    then shorter (shorter plain (plain +ℤ pos (length_of axis))) (plain -ℤ pos (length_of axis))
    else plain

-- the offset from a point to another one, along both axes
abbrev pub x_offset : Plane → Point → Point → ℤ
x_offset plane from to = axis_offset plane.x from.x to.x

abbrev pub y_offset : Plane → Point → Point → ℤ
y_offset plane from to = axis_offset plane.y from.y to.y

abbrev pub square : ℤ → ℕ
square n = unsigned_abs n * unsigned_abs n

-- how far apart two points are: the root of the sum of the squares, cut to millionths
unfoldable pub distance_of : Plane → Point → Point → ℕ
distance_of plane from to = whole_root (square (x_offset plane from to) + square (y_offset plane from to))

-- the heading of the offset: none where it is 0 on both axes
unfoldable pub heading_between : Plane → Point → Point → Option ℤ
heading_between plane from to = result_ok (heading_of (x_offset plane from to) (y_offset plane from to))

-- two points of the plane are one
pub record IsSamePoint (plane : Plane) (from to : Point) : Type 0 where
  pub x : x_offset plane from to ≡ pos 0
  pub y : y_offset plane from to ≡ pos 0

-- ---- patches near a patch

-- how many steps lead from one index of an axis to another, counted from its first patch: straight on, and
-- on an axis with so many patches the shorter way round
abbrev pub apart : ℕ → ℕ → ℕ
apart i j = (i - j) + (j - i)

abbrev pub apart_round : ℕ → ℕ → ℕ → ℕ
apart_round length i j = min (apart i j) (length - apart i j)

-- the same on an axis that wraps or doesn't
abbrev pub steps_between : Axis → ℕ → ℕ → ℕ
steps_between axis i j = if axis.wraps then apart_round (side axis) i j else apart i j

abbrev pub is_within : Axis → ℤ → ℕ → ℕ → Bool
is_within axis reach i j = int_le (pos (steps_between axis i j)) reach

-- at most so many steps on each axis lead from a patch to another one
unfoldable pub is_near : Plane → ℤ → ℕ → ℕ → Bool
is_near plane reach patch other =
    is_within plane.x reach (column plane patch) (column plane other)
    && is_within plane.y reach (row plane patch) (row plane other)

-- all patches, in order
abbrev pub all_patches : Plane → Patches
all_patches plane = range_with_len 0 (patches_of plane)

-- patches of the plane
abbrev pub ArePatchesOf : Plane → Patches → Type 0
ArePatchesOf plane patches = (patch : ℕ) → Contains patches patch → patch < patches_of plane

-- the patches at most so many steps away, in order
unfoldable pub patches_near : Plane → ℤ → ℕ → Patches
patches_near plane reach patch = filter (is_near plane reach patch) (all_patches plane)

-- the neighbors of a patch: the others at most one step away on each axis
unfoldable pub neighbors_of : Plane → ℕ → Patches
neighbors_of plane patch = filter (λ other. not (other == patch)) (patches_near plane (pos 1) patch)

-- a patch is in the column or in the row of another one
abbrev pub is_in_line : Plane → ℕ → ℕ → Bool
is_in_line plane patch other =
    (column plane other == column plane patch) || (row plane other == row plane patch)

-- the neighbors that are one step away on one axis
unfoldable pub neighbors4_of : Plane → ℕ → Patches
neighbors4_of plane patch = filter (is_in_line plane patch) (neighbors_of plane patch)

-- how many indices of an axis are at most so many steps away, where no end and no other way round is near
abbrev pub steps_across : ℤ → ℕ
steps_across (pos reach) = 2 * reach + 1
steps_across (negsuc reach) = 0

-- ---- the box of a radius

-- a radius in millionths, rounded up to whole steps, and one more
abbrev pub reach_of : ℤ → ℤ
reach_of radius = neg_ℤ (floor_quotient (neg_ℤ radius) one) +ℤ pos 1

-- the patches within the radius of a point on each axis, in order
unfoldable pub box_patches : Plane → Point → ℤ → Patches
box_patches plane at radius = patches_near plane (reach_of radius) (patch_at plane at)

-- the patches are all on which a point within the radius of a point lies
abbrev pub CoversRadius : Plane → Point → ℤ → Patches → Type 0
CoversRadius plane at radius patches =
    (to : Point) → IsPointOf plane to → pos (distance_of plane at to) ≤ℤ radius →
    Contains patches (patch_at plane to)

-- what comes after a patch in a list of patches is this one, or none where it is the last
abbrev pub ComesAfter : Patches → ℕ → Option ℕ → Type 0
ComesAfter patches patch next =
    (index : ℕ) → slice_get patches index ≡ Some patch → next ≡ slice_get patches (index + 1)

-- a number of patches that no box of the radius passes
abbrev pub most_in_box : ℤ → ℕ
most_in_box radius = steps_across (reach_of radius) * steps_across (reach_of radius)
