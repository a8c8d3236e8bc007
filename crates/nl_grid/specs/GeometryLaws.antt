-- What the formulas of the geometry mean: laws above the definitions.
use Rattle.std.specs.Prelude.{ℕ, ◌+◌, ◌<◌, ◌≤◌, ◌≡◌, ◌≢◌, ◌↔◌, true, false, ℤ, pos, ◌+ℤ◌, ◌-ℤ◌, ◌*ℤ◌, ◌≤ℤ◌, unsigned_abs, length, Some, None, Ok, Contains}
use Rattle.std.specs.List.Sorted.{IsStrictlyIncreasing}
use Rattle.nl_grid.specs.declared.axis.Axis.{Axis}
use Rattle.nl_grid.specs.declared.point.Point.{Point}
use Rattle.nl_grid.specs.Geometry.{Plane, IsAxis, IsWithinLimits, IsInside, IsPointOf, length_of, patches_of, wrapped, point_beside, patch_coordinate, patch_at, center_of, pxcor_of, pycor_of, patch_by_coordinates, axis_offset, x_offset, y_offset, distance_of, ArePatchesOf, neighbors_of, neighbors4_of, box_patches}

-- ---- points and patches

abbrev pub CentersLieOnTheirPatches : Type 0
CentersLieOnTheirPatches =
    (plane : Plane) (patch : ℕ) → IsWithinLimits plane → patch < patches_of plane →
    patch_at plane (center_of plane patch) ≡ patch

abbrev pub PatchesAreOfTheWorld : Type 0
PatchesAreOfTheWorld =
    (plane : Plane) (at : Point) → IsWithinLimits plane → IsPointOf plane at →
    patch_at plane at < patches_of plane

-- the patch of a point has the point's coordinates, rounded
pub record HasRoundedCoordinates (plane : Plane) (at : Point) (patch : ℕ) : Type 0 where
  pub x : pxcor_of plane patch ≡ patch_coordinate at.x
  pub y : pycor_of plane patch ≡ patch_coordinate at.y

abbrev pub PatchesHaveRoundedCoordinates : Type 0
PatchesHaveRoundedCoordinates =
    (plane : Plane) (at : Point) → IsWithinLimits plane → IsPointOf plane at →
    HasRoundedCoordinates plane at (patch_at plane at)

-- ---- wrapping

-- a coordinate moved by whole sides into the axis, which on an axis that doesn't wrap is no move
pub record IsMovedInside (axis : Axis) (from to : ℤ) : Type 0 where
  pub inside : IsInside axis to
  pub sides : ℤ
  pub moved : to ≡ from +ℤ (pos (length_of axis) *ℤ sides)
  pub flat : axis.wraps ≡ false → to ≡ from

abbrev pub WrappingMovesBySides : Type 0
WrappingMovesBySides =
    (axis : Axis) (from to : ℤ) → IsAxis axis → wrapped axis from ≡ Some to → IsMovedInside axis from to

abbrev pub WrappingHasNoPoint : Type 0
WrappingHasNoPoint =
    (axis : Axis) (from : ℤ) →
    (wrapped axis from ≡ None) ↔ ((axis.wraps ≡ false) × (IsInside axis from → ⊥))

-- ---- offsets and distances

-- a way is at least as long as the offset, and not greater where it is as long
pub record IsNoShorter (way offset : ℤ) : Type 0 where
  pub size : unsigned_abs offset ≤ unsigned_abs way
  pub tie : unsigned_abs offset ≡ unsigned_abs way → way ≤ℤ offset

-- the offset is the plain difference, or that and a length more or less on an axis that wraps, and none of these is
-- shorter
pub record IsShortest (axis : Axis) (plain offset : ℤ) : Type 0 where
  pub flat : axis.wraps ≡ false → offset ≡ plain
  pub lengths : ℤ
  pub is : offset ≡ plain +ℤ (pos (length_of axis) *ℤ lengths)
  pub straight : axis.wraps ≡ true → IsNoShorter plain offset
  pub up : axis.wraps ≡ true → IsNoShorter (plain +ℤ pos (length_of axis)) offset
  pub down : axis.wraps ≡ true → IsNoShorter (plain -ℤ pos (length_of axis)) offset

abbrev pub OffsetsAreShortest : Type 0
OffsetsAreShortest = (axis : Axis) (from to : ℤ) → IsShortest axis (to -ℤ from) (axis_offset axis from to)

-- the offset from a point to another one leads from the one to the other
abbrev pub OffsetsLead : Type 0
OffsetsLead =
    (plane : Plane) (from to : Point) → IsWithinLimits plane → IsPointOf plane from → IsPointOf plane to →
    point_beside plane from (x_offset plane from to) (y_offset plane from to) ≡ Ok (Some to)

abbrev pub DistancesAreMutual : Type 0
DistancesAreMutual =
    (plane : Plane) (from to : Point) → distance_of plane from to ≡ distance_of plane to from

-- ---- neighbors

-- a step on each axis leads from the patch to the other one
pub record IsStepAway (plane : Plane) (patch other : ℕ) : Type 0 where
  pub across : ℤ
  pub up : ℤ
  pub short_across : unsigned_abs across ≤ 1
  pub short_up : unsigned_abs up ≤ 1
  pub leads :
      patch_by_coordinates plane (pxcor_of plane patch +ℤ across) (pycor_of plane patch +ℤ up) ≡ Some other

abbrev pub NeighborsAreSteps : Type 0
NeighborsAreSteps =
    (plane : Plane) (patch other : ℕ) → IsWithinLimits plane → patch < patches_of plane →
    Contains (neighbors_of plane patch) other ↔ ((other ≢ patch) × IsStepAway plane patch other)

abbrev pub NeighborsAreOthers : Type 0
NeighborsAreOthers =
    (plane : Plane) (patch other : ℕ) → Contains (neighbors_of plane patch) other →
    (other ≢ patch) × (other < patches_of plane)

abbrev pub NeighborsAreMutual : Type 0
NeighborsAreMutual =
    (plane : Plane) (patch other : ℕ) → patch < patches_of plane →
    Contains (neighbors_of plane patch) other → Contains (neighbors_of plane other) patch

abbrev pub NeighborsAreFew : Type 0
NeighborsAreFew =
    (plane : Plane) (patch : ℕ) → patch < patches_of plane → length (neighbors_of plane patch) ≤ 8

abbrev pub NeighborsAscend : Type 0
NeighborsAscend = (plane : Plane) (patch : ℕ) → IsStrictlyIncreasing (neighbors_of plane patch)

-- ---- neighbors on one axis

-- a step on just one axis leads from the patch to the other one
pub record IsStraightStep (plane : Plane) (patch other : ℕ) : Type 0 where
  pub across : ℤ
  pub up : ℤ
  pub single : unsigned_abs across + unsigned_abs up ≡ 1
  pub leads :
      patch_by_coordinates plane (pxcor_of plane patch +ℤ across) (pycor_of plane patch +ℤ up) ≡ Some other

abbrev pub Neighbors4AreSteps : Type 0
Neighbors4AreSteps =
    (plane : Plane) (patch other : ℕ) → IsWithinLimits plane → patch < patches_of plane →
    Contains (neighbors4_of plane patch) other ↔ ((other ≢ patch) × IsStraightStep plane patch other)

abbrev pub Neighbors4AreNeighbors : Type 0
Neighbors4AreNeighbors =
    (plane : Plane) (patch other : ℕ) →
    Contains (neighbors4_of plane patch) other → Contains (neighbors_of plane patch) other

abbrev pub Neighbors4AreMutual : Type 0
Neighbors4AreMutual =
    (plane : Plane) (patch other : ℕ) → patch < patches_of plane →
    Contains (neighbors4_of plane patch) other → Contains (neighbors4_of plane other) patch

abbrev pub Neighbors4AreFew : Type 0
Neighbors4AreFew =
    (plane : Plane) (patch : ℕ) → patch < patches_of plane → length (neighbors4_of plane patch) ≤ 4

abbrev pub Neighbors4Ascend : Type 0
Neighbors4Ascend = (plane : Plane) (patch : ℕ) → IsStrictlyIncreasing (neighbors4_of plane patch)

-- ---- boxes

abbrev pub BoxesAscend : Type 0
BoxesAscend =
    (plane : Plane) (at : Point) (radius : ℤ) → IsStrictlyIncreasing (box_patches plane at radius)

abbrev pub BoxesAreOfTheWorld : Type 0
BoxesAreOfTheWorld = (plane : Plane) (at : Point) (radius : ℤ) → ArePatchesOf plane (box_patches plane at radius)
