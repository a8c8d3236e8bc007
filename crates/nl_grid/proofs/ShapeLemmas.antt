-- Points and patches of a plane.
use Rattle.std.proofs.Common.{ℕ, Bool, FitsSigned, ◌+◌, ◌-◌, ◌*◌, ◌/◌, ◌<◌, ◌≤◌, ◌≡◌, ℤ, pos, ◌-ℤ◌, ◌*ℤ◌, unsigned_abs, to_z, of_z, Some, inl, inr, subst, arith, refl, sym, ap, ap₂, ◌∙◌}
use Rattle.std.specs.Int.{w64}
use Rattle.std.proofs.lemmas.Int.{ints}
use Rattle.std.proofs.lemmas.Bool.{cases_lt}
use Rattle.std.proofs.lemmas.Nat.{mul-add-lt, mul-le, mod_below, row-Below}
use Rattle.nl_fixed.specs.Numbers.{limit, one, IsInRange, number_at, whole_root}
use Rattle.nl_fixed.proofs.RootLemmas.{root_square}
use Rattle.nl_grid.specs.declared.axis.Axis.{Axis}
use Rattle.nl_grid.specs.declared.point.Point.{Point}
use Rattle.nl_grid.specs.Geometry.{Plane, IsAxis, IsWithinLimits, IsInside, IsPointOf, side, patches_of, patch_coordinate, number_of_patch, patch_at, plane_of, wrapped_point, patch_by_coordinates, axis_offset, x_offset, y_offset, distance_of, column, row, pxcor_of, pycor_of, center_of}
use Rattle.nl_grid.proofs.WayLemmas.{offset_small}

-- the patch by its indices on the axes
pub patch_is : (plane : Plane) (at : Point) (across up patch : ℕ) → IsWithinLimits plane → pos across ≡ patch_coordinate at.x -ℤ plane.x.least → pos up ≡ patch_coordinate at.y -ℤ plane.y.least → up < side plane.y → patch ≡ (side plane.y - 1 - up) * side plane.x + across → patch ≡ patch_at plane at
unfolding patch_at number_of_patch
patch_is plane at across up patch limits is_across is_up below is =
    let is_row : side plane.y - 1 - up ≡ unsigned_abs (plane.y.greatest -ℤ patch_coordinate at.y) = omega (arith, ints, is_up, limits.y.low, limits.y.high) in
    let is_column : across ≡ unsigned_abs (patch_coordinate at.x -ℤ plane.x.least) = omega (arith, ints, is_across) in
    is ∙ ap (λ r. r * side plane.x + across) is_row ∙ ap (λ c. unsigned_abs (plane.y.greatest -ℤ patch_coordinate at.y) * side plane.x + c) is_column

-- it is one of the plane
pub patch_below : (plane : Plane) (across up patch : ℕ) → across < side plane.x → up < side plane.y → patch ≡ (side plane.y - 1 - up) * side plane.x + across → patch < patches_of plane
patch_below plane across up patch left below is =
    let row_below : side plane.y - 1 - up < side plane.y = omega arith in
    omega (arith, is, mul-add-lt (side plane.y - 1 - up) (side plane.x) across (side plane.y) row_below left)

pub center_is : (plane : Plane) (patch : ℕ) (x y : ℤ) → x ≡ pxcor_of plane patch *ℤ pos one → y ≡ pycor_of plane patch *ℤ pos one → record { x = x; y = y } ≡ center_of plane patch
unfolding center_of
center_is plane patch x y is_x is_y = rw (is_x, is_y) refl

-- a center as the code makes it
pub center_number : (axis : Axis) (pycor number : ℤ) (index : ℕ) → IsAxis axis → index < side axis → number ≡ to_z w64 (of_z w64 (pycor *ℤ pos 1000000)) → pycor ≡ axis.greatest -ℤ pos index → number ≡ (axis.greatest -ℤ pos index) *ℤ pos one
center_number axis pycor number index limits below is is_pycor = omega (arith, ints, is, is_pycor, below, limits.low, limits.high, limits.few)

-- the indices of a patch of the plane
pub column_below : (plane : Plane) (patch : ℕ) → column plane patch < side plane.x
column_below plane patch = mod_below patch (side plane.x) (omega arith)

pub row_below : (plane : Plane) (patch : ℕ) → patch < patches_of plane → row plane patch < side plane.y
row_below plane patch below = (row-Below patch (side plane.x) (side plane.x) (side plane.y) below (omega arith)).1

-- the same of the axes that make the plane, as the code divides
pub row_within : (plane : Plane) (x y : Axis) (patch width : ℕ) → record { x = x; y = y } ≡ plane → patch < patches_of plane → width ≡ side x → patch / width < side y
row_within plane x y patch width is below is_width =
    let P : Plane → Type 0 = λ p. patch < patches_of p in
    rw is_width (row_below (record { x = x; y = y }) patch (subst P (sym is) below))

-- ---- distances

pub offset_within : (axis : Axis) (from to : ℤ) → IsAxis axis → IsInside axis from → IsInside axis to → unsigned_abs (axis_offset axis from to) ≤ 1001000000
offset_within axis from to limits a b = omega (arith, ints, offset_small axis from to, limits.low, limits.high, limits.few, a.from, a.below, b.from, b.below)

by_le : {P : Type 0} (a b : ℕ) → (a ≤ b → P) → (b + 1 ≤ a → P) → P
by_le a b low high = elim (cases_lt b a) [ inl above ↦ high (omega arith) | inr below ↦ low below ]

pub root_small : (a b root : ℕ) → a ≤ 1001000000 → b ≤ 1001000000 → root ≡ whole_root (a * a + b * b) → root ≤ 2000000000
unfolding whole_root
root_small a b root small_a small_b is =
    let n = a * a + b * b in
    let square : root * root ≤ n = rw is (root_square n n) in
    let most = mul-le a a 1001000000 1001000000 small_a small_a in
    let most_b = mul-le b b 1001000000 1001000000 small_b small_b in
    by_le root 2000000000 (λ low. low) (λ high. absurd (omega (arith, square, most, most_b, mul-le 2000000001 2000000001 root root high high)))

pub distance_is : (plane : Plane) (from to : Point) (a b root : ℕ) → a ≡ unsigned_abs (x_offset plane from to) → b ≡ unsigned_abs (y_offset plane from to) → root ≡ whole_root (a * a + b * b) → root ≡ distance_of plane from to
unfolding distance_of
distance_is plane from to a b root is_a is_b is = is ∙ rw (is_a, is_b) refl

-- the same as the code counts it
pub part_is : (part count : ℤ) (size wide : ℕ) → IsInRange count → count ≡ part → size ≡ unsigned_abs (to_z w64 (of_z w64 count)) → wide ≡ size → wide ≡ unsigned_abs part
part_is part count size wide range is is_size is_wide = omega (arith, ints)

pub distance_small : (plane : Plane) (from to : Point) (a b root : ℕ) → IsWithinLimits plane → IsPointOf plane from → IsPointOf plane to → a ≡ unsigned_abs (x_offset plane from to) → b ≡ unsigned_abs (y_offset plane from to) → root ≡ whole_root (a * a + b * b) → root ≤ 2000000000
distance_small plane from to a b root limits of_from of_to is_a is_b is =
    let small_a = offset_within plane.x from.x to.x limits.x of_from.x of_to.x in
    let small_b = offset_within plane.y from.y to.y limits.y of_from.y of_to.y in
    root_small a b root (subst (λ (n : ℕ). n ≤ 1001000000) (sym is_a) small_a) (subst (λ (n : ℕ). n ≤ 1001000000) (sym is_b) small_b) is

pub cast_is : (root : ℕ) → root ≤ 2000000000 → to_z w64 root ≡ pos root
cast_is root small = omega (arith, ints)

pub cast_fits : (root : ℕ) → root ≤ 2000000000 → FitsSigned w64 (pos root)
cast_fits root small = omega (arith, ints)

pub cast_in_range : (root : ℕ) → root ≤ 2000000000 → unsigned_abs (to_z w64 root) ≤ limit
cast_in_range root small = omega (arith, ints)

-- ---- a patch by whole coordinates

pub number_is : (count number : ℤ) → number_at count ≡ Some number → number ≡ count
number_is count number is = grind (arith, is)

pub by_coordinates : (plane : Plane) (pxcor pycor x y : ℤ) (at : Point) (patch : ℕ) → x ≡ pxcor *ℤ pos one → y ≡ pycor *ℤ pos one → wrapped_point plane x y ≡ Some at → patch ≡ patch_at plane at → Some patch ≡ patch_by_coordinates plane pxcor pycor
unfolding patch_by_coordinates
by_coordinates plane pxcor pycor x y at patch is_x is_y is_at is =
    let here : wrapped_point plane (pxcor *ℤ pos one) (pycor *ℤ pos one) ≡ Some at = rw (← is_x, ← is_y) is_at in
    rw (here, is) refl

-- ---- a plane by its coordinates as the code holds them

pub plane_fits : (least_x greatest_x least_y greatest_y a b c d : ℤ) (wraps_x wraps_y : Bool) (width height : ℕ) → a ≡ least_x → b ≡ greatest_x → c ≡ least_y → d ≡ greatest_y → IsAxis (record { least = a; greatest = b; wraps = wraps_x }) → IsAxis (record { least = c; greatest = d; wraps = wraps_y }) → width ≡ side (record { least = a; greatest = b; wraps = wraps_x }) → height ≡ side (record { least = c; greatest = d; wraps = wraps_y }) → width * height ≤ 262144 → IsWithinLimits (plane_of least_x greatest_x least_y greatest_y wraps_x wraps_y)
plane_fits least_x greatest_x least_y greatest_y a b c d wraps_x wraps_y width height is_a is_b is_c is_d x y is_width is_height few =
    let fits : IsWithinLimits (plane_of a b c d wraps_x wraps_y) = record { x = x; y = y; few = subst (λ (n : ℕ). n ≤ 262144) (ap₂ (λ (w h : ℕ). w * h) is_width is_height) few } in
    rw (is_a, is_b, is_c, is_d) at fits
