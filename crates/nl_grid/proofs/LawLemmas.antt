-- The laws of the geometry.
use Rattle.std.proofs.Common.{ℕ, zero, suc, ◌+◌, ◌-◌, ◌*◌, ◌<◌, ◌≡◌, ◌≢◌, ◌↔◌, min, true, false, not, ◌&&◌, ◌||◌, ◌==◌, if◌then◌else◌, int_le, ℤ, pos, negsuc, ◌+ℤ◌, ◌-ℤ◌, ◌*ℤ◌, neg_ℤ, unsigned_abs, List, Contains, Some, None, inl, inr, arith, refl, sym, ap, subst, ◌∙◌}
use Rattle.std.specs.List.{range_with_len}
use Rattle.std.specs.List.Sorted.{IsStrictlyIncreasing}
use Rattle.std.proofs.lemmas.Int.{ints, clamps, by_lt_z}
use Rattle.std.proofs.Math.Nat.{add_comm}
use Rattle.std.proofs.lemmas.List.Kept.{IsStrictlyIncreasing-filter}
use Rattle.std.proofs.lemmas.List.FromFn.{length-range_with_len, get_or-range_with_len}
use Rattle.std.proofs.lemmas.Bool.{ne_eqb, eq-eqb, eqb-true}
use Rattle.std.proofs.lemmas.Nat.{div-add-mod'}
use Rattle.nl_fixed.specs.Numbers.{one, floor_quotient, whole_root}
use Rattle.nl_fixed.proofs.Integers.{rounded_only}
use Rattle.nl_grid.specs.declared.axis.Axis.{Axis}
use Rattle.nl_grid.specs.declared.point.Point.{Point}
use Rattle.nl_grid.specs.Ways.{shorter}
use Rattle.nl_grid.specs.Geometry.{Plane, IsAxis, IsWithinLimits, IsInside, IsPointOf, side, length_of, begin_of, end_of, patches_of, all_patches, moved_inside, wrapped, patch_coordinate, number_of_patch, patch_at, center_of, column, row, pxcor_of, pycor_of, axis_offset, x_offset, y_offset, distance_of, is_within, is_near, is_in_line, ArePatchesOf, patches_near, neighbors_of, neighbors4_of, reach_of, box_patches}
use Rattle.nl_grid.specs.GeometryLaws.{HasRoundedCoordinates, IsMovedInside, IsNoShorter, IsShortest}
use Rattle.nl_grid.proofs.AxisLemmas.{by_bool, some_same, wrapped_moved, wrapped_beyond, wrapped_lies_inside}
use Rattle.nl_grid.proofs.RangeLemmas.{in_filter, from_filter, in_kept, kept_in, same_test}
use Rattle.nl_grid.proofs.WayLemmas.{shorter_small}
use Rattle.nl_grid.proofs.WalkLemmas.{is_other}
use Rattle.nl_grid.proofs.FewLemmas.{filter_twice}
use Rattle.nl_grid.proofs.TallyLemmas.{and_first, and_second}
use Rattle.nl_grid.proofs.CoverLemmas.{column_at, row_at, offset_is_way, shorter_is_one}

-- ---- points and patches

pub rounded_whole : (n : ℤ) → patch_coordinate (n *ℤ pos one) ≡ n
rounded_whole n = sym (rounded_only (n *ℤ pos one) one n (omega arith) (omega (arith, ints)) (omega (arith, ints)))

pub center_patch : (plane : Plane) (patch : ℕ) → IsWithinLimits plane → patch < patches_of plane → patch_at plane (center_of plane patch) ≡ patch
unfolding patch_at number_of_patch center_of
center_patch plane patch limits below =
    let is_x = rounded_whole (pxcor_of plane patch) in
    let is_y = rounded_whole (pycor_of plane patch) in
    let across : unsigned_abs (pxcor_of plane patch -ℤ plane.x.least) ≡ column plane patch = omega (arith, ints) in
    let up : unsigned_abs (plane.y.greatest -ℤ pycor_of plane patch) ≡ row plane patch = omega (arith, ints) in
    rw (is_x, is_y, across, up) (div-add-mod' patch (side plane.x))

pub rounded_coordinates : (plane : Plane) (at : Point) → IsWithinLimits plane → IsPointOf plane at → HasRoundedCoordinates plane at (patch_at plane at)
rounded_coordinates plane at limits point = record {
  x = omega (arith, ints, column_at plane at limits point);
  y = omega (arith, ints, row_at plane at limits point);
}

-- ---- wrapping

times_opposite : (m : ℕ) (z : ℤ) → pos m *ℤ neg_ℤ z ≡ neg_ℤ (pos m *ℤ z)
times_opposite m (pos zero) = omega (arith, ints)
times_opposite m (pos (suc n)) = refl
times_opposite m (negsuc n) = omega (arith, ints)

wrapped_flat : (axis : Axis) (at : ℤ) → axis.wraps ≡ false → IsInside axis at → wrapped axis at ≡ Some at
unfolding wrapped
wrapped_flat axis at flat inside = grind (arith, ints, flat, inside.from, inside.below)

flat_stays : (axis : Axis) (from to : ℤ) → axis.wraps ≡ false → wrapped axis from ≡ Some to → to ≡ from
unfolding wrapped
flat_stays axis from to flat is =
    by_lt_z from (begin_of axis) (λ before. absurd (grind (arith, ints, flat, before, is)))
    (λ start. by_lt_z from (end_of axis)
    (λ below. let here : IsInside axis from = record { from = start; below = below } in sym (some_same (sym (wrapped_flat axis from flat here) ∙ is)))
    (λ behind. absurd (grind (arith, ints, flat, behind, is))))

pub wrapping_moves : (axis : Axis) (from to : ℤ) → IsAxis axis → wrapped axis from ≡ Some to → IsMovedInside axis from to
unfolding moved_inside
wrapping_moves axis from to limits is =
    let inside = wrapped_lies_inside axis from to limits is in
    by_bool axis.wraps
    (λ wraps.
    let same : moved_inside axis from ≡ to = some_same (sym (wrapped_moved axis from wraps) ∙ is) in
    record { inside = inside; sides = neg_ℤ (floor_quotient (from -ℤ begin_of axis) (length_of axis)); moved = omega (arith, ints, same, times_opposite (length_of axis) (floor_quotient (from -ℤ begin_of axis) (length_of axis))); flat = λ flat. absurd (let both = sym wraps ∙ flat in cc) })
    (λ flat.
    let same : to ≡ from = flat_stays axis from to flat is in
    record { inside = inside; sides = pos 0; moved = omega (arith, ints, same); flat = λ _. same })

pub wrapping_none : (axis : Axis) (from : ℤ) → (wrapped axis from ≡ None) ↔ ((axis.wraps ≡ false) × (IsInside axis from → ⊥))
unfolding wrapped
wrapping_none axis from = (
  λ none. by_bool axis.wraps
      (λ wraps. absurd (let both = sym (wrapped_moved axis from wraps) ∙ none in cc))
      (λ flat. (flat, λ inside. let both = sym (wrapped_flat axis from flat inside) ∙ none in cc)),
  λ outside. sym (wrapped_beyond axis from outside.0 outside.1),
)

-- ---- offsets

no_shorter_first : (a b : ℤ) → IsNoShorter a (shorter a b)
no_shorter_first a b = record { size = shorter_small a b; tie = λ same. grind (arith, ints, clamps, same) }

no_shorter_second : (a b : ℤ) → IsNoShorter b (shorter a b)
no_shorter_second a b = record { size = grind (arith, ints, clamps); tie = λ same. grind (arith, ints, clamps, same) }

no_shorter_through : (a b c : ℤ) → IsNoShorter a b → IsNoShorter b c → IsNoShorter a c
no_shorter_through a b c first second = record {
  size = omega (arith, first.size, second.size);
  tie = λ same.
      let one = first.tie (omega (arith, first.size, second.size, same)) in
      let two = second.tie (omega (arith, first.size, second.size, same)) in
      omega (arith, ints, one, two);
}

shortest_way : (axis : Axis) (plain offset lengths : ℤ) → axis.wraps ≡ true → offset ≡ plain +ℤ (pos (length_of axis) *ℤ lengths) → offset ≡ shorter (shorter plain (plain +ℤ pos (length_of axis))) (plain -ℤ pos (length_of axis)) → IsShortest axis plain offset
shortest_way axis plain offset lengths wraps is way =
    let up = plain +ℤ pos (length_of axis) in
    let down = plain -ℤ pos (length_of axis) in
    let one = shorter plain up in
    let last = no_shorter_first one down in
    record {
      flat = λ flat. absurd (let both = sym wraps ∙ flat in cc);
      lengths = lengths;
      is = is;
      straight = λ _. rw way (no_shorter_through plain one (shorter one down) (no_shorter_first plain up) last);
      up = λ _. rw way (no_shorter_through up one (shorter one down) (no_shorter_second plain up) last);
      down = λ _. rw way (no_shorter_second one down);
    }

shorter_size : (a b : ℤ) → unsigned_abs (shorter a b) ≡ min (unsigned_abs a) (unsigned_abs b)
shorter_size a b =
    let first = (no_shorter_first a b).size in
    let second = (no_shorter_second a b).size in
    elim (shorter_is_one a b) [
      | inl one ↦ let size = ap unsigned_abs one in omega (arith, first, second, size)
      | inr two ↦ let size = ap unsigned_abs two in omega (arith, first, second, size)
    ]

opposite_size : (a b : ℤ) → a ≡ neg_ℤ b → unsigned_abs a ≡ unsigned_abs b
opposite_size a b is = omega (arith, ints, is)

least_of_three : (a b c x y z : ℕ) → a ≡ x → b ≡ y → c ≡ z → min (min a b) c ≡ min (min x z) y
least_of_three a b c x y z p q r = omega (arith, p, q, r)

-- the offset back is as long
offset_back : (axis : Axis) (from to : ℤ) → unsigned_abs (axis_offset axis from to) ≡ unsigned_abs (axis_offset axis to from)
unfolding axis_offset
offset_back axis from to =
    let there = to -ℤ from in
    let back = from -ℤ to in
    let l = pos (length_of axis) in
    by_bool axis.wraps
    (λ wraps.
    let one = opposite_size there back (omega (arith, ints)) in
    let two = opposite_size (there +ℤ l) (back -ℤ l) (omega (arith, ints)) in
    let three = opposite_size (there -ℤ l) (back +ℤ l) (omega (arith, ints)) in
    rw wraps (
    shorter_size (shorter there (there +ℤ l)) (there -ℤ l)
    ∙ ap (λ a. min a (unsigned_abs (there -ℤ l))) (shorter_size there (there +ℤ l))
    ∙ least_of_three (unsigned_abs there) (unsigned_abs (there +ℤ l)) (unsigned_abs (there -ℤ l)) (unsigned_abs back) (unsigned_abs (back -ℤ l)) (unsigned_abs (back +ℤ l)) one two three
    ∙ sym (ap (λ a. min a (unsigned_abs (back -ℤ l))) (shorter_size back (back +ℤ l)))
    ∙ sym (shorter_size (shorter back (back +ℤ l)) (back -ℤ l))))
    (λ flat. rw flat (omega (arith, ints)))

pub offset_shortest : (axis : Axis) (from to : ℤ) → IsShortest axis (to -ℤ from) (axis_offset axis from to)
unfolding axis_offset
offset_shortest axis from to =
    let plain = to -ℤ from in
    by_bool axis.wraps
    (λ wraps.
    let way : axis_offset axis from to ≡ shorter (shorter plain (plain +ℤ pos (length_of axis))) (plain -ℤ pos (length_of axis)) = rw wraps refl in
    elim (offset_is_way axis from to wraps) [
      | inl straight ↦ shortest_way axis plain (axis_offset axis from to) (pos 0) wraps (omega (arith, ints, straight)) way
      | inr other ↦ elim other [
        | inl up ↦ shortest_way axis plain (axis_offset axis from to) (pos 1) wraps (omega (arith, ints, up)) way
        | inr down ↦ shortest_way axis plain (axis_offset axis from to) (negsuc 0) wraps (omega (arith, ints, down)) way
      ]
    ])
    (λ flat.
    let same : axis_offset axis from to ≡ plain = rw flat refl in
    let never : axis.wraps ≡ true → ⊥ = λ wraps. let both = sym wraps ∙ flat in cc in
    record { flat = λ _. same; lengths = pos 0; is = omega (arith, ints, same); straight = λ wraps. absurd (never wraps); up = λ wraps. absurd (never wraps); down = λ wraps. absurd (never wraps) })

pub distance_mutual : (plane : Plane) (from to : Point) → distance_of plane from to ≡ distance_of plane to from
unfolding distance_of
distance_mutual plane from to =
    let x = offset_back plane.x from.x to.x in
    let y = offset_back plane.y from.y to.y in
    ap (λ a. whole_root (a * a + unsigned_abs (y_offset plane from to) * unsigned_abs (y_offset plane from to))) x
    ∙ ap (λ b. whole_root (unsigned_abs (x_offset plane to from) * unsigned_abs (x_offset plane to from) + b * b)) y

-- ---- lists

range_increasing : (a n : ℕ) → IsStrictlyIncreasing (range_with_len a n)
range_increasing a n k below =
    let long = length-range_with_len a n in
    let next : k + 1 < n = omega (arith, below, long) in
    let here : k < n = omega (arith, next) in
    omega (arith, get_or-range_with_len a n k 0 here, get_or-range_with_len a n (k + 1) 0 next)

near_ascend : (plane : Plane) (reach : ℤ) (patch : ℕ) → IsStrictlyIncreasing (patches_near plane reach patch)
unfolding patches_near
near_ascend plane reach patch = IsStrictlyIncreasing-filter (is_near plane reach patch) (all_patches plane) (range_increasing 0 (patches_of plane))

pub neighbors_ascend : (plane : Plane) (patch : ℕ) → IsStrictlyIncreasing (neighbors_of plane patch)
unfolding neighbors_of
neighbors_ascend plane patch = IsStrictlyIncreasing-filter (is_other patch) (patches_near plane (pos 1) patch) (near_ascend plane (pos 1) patch)

pub neighbors4_ascend : (plane : Plane) (patch : ℕ) → IsStrictlyIncreasing (neighbors4_of plane patch)
unfolding neighbors4_of
neighbors4_ascend plane patch = IsStrictlyIncreasing-filter (is_in_line plane patch) (neighbors_of plane patch) (neighbors_ascend plane patch)

pub box_ascends : (plane : Plane) (at : Point) (radius : ℤ) → IsStrictlyIncreasing (box_patches plane at radius)
unfolding box_patches
box_ascends plane at radius = near_ascend plane (reach_of radius) (patch_at plane at)

pub box_of_world : (plane : Plane) (at : Point) (radius : ℤ) → ArePatchesOf plane (box_patches plane at radius)
unfolding box_patches patches_near
box_of_world plane at radius patch held = let known = from_filter (is_near plane (reach_of radius) (patch_at plane at)) 0 (patches_of plane) patch held in omega (arith, known.1)

-- ---- neighbors

-- a neighbor is another patch of the world at most one step away
pub from_neighbors : (plane : Plane) (patch other : ℕ) → Contains (neighbors_of plane patch) other → (other < patches_of plane) × (is_near plane (pos 1) patch other ≡ true) × (is_other patch other ≡ true)
unfolding neighbors_of patches_near
from_neighbors plane patch other held =
    let near = is_near plane (pos 1) patch in
    let P : List ℕ → Type 0 = λ xs. Contains xs other in
    let known = from_filter (λ x. near x && is_other patch x) 0 (patches_of plane) other (subst P (filter_twice near (is_other patch) (all_patches plane)) held) in
    (omega (arith, known.1), and_first (near other) (is_other patch other) known.2, and_second (near other) (is_other patch other) known.2)

pub into_neighbors : (plane : Plane) (patch other : ℕ) → other < patches_of plane → is_near plane (pos 1) patch other ≡ true → is_other patch other ≡ true → Contains (neighbors_of plane patch) other
unfolding neighbors_of patches_near
into_neighbors plane patch other below close apart =
    let near = is_near plane (pos 1) patch in
    let P : List ℕ → Type 0 = λ xs. Contains xs other in
    subst P (sym (filter_twice near (is_other patch) (all_patches plane))) (in_filter (λ x. near x && is_other patch x) 0 (patches_of plane) other (omega arith) (omega (arith, below)) (rw (close, apart) refl))

apart_from_other : (patch other : ℕ) → is_other patch other ≡ true → other ≢ patch
apart_from_other patch other apart same = let known = sym (ap not (eq-eqb other patch same)) ∙ apart in cc

pub other_from_apart : (patch other : ℕ) → other ≢ patch → is_other patch other ≡ true
other_from_apart patch other apart = ap not (ne_eqb other patch apart)

pub neighbors_are_others : (plane : Plane) (patch other : ℕ) → Contains (neighbors_of plane patch) other → (other ≢ patch) × (other < patches_of plane)
neighbors_are_others plane patch other held = let known = from_neighbors plane patch other held in (apart_from_other patch other known.2, known.0)

pub neighbors_of_world : (plane : Plane) (patch : ℕ) → ArePatchesOf plane (neighbors_of plane patch)
neighbors_of_world plane patch other held = (from_neighbors plane patch other held).0

within_back : (axis : Axis) (reach : ℤ) (i j : ℕ) → is_within axis reach i j ≡ is_within axis reach j i
within_back axis reach i j =
    let same = add_comm (i - j) (j - i) in
    ap (λ plain. int_le (pos (if axis.wraps then min plain (side axis - plain) else plain)) reach) same

near_back : (plane : Plane) (reach : ℤ) (patch other : ℕ) → is_near plane reach patch other ≡ is_near plane reach other patch
unfolding is_near
near_back plane reach patch other =
    ap (λ a. a && is_within plane.y reach (row plane patch) (row plane other)) (within_back plane.x reach (column plane patch) (column plane other))
    ∙ ap (λ b. is_within plane.x reach (column plane other) (column plane patch) && b) (within_back plane.y reach (row plane patch) (row plane other))

pub neighbors_mutual : (plane : Plane) (patch other : ℕ) → patch < patches_of plane → Contains (neighbors_of plane patch) other → Contains (neighbors_of plane other) patch
neighbors_mutual plane patch other below held =
    let known = from_neighbors plane patch other held in
    into_neighbors plane other patch below (sym (near_back plane (pos 1) patch other) ∙ known.1) (other_from_apart other patch (λ same. apart_from_other patch other known.2 (sym same)))

-- ---- neighbors in line

eqb_back : (a b : ℕ) → (a == b) ≡ (b == a)
eqb_back a b = same_test (a == b) (b == a) (λ one. eq-eqb b a (sym (eqb-true a b one))) (λ one. eq-eqb a b (sym (eqb-true b a one)))

line_back : (plane : Plane) (patch other : ℕ) → is_in_line plane patch other ≡ is_in_line plane other patch
line_back plane patch other =
    ap (λ a. a || (row plane other == row plane patch)) (eqb_back (column plane other) (column plane patch))
    ∙ ap (λ b. (column plane patch == column plane other) || b) (eqb_back (row plane other) (row plane patch))

-- a neighbor in line is a neighbor, and in line
pub from_neighbors4 : (plane : Plane) (patch other : ℕ) → Contains (neighbors4_of plane patch) other → Contains (neighbors_of plane patch) other × (is_in_line plane patch other ≡ true)
unfolding neighbors4_of
from_neighbors4 plane patch other held = in_kept (is_in_line plane patch) (neighbors_of plane patch) other held

pub into_neighbors4 : (plane : Plane) (patch other : ℕ) → Contains (neighbors_of plane patch) other → is_in_line plane patch other ≡ true → Contains (neighbors4_of plane patch) other
unfolding neighbors4_of
into_neighbors4 plane patch other held line = kept_in (is_in_line plane patch) (neighbors_of plane patch) other held line

pub neighbors4_are_neighbors : (plane : Plane) (patch other : ℕ) → Contains (neighbors4_of plane patch) other → Contains (neighbors_of plane patch) other
neighbors4_are_neighbors plane patch other held = (from_neighbors4 plane patch other held).0

pub neighbors4_of_world : (plane : Plane) (patch : ℕ) → ArePatchesOf plane (neighbors4_of plane patch)
neighbors4_of_world plane patch other held = neighbors_of_world plane patch other (neighbors4_are_neighbors plane patch other held)

pub neighbors4_mutual : (plane : Plane) (patch other : ℕ) → patch < patches_of plane → Contains (neighbors4_of plane patch) other → Contains (neighbors4_of plane other) patch
neighbors4_mutual plane patch other below held =
    let known = from_neighbors4 plane patch other held in
    into_neighbors4 plane other patch (neighbors_mutual plane patch other below known.0) (sym (line_back plane patch other) ∙ known.1)
