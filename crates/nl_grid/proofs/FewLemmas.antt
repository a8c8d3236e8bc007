-- A patch has at most 8 neighbors, of which at most 4 are in line with it.
use Rattle.std.proofs.Common.{ℕ, ◌+◌, ◌-◌, ◌*◌, ◌/◌, ◌%◌, ◌<◌, ◌≤◌, ◌≡◌, min, Bool, true, false, not, ◌==◌, ◌&&◌, ◌||◌, nat_lt, nat_le, int_le, pos, List, [], ◌∷◌, length, filter, inl, inr, arith, refl, sym, ap, ◌∙◌}
use Rattle.std.proofs.lemmas.Int.{ints}
use Rattle.std.proofs.Math.Nat.{mul_comm}
use Rattle.std.proofs.lemmas.Bool.{cases_eq, cases_lt, eq-eqb, eqb-true, ne_eqb, ltb-true, ltb-false, le-leb, leb-true}
use Rattle.std.proofs.lemmas.Nat.{mul-le, div-add-mod'}
use Rattle.nl_grid.specs.declared.axis.Axis.{Axis}
use Rattle.nl_grid.specs.Geometry.{Plane, side, patches_of, all_patches, column, row, steps_between, is_within, is_near, patches_near, is_in_line, neighbors_of, neighbors4_of}
use Rattle.nl_grid.proofs.AxisLemmas.{by_bool}
use Rattle.nl_grid.proofs.ShapeLemmas.{column_below, row_below}
use Rattle.nl_grid.proofs.RangeLemmas.{by_test}
use Rattle.nl_grid.proofs.CoverLemmas.{le_true}
use Rattle.nl_grid.proofs.WalkLemmas.{is_other}
use Rattle.nl_grid.proofs.TallyLemmas.{tally, length_is_tally, tally_between, tally_either, tally_without, tally_rows, zero_times, and_first, and_second, or_second}

pub filter_twice : (p q : ℕ → Bool) (xs : List ℕ) → filter q (filter p xs) ≡ filter (λ x. p x && q x) xs
filter_twice p q [] = refl
filter_twice p q (x ∷ xs) =
    let later = filter_twice p q xs in
    by_test (p x)
    (λ passes. rw passes (by_test (q x) (λ both. rw both (ap (λ ys. x ∷ ys) later)) (λ one. rw one later)))
    (λ fails. rw fails later)

within_self : (axis : Axis) (i : ℕ) → is_within axis (pos 1) i i ≡ true
within_self axis i =
    by_bool axis.wraps
    (λ wraps. let steps : steps_between axis i i ≡ min ((i - i) + (i - i)) (side axis - ((i - i) + (i - i))) = rw wraps refl in rw steps (le_true (pos (min ((i - i) + (i - i)) (side axis - ((i - i) + (i - i))))) (pos 1) (omega (arith, ints))))
    (λ flat. let steps : steps_between axis i i ≡ (i - i) + (i - i) = rw flat refl in rw steps (le_true (pos ((i - i) + (i - i))) (pos 1) (omega (arith, ints))))

near_self : (plane : Plane) (patch : ℕ) → is_near plane (pos 1) patch patch ≡ true
unfolding is_near
near_self plane patch = let across = within_self plane.x (column plane patch) in let up = within_self plane.y (row plane patch) in rw (across, up) refl

neighbors_few : (plane : Plane) (patch : ℕ) → patch < patches_of plane → length (patches_near plane (pos 1) patch) ≤ 9 → length (neighbors_of plane patch) ≤ 8
unfolding neighbors_of patches_near
neighbors_few plane patch below few =
    let near = is_near plane (pos 1) patch in
    let once = ap length (filter_twice near (is_other patch) (all_patches plane)) ∙ length_is_tally (λ x. near x && is_other patch x) 0 (patches_of plane) in
    omega (arith, once, few, length_is_tally near 0 (patches_of plane), tally_without near 0 (patches_of plane) patch (omega arith) (omega (arith, below)) (near_self plane patch))

-- ---- neighbors in line

true_le : (m : ℕ) → int_le (pos m) (pos 1) ≡ true → m ≤ 1
true_le m passes = leb-true m 1 passes

pub or_right : (a b : Bool) → b ≡ true → (a || b) ≡ true
or_right true b passes = refl
or_right false b passes = passes

-- at most three indices of an axis are at most one step away
within_few : (axis : Axis) (i : ℕ) → i < side axis → tally (is_within axis (pos 1) i) 0 (side axis) ≤ 3
within_few axis i below =
    let n = side axis in
    by_bool axis.wraps
    (λ wraps.
    let near : (j : ℕ) → is_within axis (pos 1) i j ≡ true → min ((i - j) + (j - i)) (n - ((i - j) + (j - i))) ≤ 1 =
    λ j passes. let steps : steps_between axis i j ≡ min ((i - j) + (j - i)) (n - ((i - j) + (j - i))) = rw wraps refl in
    true_le (min ((i - j) + (j - i)) (n - ((i - j) + (j - i)))) (sym (ap (λ s. int_le (pos s) (pos 1)) steps) ∙ passes) in
    elim (cases_lt 3 n) [
      | inr small ↦ omega (arith, small, (tally_between (is_within axis (pos 1) i) 0 n 0 n (λ j start end passes. (omega arith, omega (arith, end)))).0)
      | inl wide ↦ elim (cases_eq i 0) [
        | inl zeroth ↦
            let first : ℕ → Bool = λ j. nat_lt j 2 in
            let last : ℕ → Bool = λ j. nat_le (n - 1) j in
            let either = tally_either (is_within axis (pos 1) i) first last 0 n (λ j start end passes. by_test (nat_lt j 2) (λ yes. rw yes refl) (λ other. or_right (nat_lt j 2) (nat_le (n - 1) j) (le-leb (n - 1) j (let far = ltb-false j 2 other in omega (arith, near j passes, far, end, zeroth, wide))))) in
            omega (arith, either, (tally_between first 0 n 0 2 (λ j start end passes. (omega arith, ltb-true j 2 passes))).0, (tally_between last 0 n (n - 1) n (λ j start end passes. (leb-true (n - 1) j passes, omega (arith, end)))).0)
        | inr later ↦ elim (cases_eq (i + 1) n) [
          | inl ending ↦
              let first : ℕ → Bool = λ j. nat_lt j 1 in
              let last : ℕ → Bool = λ j. nat_le (n - 2) j in
              let either = tally_either (is_within axis (pos 1) i) first last 0 n (λ j start end passes. by_test (nat_lt j 1) (λ yes. rw yes refl) (λ other. or_right (nat_lt j 1) (nat_le (n - 2) j) (le-leb (n - 2) j (let far = ltb-false j 1 other in omega (arith, near j passes, far, end, ending, wide))))) in
              omega (arith, either, (tally_between first 0 n 0 1 (λ j start end passes. (omega arith, ltb-true j 1 passes))).0, (tally_between last 0 n (n - 2) n (λ j start end passes. (leb-true (n - 2) j passes, omega (arith, end)))).0)
          | inr middle ↦ omega (arith, (tally_between (is_within axis (pos 1) i) 0 n (i - 1) (i + 2) (λ j start end passes. (omega (arith, near j passes, end, below, later, middle), omega (arith, near j passes, end, below, later, middle)))).0)
        ]
      ]
    ])
    (λ flat.
    let near : (j : ℕ) → is_within axis (pos 1) i j ≡ true → (i - j) + (j - i) ≤ 1 =
    λ j passes. let steps : steps_between axis i j ≡ (i - j) + (j - i) = rw flat refl in
    true_le ((i - j) + (j - i)) (sym (ap (λ s. int_le (pos s) (pos 1)) steps) ∙ passes) in
    omega (arith, (tally_between (is_within axis (pos 1) i) 0 n (i - 1) (i + 2) (λ j start end passes. (omega (arith, near j passes), omega (arith, near j passes)))).0))

-- other indices of an axis one step away
beside : Axis → ℕ → ℕ → Bool
beside axis i j = is_within axis (pos 1) i j && not (j == i)

beside_few : (axis : Axis) (i : ℕ) → i < side axis → tally (beside axis i) 0 (side axis) ≤ 2
unfolding beside
beside_few axis i below = omega (arith, within_few axis i below, tally_without (is_within axis (pos 1) i) 0 (side axis) i (omega arith) (omega (arith, below)) (within_self axis i))

only_one : (i n : ℕ) → tally (λ j. j == i) 0 n ≤ 1
only_one i n = omega (arith, (tally_between (λ j. j == i) 0 n i (i + 1) (λ j start end passes. let same = eqb-true j i passes in (omega (arith, same), omega (arith, same)))).0)

-- patches in the column, and in the row
in_column : Plane → ℕ → ℕ → Bool
in_column plane patch other = (column plane other == column plane patch) && beside plane.y (row plane patch) (row plane other)

in_row : Plane → ℕ → ℕ → Bool
in_row plane patch other = beside plane.x (column plane patch) (column plane other) && (row plane other == row plane patch)

product_few : (p q : ℕ → Bool) (w h a b : ℕ) → tally p 0 w ≤ a → tally q 0 h ≤ b → tally (λ j. p (j % w) && q (j / w)) 0 (w * h) ≤ b * a
product_few p q w h a b narrow low =
    let passes : ℕ → Bool = λ j. p (j % w) && q (j / w) in
    let turned = ap (tally passes 0) (mul_comm w h) in
    let start = ap (λ s. tally passes s (h * w)) (zero_times w) in
    omega (arith, turned ∙ start ∙ tally_rows p q w 0 h, mul-le (tally q 0 h) (tally p 0 w) b a low narrow)

in_column_few : (plane : Plane) (patch : ℕ) → patch < patches_of plane → tally (in_column plane patch) 0 (patches_of plane) ≤ 2
unfolding in_column
in_column_few plane patch below = omega (arith, product_few (λ x. x == column plane patch) (beside plane.y (row plane patch)) (side plane.x) (side plane.y) 1 2 (only_one (column plane patch) (side plane.x)) (beside_few plane.y (row plane patch) (row_below plane patch below)))

in_row_few : (plane : Plane) (patch : ℕ) → patch < patches_of plane → tally (in_row plane patch) 0 (patches_of plane) ≤ 2
unfolding in_row
in_row_few plane patch below = omega (arith, product_few (beside plane.x (column plane patch)) (λ y. y == row plane patch) (side plane.x) (side plane.y) 2 1 (beside_few plane.x (column plane patch) (column_below plane patch)) (only_one (row plane patch) (side plane.y)))

-- a patch is known by its column and row
pub same_patch : (a b w : ℕ) → a % w ≡ b % w → a / w ≡ b / w → a ≡ b
same_patch a b w index line =
    let product = ap (λ r. r * w) line in
    omega (arith, div-add-mod' a w, div-add-mod' b w, product, index)

in_line_cases : (plane : Plane) (patch other : ℕ) → ((is_near plane (pos 1) patch other && is_other patch other) && is_in_line plane patch other) ≡ true → (in_column plane patch other || in_row plane patch other) ≡ true
unfolding is_near in_column in_row beside
in_line_cases plane patch other passes =
    let both = and_first (is_near plane (pos 1) patch other && is_other patch other) (is_in_line plane patch other) passes in
    let line = and_second (is_near plane (pos 1) patch other && is_other patch other) (is_in_line plane patch other) passes in
    let near = and_first (is_near plane (pos 1) patch other) (is_other patch other) both in
    let apart = and_second (is_near plane (pos 1) patch other) (is_other patch other) both in
    let across = and_first (is_within plane.x (pos 1) (column plane patch) (column plane other)) (is_within plane.y (pos 1) (row plane patch) (row plane other)) near in
    let up = and_second (is_within plane.x (pos 1) (column plane patch) (column plane other)) (is_within plane.y (pos 1) (row plane patch) (row plane other)) near in
    by_test (column plane other == column plane patch)
    (λ index.
    let lines : (row plane other == row plane patch) ≡ false = ne_eqb (row plane other) (row plane patch) (λ line_too.
    let same = same_patch other patch (side plane.x) (eqb-true (column plane other) (column plane patch) index) line_too in
    let known = eq-eqb other patch same in
    let wrong = sym (ap not known) ∙ apart in cc) in
    rw (index, up, lines) refl)
    (λ other_column.
    let lines = or_second (column plane other == column plane patch) (row plane other == row plane patch) other_column line in
    rw (other_column, across, lines) refl)

pub neighbors4_few : (plane : Plane) (patch : ℕ) → patch < patches_of plane → length (neighbors4_of plane patch) ≤ 4
unfolding neighbors4_of neighbors_of patches_near
neighbors4_few plane patch below =
    let near = is_near plane (pos 1) patch in
    let line = is_in_line plane patch in
    let once = ap (filter line) (filter_twice near (is_other patch) (all_patches plane)) ∙ filter_twice (λ x. near x && is_other patch x) line (all_patches plane) in
    let count = ap length once ∙ length_is_tally (λ x. (near x && is_other patch x) && line x) 0 (patches_of plane) in
    omega (arith, count, tally_either (λ x. (near x && is_other patch x) && line x) (in_column plane patch) (in_row plane patch) 0 (patches_of plane) (λ j start end passes. in_line_cases plane patch j passes), in_column_few plane patch below, in_row_few plane patch below)

-- at most nine patches are at most one step away on each axis
near_few : (plane : Plane) (patch : ℕ) → patch < patches_of plane → length (patches_near plane (pos 1) patch) ≤ 9
unfolding patches_near is_near
near_few plane patch below =
    let count = length_is_tally (is_near plane (pos 1) patch) 0 (patches_of plane) in
    omega (arith, count, product_few (is_within plane.x (pos 1) (column plane patch)) (is_within plane.y (pos 1) (row plane patch)) (side plane.x) (side plane.y) 3 3 (within_few plane.x (column plane patch) (column_below plane patch)) (within_few plane.y (row plane patch) (row_below plane patch below)))

pub neighbors_at_most : (plane : Plane) (patch : ℕ) → patch < patches_of plane → length (neighbors_of plane patch) ≤ 8
neighbors_at_most plane patch below = neighbors_few plane patch below (near_few plane patch below)
