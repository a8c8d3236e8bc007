-- The shorter of two differences, and the shortest of the three ways along a circle.
use Rattle.std.proofs.Common.{◌≤◌, ◌≡◌, ℤ, pos, ◌+ℤ◌, ◌-ℤ◌, ◌*ℤ◌, neg_ℤ, ◌≤ℤ◌, ◌<ℤ◌, unsigned_abs, true, false, arith, refl, sym, ◌∙◌}
use Rattle.std.proofs.lemmas.Int.{ints, clamps}
use Rattle.nl_grid.specs.declared.axis.Axis.{Axis}
use Rattle.nl_grid.specs.Geometry.{length_of, axis_offset}
use Rattle.nl_grid.proofs.AxisLemmas.{by_bool}
use Rattle.nl_grid.specs.Ways.{shorter}

pub shorter_first : (a b : ℤ) → unsigned_abs a ≤ unsigned_abs b → (unsigned_abs a ≡ unsigned_abs b → b ≤ℤ a) → shorter a b ≡ a
shorter_first a b small tie = grind (arith, ints, clamps, small, tie)

pub shorter_second : (a b : ℤ) → unsigned_abs b ≤ unsigned_abs a → (unsigned_abs a ≡ unsigned_abs b → a ≤ℤ b) → shorter a b ≡ b
shorter_second a b small tie = grind (arith, ints, clamps, small, tie)

pub shorter_small : (a b : ℤ) → unsigned_abs (shorter a b) ≤ unsigned_abs a
shorter_small a b = grind (arith, ints, clamps)

-- the shortest way by the tests that the code makes
pub way_down : (p l r : ℤ) → pos 0 <ℤ l → l <ℤ (pos 2 *ℤ p) → r ≡ p -ℤ l → r ≡ shorter (shorter p (p +ℤ l)) (p -ℤ l)
way_down p l r some long is =
    let first : shorter p (p +ℤ l) ≡ p = shorter_first p (p +ℤ l) (omega (arith, ints)) (λ tie. omega (arith, ints)) in
    let second : shorter p (p -ℤ l) ≡ p -ℤ l = shorter_second p (p -ℤ l) (omega (arith, ints)) (λ tie. omega (arith, ints)) in
    rw first (is ∙ sym second)

pub way_up : (p l r : ℤ) → pos 0 <ℤ l → (pos 2 *ℤ p) ≤ℤ neg_ℤ l → r ≡ p +ℤ l → r ≡ shorter (shorter p (p +ℤ l)) (p -ℤ l)
way_up p l r some long is =
    let first : shorter p (p +ℤ l) ≡ p +ℤ l = shorter_second p (p +ℤ l) (omega (arith, ints)) (λ tie. omega (arith, ints)) in
    let second : shorter (p +ℤ l) (p -ℤ l) ≡ p +ℤ l = shorter_first (p +ℤ l) (p -ℤ l) (omega (arith, ints)) (λ tie. omega (arith, ints)) in
    rw first (is ∙ sym second)

pub way_plain : (p l r : ℤ) → neg_ℤ l <ℤ (pos 2 *ℤ p) → (pos 2 *ℤ p) ≤ℤ l → r ≡ p → r ≡ shorter (shorter p (p +ℤ l)) (p -ℤ l)
way_plain p l r low high is =
    let first : shorter p (p +ℤ l) ≡ p = shorter_first p (p +ℤ l) (omega (arith, ints)) (λ tie. omega (arith, ints)) in
    let second : shorter p (p -ℤ l) ≡ p = shorter_first p (p -ℤ l) (omega (arith, ints)) (λ tie. omega (arith, ints)) in
    rw first (is ∙ sym second)

-- the offset along an axis, as the code makes it
pub offset_by_way : (axis : Axis) (from to plain length way offset : ℤ) → axis.wraps ≡ true → plain ≡ to -ℤ from → length ≡ pos (length_of axis) → way ≡ shorter (shorter plain (plain +ℤ length)) (plain -ℤ length) → offset ≡ way → offset ≡ axis_offset axis from to
unfolding axis_offset
offset_by_way axis from to plain length way offset wraps is_plain is_length is_way is = rw wraps (is ∙ is_way ∙ rw (is_plain, is_length) refl)

pub offset_plain : (axis : Axis) (from to offset : ℤ) → axis.wraps ≡ false → offset ≡ to -ℤ from → offset ≡ axis_offset axis from to
unfolding axis_offset
offset_plain axis from to offset flat is = rw flat is

-- an offset is no longer than the plain difference
pub offset_small : (axis : Axis) (from to : ℤ) → unsigned_abs (axis_offset axis from to) ≤ unsigned_abs (to -ℤ from)
unfolding axis_offset
offset_small axis from to =
    let plain = to -ℤ from in
    by_bool axis.wraps
    (λ wraps. rw wraps (omega (arith, shorter_small (shorter plain (plain +ℤ pos (length_of axis))) (plain -ℤ pos (length_of axis)), shorter_small plain (plain +ℤ pos (length_of axis)))))
    (λ flat. rw flat (omega arith))
