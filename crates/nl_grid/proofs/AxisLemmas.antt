-- Coordinates of an axis: inside it, moved into it, and rounded to patches.
use Rattle.std.proofs.Common.{ℕ, ◌+◌, ◌*◌, ◌/◌, ◌%◌, ◌<◌, ◌≤◌, ◌≡◌, Bool, true, false, ℤ, pos, negsuc, ◌+ℤ◌, ◌-ℤ◌, ◌*ℤ◌, ◌<ℤ◌, unsigned_abs, not, Some, None, unwrap_or, int_div, to_z, of_z, arith, refl, sym, ap, ◌∙◌}
use lib.Signed.{lt_z}
use Rattle.std.specs.Int.{w64, int_rem_euclid}
use Rattle.std.proofs.lemmas.Int.{ints, by_lt_z}
use Rattle.std.proofs.Math.Nat.{div-add-mod', mod-lt}
use Rattle.nl_fixed.specs.Numbers.{one, limit, floor_quotient, rounded_quotient}
use Rattle.nl_fixed.proofs.Integers.{floor_low, floor_high, floor_only, rounded_only}
use Rattle.nl_grid.specs.declared.axis.Axis.{Axis}
use Rattle.nl_grid.specs.Geometry.{IsAxis, IsInside, side, begin_of, end_of, length_of, moved_inside, wrapped, patch_coordinate}

-- a test of two numbers, and its fact
pub true_lt : (a b : ℤ) → lt_z a b ≡ true → a <ℤ b
true_lt a b h = grind (arith, ints)

pub lt_true : (a b : ℤ) → a <ℤ b → lt_z a b ≡ true
lt_true a b h = grind (arith, ints)

pub by_bool : {P : Type 0} (b : Bool) → (b ≡ true → P) → (b ≡ false → P) → P
by_bool true t f = t refl
by_bool false t f = f refl

pub some_same : {a b : ℤ} → Some a ≡ Some b → a ≡ b
some_same h = ap (λ o. unwrap_or o (pos 0)) h

pub false_from_not : (b : Bool) → not b ≡ true → b ≡ false
false_from_not true h = cc
false_from_not false h = refl

pub true_from_not : (b : Bool) → not b ≡ false → b ≡ true
true_from_not true h = refl
true_from_not false h = cc

-- a number of either sign by its quotient and its rest
pub rest_of : (p : ℤ) (q : ℕ) → 0 < q → int_rem_euclid p (pos q) ≡ p -ℤ (pos q *ℤ floor_quotient p q)
rest_of (pos a) q h = omega (arith, ints, div-add-mod' a q)
rest_of (negsuc a) q h = omega (arith, ints, div-add-mod' a q, mod-lt a h)

-- the end of an axis is its length from the beginning
pub end_is : (axis : Axis) → IsAxis axis → end_of axis ≡ begin_of axis +ℤ pos (length_of axis)
end_is axis limits = omega (arith, ints, limits.low, limits.high)

-- what is inside stays where it is
pub unmoved : (axis : Axis) (at : ℤ) → IsAxis axis → IsInside axis at → moved_inside axis at ≡ at
unfolding moved_inside
unmoved axis at limits inside =
    let none : floor_quotient (at -ℤ begin_of axis) (length_of axis) ≡ pos 0 = floor_only (at -ℤ begin_of axis) (length_of axis) _ (pos 0) (floor_low _ _ (omega arith)) (floor_high _ _ (omega arith)) (omega (arith, ints, inside.from)) (omega (arith, ints, inside.below, end_is axis limits)) in
    rw none (omega (arith, ints))

pub wrapped_within : (axis : Axis) (at : ℤ) → IsAxis axis → IsInside axis at → Some at ≡ wrapped axis at
unfolding wrapped
wrapped_within axis at limits inside = grind (arith, ints, unmoved axis at limits inside, inside.from, inside.below)

pub wrapped_beyond : (axis : Axis) (at : ℤ) → axis.wraps ≡ false → (IsInside axis at → ⊥) → None ≡ wrapped axis at
unfolding wrapped
wrapped_beyond axis at flat outside =
    by_lt_z at (begin_of axis) (λ before. grind (arith, ints, flat, before))
    (λ from. by_lt_z at (end_of axis) (λ below. absurd (outside (record { from = from; below = below }))) (λ behind. grind (arith, ints, flat, behind)))

pub wrapped_moved : (axis : Axis) (at : ℤ) → axis.wraps ≡ true → wrapped axis at ≡ Some (moved_inside axis at)
unfolding wrapped
wrapped_moved axis at wraps = rw wraps refl

-- what the code computes on an axis that wraps
pub moved_is : (axis : Axis) (at : ℤ) → (begin_of axis +ℤ int_rem_euclid (at -ℤ begin_of axis) (pos (length_of axis))) ≡ moved_inside axis at
unfolding moved_inside
moved_is axis at =
    let length_some : 0 < length_of axis = omega arith in
    omega (arith, ints, rest_of (at -ℤ begin_of axis) (length_of axis) length_some)

-- what is moved lies inside
pub moved_is_inside : (axis : Axis) (at : ℤ) → IsAxis axis → IsInside axis (moved_inside axis at)
unfolding moved_inside
moved_is_inside axis at limits =
    let length_some : 0 < length_of axis = omega arith in
    let low = floor_low (at -ℤ begin_of axis) (length_of axis) length_some in
    let high = floor_high (at -ℤ begin_of axis) (length_of axis) length_some in
    record { from = omega (arith, ints, low); below = omega (arith, ints, high, end_is axis limits) }

-- it is in the range of numbers, and what the code computes
pub moved_small : (axis : Axis) (at : ℤ) → IsAxis axis → unsigned_abs (moved_inside axis at) ≤ limit
moved_small axis at limits =
    let inside = moved_is_inside axis at limits in
    omega (arith, ints, inside.from, inside.below, limits.low, limits.high, limits.few)

pub wrapped_is : (axis : Axis) (at count : ℤ) → axis.wraps ≡ true → count ≡ moved_inside axis at → Some count ≡ wrapped axis at
wrapped_is axis at count wraps is = ap (λ z. Some z) is ∙ sym (wrapped_moved axis at wraps)

-- the index of a coordinate that is inside
pub index_is : (axis : Axis) (at : ℤ) (k : ℕ) → k * one ≤ unsigned_abs (at -ℤ begin_of axis) → unsigned_abs (at -ℤ begin_of axis) < k * one + one → IsInside axis at → pos k ≡ patch_coordinate at -ℤ axis.least
index_is axis at k low high inside =
    let same : (axis.least +ℤ pos k) ≡ rounded_quotient at one = rounded_only at one (axis.least +ℤ pos k) (omega arith) (omega (arith, ints, low, high, inside.from)) (omega (arith, ints, low, high, inside.from)) in
    omega (arith, ints, same)

-- the same, as the code computes it
pub index_of_quotient : (axis : Axis) (at past : ℤ) → IsAxis axis → IsInside axis at → past ≡ at -ℤ begin_of axis → pos (unsigned_abs (to_z w64 (of_z w64 (int_div past (pos 1000000))))) ≡ patch_coordinate at -ℤ axis.least
index_of_quotient axis at (pos p) limits inside is =
    let quotient = p / 1000000 in
    let rest = div-add-mod' p 1000000 in
    let some : 0 < 1000000 = omega arith in
    let small : p % 1000000 < 1000000 = mod-lt p some in
    let k = unsigned_abs (to_z w64 (of_z w64 (int_div (pos p) (pos 1000000)))) in
    let equal : k ≡ quotient = omega (arith, ints, inside.below, end_is axis limits, limits.few) in
    index_is axis at k (omega (arith, ints, rest, is, equal)) (omega (arith, ints, rest, small, is, equal)) inside
index_of_quotient axis at (negsuc p) limits inside is = absurd (omega (arith, ints, inside.from, is))

pub wrapped_lies_inside : (axis : Axis) (at inside : ℤ) → IsAxis axis → wrapped axis at ≡ Some inside → IsInside axis inside
unfolding wrapped
wrapped_lies_inside axis at inside limits is =
    by_bool axis.wraps
    (λ wraps. let same : moved_inside axis at ≡ inside = some_same (sym (wrapped_moved axis at wraps) ∙ is) in rw (← same) (moved_is_inside axis at limits))
    (λ flat. by_lt_z at (begin_of axis) (λ before. absurd (grind (arith, ints, flat, before, is)))
    (λ from. by_lt_z at (end_of axis)
    (λ below. let here : IsInside axis at = record { from = from; below = below } in let same : at ≡ inside = some_same (wrapped_within axis at limits here ∙ is) in rw (← same) here)
    (λ behind. absurd (grind (arith, ints, flat, behind, is)))))

-- the centers of patches are inside
pub center_inside_up : (axis : Axis) (index : ℕ) (at : ℤ) → IsAxis axis → index < side axis → at ≡ (axis.least +ℤ pos index) *ℤ pos one → IsInside axis at
center_inside_up axis index at limits below is = record { from = omega (arith, ints, is); below = omega (arith, ints, is, below, limits.low, limits.high) }

pub center_inside_down : (axis : Axis) (index : ℕ) (at : ℤ) → IsAxis axis → index < side axis → at ≡ (axis.greatest -ℤ pos index) *ℤ pos one → IsInside axis at
center_inside_down axis index at limits below is = record { from = omega (arith, ints, is, below, limits.low, limits.high); below = omega (arith, ints, is) }

-- what is inside is in the range of numbers
pub inside_small : (axis : Axis) (at : ℤ) → IsAxis axis → IsInside axis at → unsigned_abs at ≤ limit
inside_small axis at limits inside = omega (arith, ints, inside.from, inside.below, limits.low, limits.high, limits.few)
