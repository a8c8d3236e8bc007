-- Points by an offset, and by a heading and a distance.
use Rattle.std.proofs.Common.{◌*◌, ◌≤◌, ◌<◌, ◌≡◌, true, false, ℤ, ◌+ℤ◌, ◌*ℤ◌, unsigned_abs, Option, Some, inl, inr, Result, Ok, Err, IsOk, arith, refl, sym, ap, ◌∙◌}
use Rattle.std.proofs.lemmas.Int.{ints, unsigned_abs-mul}
use Rattle.std.proofs.Math.Nat.{mul-le-mul}
use Rattle.std.proofs.lemmas.Bool.{le-leb}
use Rattle.nl_fixed.specs.declared.number.NumFault.{NumFault}
use Rattle.nl_fixed.specs.declared.number.NumFault.TheVariants.{Overflow}
use Rattle.nl_fixed.specs.Numbers.{one, limit, IsInRange, in_range, as_number, sum_of, product_of, rounded_quotient}
use Rattle.nl_fixed.specs.Sines.{IsUnit, sine_of, cosine_of}
use Rattle.nl_fixed.proofs.Integers.{rounded_low, rounded_high}
use Rattle.nl_grid.specs.declared.point.Point.{Point}
use Rattle.nl_grid.specs.declared.axis.Axis.{Axis}
use Rattle.nl_grid.proofs.AxisLemmas.{by_bool, wrapped_within, wrapped_moved}
use Rattle.nl_grid.proofs.CoverLemmas.{offset_is_way, offset_flat}
use Rattle.nl_grid.proofs.ShapeLemmas.{offset_within}
use Rattle.nl_grid.proofs.StepLemmas.{moved_up, moved_down}
use Rattle.nl_grid.specs.Geometry.{Plane, IsAxis, IsWithinLimits, IsInside, IsPointOf, wrapped, wrapped_point, point_beside, share_of, point_ahead, axis_offset, x_offset, y_offset}

-- ---- a product with a sine

product_small : (a s : ℤ) → IsInRange a → IsUnit s → unsigned_abs (a *ℤ s) ≤ limit * one
product_small a s range unit =
    let wide : unsigned_abs a ≤ limit = omega (arith, ints) in
    let small : unsigned_abs s ≤ one = omega (arith, ints, unit.0, unit.1) in
    rw unsigned_abs-mul (mul-le-mul wide small)

rounded_small : (p : ℤ) → unsigned_abs p ≤ limit * one → unsigned_abs (rounded_quotient p one) ≤ limit
rounded_small p small =
    let some : 0 < one = omega arith in
    omega (arith, ints, rounded_low p one some, rounded_high p one some)

-- it is never out of range
product_is : (a s : ℤ) → IsInRange a → IsUnit s → product_of a s ≡ Ok (share_of a s)
unfolding product_of as_number
product_is a s range unit =
    let fits = le-leb (unsigned_abs (share_of a s)) limit (rounded_small (a *ℤ s) (product_small a s range unit)) in
    rw fits refl

is_some_product : (r : Result ℤ NumFault) (share : ℤ) → r ≡ Ok share → IsOk r
is_some_product r share is = rw is refl

pub product_succeeds : (a s : ℤ) (r : Result ℤ NumFault) → IsInRange a → IsUnit s → r ≡ product_of a s → IsOk r
product_succeeds a s r range unit is = is_some_product r (share_of a s) (is ∙ product_is a s range unit)

pub product_gives : (a s : ℤ) (r : Result ℤ NumFault) (share : ℤ) → IsInRange a → IsUnit s → r ≡ product_of a s → r ≡ Ok share → share ≡ share_of a s
product_gives a s r share range unit is gives = let both = sym gives ∙ is ∙ product_is a s range unit in cc

-- ---- the sums

as_sum-fits : (count : ℤ) → in_range count ≡ true → as_number count ≡ Ok count
unfolding as_number
as_sum-fits count fits = rw fits refl

as_sum-out : (count : ℤ) → in_range count ≡ false → as_number count ≡ Err Overflow
unfolding as_number
as_sum-out count out = rw out refl

-- a sum has no fault but that it is out of range
pub sum_overflows : (a b : ℤ) (r : Result ℤ NumFault) (fault : NumFault) → r ≡ sum_of a b → r ≡ Err fault → fault ≡ Overflow
unfolding sum_of
sum_overflows a b r fault is fails =
    let both = sym is ∙ fails in
    by_bool (in_range (a +ℤ b))
    (λ fits. let known = sym (as_sum-fits (a +ℤ b) fits) ∙ both in absurd (cc))
    (λ out. let known = sym (as_sum-out (a +ℤ b) out) ∙ both in cc)

pub beside-first_fault : (plane : Plane) (at : Point) (dx dy : ℤ) (r : Result ℤ NumFault) (fault : NumFault) → r ≡ sum_of at.x dx → r ≡ Err fault → Err fault ≡ point_beside plane at dx dy
unfolding point_beside
beside-first_fault plane at dx dy r fault is fails = let known = sym is ∙ fails in rw known refl

pub beside-second_fault : (plane : Plane) (at : Point) (dx dy x : ℤ) (r q : Result ℤ NumFault) (fault : NumFault) → r ≡ sum_of at.x dx → r ≡ Ok x → q ≡ sum_of at.y dy → q ≡ Err fault → Err fault ≡ point_beside plane at dx dy
unfolding point_beside
beside-second_fault plane at dx dy x r q fault is_x has is_y fails =
    let first = sym is_x ∙ has in
    let second = sym is_y ∙ fails in
    rw (first, second) refl

pub beside-is : (plane : Plane) (at : Point) (dx dy x y : ℤ) (r q : Result ℤ NumFault) (found : Option Point) → r ≡ sum_of at.x dx → r ≡ Ok x → q ≡ sum_of at.y dy → q ≡ Ok y → found ≡ wrapped_point plane x y → Ok found ≡ point_beside plane at dx dy
unfolding point_beside
beside-is plane at dx dy x y r q found is_x has_x is_y has_y is =
    let first = sym is_x ∙ has_x in
    let second = sym is_y ∙ has_y in
    rw (first, second) (ap (λ o. Ok o) is)

pub ahead-is : (plane : Plane) (at : Point) (heading distance sine cosine dx dy : ℤ) → sine ≡ sine_of heading → cosine ≡ cosine_of heading → dx ≡ share_of distance sine → dy ≡ share_of distance cosine → point_beside plane at dx dy ≡ point_ahead plane at heading distance
unfolding point_ahead
ahead-is plane at heading distance sine cosine dx dy is_sine is_cosine is_dx is_dy = rw (is_dx, is_dy, is_sine, is_cosine) refl

-- ---- the offset to a point

offset_leads : (axis : Axis) (from to : ℤ) → IsAxis axis → IsInside axis to → wrapped axis (from +ℤ axis_offset axis from to) ≡ Some to
offset_leads axis from to limits inside =
    let at = from +ℤ axis_offset axis from to in
    by_bool axis.wraps
    (λ wraps.
    elim (offset_is_way axis from to wraps) [
      | inl straight ↦ let there : at ≡ to = omega (arith, ints, straight) in rw there (sym (wrapped_within axis to limits inside))
      | inr other ↦ elim other [
        | inl up ↦ wrapped_moved axis at wraps ∙ ap (λ z. Some z) (moved_down axis at to limits inside (omega (arith, ints, up)))
        | inr down ↦ wrapped_moved axis at wraps ∙ ap (λ z. Some z) (moved_up axis at to limits inside (omega (arith, ints, down)))
      ]
    ])
    (λ flat. let there : at ≡ to = omega (arith, ints, offset_flat axis from to flat) in rw there (sym (wrapped_within axis to limits inside)))

offset_sum : (axis : Axis) (from to : ℤ) → IsAxis axis → IsInside axis from → IsInside axis to → sum_of from (axis_offset axis from to) ≡ Ok (from +ℤ axis_offset axis from to)
unfolding sum_of
offset_sum axis from to limits from_inside to_inside =
    let small : unsigned_abs (from +ℤ axis_offset axis from to) ≤ limit = omega (arith, ints, offset_within axis from to limits from_inside to_inside, from_inside.from, from_inside.below, limits.low, limits.high, limits.few) in
    as_sum-fits (from +ℤ axis_offset axis from to) (le-leb (unsigned_abs (from +ℤ axis_offset axis from to)) limit small)

pub offsets_lead : (plane : Plane) (from to : Point) → IsWithinLimits plane → IsPointOf plane from → IsPointOf plane to → point_beside plane from (x_offset plane from to) (y_offset plane from to) ≡ Ok (Some to)
unfolding point_beside wrapped_point
offsets_lead plane from to limits from_point to_point =
    let sum_x = offset_sum plane.x from.x to.x limits.x from_point.x to_point.x in
    let sum_y = offset_sum plane.y from.y to.y limits.y from_point.y to_point.y in
    let x = offset_leads plane.x from.x to.x limits.x to_point.x in
    let y = offset_leads plane.y from.y to.y limits.y to_point.y in
    rw (sum_x, sum_y) (rw (x, y) refl)
