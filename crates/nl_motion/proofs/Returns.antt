-- Steps there and back.
use Rattle.std.proofs.Common.{◌≡◌, ℕ, zero, suc, ◌*◌, ℤ, pos, negsuc, ◌+ℤ◌, ◌*ℤ◌, neg_ℤ, ◌≤ℤ◌, Bool, if◌then◌else◌, Option, Some, None, Result, Ok, Err, refl, sym, ap, ◌∙◌, arith}
use Rattle.std.proofs.Math.IntN.{zero-*ℤ, neg_ℤ-neg_ℤ}
use Rattle.std.proofs.lemmas.Int.{ints}
use Rattle.nl_fixed.specs.Numbers.{one, as_number, sum_of, in_range, rounded_quotient}
use Rattle.nl_fixed.specs.Sines.{sine_of, cosine_of}
use Rattle.nl_fixed.specs.declared.number.NumFault.{NumFault}
use Rattle.nl_fixed.specs.declared.number.NumFault.TheVariants as why
use Rattle.nl_fixed.proofs.Integers.{rounded_low, rounded_high}
use Rattle.nl_grid.specs.Geometry.{Plane, IsAxis, IsWithinLimits, length_of, wrapped, wrapped_point, point_of_both, point_of_sums, point_beside, point_ahead, share_of}
use Rattle.nl_grid.specs.declared.axis.Axis.{Axis}
use Rattle.nl_grid.specs.declared.point.Point.{Point}
use Rattle.nl_grid.proofs.RangeLemmas.{by_test}
use Rattle.nl_grid.proofs.LawLemmas.{wrapping_moves}
use Rattle.nl_motion.proofs.Even.{times_suc}
use Rattle.nl_motion.specs.Laws.{IsBackAt, IsBack}

-- ---- the point of a step, coordinate by coordinate

abbrev sum_by : ℤ → Bool → Result ℤ NumFault
sum_by count fits = if fits then Ok count else Err why.Overflow

sum_is : (a b x : ℤ) → sum_of a b ≡ Ok x → x ≡ a +ℤ b
unfolding sum_of as_number
sum_is a b x is =
    by_test (in_range (a +ℤ b))
    (λ t. let known = sym (ap (sum_by (a +ℤ b)) t) ∙ is in cc)
    (λ f. let known = sym (ap (sum_by (a +ℤ b)) f) ∙ is in absurd (cc))

record Parts (plane : Plane) (at to : Point) (dx dy : ℤ) : Type 0 where
  pub x : wrapped plane.x (at.x +ℤ dx) ≡ Some to.x
  pub y : wrapped plane.y (at.y +ℤ dy) ≡ Some to.y

abbrev x_or : ℤ → Option Point → ℤ
x_or x None = x
x_or x (Some at) = at.x

abbrev y_or : ℤ → Option Point → ℤ
y_or y None = y
y_or y (Some at) = at.y

both_there : (a b : Option ℤ) (to : Point) → point_of_both a b ≡ Some to → (a ≡ Some to.x) × (b ≡ Some to.y)
both_there (Some x) (Some y) to is = let same = is in (ap Some (ap (λ (o : Option Point). x_or x o) is), ap Some (ap (λ (o : Option Point). y_or y o) is))
both_there (Some x) None to is = absurd (let wrong = is in cc)
both_there None b to is = absurd (let wrong = is in cc)

parts_of_sums : (plane : Plane) (at to : Point) (dx dy : ℤ) (a b : Result ℤ NumFault) → sum_of at.x dx ≡ a → sum_of at.y dy ≡ b
    → point_of_sums plane a b ≡ Ok (Some to) → Parts plane at to dx dy
unfolding wrapped_point
parts_of_sums plane at to dx dy (Ok x) (Ok y) is_x is_y is =
    let found : point_of_both (wrapped plane.x x) (wrapped plane.y y) ≡ Some to = let known = is in cc in
    let both = both_there (wrapped plane.x x) (wrapped plane.y y) to found in
    record { x = sym (ap (wrapped plane.x) (sum_is at.x dx x is_x)) ∙ both.0; y = sym (ap (wrapped plane.y) (sum_is at.y dy y is_y)) ∙ both.1 }
parts_of_sums plane at to dx dy (Ok x) (Err fault) is_x is_y is = absurd (let wrong = is in cc)
parts_of_sums plane at to dx dy (Err fault) b is_x is_y is = absurd (let wrong = is in cc)

step_parts : (plane : Plane) (at to : Point) (heading by : ℤ) → point_ahead plane at heading by ≡ Ok (Some to)
    → Parts plane at to (share_of by (sine_of heading)) (share_of by (cosine_of heading))
unfolding point_ahead point_beside
step_parts plane at to heading by is = parts_of_sums plane at to _ _ _ _ refl refl is

-- ---- two products

opposite : (by sine : ℤ) → neg_ℤ by *ℤ sine ≡ neg_ℤ (by *ℤ sine)
opposite (pos zero) sine = zero-*ℤ sine ∙ sym (ap neg_ℤ (zero-*ℤ sine))
opposite (pos (suc n)) (pos m) = refl
opposite (pos (suc n)) (negsuc m) = sym (neg_ℤ-neg_ℤ (pos (suc n * suc m)))
opposite (negsuc n) (pos m) = sym (neg_ℤ-neg_ℤ (pos (suc n * m)))
opposite (negsuc n) (negsuc m) = refl

-- the two products of a step and its opposite make 0 or a millionth together
together_low : (by sine : ℤ) → pos 0 ≤ℤ (share_of by sine +ℤ share_of (neg_ℤ by) sine)
together_low by sine =
    let turned = ap (λ p. rounded_quotient p one) (opposite by sine) in
    omega (arith, ints, turned, rounded_low (by *ℤ sine) one (omega arith), rounded_low (neg_ℤ (by *ℤ sine)) one (omega arith))

together_high : (by sine : ℤ) → (share_of by sine +ℤ share_of (neg_ℤ by) sine) ≤ℤ pos 1
together_high by sine =
    let turned = ap (λ p. rounded_quotient p one) (opposite by sine) in
    omega (arith, ints, turned, rounded_high (by *ℤ sine) one (omega arith), rounded_high (neg_ℤ (by *ℤ sine)) one (omega arith))

times_both : (n : ℕ) (a b : ℤ) → (pos n *ℤ a) +ℤ (pos n *ℤ b) ≡ pos n *ℤ (a +ℤ b)
times_both zero a b = omega (arith, ints)
times_both (suc n) a b = omega (arith, ints, times_suc n a, times_suc n b, times_suc n (a +ℤ b), times_both n a b)

back_at : (axis : Axis) (from there to dx dy : ℤ) → IsAxis axis → pos 0 ≤ℤ (dx +ℤ dy) → (dx +ℤ dy) ≤ℤ pos 1
    → wrapped axis (from +ℤ dx) ≡ Some there → wrapped axis (there +ℤ dy) ≡ Some to → IsBackAt axis from to
back_at axis from there to dx dy limits low high out home =
    let first = wrapping_moves axis (from +ℤ dx) there limits out in
    let second = wrapping_moves axis (there +ℤ dy) to limits home in
    let sides = times_both (length_of axis) first.sides second.sides in
    record {
      rest = dx +ℤ dy;
      low = low;
      high = high;
      sides = first.sides +ℤ second.sides;
      is = omega (arith, ints, first.moved, second.moved, sides);
      flat = λ flat. omega (arith, ints, first.flat flat, second.flat flat);
    }

pub leads_back : (plane : Plane) (from there back : Point) (heading by : ℤ) → IsWithinLimits plane
    → point_ahead plane from heading by ≡ Ok (Some there) → point_ahead plane there heading (neg_ℤ by) ≡ Ok (Some back) → IsBack plane from back
leads_back plane from there back heading by limits out home =
    let first = step_parts plane from there heading by out in
    let second = step_parts plane there back heading (neg_ℤ by) home in
    record {
      x = back_at plane.x from.x there.x back.x _ _ limits.x (together_low by (sine_of heading)) (together_high by (sine_of heading)) first.x second.x;
      y = back_at plane.y from.y there.y back.y _ _ limits.y (together_low by (cosine_of heading)) (together_high by (cosine_of heading)) first.y second.y;
    }
