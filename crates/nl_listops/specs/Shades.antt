-- Shades of colors. Ten lie from each multiple of 10 on, from dark to light. Every sum, product and quotient is that of numbers,
-- rounded, and Overflow out of range.
use Rattle.std.specs.Prelude.{ℕ, ◌*◌, ℤ, pos, Bool, Result, Ok, if◌then◌else◌}
use Rattle.std.specs.Ordering.{int_eq}
use Rattle.nl_fixed.specs.declared.number.NumFault.{NumFault}
use Rattle.nl_fixed.specs.Numbers.{one, and_next, sum_of, difference_of, product_of, quotient_of, floor_of}
use Rattle.nl_listops_series.specs.Outcomes.{ListOutcome, and_then, numbered}
use Rattle.nl_listops_series.specs.Statistics.{lesser, larger}

-- how many shades a color has
abbrev pub ten : ℕ
ten = 10 * one

-- how far the lightest shade lies above the darkest
abbrev pub lightest : ℕ
lightest = 9_999_900

-- which range of shades a color lies in
abbrev pub range_of_shades : ℤ → Result ℤ NumFault
range_of_shades color = and_next (quotient_of color (pos ten)) (λ tenth. Ok (floor_of tenth))

-- `shade-of?`
abbrev pub are_shades : ℤ → ℤ → ListOutcome Bool
are_shades a b = and_then (numbered (range_of_shades a)) (λ first. and_then (numbered (range_of_shades b)) (λ second. Ok (int_eq first second)))

-- the darkest shade of the color
abbrev pub darkest : ℤ → Result ℤ NumFault
darkest color = and_next (range_of_shades color) (λ range. product_of (pos ten) range)

-- held to 0 to 1
abbrev pub held : ℤ → ℤ
held part = larger (pos 0) (lesser (pos one) part)

-- how far a value is on the way from the low end to the high one
abbrev pub part_way : ℤ → ℤ → ℤ → Result ℤ NumFault
part_way value low high =
    and_next (difference_of value low) (λ above. and_next (difference_of high low) (λ whole. quotient_of above whole))

-- the shade so far above the darkest
abbrev pub shade_at : ℤ → ℤ → Result ℤ NumFault
shade_at dark part = and_next (product_of (pos ten) (held part)) (λ above. sum_of dark (lesser (pos lightest) above))

-- `scale-color`: the darkest shade where both ends are the same
abbrev pub scaled_from : ℤ → ℤ → ℤ → ℤ → Result ℤ NumFault
scaled_from dark value low high = if int_eq low high then Ok dark else and_next (part_way value low high) (shade_at dark)

abbrev pub scaled_color : ℤ → ℤ → ℤ → ℤ → Result ℤ NumFault
scaled_color color value low high = and_next (darkest color) (λ dark. scaled_from dark value low high)
