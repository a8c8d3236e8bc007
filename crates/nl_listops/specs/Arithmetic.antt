-- Words of numbers that give a number.
use Rattle.std.specs.Prelude.{ℕ, ◌*◌, ℤ, pos, unsigned_abs, Result, Ok}
use Rattle.nl_fixed.specs.declared.number.NumFault.{NumFault}
use Rattle.nl_fixed.specs.Numbers.{one, sum_of, difference_of, product_of, quotient_of, modulo_of, remainder_of, power_of, root_of, round_of, floor_of, ceiling_of, int_of, precision_of}
use Rattle.nl_fixed.specs.Sines.{sine_of, cosine_of, tangent_of, heading_of}
use Rattle.nl_fixed.specs.Headings.{heading_difference_of}
use Rattle.nl_listops.specs.declared.words.OfNumber.{OfNumber}
use Rattle.nl_listops.specs.declared.words.OfNumber.TheVariants as of
use Rattle.nl_listops.specs.declared.words.OfNumbers.{OfNumbers}
use Rattle.nl_listops.specs.declared.words.OfNumbers.TheVariants.{Plus, Minus, Times, Divided, Power, Modulo, Remainder, Atan, Precision, SubtractHeadings}

-- where colors lie: from 0 to below 140
abbrev pub color_circle : ℕ
color_circle = 140 * one

abbrev pub number_of : OfNumber → ℤ → Result ℤ NumFault
number_of of.Abs n = Ok (pos (unsigned_abs n))
number_of of.Ceiling n = Ok (ceiling_of n)
number_of of.Cos n = Ok (cosine_of n)
number_of of.Floor n = Ok (floor_of n)
number_of of.Int n = Ok (int_of n)
number_of of.Round n = Ok (round_of n)
number_of of.Sin n = Ok (sine_of n)
number_of of.Sqrt n = root_of n
number_of of.Tan n = tangent_of n
number_of of.WrapColor n = modulo_of n (pos color_circle)

abbrev pub number_of_two : OfNumbers → ℤ → ℤ → Result ℤ NumFault
number_of_two Plus a b = sum_of a b
number_of_two Minus a b = difference_of a b
number_of_two Times a b = product_of a b
number_of_two Divided a b = quotient_of a b
number_of_two Power a b = power_of a b
number_of_two Modulo a b = modulo_of a b
number_of_two Remainder a b = remainder_of a b
number_of_two Atan a b = heading_of a b
number_of_two Precision a b = precision_of a b
number_of_two SubtractHeadings a b = heading_difference_of a b

-- the counts of `pi` and `e`
abbrev pub circle_ratio : ℕ
circle_ratio = 3_141_593

abbrev pub growth_base : ℕ
growth_base = 2_718_282
