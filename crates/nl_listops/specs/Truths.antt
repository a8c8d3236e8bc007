-- Words of truths, and comparisons.
use Rattle.std.specs.Prelude.{Bool, not, ◌&&◌, ◌||◌, Ok}
use Rattle.std.specs.Bool.{beq}
use Rattle.nl_value.specs.Plain.{Plain}
use Rattle.nl_value.specs.Living.{Living}
use Rattle.nl_value.specs.Equality.{same_values}
use Rattle.nl_value.specs.Order.{comes_before}
use Rattle.nl_listops_series.specs.declared.fail.ListFail.TheVariants.{WrongType}
use Rattle.nl_listops_series.specs.Outcomes.{ListOutcome, outcome_map, or_fail}
use Rattle.nl_listops.specs.declared.words.OfTruths.{OfTruths}
use Rattle.nl_listops.specs.declared.words.OfTruths.TheVariants.{And, Or, Xor}
use Rattle.nl_listops.specs.declared.words.Comparison.{Comparison}
use Rattle.nl_listops.specs.declared.words.Comparison.TheVariants.{Equal, NotEqual, Less, Greater, LessEqual, GreaterEqual}

abbrev pub truth_of_two : OfTruths → Bool → Bool → Bool
truth_of_two And a b = a && b
truth_of_two Or a b = a || b
truth_of_two Xor a b = not (beq a b)

-- whether the first value comes before the second, which only values that have an order tell
abbrev pub ordered : Living → Plain → Plain → ListOutcome Bool
ordered w a b = or_fail WrongType (comes_before w a b)

abbrev pub comparison_of : Living → Comparison → Plain → Plain → ListOutcome Bool
comparison_of w Equal a b = Ok (same_values w a b)
comparison_of w NotEqual a b = Ok (not (same_values w a b))
comparison_of w Less a b = ordered w a b
comparison_of w Greater a b = ordered w b a
comparison_of w LessEqual a b = outcome_map not (ordered w b a)
comparison_of w GreaterEqual a b = outcome_map not (ordered w a b)
