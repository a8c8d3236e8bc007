-- The inputs of a word, by place. One that is of another kind than the word takes there is WrongType. What stands behind the
-- inputs that a word takes isn't looked at, and one that is missing is of no kind.
use Rattle.std.specs.Prelude.{ℕ, ℤ, Bool, Ok, Err, List, [], ◌∷◌, slice_get}
use Rattle.nl_fixed.specs.Nouns.{Bytes}
use Rattle.nl_value.specs.Plain.{Plain, PlainNumber, PlainTruth, PlainWords, PlainItems, items_of}
use Rattle.nl_listops_series.specs.declared.fail.ListFail.TheVariants.{WrongType}
use Rattle.nl_listops_series.specs.Outcomes.{ListOutcome, and_then, or_fail}

abbrev pub value_at : List Plain → ℕ → ListOutcome Plain
value_at inputs at = or_fail WrongType (slice_get inputs at)

-- ---- what a value is taken for

abbrev pub as_number : Plain → ListOutcome ℤ
as_number (PlainNumber count) = Ok count
as_number value = Err WrongType

abbrev pub as_truth : Plain → ListOutcome Bool
as_truth (PlainTruth truth) = Ok truth
as_truth value = Err WrongType

abbrev pub as_text : Plain → ListOutcome Bytes
as_text (PlainWords bytes) = Ok bytes
as_text value = Err WrongType

abbrev pub as_list : Plain → ListOutcome (List Plain)
as_list (PlainItems items) = Ok (items_of items)
as_list value = Err WrongType

-- ---- the input at a place

abbrev pub number_at : List Plain → ℕ → ListOutcome ℤ
number_at inputs at = and_then (value_at inputs at) as_number

abbrev pub truth_at : List Plain → ℕ → ListOutcome Bool
truth_at inputs at = and_then (value_at inputs at) as_truth

abbrev pub text_at : List Plain → ℕ → ListOutcome Bytes
text_at inputs at = and_then (value_at inputs at) as_text

abbrev pub list_at : List Plain → ℕ → ListOutcome (List Plain)
list_at inputs at = and_then (value_at inputs at) as_list

-- all of the values as numbers
abbrev pub numbers_in : List Plain → ListOutcome (List ℤ)
numbers_in [] = Ok []
numbers_in (value ∷ values) = and_then (as_number value) (λ n. and_then (numbers_in values) (λ ns. Ok (n ∷ ns)))
