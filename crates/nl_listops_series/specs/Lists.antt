-- Lists that are put together of values.
use Rattle.std.specs.Prelude.{ℕ, ℤ, pos, List, [], ◌∷◌, ◌++◌, flat_map}
use Rattle.nl_fixed.specs.Numbers.{number_of_integer}
use Rattle.nl_value.specs.Plain.{Plain, PlainItems, items_of}
use Rattle.nl_listops_series.specs.Outcomes.{ListOutcome, numbered}

-- a list stands for its items, each other value for itself
abbrev pub items_in : Plain → List Plain
items_in (PlainItems items) = items_of items
items_in value = value ∷ []

-- `sentence`: the values, with the lists among them taken apart by one level
abbrev pub sentence_of : List Plain → List Plain
sentence_of values = flat_map items_in values

-- `fput`, `lput`
abbrev pub put_first : Plain → List Plain → List Plain
put_first value items = value ∷ items

abbrev pub put_last : Plain → List Plain → List Plain
put_last value items = items ++ value ∷ []

-- a count as a number
abbrev pub counted : ℕ → ListOutcome ℤ
counted n = numbered (number_of_integer (pos n))
