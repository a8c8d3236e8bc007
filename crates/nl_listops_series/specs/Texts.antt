-- Texts by their characters: each word of texts is that of lists, over the characters, and the characters it gives are joined.
use Rattle.std.specs.Prelude.{ℤ, false, List, [], ◌∷◌, map, reverse}
use Rattle.std.specs.List.{concat}
use Rattle.nl_fixed.specs.Nouns.{Bytes}
use Rattle.nl_fixed.specs.Characters.{characters}
use Rattle.nl_value.specs.Plain.{Plain}
use Rattle.nl_value.specs.Living.{Living}
use Rattle.nl_value.specs.Text.{text_of}
use Rattle.nl_listops_series.specs.Outcomes.{ListOutcome, outcome_map}
use Rattle.nl_listops_series.specs.Places.{first_of, last_of, without_first, without_last, item_at, without_at, replaced_at, inserted_at, part_of}

-- ---- one character

abbrev pub first_character : Bytes → ListOutcome Bytes
first_character text = first_of (characters text)

abbrev pub last_character : Bytes → ListOutcome Bytes
last_character text = last_of (characters text)

abbrev pub character_at : ℤ → Bytes → ListOutcome Bytes
character_at number text = item_at number (characters text)

-- ---- texts of what is left

abbrev pub text_without_first : Bytes → ListOutcome Bytes
text_without_first text = outcome_map concat (without_first (characters text))

abbrev pub text_without_last : Bytes → ListOutcome Bytes
text_without_last text = outcome_map concat (without_last (characters text))

abbrev pub text_without_at : ℤ → Bytes → ListOutcome Bytes
text_without_at number text = outcome_map concat (without_at number (characters text))

abbrev pub text_replaced_at : ℤ → Bytes → Bytes → ListOutcome Bytes
text_replaced_at number text other = outcome_map concat (replaced_at number (characters text) (other ∷ []))

abbrev pub text_inserted_at : ℤ → Bytes → Bytes → ListOutcome Bytes
text_inserted_at number text other = outcome_map concat (inserted_at number (characters text) (other ∷ []))

abbrev pub text_part_of : ℤ → ℤ → Bytes → ListOutcome Bytes
text_part_of first second text = outcome_map concat (part_of first second (characters text))

abbrev pub text_reversed : Bytes → Bytes
text_reversed text = concat (reverse (characters text))

-- ---- joins

-- `word`: the texts of the values, without quotes, in one
abbrev pub word_of : Living → List Plain → Bytes
word_of w values = concat (map (text_of w false) values)
