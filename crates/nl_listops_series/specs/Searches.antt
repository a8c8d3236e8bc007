-- Searches for a value in a list, and for a text in a text.
use Rattle.std.specs.Prelude.{ℕ, zero, suc, ◌+◌, ◌-◌, Bool, not, ◌==◌, Option, Some, None, if◌then◌else◌, List, [], ◌∷◌, length, map, filter, count_by, position}
use Rattle.std.specs.List.{list_any, concat, starts_with}
use Rattle.std.specs.Option.{is_some}
use Rattle.std.specs.Str.{bytes_eq}
use Rattle.nl_fixed.specs.Nouns.{Bytes, Texts}
use Rattle.nl_fixed.specs.Characters.{characters}
use Rattle.nl_value.specs.Plain.{Plain}
use Rattle.nl_value.specs.Living.{Living}
use Rattle.nl_value.specs.Equality.{same_values}
use Rattle.nl_value.specs.Measures.{greatest}

-- ---- in a list

-- `member?`: some item is the same as the value
abbrev pub has_item : Living → Plain → List Plain → Bool
has_item w value items = list_any (same_values w value) items

-- `position`: the first place of such an item
abbrev pub place_of_item : Living → Plain → List Plain → Option ℕ
place_of_item w value items = position (same_values w value) items

-- `remove`: without all such items
abbrev pub without_item : Living → Plain → List Plain → List Plain
without_item w value items = filter (λ item. not (same_values w value item)) items

-- `remove-duplicates`: the first item, and those of the others that aren't the same as it, each once
abbrev pub each_once : Living → List Plain → List Plain
each_once w [] = []
each_once w (item ∷ items) = item ∷ filter (λ other. not (same_values w item other)) (each_once w items)

-- how often a value stands in a list
abbrev pub times_in : Living → List Plain → Plain → ℕ
times_in w items value = count_by (same_values w value) items

-- how often the items stand in the list that stand in it most often
abbrev pub most_times : Living → List Plain → ℕ
most_times w items = greatest (map (times_in w items) items)

-- `modes`: the items that stand in the list most often, each once
abbrev pub modes_of : Living → List Plain → List Plain
modes_of w items = filter (λ item. times_in w items item == most_times w items) (each_once w items)

-- ---- in a text, by characters

-- the characters begin with others
abbrev pub begin_with : Texts → Texts → Bool
begin_with others characters = starts_with bytes_eq characters others

-- the first place from which on the characters begin with the others; the search stands at a place
abbrev pub found_from : ℕ → Texts → Texts → Option ℕ
found_from place others [] = if begin_with others [] then Some place else None
found_from place others (c ∷ cs) = if begin_with others (c ∷ cs) then Some place else found_from (place + 1) others cs

-- `position`: the first place at which a text occurs in another one
abbrev pub place_of_text : Bytes → Bytes → Option ℕ
place_of_text part text = found_from 0 (characters part) (characters text)

-- `member?`: it occurs there
abbrev pub has_text : Bytes → Bytes → Bool
has_text part text = is_some (place_of_text part text)

-- the characters without the occurrences of the others, sought from the left: so many characters still belong to the last one found
abbrev pub left_without : ℕ → Texts → Texts → Texts
left_without left others [] = []
left_without (suc left) others (c ∷ cs) = left_without left others cs
left_without zero others (c ∷ cs) = if begin_with others (c ∷ cs) then left_without (length others - 1) others cs else c ∷ left_without zero others cs

-- `remove`: without the occurrences; the empty text occurs everywhere and takes nothing away
abbrev pub characters_without : Texts → Texts → Texts
characters_without [] cs = cs
characters_without (other ∷ others) cs = left_without 0 (other ∷ others) cs

abbrev pub text_without : Bytes → Bytes → Bytes
text_without part text = concat (characters_without (characters part) (characters text))
