-- The families of all rows, computed.
use Rattle.std.specs.Prelude.{◌≡◌, refl, not, is_some, [], filter, map}
use Rattle.nl_words.specs.Rows.{rows}
use Rattle.nl_exec_meaning.specs.Families.{SecondSpellingsAreTheirFirst, WordsAreOfOneFamily, WordsOfBreedsGoByThem, second_spellings, sense_named}

pub words_are_of_one_family : WordsAreOfOneFamily
unfolding rows
words_are_of_one_family = refl

pub words_of_breeds_go_by_them : WordsOfBreedsGoByThem
unfolding rows
words_of_breeds_go_by_them = refl

second_spellings_are_words : filter (λ s. not (is_some (sense_named s.second))) second_spellings ≡ []
unfolding rows
second_spellings_are_words = refl

second_spellings_are_same : map (λ s. sense_named s.second) second_spellings ≡ map (λ s. sense_named s.first) second_spellings
unfolding rows
second_spellings_are_same = refl

pub second_spellings_are_their_first : SecondSpellingsAreTheirFirst
second_spellings_are_their_first = record { words = second_spellings_are_words; same = second_spellings_are_same }
