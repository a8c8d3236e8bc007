-- What each word of values answers: the kinds of its inputs from left to right, then its own errors in their order, and last
-- TooLarge, where the answer would pass the limits on values.
use Rattle.std.specs.Prelude.{ℕ, ◌*◌, ℤ, pos, negsuc, neg_ℤ, unsigned_abs, Bool, true, false, not, ◌==◌, Option, Some, None, Ok, Err, if◌then◌else◌, List, [], ◌∷◌, length, map, reverse}
use Rattle.nl_fixed.specs.Nouns.{Bytes}
use Rattle.nl_fixed.specs.Numbers.{one, whole_part, ceiling_of}
use Rattle.nl_fixed.specs.Characters.{character_count}
use Rattle.nl_value.specs.Plain.{Plain, PlainNumber, PlainTruth, PlainWords, PlainItems, PlainNobody, items_of}
use Rattle.nl_value.specs.declared.values.Value.{Value}
use Rattle.nl_value.specs.Living.{Living}
use Rattle.nl_value.specs.Views.{plain}
use Rattle.nl_value.specs.Colors.{primary_numbers}
use Rattle.nl_value.specs.Limits.{within_limits}
use Rattle.nl_draw.specs.Stream.{drawn, shuffled}
use Rattle.nl_words.specs.Row.{Code}
use Rattle.nl_listops_series.specs.declared.fail.ListFail.TheVariants.{WrongType, TooLarge}
use Rattle.nl_listops_series.specs.Outcomes.{ListOutcome, and_then, outcome_map, numbered, list_value, Gives}
use Rattle.nl_listops_series.specs.Lists.{sentence_of, put_first, put_last, counted}
use Rattle.nl_listops_series.specs.Places.{first_of, last_of, without_first, without_last, item_at, without_at, replaced_at, inserted_at, part_of}
use Rattle.nl_listops_series.specs.Ranges.{range_of, number_list}
use Rattle.nl_listops_series.specs.Searches.{has_item, place_of_item, without_item, each_once, modes_of, has_text, place_of_text, text_without}
use Rattle.nl_listops_series.specs.Sorts.{sorted_items}
use Rattle.nl_listops_series.specs.Texts.{first_character, last_character, character_at, text_without_first, text_without_last, text_without_at, text_replaced_at, text_inserted_at, text_part_of, text_reversed, word_of}
use Rattle.nl_listops.specs.declared.words.ValueWord.{ValueWord}
use Rattle.nl_listops.specs.declared.words.ValueWord.TheVariants as word
use Rattle.nl_listops.specs.declared.words.OfNumber.{OfNumber}
use Rattle.nl_listops.specs.declared.words.OfNumbers.{OfNumbers}
use Rattle.nl_listops.specs.declared.words.OfTruths.{OfTruths}
use Rattle.nl_listops.specs.declared.words.Comparison.{Comparison}
use Rattle.nl_listops.specs.declared.words.KindTest.{KindTest}
use Rattle.nl_listops.specs.declared.words.Statistic.{Statistic}
use Rattle.nl_listops.specs.declared.words.Fixed.{Fixed}
use Rattle.nl_listops.specs.declared.words.Fixed.TheVariants as fixed
use Rattle.nl_listops.specs.declared.words.OfMany.{OfMany}
use Rattle.nl_listops.specs.declared.words.OfMany.TheVariants as many
use Rattle.nl_listops.specs.declared.words.OfList.{OfList}
use Rattle.nl_listops.specs.declared.words.OfList.TheVariants as whole
use Rattle.nl_listops.specs.declared.words.PutAtEnd.{PutAtEnd}
use Rattle.nl_listops.specs.declared.words.PutAtEnd.TheVariants as end
use Rattle.nl_listops.specs.declared.words.OfSeries.{OfSeries}
use Rattle.nl_listops.specs.declared.words.OfSeries.TheVariants.{First, Last, ButFirst, ButLast, Length, IsEmpty, Reverse}
use Rattle.nl_listops.specs.declared.words.AtPlace.{AtPlace}
use Rattle.nl_listops.specs.declared.words.AtPlace.TheVariants.{Item, RemoveItem}
use Rattle.nl_listops.specs.declared.words.PutAtPlace.{PutAtPlace}
use Rattle.nl_listops.specs.declared.words.PutAtPlace.TheVariants.{ReplaceItem, InsertItem}
use Rattle.nl_listops.specs.declared.words.Search.{Search}
use Rattle.nl_listops.specs.declared.words.Search.TheVariants.{Member, Position, Remove}
use Rattle.nl_listops.specs.declared.words.Draw.{Draw}
use Rattle.nl_listops.specs.declared.words.Draw.TheVariants.{Random, RandomFloat, Shuffle}
use Rattle.nl_listops.specs.Arithmetic.{number_of, number_of_two, circle_ratio, growth_base}
use Rattle.nl_listops.specs.Inputs.{value_at, number_at, truth_at, text_at, list_at, as_text, numbers_in}
use Rattle.nl_listops.specs.Kinds.{is_kind}
use Rattle.nl_listops.specs.Shades.{are_shades, scaled_color}
use Rattle.nl_listops_series.specs.Statistics.{numbers_among}
use Rattle.nl_listops.specs.Statistics.{statistic_of}
use Rattle.nl_listops.specs.Truths.{truth_of_two, comparison_of}
use Rattle.nl_listops.specs.Words.{value_word}

-- ---- answers as values

abbrev pub number_answer : ListOutcome ℤ → ListOutcome Plain
number_answer outcome = outcome_map PlainNumber outcome

abbrev pub truth_answer : ListOutcome Bool → ListOutcome Plain
truth_answer outcome = outcome_map PlainTruth outcome

abbrev pub text_answer : ListOutcome Bytes → ListOutcome Plain
text_answer outcome = outcome_map PlainWords outcome

abbrev pub list_answer : ListOutcome (List Plain) → ListOutcome Plain
list_answer outcome = outcome_map list_value outcome

-- a place as a number, and false where there is none
abbrev pub place_answer : Option ℕ → ListOutcome Plain
place_answer None = Ok (PlainTruth false)
place_answer (Some place) = number_answer (counted place)

-- ---- words without inputs

abbrev pub fixed_value : Fixed → Plain
fixed_value fixed.Pi = PlainNumber (pos circle_ratio)
fixed_value fixed.E = PlainNumber (pos growth_base)
fixed_value fixed.True = PlainTruth true
fixed_value fixed.False = PlainTruth false
fixed_value fixed.Nobody = PlainNobody
fixed_value fixed.BaseColors = list_value (map PlainNumber primary_numbers)

-- ---- words that make a list or a text of values

abbrev pub range_answer : List Plain → ListOutcome Plain
range_answer values = and_then (numbers_in values) (λ ns. outcome_map number_list (range_of ns))

abbrev pub of_many : Living → OfMany → List Plain → ListOutcome Plain
of_many w many.List values = Ok (list_value values)
of_many w many.Sentence values = Ok (list_value (sentence_of values))
of_many w many.Word values = Ok (PlainWords (word_of w values))
of_many w many.Range values = range_answer values

abbrev pub put_at_end : PutAtEnd → Plain → List Plain → List Plain
put_at_end end.First value items = put_first value items
put_at_end end.Last value items = put_last value items

abbrev pub of_list : Living → OfList → List Plain → List Plain
of_list w whole.RemoveDuplicates items = each_once w items
of_list w whole.Sort items = sorted_items w items
of_list w whole.Modes items = modes_of w items

-- ---- words of a list or a text

abbrev pub is_empty : {X : Type 0} → List X → Bool
is_empty [] = true
is_empty (x ∷ xs) = false

abbrev pub of_items : OfSeries → List Plain → ListOutcome Plain
of_items First items = first_of items
of_items Last items = last_of items
of_items ButFirst items = list_answer (without_first items)
of_items ButLast items = list_answer (without_last items)
of_items Length items = number_answer (counted (length items))
of_items IsEmpty items = Ok (PlainTruth (is_empty items))
of_items Reverse items = Ok (list_value (reverse items))

abbrev pub of_text : OfSeries → Bytes → ListOutcome Plain
of_text First text = text_answer (first_character text)
of_text Last text = text_answer (last_character text)
of_text ButFirst text = text_answer (text_without_first text)
of_text ButLast text = text_answer (text_without_last text)
of_text Length text = number_answer (counted (character_count text))
of_text IsEmpty text = Ok (PlainTruth (is_empty text))
of_text Reverse text = Ok (PlainWords (text_reversed text))

abbrev pub of_series : OfSeries → Plain → ListOutcome Plain
of_series word (PlainItems items) = of_items word (items_of items)
of_series word (PlainWords text) = of_text word text
of_series word value = Err WrongType

abbrev pub at_place_of_items : AtPlace → ℤ → List Plain → ListOutcome Plain
at_place_of_items Item number items = item_at number items
at_place_of_items RemoveItem number items = list_answer (without_at number items)

abbrev pub at_place_of_text : AtPlace → ℤ → Bytes → ListOutcome Plain
at_place_of_text Item number text = text_answer (character_at number text)
at_place_of_text RemoveItem number text = text_answer (text_without_at number text)

abbrev pub at_place : AtPlace → ℤ → Plain → ListOutcome Plain
at_place word number (PlainItems items) = at_place_of_items word number (items_of items)
at_place word number (PlainWords text) = at_place_of_text word number text
at_place word number value = Err WrongType

abbrev pub put_in_items : PutAtPlace → ℤ → List Plain → Plain → ListOutcome (List Plain)
put_in_items ReplaceItem number items value = replaced_at number items (value ∷ [])
put_in_items InsertItem number items value = inserted_at number items (value ∷ [])

abbrev pub put_in_text : PutAtPlace → ℤ → Bytes → Bytes → ListOutcome Bytes
put_in_text ReplaceItem number text other = text_replaced_at number text other
put_in_text InsertItem number text other = text_inserted_at number text other

-- only a text fits into a text
abbrev pub put_at_place : PutAtPlace → ℤ → Plain → Plain → ListOutcome Plain
put_at_place word number (PlainItems items) value = list_answer (put_in_items word number (items_of items) value)
put_at_place word number (PlainWords text) value = and_then (as_text value) (λ other. text_answer (put_in_text word number text other))
put_at_place word number series value = Err WrongType

abbrev pub sought_in_items : Living → Search → Plain → List Plain → ListOutcome Plain
sought_in_items w Member value items = Ok (PlainTruth (has_item w value items))
sought_in_items w Position value items = place_answer (place_of_item w value items)
sought_in_items w Remove value items = Ok (list_value (without_item w value items))

abbrev pub sought_in_text : Search → Bytes → Bytes → ListOutcome Plain
sought_in_text Member part text = Ok (PlainTruth (has_text part text))
sought_in_text Position part text = place_answer (place_of_text part text)
sought_in_text Remove part text = Ok (PlainWords (text_without part text))

-- what is no text occurs in none
abbrev pub not_in_text : Search → Bytes → Plain
not_in_text Member text = PlainTruth false
not_in_text Position text = PlainTruth false
not_in_text Remove text = PlainWords text

abbrev pub value_in_text : Search → Plain → Bytes → ListOutcome Plain
value_in_text word (PlainWords part) text = sought_in_text word part text
value_in_text word value text = Ok (not_in_text word text)

abbrev pub sought_in : Living → Search → Plain → Plain → ListOutcome Plain
sought_in w word value (PlainItems items) = sought_in_items w word value (items_of items)
sought_in w word value (PlainWords text) = value_in_text word value text
sought_in w word value series = Err WrongType

-- ---- each word that draws nothing, over all of its inputs

abbrev pub number_word : OfNumber → List Plain → ListOutcome Plain
number_word which inputs = and_then (number_at inputs 0) (λ n. number_answer (numbered (number_of which n)))

abbrev pub numbers_word : OfNumbers → List Plain → ListOutcome Plain
numbers_word which inputs = and_then (number_at inputs 0) (λ a. and_then (number_at inputs 1) (λ b. number_answer (numbered (number_of_two which a b))))

abbrev pub not_word : List Plain → ListOutcome Plain
not_word inputs = and_then (truth_at inputs 0) (λ truth. Ok (PlainTruth (not truth)))

abbrev pub truths_word : OfTruths → List Plain → ListOutcome Plain
truths_word which inputs = and_then (truth_at inputs 0) (λ a. and_then (truth_at inputs 1) (λ b. Ok (PlainTruth (truth_of_two which a b))))

abbrev pub compare_word : Living → Comparison → List Plain → ListOutcome Plain
compare_word w which inputs = and_then (value_at inputs 0) (λ a. and_then (value_at inputs 1) (λ b. truth_answer (comparison_of w which a b)))

abbrev pub kind_word : Living → KindTest → List Plain → ListOutcome Plain
kind_word w which inputs = and_then (value_at inputs 0) (λ value. Ok (PlainTruth (is_kind w which value)))

abbrev pub list_word : Living → OfList → List Plain → ListOutcome Plain
list_word w which inputs = and_then (list_at inputs 0) (λ items. Ok (list_value (of_list w which items)))

abbrev pub end_word : PutAtEnd → List Plain → ListOutcome Plain
end_word which inputs = and_then (value_at inputs 0) (λ value. and_then (list_at inputs 1) (λ items. Ok (list_value (put_at_end which value items))))

abbrev pub series_word : OfSeries → List Plain → ListOutcome Plain
series_word which inputs = and_then (value_at inputs 0) (of_series which)

abbrev pub place_word : AtPlace → List Plain → ListOutcome Plain
place_word which inputs = and_then (number_at inputs 0) (λ number. and_then (value_at inputs 1) (at_place which number))

abbrev pub put_word : PutAtPlace → List Plain → ListOutcome Plain
put_word which inputs = and_then (number_at inputs 0) (λ number. and_then (value_at inputs 1) (λ series. and_then (value_at inputs 2) (put_at_place which number series)))

abbrev pub search_word : Living → Search → List Plain → ListOutcome Plain
search_word w which inputs = and_then (value_at inputs 0) (λ value. and_then (value_at inputs 1) (sought_in w which value))

abbrev pub sublist_word : List Plain → ListOutcome Plain
sublist_word inputs = and_then (list_at inputs 0) (λ items. and_then (number_at inputs 1) (λ first. and_then (number_at inputs 2) (λ second. list_answer (part_of first second items))))

abbrev pub substring_word : List Plain → ListOutcome Plain
substring_word inputs = and_then (text_at inputs 0) (λ text. and_then (number_at inputs 1) (λ first. and_then (number_at inputs 2) (λ second. text_answer (text_part_of first second text))))

abbrev pub statistic_word : Statistic → List Plain → ListOutcome Plain
statistic_word which inputs = and_then (list_at inputs 0) (λ items. number_answer (statistic_of which (numbers_among items)))

abbrev pub shade_word : List Plain → ListOutcome Plain
shade_word inputs = and_then (number_at inputs 0) (λ a. and_then (number_at inputs 1) (λ b. truth_answer (are_shades a b)))

abbrev pub scale_word : List Plain → ListOutcome Plain
scale_word inputs =
    and_then (number_at inputs 0) (λ color. and_then (number_at inputs 1) (λ value. and_then (number_at inputs 2) (λ low. and_then (number_at inputs 3) (λ high.
    number_answer (numbered (scaled_color color value low high))))))

abbrev pub answer_of : Living → ValueWord → List Plain → ListOutcome Plain
answer_of w (word.Fixed which) inputs = Ok (fixed_value which)
answer_of w (word.OfNumber which) inputs = number_word which inputs
answer_of w (word.OfNumbers which) inputs = numbers_word which inputs
answer_of w word.Not inputs = not_word inputs
answer_of w (word.OfTruths which) inputs = truths_word which inputs
answer_of w (word.Compare which) inputs = compare_word w which inputs
answer_of w (word.IsKind which) inputs = kind_word w which inputs
answer_of w (word.OfMany which) inputs = of_many w which inputs
answer_of w (word.OfList which) inputs = list_word w which inputs
answer_of w (word.PutAtEnd which) inputs = end_word which inputs
answer_of w (word.OfSeries which) inputs = series_word which inputs
answer_of w (word.AtPlace which) inputs = place_word which inputs
answer_of w (word.PutAtPlace which) inputs = put_word which inputs
answer_of w (word.Search which) inputs = search_word w which inputs
answer_of w word.Sublist inputs = sublist_word inputs
answer_of w word.Substring inputs = substring_word inputs
answer_of w (word.Statistic which) inputs = statistic_word which inputs
answer_of w word.ShadeOf inputs = shade_word inputs
answer_of w word.ScaleColor inputs = scale_word inputs
answer_of w (word.Draws which) inputs = Err WrongType

-- ---- draws

-- a count with the sign of a number
abbrev pub signed_as : ℤ → ℕ → ℤ
signed_as (pos n) count = pos count
signed_as (negsuc n) count = neg_ℤ (pos count)

-- how many whole numbers there are from 0 to below a number's size
abbrev pub whole_size : ℤ → ℕ
whole_size number = unsigned_abs (whole_part (ceiling_of (pos (unsigned_abs number))))

-- `random` and `random-float`: nothing is drawn for 0
abbrev pub whole_below : ℤ → ℕ → ℤ × ℕ
whole_below number state =
    if unsigned_abs number == 0 then (pos 0, state)
    else (signed_as number ((drawn (whole_size number) state).0 * one), (drawn (whole_size number) state).1)

abbrev pub count_below : ℤ → ℕ → ℤ × ℕ
count_below number state =
    if unsigned_abs number == 0 then (pos 0, state)
    else (signed_as number (drawn (unsigned_abs number) state).0, (drawn (unsigned_abs number) state).1)

abbrev pub first_as : {X Y : Type 0} → (X → Y) → X × ℕ → Y × ℕ
first_as f pair = (f pair.0, pair.1)

-- the answer beside the state of the stream after it
abbrev pub drawn_answer : Draw → List Plain → ℕ → ListOutcome (Plain × ℕ)
drawn_answer Random inputs state = and_then (number_at inputs 0) (λ number. Ok (first_as PlainNumber (whole_below number state)))
drawn_answer RandomFloat inputs state = and_then (number_at inputs 0) (λ number. Ok (first_as PlainNumber (count_below number state)))
drawn_answer Shuffle inputs state = and_then (list_at inputs 0) (λ items. Ok (first_as list_value (shuffled items state)))

-- ---- all words

-- what a word answers beside the state of the stream after it, whatever its size
abbrev pub unlimited : Living → ValueWord → List Plain → ℕ → ListOutcome (Plain × ℕ)
unlimited w (word.Draws which) inputs state = drawn_answer which inputs state
unlimited w which inputs state = outcome_map (λ value. (value, state)) (answer_of w which inputs)

-- TooLarge where nothing else is wrong and the answer passes the limits on values
abbrev pub kept_answer : Plain × ℕ → ListOutcome (Plain × ℕ)
kept_answer answer = if within_limits answer.0 then Ok answer else Err TooLarge

abbrev pub word_answer : Living → ValueWord → List Plain → ℕ → ListOutcome (Plain × ℕ)
word_answer w which inputs state = and_then (unlimited w which inputs state) kept_answer

-- the same by the word's code; what is no word of values has no answer
abbrev pub answer_by : Living → Option ValueWord → List Plain → ℕ → ListOutcome (Plain × ℕ)
answer_by w None inputs state = Err WrongType
answer_by w (Some which) inputs state = word_answer w which inputs state

abbrev pub applied : Living → Code → List Plain → ℕ → ListOutcome (Plain × ℕ)
applied w code inputs state = answer_by w (value_word code) inputs state

-- what a call gives, and the state that it leaves the stream in, are the outcome, unless it wants memory
abbrev pub Answers : ListOutcome Value → ℕ → ListOutcome (Plain × ℕ) → Type 0
Answers result state outcome = Gives (outcome_map (λ value. (plain value, state)) result) outcome
