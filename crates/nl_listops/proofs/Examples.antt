-- The definitions at examples, by the codes of words.
use Rattle.std.proofs.Common.{◌≡◌, ℕ, ◌*◌, pos, neg_ℤ, Bool, true, false, Ok, Err, List, [], ◌∷◌, codes, refl}
use Prim.Native.String.{String}
use Rattle.nl_fixed.specs.Numbers.{one, as_number, rounded_quotient, floor_of_ratio, sum_of, difference_of, product_of, quotient_of, modulo_of, floor_of, ceiling_of}
use Rattle.nl_fixed.specs.Characters.{characters}
use Rattle.nl_value.specs.Plain.{Plain, PlainNumber, PlainTruth, PlainWords, PlainItems, PlainTurtle, PlainNobody, plains}
use Rattle.nl_value.specs.Living.{no_life}
use Rattle.nl_draw.specs.Stream.{first_state, next_state, word_of, state_after, words_from, drawn, shuffled, shuffled_from}
use Rattle.nl_words.specs.declared.codes.TheConstants as code
use Rattle.nl_words.specs.Row.{Code}
use Rattle.nl_listops_series.specs.declared.fail.ListFail.TheVariants.{WrongType, OutOfList, ZeroDivide, Domain, TooFew}
use Rattle.nl_listops_series.specs.Outcomes.{ListOutcome, outcome_map}
use Rattle.nl_listops.specs.Answers.{applied}

-- values
abbrev n : ℕ → Plain
n whole = PlainNumber (pos (whole * one))

abbrev millionths : ℕ → Plain
millionths count = PlainNumber (pos count)

abbrev minus : ℕ → Plain
minus count = PlainNumber (neg_ℤ (pos count))

abbrev s : String → Plain
s text = PlainWords (codes text)

abbrev l : List Plain → Plain
l items = PlainItems (plains items)

abbrev truth : Bool → Plain
truth holds = PlainTruth holds

-- what a word answers where nothing lives
abbrev gives : Code → List Plain → ListOutcome Plain
gives word inputs = outcome_map (λ answer. answer.0) (applied no_life word inputs 0)

sentence_takes_lists_apart : gives code.SENTENCE (l (n 1 ∷ n 2 ∷ []) ∷ n 3 ∷ []) ≡ Ok (l (n 1 ∷ n 2 ∷ n 3 ∷ []))
sentence_takes_lists_apart = refl

sentence_goes_one_level_deep : gives code.SE (l (l (n 1 ∷ []) ∷ []) ∷ []) ≡ Ok (l (l (n 1 ∷ []) ∷ []))
sentence_goes_one_level_deep = refl

median_of_four : gives code.MEDIAN (l (n 10 ∷ n 1 ∷ n 3 ∷ n 2 ∷ []) ∷ []) ≡ Ok (millionths 2_500_000)
unfolding as_number rounded_quotient sum_of quotient_of
median_of_four = refl

median_of_three : gives code.MEDIAN (l (n 10 ∷ s "a" ∷ n 1 ∷ n 3 ∷ []) ∷ []) ≡ Ok (n 3)
unfolding as_number rounded_quotient sum_of quotient_of
median_of_three = refl

variance_of_four : gives code.VARIANCE (l (n 1 ∷ n 2 ∷ n 3 ∷ n 4 ∷ []) ∷ []) ≡ Ok (millionths 1_666_667)
unfolding as_number rounded_quotient sum_of difference_of product_of quotient_of
variance_of_four = refl

variance_of_one : gives code.VARIANCE (l (n 1 ∷ s "2" ∷ []) ∷ []) ≡ Err TooFew
variance_of_one = refl

modes_by_first_place : gives code.MODES (l (n 1 ∷ n 2 ∷ n 2 ∷ n 3 ∷ n 3 ∷ []) ∷ []) ≡ Ok (l (n 2 ∷ n 3 ∷ []))
modes_by_first_place = refl

sort_keeps_numbers : gives code.SORT (l (s "b" ∷ n 2 ∷ s "a" ∷ n 1 ∷ []) ∷ []) ≡ Ok (l (n 1 ∷ n 2 ∷ []))
sort_keeps_numbers = refl

sort_keeps_texts : gives code.SORT (l (s "b" ∷ truth true ∷ s "a" ∷ PlainTurtle 3 ∷ []) ∷ []) ≡ Ok (l (s "a" ∷ s "b" ∷ []))
sort_keeps_texts = refl

sort_drops_the_dead : gives code.SORT (l (PlainTurtle 3 ∷ PlainNobody ∷ []) ∷ []) ≡ Ok (l [])
sort_drops_the_dead = refl

substring_of_hello : gives code.SUBSTRING (s "hello" ∷ n 1 ∷ n 3 ∷ []) ≡ Ok (s "el")
unfolding characters
substring_of_hello = refl

range_of_three : gives code.RANGE (n 2 ∷ n 8 ∷ n 3 ∷ []) ≡ Ok (l (n 2 ∷ n 5 ∷ []))
range_of_three = refl

range_downwards : gives code.RANGE (n 2 ∷ minus 1_000_000 ∷ minus 1_500_000 ∷ []) ≡ Ok (l (n 2 ∷ millionths 500_000 ∷ []))
range_downwards = refl

range_of_a_fraction : gives code.RANGE (millionths 2_500_000 ∷ []) ≡ Ok (l (n 0 ∷ n 1 ∷ n 2 ∷ []))
range_of_a_fraction = refl

range_of_none : gives code.RANGE [] ≡ Err Domain
range_of_none = refl

range_without_step : gives code.RANGE (n 2 ∷ n 8 ∷ n 0 ∷ []) ≡ Err Domain
range_without_step = refl

position_of_none : gives code.POSITION (n 3 ∷ l (n 1 ∷ n 2 ∷ []) ∷ []) ≡ Ok (truth false)
position_of_none = refl

position_in_a_text : gives code.POSITION (s "é" ∷ s "cafés" ∷ []) ≡ Ok (n 3)
unfolding characters as_number
position_in_a_text = refl

least_of_none : gives code.MIN (l [] ∷ []) ≡ Err TooFew
least_of_none = refl

least_of_some : gives code.MIN (l (n 3 ∷ s "0" ∷ minus 5 ∷ n 4 ∷ []) ∷ []) ≡ Ok (minus 5)
least_of_some = refl

places_are_cut_toward_zero : gives code.ITEM (minus 999_999 ∷ s "äb" ∷ []) ≡ Ok (s "ä")
unfolding characters
places_are_cut_toward_zero = refl

negative_places_are_outside : gives code.ITEM (minus 1_000_000 ∷ l (n 1 ∷ []) ∷ []) ≡ Err OutOfList
negative_places_are_outside = refl

an_item_may_be_put_at_the_end : gives code.INSERT_ITEM (n 2 ∷ s "ab" ∷ s "cd" ∷ []) ≡ Ok (s "abcd")
unfolding characters
an_item_may_be_put_at_the_end = refl

none_is_replaced_at_the_end : gives code.REPLACE_ITEM (n 2 ∷ s "ab" ∷ s "cd" ∷ []) ≡ Err OutOfList
unfolding characters
none_is_replaced_at_the_end = refl

only_texts_fit_into_texts : gives code.REPLACE_ITEM (n 9 ∷ s "ab" ∷ n 1 ∷ []) ≡ Err WrongType
only_texts_fit_into_texts = refl

remove_takes_all : gives code.REMOVE (n 1 ∷ l (n 1 ∷ n 2 ∷ n 1 ∷ []) ∷ []) ≡ Ok (l (n 2 ∷ []))
remove_takes_all = refl

remove_goes_from_the_left : gives code.REMOVE (s "aa" ∷ s "baaac" ∷ []) ≡ Ok (s "bac")
unfolding characters
remove_goes_from_the_left = refl

the_empty_text_takes_nothing : gives code.REMOVE (s "" ∷ s "ab" ∷ []) ≡ Ok (s "ab")
unfolding characters
the_empty_text_takes_nothing = refl

the_empty_text_is_everywhere : gives code.POSITION (s "" ∷ s "" ∷ []) ≡ Ok (n 0)
unfolding characters as_number
the_empty_text_is_everywhere = refl

numbers_occur_in_no_text : gives code.MEMBER (n 1 ∷ s "1" ∷ []) ≡ Ok (truth false)
numbers_occur_in_no_text = refl

duplicates_go : gives code.REMOVE_DUPLICATES (l (n 2 ∷ PlainNobody ∷ n 2 ∷ PlainTurtle 1 ∷ n 1 ∷ []) ∷ []) ≡ Ok (l (n 2 ∷ PlainNobody ∷ n 1 ∷ []))
duplicates_go = refl

text_reversed_by_characters : gives code.REVERSE (s "aé" ∷ []) ≡ Ok (s "éa")
unfolding characters
text_reversed_by_characters = refl

words_are_joined : gives code.WORD (s "a" ∷ truth true ∷ l (s "b" ∷ PlainNobody ∷ []) ∷ []) ≡ Ok (s "atrue[\"b\" nobody]")
words_are_joined = refl

shade_between : gives code.SCALE_COLOR (n 15 ∷ n 1 ∷ n 0 ∷ n 4 ∷ []) ≡ Ok (millionths 12_500_000)
unfolding as_number rounded_quotient sum_of difference_of product_of quotient_of floor_of
shade_between = refl

lightest_shade : gives code.SCALE_COLOR (n 15 ∷ n 9 ∷ n 0 ∷ n 4 ∷ []) ≡ Ok (millionths 19_999_900)
unfolding as_number rounded_quotient sum_of difference_of product_of quotient_of floor_of
lightest_shade = refl

shade_without_a_range : gives code.SCALE_COLOR (n 15 ∷ n 9 ∷ n 4 ∷ n 4 ∷ []) ≡ Ok (n 10)
unfolding as_number rounded_quotient sum_of difference_of product_of quotient_of floor_of
shade_without_a_range = refl

shades_of_one_color : gives code.SHADE_OF (n 10 ∷ millionths 19_999_994 ∷ []) ≡ Ok (truth true)
unfolding as_number rounded_quotient quotient_of floor_of
shades_of_one_color = refl

-- the quotient by 10 is rounded
shades_are_parted_by_a_rounded_quotient : gives code.SHADE_OF (n 10 ∷ millionths 19_999_995 ∷ []) ≡ Ok (truth false)
unfolding as_number rounded_quotient quotient_of floor_of
shades_are_parted_by_a_rounded_quotient = refl

color_from_below : gives code.WRAP_COLOR (minus 1 ∷ []) ≡ Ok (millionths 139_999_999)
unfolding as_number modulo_of floor_of_ratio
color_from_below = refl

kinds_before_other_errors : gives code.ITEM (n 9 ∷ truth true ∷ []) ≡ Err WrongType
kinds_before_other_errors = refl

and_takes_truths : gives code.AND (truth false ∷ n 5 ∷ []) ≡ Err WrongType
and_takes_truths = refl

quotients_by_zero : gives code.DIVIDED (n 1 ∷ n 0 ∷ []) ≡ Err ZeroDivide
unfolding quotient_of
quotients_by_zero = refl

not_above_is_at_most : gives code.LESS_EQUAL (s "a" ∷ s "a" ∷ []) ≡ Ok (truth true)
not_above_is_at_most = refl

what_has_no_order : gives code.LESS_EQUAL (PlainNobody ∷ PlainNobody ∷ []) ≡ Err WrongType
what_has_no_order = refl

the_dead_are_of_no_kind : gives code.IS_AGENT (PlainTurtle 1 ∷ []) ≡ Ok (truth false)
the_dead_are_of_no_kind = refl

-- the draws of seed 42 below 10
drawn_digit : applied no_life code.RANDOM (n 10 ∷ []) (first_state 42) ≡ Ok (n 5, state_after 2 (first_state 42))
unfolding first_state next_state word_of state_after words_from drawn ceiling_of floor_of
drawn_digit = refl

drawn_below_zero : applied no_life code.RANDOM (minus 9_500_000 ∷ []) (first_state 42) ≡ Ok (minus 5_000_000, state_after 2 (first_state 42))
unfolding first_state next_state word_of state_after words_from drawn ceiling_of floor_of
drawn_below_zero = refl

nothing_is_drawn_for_zero : applied no_life code.RANDOM (n 0 ∷ []) 7 ≡ Ok (n 0, 7)
nothing_is_drawn_for_zero = refl

shuffled_digits : applied no_life code.SHUFFLE (l (n 0 ∷ n 1 ∷ n 2 ∷ []) ∷ []) (first_state 42) ≡ Ok (l (n 2 ∷ n 1 ∷ n 0 ∷ []), state_after 4 (first_state 42))
unfolding first_state next_state word_of state_after words_from drawn shuffled shuffled_from
shuffled_digits = refl
