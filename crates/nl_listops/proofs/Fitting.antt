-- What words answer fits a world where their inputs do.
use Rattle.std.proofs.Common.{◌≡◌, ℕ, ◌+◌, ◌-◌, ℤ, Bool, true, false, not, ◌&&◌, ◌==◌, nat_le, Option, Some, None, Ok, Err, IfOk, List, [], ◌∷◌, length, map, drop, reverse, filter, slice_get, slice_range, refl, sym, ap, ◌∙◌, subst, if◌then◌else◌}
use Rattle.std.specs.List.{list_all, splice}
use Rattle.std.specs.Option.{option_and_then}
use Rattle.nl_fixed.specs.Nouns.{Bytes}
use Rattle.nl_draw.specs.Stream.{shuffled}
use Rattle.nl_value.specs.Plain.{Plain, Plains, PlainNumber, PlainTruth, PlainWords, PlainItems, PlainTurtle, PlainPatch, PlainLink, PlainNobody, PlainSet, items_of}
use Rattle.nl_value.specs.Living.{Living, fits}
use Rattle.nl_value.specs.Colors.{primary_numbers}
use Rattle.nl_value.specs.Equality.{same_values}
use Rattle.nl_value.specs.Limits.{within_limits}
use Rattle.nl_value.specs.Order.{comes_first}
use Rattle.nl_value.specs.Views.{plain}
use Rattle.nl_value.specs.declared.values.Value.{Value}
use Rattle.nl_listops_series.specs.declared.fail.ListFail.TheVariants.{OutOfList, TooLarge}
use Rattle.nl_listops_series.specs.Outcomes.{ListOutcome, and_then, outcome_map, or_fail, list_value}
use Rattle.nl_listops_series.specs.Lists.{items_in, sentence_of}
use Rattle.nl_listops_series.specs.Places.{first_of, last_of, without_first, without_last, item_at, without_at, part_of, between, index_of, place_below}
use Rattle.nl_listops_series.specs.Ranges.{range_of, number_list}
use Rattle.nl_listops_series.specs.Searches.{each_once, without_item, times_in, most_times}
use Rattle.nl_listops_series.specs.Sorts.{sortable, is_of, sorted_kind}
use Rattle.nl_listops.specs.declared.words.ValueWord.{ValueWord}
use Rattle.nl_listops.specs.declared.words.ValueWord.TheVariants as word
use Rattle.nl_listops.specs.declared.words.Fixed.{Fixed}
use Rattle.nl_listops.specs.declared.words.Fixed.TheVariants as fixed
use Rattle.nl_listops.specs.declared.words.OfMany.{OfMany}
use Rattle.nl_listops.specs.declared.words.OfMany.TheVariants as many
use Rattle.nl_listops.specs.declared.words.OfList.{OfList}
use Rattle.nl_listops.specs.declared.words.OfList.TheVariants as whole
use Rattle.nl_listops.specs.declared.words.PutAtEnd.{PutAtEnd}
use Rattle.nl_listops.specs.declared.words.PutAtEnd.TheVariants as end
use Rattle.nl_listops.specs.declared.words.OfSeries.{OfSeries}
use Rattle.nl_listops.specs.declared.words.OfSeries.TheVariants.{First, Last, ButFirst, ButLast, Length, IsEmpty, Reverse}
use Rattle.nl_listops.specs.declared.words.AtPlace.{AtPlace}
use Rattle.nl_listops.specs.declared.words.AtPlace.TheVariants.{Item, RemoveItem}
use Rattle.nl_listops.specs.declared.words.PutAtPlace.{PutAtPlace}
use Rattle.nl_listops.specs.declared.words.PutAtPlace.TheVariants.{ReplaceItem, InsertItem}
use Rattle.nl_listops.specs.declared.words.Search.{Search}
use Rattle.nl_listops.specs.declared.words.Search.TheVariants.{Member, Position, Remove}
use Rattle.nl_listops.specs.declared.words.Draw.{Draw}
use Rattle.nl_listops.specs.declared.words.Draw.TheVariants.{Random, RandomFloat, Shuffle}
use Rattle.nl_listops.specs.Answers.{number_answer, truth_answer, text_answer, list_answer, place_answer, fixed_value, of_many, put_at_end, of_list, of_items, of_text, of_series, at_place_of_items, at_place, put_in_items, put_at_place, sought_in_items, value_in_text, sought_in, answer_of, drawn_answer, word_answer, kept_answer, Answers}
use Rattle.nl_listops.specs.Inputs.{value_at, number_at, truth_at, text_at, list_at, as_text, numbers_in}
use Rattle.nl_listops.proofs.Listed.{items_fit, input_fits, list_input_fits, plains_of_items}
use Rattle.nl_listops.proofs.Parts.{head, tail, onto, pass_both, pass_take, pass_drop, pass_splice, pass_reverse, pass_get, pass_filter, pass_sorted, pass_shuffled}

module _ (w : Living) where
  -- what the outcome answers fits, as a value and as a list of values
  abbrev Fit : ListOutcome Plain → Type 0
  Fit o = IfOk o (λ value. fits w value ≡ true)

  abbrev All : List Plain → Type 0
  All items = list_all (fits w) items ≡ true

  abbrev FitAll : ListOutcome (List Plain) → Type 0
  FitAll o = IfOk o All

  -- ---- answers of one kind

  then_fit : {X : Type 0} (o : ListOutcome X) (next : X → ListOutcome Plain) → ((x : X) → Ok x ≡ o → Fit (next x)) → Fit (and_then o next)
  then_fit (Ok x) next fit = fit x refl
  then_fit (Err fail) next fit = tt

  kind_fit : {X : Type 0} (value : X → Plain) → ((x : X) → fits w (value x) ≡ true) → (o : ListOutcome X) → Fit (outcome_map value o)
  kind_fit value fit (Ok x) = fit x
  kind_fit value fit (Err fail) = tt

  number_fit : (o : ListOutcome ℤ) → Fit (number_answer o)
  number_fit o = kind_fit PlainNumber (λ n. refl) o

  truth_fit : (o : ListOutcome Bool) → Fit (truth_answer o)
  truth_fit o = kind_fit PlainTruth (λ b. refl) o

  text_fit : (o : ListOutcome Bytes) → Fit (text_answer o)
  text_fit o = kind_fit PlainWords (λ bytes. refl) o

  place_fit : (place : Option ℕ) → Fit (place_answer place)
  place_fit None = refl
  place_fit (Some place) = number_fit _

  value_fit : (items : List Plain) → All items → fits w (list_value items) ≡ true
  value_fit items all = sym (items_fit w items) ∙ all

  list_fit : (o : ListOutcome (List Plain)) → FitAll o → Fit (list_answer o)
  list_fit (Ok items) all = value_fit items all
  list_fit (Err fail) all = tt

  inside : (items : Plains) → fits w (PlainItems items) ≡ true → All (items_of items)
  inside items fit = items_fit w (items_of items) ∙ (ap (λ ps. fits w (PlainItems ps)) (plains_of_items items) ∙ fit)

  numbers_fit : (ns : List ℤ) → All (map PlainNumber ns)
  numbers_fit [] = refl
  numbers_fit (n ∷ ns) = numbers_fit ns

  -- ---- parts of lists

  first_fit : (items : List Plain) → All items → Fit (first_of items)
  first_fit [] all = tt
  first_fit (x ∷ xs) all = head (fits w) x xs all

  got_fit : (items : List Plain) (o : Option ℕ) (g : Option Plain) → option_and_then (slice_get items) o ≡ g → All items → Fit (or_fail OutOfList g)
  got_fit items o None is all = tt
  got_fit items None (Some x) is all = cc
  got_fit items (Some i) (Some x) is all = pass_get (fits w) items i x all is

  last_fit : (items : List Plain) → All items → Fit (last_of items)
  last_fit items all = got_fit items (Some (length items - 1)) (slice_get items (length items - 1)) refl all

  item_fit : (number : ℤ) (items : List Plain) → All items → Fit (item_at number items)
  item_fit number items all = got_fit items (index_of number) (option_and_then (slice_get items) (index_of number)) refl all

  but_first_fit : (items : List Plain) → All items → FitAll (without_first items)
  but_first_fit [] all = tt
  but_first_fit (x ∷ xs) all = tail (fits w) x xs all

  but_last_fit : (items : List Plain) → All items → FitAll (without_last items)
  but_last_fit [] all = tt
  but_last_fit (x ∷ xs) all = pass_take (fits w) (length xs) (x ∷ xs) all

  then_all : {X : Type 0} (o : ListOutcome X) (next : X → List Plain) → ((x : X) → All (next x)) → FitAll (and_then o (λ x. Ok (next x)))
  then_all (Ok x) next fit = fit x
  then_all (Err fail) next fit = tt

  without_fit : (number : ℤ) (items : List Plain) → All items → FitAll (without_at number items)
  without_fit number items all = then_all (place_below number (length items)) (λ place. splice items place (place + 1) []) (λ place. pass_splice (fits w) items place (place + 1) [] all refl)

  put_fit : (which : PutAtPlace) (number : ℤ) (items : List Plain) (value : Plain) → All items → fits w value ≡ true → FitAll (put_in_items which number items value)
  put_fit ReplaceItem number items value all fit =
      then_all (place_below number (length items)) (λ place. splice items place (place + 1) (value ∷ [])) (λ place. pass_splice (fits w) items place (place + 1) (value ∷ []) all (onto (fits w) value [] fit refl))
  put_fit InsertItem number items value all fit =
      then_all (place_below number (length items + 1)) (λ place. splice items place place (value ∷ [])) (λ place. pass_splice (fits w) items place place (value ∷ []) all (onto (fits w) value [] fit refl))

  range_by_test : (items : List Plain) (from to : ℕ) (b : Bool) → All items → FitAll (if b then Ok (slice_range items from to) else Err OutOfList)
  range_by_test items from to true all = pass_take (fits w) (to - from) (drop from items) (pass_drop (fits w) from items all)
  range_by_test items from to false all = tt

  between_fit : (first second : Option ℕ) (items : List Plain) → All items → FitAll (between first second items)
  between_fit None second items all = tt
  between_fit (Some from) None items all = tt
  between_fit (Some from) (Some to) items all = range_by_test items from to (nat_le from to && nat_le to (length items)) all

  -- ---- lists that are made

  in_fit : (value : Plain) → fits w value ≡ true → All (items_in value)
  in_fit (PlainItems items) fit = inside items fit
  in_fit (PlainNumber n) fit = onto (fits w) (PlainNumber n) [] fit refl
  in_fit (PlainTruth b) fit = onto (fits w) (PlainTruth b) [] fit refl
  in_fit (PlainWords bytes) fit = onto (fits w) (PlainWords bytes) [] fit refl
  in_fit (PlainTurtle n) fit = onto (fits w) (PlainTurtle n) [] fit refl
  in_fit (PlainPatch n) fit = onto (fits w) (PlainPatch n) [] fit refl
  in_fit (PlainLink n) fit = onto (fits w) (PlainLink n) [] fit refl
  in_fit PlainNobody fit = onto (fits w) PlainNobody [] fit refl
  in_fit (PlainSet set) fit = onto (fits w) (PlainSet set) [] fit refl

  sentence_fit : (values : List Plain) → All values → All (sentence_of values)
  sentence_fit [] all = refl
  sentence_fit (x ∷ xs) all = pass_both (fits w) (items_in x) (sentence_of xs) (in_fit x (head (fits w) x xs all)) (sentence_fit xs (tail (fits w) x xs all))

  range_fit : (o : ListOutcome (List ℤ)) → Fit (outcome_map number_list o)
  range_fit (Ok ns) = value_fit (map PlainNumber ns) (numbers_fit ns)
  range_fit (Err fail) = tt

  many_fit : (which : OfMany) (values : List Plain) → All values → Fit (of_many w which values)
  many_fit many.List values all = value_fit values all
  many_fit many.Sentence values all = value_fit (sentence_of values) (sentence_fit values all)
  many_fit many.Word values all = refl
  many_fit many.Range values all = then_fit (numbers_in values) (λ ns. outcome_map number_list (range_of ns)) (λ ns is. range_fit (range_of ns))

  end_fit : (which : PutAtEnd) (value : Plain) (items : List Plain) → fits w value ≡ true → All items → All (put_at_end which value items)
  end_fit end.First value items fit all = onto (fits w) value items fit all
  end_fit end.Last value items fit all = pass_both (fits w) items (value ∷ []) all (onto (fits w) value [] fit refl)

  once_fit : (items : List Plain) → All items → All (each_once w items)
  once_fit [] all = refl
  once_fit (x ∷ xs) all =
      onto (fits w) x (filter (λ y. not (same_values w x y)) (each_once w xs)) (head (fits w) x xs all)
      (pass_filter (fits w) (λ y. not (same_values w x y)) (each_once w xs) (once_fit xs (tail (fits w) x xs all)))

  made_fit : (which : OfList) (items : List Plain) → All items → All (of_list w which items)
  made_fit whole.RemoveDuplicates items all = once_fit items all
  made_fit whole.Sort items all = pass_sorted (fits w) (comes_first w) (sortable w items) (pass_filter (fits w) (is_of w (sorted_kind w items)) items all)
  made_fit whole.Modes items all = pass_filter (fits w) (λ item. times_in w items item == most_times w items) (each_once w items) (once_fit items all)

  fixed_fit : (which : Fixed) → fits w (fixed_value which) ≡ true
  fixed_fit fixed.Pi = refl
  fixed_fit fixed.E = refl
  fixed_fit fixed.True = refl
  fixed_fit fixed.False = refl
  fixed_fit fixed.Nobody = refl
  fixed_fit fixed.BaseColors = value_fit (map PlainNumber primary_numbers) (numbers_fit primary_numbers)

  -- ---- words of a list or a text

  of_items_fit : (which : OfSeries) (items : List Plain) → All items → Fit (of_items which items)
  of_items_fit First items all = first_fit items all
  of_items_fit Last items all = last_fit items all
  of_items_fit ButFirst items all = list_fit (without_first items) (but_first_fit items all)
  of_items_fit ButLast items all = list_fit (without_last items) (but_last_fit items all)
  of_items_fit Length items all = number_fit _
  of_items_fit IsEmpty items all = refl
  of_items_fit Reverse items all = value_fit (reverse items) (pass_reverse (fits w) items all)

  of_text_fit : (which : OfSeries) (text : Bytes) → Fit (of_text which text)
  of_text_fit First text = text_fit _
  of_text_fit Last text = text_fit _
  of_text_fit ButFirst text = text_fit _
  of_text_fit ButLast text = text_fit _
  of_text_fit Length text = number_fit _
  of_text_fit IsEmpty text = refl
  of_text_fit Reverse text = refl

  series_fit : (which : OfSeries) (value : Plain) → fits w value ≡ true → Fit (of_series which value)
  series_fit which (PlainItems items) fit = of_items_fit which (items_of items) (inside items fit)
  series_fit which (PlainWords text) fit = of_text_fit which text
  series_fit which (PlainNumber n) fit = tt
  series_fit which (PlainTruth b) fit = tt
  series_fit which (PlainTurtle n) fit = tt
  series_fit which (PlainPatch n) fit = tt
  series_fit which (PlainLink n) fit = tt
  series_fit which PlainNobody fit = tt
  series_fit which (PlainSet set) fit = tt

  place_of_items_fit : (which : AtPlace) (number : ℤ) (items : List Plain) → All items → Fit (at_place_of_items which number items)
  place_of_items_fit Item number items all = item_fit number items all
  place_of_items_fit RemoveItem number items all = list_fit (without_at number items) (without_fit number items all)

  at_place_fit : (which : AtPlace) (number : ℤ) (value : Plain) → fits w value ≡ true → Fit (at_place which number value)
  at_place_fit which number (PlainItems items) fit = place_of_items_fit which number (items_of items) (inside items fit)
  at_place_fit Item number (PlainWords text) fit = text_fit _
  at_place_fit RemoveItem number (PlainWords text) fit = text_fit _
  at_place_fit which number (PlainNumber n) fit = tt
  at_place_fit which number (PlainTruth b) fit = tt
  at_place_fit which number (PlainTurtle n) fit = tt
  at_place_fit which number (PlainPatch n) fit = tt
  at_place_fit which number (PlainLink n) fit = tt
  at_place_fit which number PlainNobody fit = tt
  at_place_fit which number (PlainSet set) fit = tt

  put_at_fit : (which : PutAtPlace) (number : ℤ) (series value : Plain) → fits w series ≡ true → fits w value ≡ true → Fit (put_at_place which number series value)
  put_at_fit which number (PlainItems items) value fit other = list_fit (put_in_items which number (items_of items) value) (put_fit which number (items_of items) value (inside items fit) other)
  put_at_fit which number (PlainWords text) value fit other = then_fit (as_text value) _ (λ text is. text_fit _)
  put_at_fit which number (PlainNumber n) value fit other = tt
  put_at_fit which number (PlainTruth b) value fit other = tt
  put_at_fit which number (PlainTurtle n) value fit other = tt
  put_at_fit which number (PlainPatch n) value fit other = tt
  put_at_fit which number (PlainLink n) value fit other = tt
  put_at_fit which number PlainNobody value fit other = tt
  put_at_fit which number (PlainSet set) value fit other = tt

  sought_items_fit : (which : Search) (value : Plain) (items : List Plain) → All items → Fit (sought_in_items w which value items)
  sought_items_fit Member value items all = refl
  sought_items_fit Position value items all = place_fit _
  sought_items_fit Remove value items all = value_fit (without_item w value items) (pass_filter (fits w) (λ item. not (same_values w value item)) items all)

  other_text_fit : (which : Search) (text : Bytes) (value : Plain) → Fit (value_in_text which value text)
  other_text_fit Member text (PlainWords part) = refl
  other_text_fit Position text (PlainWords part) = place_fit _
  other_text_fit Remove text (PlainWords part) = refl
  other_text_fit Member text (PlainNumber n) = refl
  other_text_fit Member text (PlainTruth b) = refl
  other_text_fit Member text (PlainItems items) = refl
  other_text_fit Member text (PlainTurtle n) = refl
  other_text_fit Member text (PlainPatch n) = refl
  other_text_fit Member text (PlainLink n) = refl
  other_text_fit Member text PlainNobody = refl
  other_text_fit Member text (PlainSet set) = refl
  other_text_fit Position text (PlainNumber n) = refl
  other_text_fit Position text (PlainTruth b) = refl
  other_text_fit Position text (PlainItems items) = refl
  other_text_fit Position text (PlainTurtle n) = refl
  other_text_fit Position text (PlainPatch n) = refl
  other_text_fit Position text (PlainLink n) = refl
  other_text_fit Position text PlainNobody = refl
  other_text_fit Position text (PlainSet set) = refl
  other_text_fit Remove text (PlainNumber n) = refl
  other_text_fit Remove text (PlainTruth b) = refl
  other_text_fit Remove text (PlainItems items) = refl
  other_text_fit Remove text (PlainTurtle n) = refl
  other_text_fit Remove text (PlainPatch n) = refl
  other_text_fit Remove text (PlainLink n) = refl
  other_text_fit Remove text PlainNobody = refl
  other_text_fit Remove text (PlainSet set) = refl

  sought_fit : (which : Search) (value series : Plain) → fits w series ≡ true → Fit (sought_in w which value series)
  sought_fit which value (PlainItems items) fit = sought_items_fit which value (items_of items) (inside items fit)
  sought_fit which value (PlainWords text) fit = other_text_fit which text value
  sought_fit which value (PlainNumber n) fit = tt
  sought_fit which value (PlainTruth b) fit = tt
  sought_fit which value (PlainTurtle n) fit = tt
  sought_fit which value (PlainPatch n) fit = tt
  sought_fit which value (PlainLink n) fit = tt
  sought_fit which value PlainNobody fit = tt
  sought_fit which value (PlainSet set) fit = tt

  -- ---- all words

  answer_fit : (which : ValueWord) (inputs : List Plain) → All inputs → Fit (answer_of w which inputs)
  answer_fit (word.Fixed which) inputs all = fixed_fit which
  answer_fit (word.OfNumber which) inputs all = then_fit (number_at inputs 0) _ (λ n is. number_fit _)
  answer_fit (word.OfNumbers which) inputs all = then_fit (number_at inputs 0) _ (λ a is. then_fit (number_at inputs 1) _ (λ b more. number_fit _))
  answer_fit word.Not inputs all = then_fit (truth_at inputs 0) _ (λ b is. refl)
  answer_fit (word.OfTruths which) inputs all = then_fit (truth_at inputs 0) _ (λ a is. then_fit (truth_at inputs 1) _ (λ b more. refl))
  answer_fit (word.Compare which) inputs all = then_fit (value_at inputs 0) _ (λ a is. then_fit (value_at inputs 1) _ (λ b more. truth_fit _))
  answer_fit (word.IsKind which) inputs all = then_fit (value_at inputs 0) _ (λ v is. refl)
  answer_fit (word.OfMany which) inputs all = many_fit which inputs all
  answer_fit (word.OfList which) inputs all = then_fit (list_at inputs 0) _ (λ items is. value_fit (of_list w which items) (made_fit which items (list_input_fits w inputs 0 items all is)))
  answer_fit (word.PutAtEnd which) inputs all =
      then_fit (value_at inputs 0) _ (λ v is. then_fit (list_at inputs 1) _ (λ items more. value_fit (put_at_end which v items) (end_fit which v items (input_fits w inputs 0 v all is) (list_input_fits w inputs 1 items all more))))
  answer_fit (word.OfSeries which) inputs all = then_fit (value_at inputs 0) _ (λ v is. series_fit which v (input_fits w inputs 0 v all is))
  answer_fit (word.AtPlace which) inputs all = then_fit (number_at inputs 0) _ (λ n is. then_fit (value_at inputs 1) _ (λ v more. at_place_fit which n v (input_fits w inputs 1 v all more)))
  answer_fit (word.PutAtPlace which) inputs all =
      then_fit (number_at inputs 0) _ (λ n is. then_fit (value_at inputs 1) _ (λ v more. then_fit (value_at inputs 2) _ (λ u last. put_at_fit which n v u (input_fits w inputs 1 v all more) (input_fits w inputs 2 u all last))))
  answer_fit (word.Search which) inputs all = then_fit (value_at inputs 0) _ (λ v is. then_fit (value_at inputs 1) _ (λ series more. sought_fit which v series (input_fits w inputs 1 series all more)))
  answer_fit word.Sublist inputs all =
      then_fit (list_at inputs 0) _ (λ items is. then_fit (number_at inputs 1) _ (λ a more. then_fit (number_at inputs 2) _ (λ b last. list_fit (part_of a b items) (between_fit (index_of a) (index_of b) items (list_input_fits w inputs 0 items all is)))))
  answer_fit word.Substring inputs all = then_fit (text_at inputs 0) _ (λ text is. then_fit (number_at inputs 1) _ (λ a more. then_fit (number_at inputs 2) _ (λ b last. text_fit _)))
  answer_fit (word.Statistic which) inputs all = then_fit (list_at inputs 0) _ (λ items is. number_fit _)
  answer_fit word.ShadeOf inputs all = then_fit (number_at inputs 0) _ (λ a is. then_fit (number_at inputs 1) _ (λ b more. truth_fit _))
  answer_fit word.ScaleColor inputs all =
      then_fit (number_at inputs 0) _ (λ a is. then_fit (number_at inputs 1) _ (λ b more. then_fit (number_at inputs 2) _ (λ c third. then_fit (number_at inputs 3) _ (λ d last. number_fit _))))
  answer_fit (word.Draws which) inputs all = tt

  -- beside the state of the stream
  abbrev FitBeside : ListOutcome (Plain × ℕ) → Type 0
  FitBeside o = IfOk o (λ answer. fits w answer.0 ≡ true)

  beside_fit : (o : ListOutcome Plain) (state : ℕ) → Fit o → FitBeside (outcome_map (λ value. (value, state)) o)
  beside_fit (Ok value) state fit = fit
  beside_fit (Err fail) state fit = tt

  then_beside : {X : Type 0} (o : ListOutcome X) (next : X → ListOutcome (Plain × ℕ)) → ((x : X) → Ok x ≡ o → FitBeside (next x)) → FitBeside (and_then o next)
  then_beside (Ok x) next fit = fit x refl
  then_beside (Err fail) next fit = tt

  drawn_fit : (which : Draw) (inputs : List Plain) (state : ℕ) → All inputs → FitBeside (drawn_answer which inputs state)
  drawn_fit Random inputs state all = then_beside (number_at inputs 0) _ (λ n is. refl)
  drawn_fit RandomFloat inputs state all = then_beside (number_at inputs 0) _ (λ n is. refl)
  drawn_fit Shuffle inputs state all = then_beside (list_at inputs 0) _ (λ items is. value_fit (shuffled items state).0 (pass_shuffled (fits w) items state (list_input_fits w inputs 0 items all is)))

  kept_by : (answer : Plain × ℕ) (b : Bool) → fits w answer.0 ≡ true → FitBeside (if b then Ok answer else Err TooLarge)
  kept_by answer true fit = fit
  kept_by answer false fit = tt

  kept_fit : (o : ListOutcome (Plain × ℕ)) → FitBeside o → FitBeside (and_then o kept_answer)
  kept_fit (Ok answer) fit = kept_by answer (within_limits answer.0) fit
  kept_fit (Err fail) fit = tt

  plain_fit : (which : ValueWord) (inputs : List Plain) (state : ℕ) → All inputs → FitBeside (and_then (outcome_map (λ value. (value, state)) (answer_of w which inputs)) kept_answer)
  plain_fit which inputs state all = kept_fit (outcome_map (λ value. (value, state)) (answer_of w which inputs)) (beside_fit (answer_of w which inputs) state (answer_fit which inputs all))

  pub word_fit : (which : ValueWord) (inputs : List Plain) (state : ℕ) → All inputs → FitBeside (word_answer w which inputs state)
  word_fit (word.Draws which) inputs state all = kept_fit (drawn_answer which inputs state) (drawn_fit which inputs state all)
  word_fit (word.Fixed which) inputs state all = plain_fit (word.Fixed which) inputs state all
  word_fit (word.OfNumber which) inputs state all = plain_fit (word.OfNumber which) inputs state all
  word_fit (word.OfNumbers which) inputs state all = plain_fit (word.OfNumbers which) inputs state all
  word_fit word.Not inputs state all = plain_fit word.Not inputs state all
  word_fit (word.OfTruths which) inputs state all = plain_fit (word.OfTruths which) inputs state all
  word_fit (word.Compare which) inputs state all = plain_fit (word.Compare which) inputs state all
  word_fit (word.IsKind which) inputs state all = plain_fit (word.IsKind which) inputs state all
  word_fit (word.OfMany which) inputs state all = plain_fit (word.OfMany which) inputs state all
  word_fit (word.OfList which) inputs state all = plain_fit (word.OfList which) inputs state all
  word_fit (word.PutAtEnd which) inputs state all = plain_fit (word.PutAtEnd which) inputs state all
  word_fit (word.OfSeries which) inputs state all = plain_fit (word.OfSeries which) inputs state all
  word_fit (word.AtPlace which) inputs state all = plain_fit (word.AtPlace which) inputs state all
  word_fit (word.PutAtPlace which) inputs state all = plain_fit (word.PutAtPlace which) inputs state all
  word_fit (word.Search which) inputs state all = plain_fit (word.Search which) inputs state all
  word_fit word.Sublist inputs state all = plain_fit word.Sublist inputs state all
  word_fit word.Substring inputs state all = plain_fit word.Substring inputs state all
  word_fit (word.Statistic which) inputs state all = plain_fit (word.Statistic which) inputs state all
  word_fit word.ShadeOf inputs state all = plain_fit word.ShadeOf inputs state all
  word_fit word.ScaleColor inputs state all = plain_fit word.ScaleColor inputs state all

  -- what a call answers
  pub given_fit : (result : ListOutcome Value) (state : ℕ) (o : ListOutcome (Plain × ℕ)) → Answers result state o → FitBeside o → IfOk result (λ value. fits w (plain value) ≡ true)
  given_fit (Ok value) state o is fit = subst FitBeside is fit
  given_fit (Err fail) state o is fit = tt
