-- Statistics over the numbers of a list. Sums go from left to right, and a number out of range on the way is Overflow.
use Rattle.std.specs.Prelude.{ℕ, ◌+◌, ◌-◌, ◌/◌, ℤ, pos, int_lt, nat_lt, Bool, Option, Some, None, Ok, Err, Result, if◌then◌else◌, List, [], ◌∷◌, length, slice_range, fold, filter_map}
use Rattle.std.specs.Ordering.{int_cmp, is_lt}
use Rattle.nl_fixed.specs.declared.number.NumFault.{NumFault}
use Rattle.nl_fixed.specs.Numbers.{and_next, sum_of, difference_of, product_of, quotient_of, root_of}
use Rattle.nl_value.specs.Plain.{Plain, PlainNumber}
use Rattle.nl_value.specs.Sorting.{sorted_by}
use Rattle.nl_listops_series.specs.declared.fail.ListFail.TheVariants.{TooFew}
use Rattle.nl_listops_series.specs.Outcomes.{ListOutcome, and_then, numbered}
use Rattle.nl_listops_series.specs.Lists.{counted}

abbrev pub number_of_item : Plain → Option ℤ
number_of_item (PlainNumber count) = Some count
number_of_item value = None

-- the numbers among the items, in their order
abbrev pub numbers_among : List Plain → List ℤ
numbers_among items = filter_map number_of_item items

abbrev pub sum_from : ℤ → List ℤ → Result ℤ NumFault
sum_from total [] = Ok total
sum_from total (n ∷ ns) = and_next (sum_of total n) (λ next. sum_from next ns)

abbrev pub total_of : List ℤ → ListOutcome ℤ
total_of ns = numbered (sum_from (pos 0) ns)

abbrev pub lesser : ℤ → ℤ → ℤ
lesser a b = if int_lt b a then b else a

abbrev pub larger : ℤ → ℤ → ℤ
larger a b = if int_lt a b then b else a

abbrev pub least_of : List ℤ → ListOutcome ℤ
least_of [] = Err TooFew
least_of (n ∷ ns) = Ok (fold lesser n ns)

abbrev pub greatest_of : List ℤ → ListOutcome ℤ
greatest_of [] = Err TooFew
greatest_of (n ∷ ns) = Ok (fold larger n ns)

-- a number over a count
abbrev pub divided_among : ℤ → ℕ → ListOutcome ℤ
divided_among number n = and_then (counted n) (λ count. numbered (quotient_of number count))

abbrev pub mean_of : List ℤ → ListOutcome ℤ
mean_of [] = Err TooFew
mean_of (n ∷ ns) = and_then (total_of (n ∷ ns)) (λ total. divided_among total (length (n ∷ ns)))

-- the one in the middle of a list of an odd length, the two of an even one, and none of an empty one
abbrev pub middle_of : List ℤ → List ℤ
middle_of ns = slice_range ns ((length ns - 1) / 2) (length ns / 2 + 1)

abbrev pub is_below : ℤ → ℤ → Bool
is_below a b = is_lt (int_cmp a b)

abbrev pub ascending : List ℤ → List ℤ
ascending ns = sorted_by is_below ns

-- the mean of the one or the two in the middle of the numbers in order
abbrev pub median_of : List ℤ → ListOutcome ℤ
median_of ns = mean_of (middle_of (ascending ns))

-- the square of how far a number is from the mean
abbrev pub square_from : ℤ → ℤ → Result ℤ NumFault
square_from mean n = and_next (difference_of n mean) (λ distance. product_of distance distance)

abbrev pub squares_from : ℤ → ℤ → List ℤ → Result ℤ NumFault
squares_from mean total [] = Ok total
squares_from mean total (n ∷ ns) = and_next (square_from mean n) (λ square. and_next (sum_of total square) (λ next. squares_from mean next ns))

-- the sum of the squares over one less than the count
abbrev pub spread_about : List ℤ → ℤ → ListOutcome ℤ
spread_about ns mean = and_then (numbered (squares_from mean (pos 0) ns)) (λ total. divided_among total (length ns - 1))

abbrev pub variance_of : List ℤ → ListOutcome ℤ
variance_of ns = if nat_lt (length ns) 2 then Err TooFew else and_then (mean_of ns) (spread_about ns)

abbrev pub deviation_of : List ℤ → ListOutcome ℤ
deviation_of ns = and_then (variance_of ns) (λ variance. numbered (root_of variance))
