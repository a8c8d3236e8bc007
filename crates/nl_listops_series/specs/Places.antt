-- Parts of a list, by its ends and by places. What a list holds here is left open: these are the words of lists, over their items,
-- and those of texts, over their characters.
use Rattle.std.specs.Prelude.{ℕ, ◌+◌, ◌-◌, ℤ, pos, negsuc, ◌&&◌, nat_lt, nat_le, Option, Some, None, Ok, Err, if◌then◌else◌, List, [], ◌∷◌, length, take, slice_get, slice_range}
use Rattle.std.specs.Option.{option_and_then}
use Rattle.std.specs.List.{splice}
use Rattle.nl_fixed.specs.Numbers.{whole_part}
use Rattle.nl_listops_series.specs.declared.fail.ListFail.TheVariants.{OutOfList}
use Rattle.nl_listops_series.specs.Outcomes.{ListOutcome, and_then, or_fail}

-- ---- both ends

abbrev pub first_of : {X : Type 0} → List X → ListOutcome X
first_of [] = Err OutOfList
first_of (x ∷ xs) = Ok x

abbrev pub last_of : {X : Type 0} → List X → ListOutcome X
last_of xs = or_fail OutOfList (slice_get xs (length xs - 1))

abbrev pub without_first : {X : Type 0} → List X → ListOutcome (List X)
without_first [] = Err OutOfList
without_first (x ∷ xs) = Ok xs

abbrev pub without_last : {X : Type 0} → List X → ListOutcome (List X)
without_last [] = Err OutOfList
without_last (x ∷ xs) = Ok (take (length xs) (x ∷ xs))

-- ---- places, counted from 0

-- the place that a number names: its whole part, where that isn't negative
abbrev pub natural : ℤ → Option ℕ
natural (pos n) = Some n
natural (negsuc n) = None

abbrev pub index_of : ℤ → Option ℕ
index_of number = natural (whole_part number)

-- the place where it is below a bound
abbrev pub below : ℕ → Option ℕ → ListOutcome ℕ
below bound None = Err OutOfList
below bound (Some place) = if nat_lt place bound then Ok place else Err OutOfList

abbrev pub place_below : ℤ → ℕ → ListOutcome ℕ
place_below number bound = below bound (index_of number)

abbrev pub item_at : {X : Type 0} → ℤ → List X → ListOutcome X
item_at number xs = or_fail OutOfList (option_and_then (slice_get xs) (index_of number))

-- without the one at the place; with others in place of it; with others put in before it, or at the end
abbrev pub without_at : {X : Type 0} → ℤ → List X → ListOutcome (List X)
without_at number xs = and_then (place_below number (length xs)) (λ place. Ok (splice xs place (place + 1) []))

abbrev pub replaced_at : {X : Type 0} → ℤ → List X → List X → ListOutcome (List X)
replaced_at number xs others = and_then (place_below number (length xs)) (λ place. Ok (splice xs place (place + 1) others))

abbrev pub inserted_at : {X : Type 0} → ℤ → List X → List X → ListOutcome (List X)
inserted_at number xs others = and_then (place_below number (length xs + 1)) (λ place. Ok (splice xs place place others))

-- from the first place up to, but not with, the second: where the first isn't after the second, nor the second after the end
abbrev pub between : {X : Type 0} → Option ℕ → Option ℕ → List X → ListOutcome (List X)
between None second xs = Err OutOfList
between (Some from) None xs = Err OutOfList
between (Some from) (Some to) xs = if nat_le from to && nat_le to (length xs) then Ok (slice_range xs from to) else Err OutOfList

abbrev pub part_of : {X : Type 0} → ℤ → ℤ → List X → ListOutcome (List X)
part_of first second xs = between (index_of first) (index_of second) xs
