-- Numbers in a row: `range`.
use Rattle.std.specs.Prelude.{ℕ, zero, suc, ◌+◌, ◌-◌, ◌/◌, ℤ, pos, negsuc, ◌+ℤ◌, ◌-ℤ◌, ◌*ℤ◌, Ok, Err, List, [], ◌∷◌, map}
use Rattle.std.specs.List.{range_with_len}
use Rattle.nl_fixed.specs.Numbers.{one}
use Rattle.nl_value.specs.Plain.{Plain, PlainNumber}
use Rattle.nl_listops_series.specs.declared.fail.ListFail.TheVariants.{Domain}
use Rattle.nl_listops_series.specs.Outcomes.{ListOutcome, outcome_map, limited, list_value}

-- how many steps of a size above 0 begin within a distance: its quotient by the size, rounded up, and none where it isn't above 0
abbrev pub steps_within : ℤ → ℕ → ℕ
steps_within (pos distance) size = (distance + (size - 1)) / size
steps_within (negsuc distance) size = 0

-- how many numbers there are from the start on, by steps that aren't 0, before the bound
abbrev pub range_length : ℤ → ℤ → ℤ → ℕ
range_length start bound (pos step) = steps_within (bound -ℤ start) step
range_length start bound (negsuc step) = steps_within (start -ℤ bound) (suc step)

-- so many numbers from the start on
abbrev pub numbers_from : ℤ → ℤ → ℕ → List ℤ
numbers_from start step n = map (λ k. start +ℤ (pos k *ℤ step)) (range_with_len 0 n)

-- numbers as a list of values
abbrev pub number_list : List ℤ → Plain
number_list ns = list_value (map PlainNumber ns)

abbrev pub range_by : ℤ → ℤ → ℤ → ListOutcome (List ℤ)
range_by start bound (pos zero) = Err Domain
range_by start bound step = Ok (numbers_from start step (range_length start bound step))

-- of one number: from 0 by 1 to below it; of two: from the first by 1 to below the second; of three: from the first to before the
-- second by steps of the third
abbrev pub range_of : List ℤ → ListOutcome (List ℤ)
range_of [] = Err Domain
range_of (bound ∷ []) = range_by (pos 0) bound (pos one)
range_of (start ∷ bound ∷ []) = range_by start bound (pos one)
range_of (start ∷ bound ∷ step ∷ []) = range_by start bound step
range_of (start ∷ bound ∷ step ∷ more ∷ others) = Err Domain

-- numbers as a list of values within the limits on values
abbrev pub limited_range : ListOutcome (List ℤ) → ListOutcome Plain
limited_range numbers = limited (outcome_map number_list numbers)
