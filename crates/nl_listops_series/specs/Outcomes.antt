-- What words answer: a value, or the error that stands in its place. Want of memory is no outcome of a word, and any call that
-- takes memory may answer it in place of one.
use Rattle.std.specs.Prelude.{◌≡◌, ◌≢◌, Option, Some, None, Result, Ok, Err, List, if◌then◌else◌}
use Rattle.nl_fixed.specs.declared.number.NumFault.{NumFault}
use Rattle.nl_value.specs.Plain.{Plain, PlainItems, plains}
use Rattle.nl_value.specs.Limits.{within_limits}
use Rattle.nl_listops_series.specs.declared.fail.ListFail.{ListFail}
use Rattle.nl_listops_series.specs.declared.fail.ListFail.TheVariants.{TooLarge, NoMemory}
use Rattle.nl_listops_series.specs.Fails.{fail_of}

abbrev pub ListOutcome : Type 0 → Type 0
ListOutcome X = Result X ListFail

-- what comes of an outcome and of a next step, which is taken only where the first has an answer
abbrev pub and_then : {X Y : Type 0} → ListOutcome X → (X → ListOutcome Y) → ListOutcome Y
and_then (Ok x) next = next x
and_then (Err fail) next = Err fail

-- the answer, seen in another way
abbrev pub outcome_map : {X Y : Type 0} → (X → Y) → ListOutcome X → ListOutcome Y
outcome_map f (Ok x) = Ok (f x)
outcome_map f (Err fail) = Err fail

-- what a call on numbers gives, with its fault as an error
abbrev pub numbered : {X : Type 0} → Result X NumFault → ListOutcome X
numbered (Ok x) = Ok x
numbered (Err fault) = Err (fail_of fault)

-- what may be there, or the error where it isn't
abbrev pub or_fail : {X : Type 0} → ListFail → Option X → ListOutcome X
or_fail fail None = Err fail
or_fail fail (Some x) = Ok x

-- an answer that passes the limits on values is TooLarge, where no other error stands
abbrev pub kept_within : Plain → ListOutcome Plain
kept_within value = if within_limits value then Ok value else Err TooLarge

abbrev pub limited : ListOutcome Plain → ListOutcome Plain
limited outcome = and_then outcome kept_within

-- what a call gives is the outcome, unless it wants memory
abbrev pub Gives : {X : Type 0} → ListOutcome X → ListOutcome X → Type 0
Gives (Ok x) outcome = outcome ≡ Ok x
Gives (Err fail) outcome = fail ≢ NoMemory → outcome ≡ Err fail

-- a list as a value
abbrev pub list_value : List Plain → Plain
list_value items = PlainItems (plains items)
