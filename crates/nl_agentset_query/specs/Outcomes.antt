-- What queries answer: a value, or the error that stands in its place. Want of memory is no outcome of a query, and any call that takes
-- memory may answer it in place of one.
use Rattle.std.specs.Prelude.{◌≡◌, ◌≢◌, ℕ, Option, Some, None, Result, Ok, Err}
use Rattle.nl_fixed.specs.declared.number.NumFault.{NumFault}
use Rattle.nl_value.specs.Plain.{Plain}
use Rattle.nl_value.specs.Views.{plain}
use Rattle.nl_value.specs.declared.values.Value.{Value}
use Rattle.nl_agentset_query.specs.declared.fail.QueryFail.{QueryFail}
use Rattle.nl_agentset_query.specs.declared.fail.QueryFail.TheVariants.{Overflow, NoMemory}

abbrev pub QueryOutcome : Type 0 → Type 0
QueryOutcome X = Result X QueryFail

-- what comes of an outcome and of a next step, which is taken only where the first has an answer
abbrev pub and_then : {X Y : Type 0} → QueryOutcome X → (X → QueryOutcome Y) → QueryOutcome Y
and_then (Ok x) next = next x
and_then (Err fail) next = Err fail

-- the answer, seen in another way
abbrev pub outcome_map : {X Y : Type 0} → (X → Y) → QueryOutcome X → QueryOutcome Y
outcome_map f (Ok x) = Ok (f x)
outcome_map f (Err fail) = Err fail

-- a sum, or what is made of one: the only fault that it has is Overflow
abbrev pub summed : {X : Type 0} → Result X NumFault → QueryOutcome X
summed (Ok x) = Ok x
summed (Err fault) = Err Overflow

-- what may be there, or the error where it isn't
abbrev pub or_fail : {X : Type 0} → QueryFail → Option X → QueryOutcome X
or_fail fail None = Err fail
or_fail fail (Some x) = Ok x

-- what a call gives is the outcome, unless it wants memory
abbrev pub Gives : {X : Type 0} → QueryOutcome X → QueryOutcome X → Type 0
Gives (Ok x) outcome = outcome ≡ Ok x
Gives (Err fail) outcome = fail ≢ NoMemory → outcome ≡ Err fail

-- what a call gives, and the state that it leaves the stream in, are the outcome, unless it wants memory
abbrev pub Answers : QueryOutcome Value → ℕ → QueryOutcome (Plain × ℕ) → Type 0
Answers result state outcome = Gives (outcome_map (λ value. (plain value, state)) result) outcome
