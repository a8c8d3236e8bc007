-- The errors of a text for what the crates of values, agents, motion and births refuse. None of them is told for want of memory, which is no
-- error of a text: it has a place here so that each function is total.
use Rattle.std.specs.Prelude.{◌≡◌, ℕ, ℤ, Option, Result, Ok, Err}
use Rattle.nl_fixed.specs.declared.number.NumFault.{NumFault}
use Rattle.nl_fixed.specs.declared.number.NumFault.TheVariants as number
use Rattle.nl_value.specs.Plain.{Plain}
use Rattle.nl_value.specs.Views.{plain}
use Rattle.nl_value.specs.declared.values.Value.{Value}
use Rattle.nl_listops_series.specs.declared.fail.ListFail.{ListFail}
use Rattle.nl_listops_series.specs.declared.fail.ListFail.TheVariants as list
use Rattle.nl_agentset_query.specs.declared.fail.QueryFail.{QueryFail}
use Rattle.nl_agentset_query.specs.declared.fail.QueryFail.TheVariants as query
use Rattle.nl_motion.specs.declared.faults.MoveFault.{MoveFault}
use Rattle.nl_motion.specs.declared.faults.MoveFault.TheVariants as motion
use Rattle.nl_exec_acts.specs.declared.fail.ActFail.{ActFail}
use Rattle.nl_exec_acts.specs.declared.fail.ActFail.TheVariants as fail
use Rattle.nl_exec_acts.specs.declared.fail.ErrorKind.{ErrorKind}
use Rattle.nl_exec_acts.specs.declared.fail.ErrorKind.TheVariants as error
use Rattle.nl_exec_acts.specs.Stage.{ActOutcome, outcome_map, Gives}

abbrev pub error_of_number : NumFault → ErrorKind
error_of_number number.Overflow = error.Overflow
error_of_number number.ZeroDivide = error.ZeroDivide
error_of_number number.Domain = error.Domain

abbrev pub error_of_list : ListFail → ErrorKind
error_of_list list.WrongType = error.WrongType
error_of_list list.OutOfList = error.OutOfList
error_of_list list.Overflow = error.Overflow
error_of_list list.ZeroDivide = error.ZeroDivide
error_of_list list.Domain = error.Domain
error_of_list list.TooFew = error.TooFew
error_of_list list.TooLarge = error.TooLarge
error_of_list list.NoMemory = error.TooLarge

abbrev pub error_of_query : QueryFail → ErrorKind
error_of_query query.WrongType = error.WrongType
error_of_query query.NoAgent = error.NoAgent
error_of_query query.OutOfWorld = error.OutOfWorld
error_of_query query.SamePoint = error.SamePoint
error_of_query query.Overflow = error.Overflow
error_of_query query.Domain = error.Domain
error_of_query query.TooFew = error.TooFew
error_of_query query.NoMemory = error.TooLarge

abbrev pub error_of_motion : MoveFault → ErrorKind
error_of_motion motion.OutOfWorld = error.OutOfWorld
error_of_motion motion.Overflow = error.Overflow
error_of_motion motion.WrongType = error.WrongType
error_of_motion motion.Domain = error.Domain
error_of_motion motion.NoMemory = error.TooLarge

-- what a call gives, with its refusal as an error
abbrev pub told_as : {X F : Type 0} → (F → ErrorKind) → Result X F → ActOutcome X
told_as error_of (Ok x) = Ok x
told_as error_of (Err why) = Err (error_of why)

-- ---- the same with want of memory, which is no error of a text

abbrev pub fail_of_list : ListFail → ActFail
fail_of_list list.NoMemory = fail.NoMemory
fail_of_list why = fail.Error (error_of_list why)

abbrev pub fail_of_query : QueryFail → ActFail
fail_of_query query.NoMemory = fail.NoMemory
fail_of_query why = fail.Error (error_of_query why)

-- what a call gives, and the state that it leaves the stream in, are the outcome, unless it wants memory
abbrev pub Answers : Result Value ActFail → ℕ → ActOutcome (Plain × ℕ) → Type 0
Answers result state outcome = Gives (λ value. (plain value, state)) result outcome

-- the same of the ticks, where no memory is wanted
abbrev pub AnswersAt : ActOutcome Value → Option ℤ → ActOutcome (Plain × Option ℤ) → Type 0
AnswersAt result ticks outcome = outcome_map (λ value. (plain value, ticks)) result ≡ outcome
