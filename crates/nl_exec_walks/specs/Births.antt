-- What becomes of births and of the making of links in a text.
use Rattle.std.specs.Prelude.{Result, Ok, Err}
use Rattle.nl_fixed.specs.declared.span.Span.{Span}
use Rattle.nl_value.specs.Nouns.{Serials}
use Rattle.nl_agents.specs.declared.store.Store.{Ghosts}
use Rattle.nl_birth.specs.declared.failing.BirthFail.{BirthFail}
use Rattle.nl_birth.specs.declared.failing.BirthFail.TheVariants as birth
use Rattle.nl_exec_acts.specs.declared.fail.ActFail.{ActFail}
use Rattle.nl_exec_acts.specs.declared.fail.ActFail.TheVariants as fail
use Rattle.nl_exec_acts.specs.declared.fail.ErrorKind.TheVariants as error
use Rattle.nl_exec_meaning.specs.State.{State, Outcome}
use Rattle.nl_exec_meaning.specs.declared.hands.Hands.{Hands}
use Rattle.nl_exec_walks.specs.Telling.{Tells}

-- the error of a text for a refusal
abbrev pub fail_of_birth : BirthFail → ActFail
fail_of_birth birth.TooMany = fail.Error error.TooMany
fail_of_birth birth.LinkFault = fail.Error error.LinkFault
fail_of_birth birth.NoMemory = fail.NoMemory

-- the numbers of those that were made are what the meaning goes on with
abbrev pub Makes : {S : Type 0} {G : Ghosts S} → Result Serials ActFail → (after before : Hands S G)
    → (Span → State → (Serials → State → Outcome) → Outcome) → Type 0
Makes {G = g} result after before meaning = Tells {G = g} {X = Serials} {Y = Serials} (λ made. made) result after before meaning

-- what a call gives, with its refusal as an error
abbrev pub as_told : Result Serials BirthFail → Result Serials ActFail
as_told (Ok made) = Ok made
as_told (Err fail) = Err (fail_of_birth fail)
