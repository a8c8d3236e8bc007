-- Calls of procedures.
-- That the inputs are the first locals of a call, and that `stop` leaves the procedure, is the NetLogo Dictionary's; that a reporter which ends
-- without `report` is an error at its call, too.
use Rattle.std.specs.Prelude.{ℕ, ◌+◌, ◌==◌, Bool, true, false, List, [], ◌∷◌, length, slice_get}
use Rattle.nl_fixed.specs.Nouns.{Names}
use Rattle.nl_fixed.specs.declared.span.Span.{Span}
use Rattle.nl_value.specs.Plain.{Plain}
use Rattle.nl_tree.specs.Tree.{Node, span, parts}
use Rattle.nl_tree.specs.Checked.{Checked}
use Rattle.nl_tree.specs.declared.declared.Procedure.{Procedure}
use Rattle.nl_exec_acts.specs.declared.fail.ErrorKind.TheVariants.{WrongType, NoReport}
use Rattle.nl_exec_meaning.specs.declared.sites.Site.{Site}
use Rattle.nl_exec_meaning.specs.State.{Held, State, Exit, Outcome, Eval, Gives, Stopped, Reported, Left, Budget, Error, ends, gives, goes_on, goes_on_stopped, fails, found, choose, at_site, with_locals}
use Rattle.nl_exec_meaning.specs.Blocks.{values}

-- the caller has its locals, and runs where it ran
abbrev pub back_to : List Held → Site → State → State
back_to saved site s = with_locals saved (at_site site s)

-- What the end of a procedure's body is to its caller: a command goes on, and a reporter has its value. An end of the whole text leaves all
-- as it stands, and an agent that left its body leaves the caller's too.
abbrev pub command_by : Exit → List Held → Site → State → Outcome
command_by (Gives value) saved site s = goes_on (back_to saved site s)
command_by Stopped saved site s = goes_on_stopped (back_to saved site s)
command_by (Reported value) saved site s = goes_on (back_to saved site s)
command_by Left saved site s = ends Left (back_to saved site s)
command_by Budget saved site s = ends Budget s
command_by (Error kind place body) saved site s = ends (Error kind place body) s

abbrev pub reporter_by : Exit → Span → List Held → Site → State → Outcome
reporter_by (Gives value) place saved site s = fails NoReport place (back_to saved site s)
reporter_by Stopped place saved site s = fails NoReport place (back_to saved site s)
reporter_by (Reported value) place saved site s = gives value (back_to saved site s)
reporter_by Left place saved site s = ends Left (back_to saved site s)
reporter_by Budget place saved site s = ends Budget s
reporter_by (Error kind at body) place saved site s = ends (Error kind at body) s

abbrev pub returned_by : Bool → Span → List Held → Site → Outcome → Outcome
returned_by true place saved site o = reporter_by o.exit place saved site o.state
returned_by false place saved site o = command_by o.exit saved site o.state

-- the inputs by their names
abbrev pub bound : Names → List Plain → List Held
bound [] made = []
bound (name ∷ names) [] = []
bound (name ∷ names) (value ∷ made) = record { name = name; value = value } ∷ bound names made

abbrev pub in_body : ℕ → List Held → State → State
in_body index held s = with_locals held (at_site (record s.site { body = index + 1 }) s)

-- the body of a procedure, with so many inputs as it has names for
abbrev pub run_body : Eval → ℕ → Procedure → Node → Span → List Plain → State → Outcome
run_body prev index p body place made s =
    choose (length made == length p.inputs)
    (returned_by p.reporter place s.locals s.site (prev body (in_body index (bound p.inputs made) s)))
    (fails WrongType place s)

abbrev pub called : Checked → ℕ → Eval → Span → List Plain → State → Outcome
called p index prev place made s =
    found (slice_get p.declared.procedures index) WrongType place s (λ procedure.
    found (slice_get p.bodies index) WrongType place s (λ body. run_body prev index procedure body place made s))

-- the inputs in order, and then the body
abbrev pub call_case : Checked → ℕ → Eval → Node → State → Outcome
call_case p index prev t s = values prev (parts t) [] s (λ made s1. called p index prev (span t) made s1)
