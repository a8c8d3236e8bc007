-- What the end of a procedure's body leaves to its caller.
use Rattle.std.specs.Prelude.{Bool, true, false, List}
use Rattle.nl_exec_meaning.specs.State.{Held, State}
use Rattle.nl_exec_meaning.specs.Calls.{back_to}
use Rattle.nl_exec_meaning.specs.declared.sites.Site.{Site}
use Rattle.nl_exec_meaning.specs.declared.exits.Exit.{Exit}
use Rattle.nl_exec_meaning.specs.declared.exits.Exit.TheVariants.{Gives, Stopped, Reported, Left, Error}

-- an end of the whole text
abbrev pub ends_text : Exit → Bool
ends_text (Error kind at body) = true
ends_text (Gives value) = false
ends_text Stopped = false
ends_text (Reported value) = false
ends_text Left = false

-- an end of the whole text leaves all as it stands; else the caller has its locals, and runs where it ran
abbrev pub back_by : Bool → List Held → Site → State → State
back_by true saved site s = s
back_by false saved site s = back_to saved site s
