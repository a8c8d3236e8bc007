-- What a text is evaluated in, how an evaluation ends, and how one step follows another.
use Rattle.std.specs.Prelude.{ℕ, zero, suc, ℤ, Bool, true, false, List, Option, Some, None, slice_get, Result, Ok, Err}
use Rattle.nl_fixed.specs.Nouns.{Name}
use Rattle.nl_fixed.specs.declared.span.Span.{Span}
use Rattle.nl_value.specs.Plain.{Plain, PlainNumber, PlainTruth, PlainWords, PlainItems, PlainTurtle, PlainPatch, PlainLink, PlainNobody, PlainSet}
use Rattle.nl_tree.specs.Tree.{Node, parts}
use Rattle.nl_agents.specs.World.{Rest, World}
use Rattle.nl_exec_acts.specs.declared.fail.ErrorKind.{ErrorKind}
use Rattle.nl_exec_acts.specs.declared.fail.ErrorKind.TheVariants.{WrongType}
use Rattle.nl_exec_acts.specs.Stage.{Stage}
use Rattle.nl_exec_meaning.specs.declared.sites.Site.{Site}

-- ---- states

-- a local variable
pub record Held : Type 0 where
  pub name : Name
  pub value : Plain

-- The global variables and all else of the world, the locals of the procedure that runs, from the oldest to the newest, who runs, and how many
-- units are left.
pub record State : Type 0 where
  pub globals : List Plain
  pub stage : Stage
  pub locals : List Held
  pub site : Site
  pub units : ℕ

-- the world of a state
abbrev pub world_of : State → World
world_of s = record { globals = s.globals; rest = s.stage.rest }

abbrev pub rest_of : State → Rest
rest_of s = s.stage.rest

abbrev pub with_world : World → State → State
with_world w s = record s { globals = w.globals; stage = record s.stage { rest = w.rest } }

abbrev pub with_stage : Stage → State → State
with_stage st s = record s { stage = st }

abbrev pub with_locals : List Held → State → State
with_locals held s = record s { locals = held }

abbrev pub at_site : Site → State → State
at_site site s = record s { site = site }

-- ---- ends

-- How an evaluation ends. A statement that goes on gives a value too, which no other statement sees: `goes_on`, or `goes_on_stopped` where it is
-- the call of a procedure that ended by `stop`. `Left` is the end of an agent that died.
pub data Exit : Type 0 where
  Gives : Plain → Exit
  Stopped : Exit
  Reported : Plain → Exit
  Left : Exit
  Budget : Exit
  Error : ErrorKind → Span → ℕ → Exit

-- how it ends, and what it leaves
pub record Outcome : Type 0 where
  pub exit : Exit
  pub state : State

abbrev pub ends : Exit → State → Outcome
ends exit s = record { exit = exit; state = s }

abbrev pub gives : Plain → State → Outcome
gives value s = ends (Gives value) s

abbrev pub goes_on : State → Outcome
goes_on s = gives PlainNobody s

abbrev pub goes_on_stopped : State → Outcome
goes_on_stopped s = gives (PlainTruth true) s

-- an error stands at a place of the body that runs
abbrev pub fails : ErrorKind → Span → State → Outcome
fails kind place s = ends (Error kind place s.site.body) s

-- what a node is evaluated to
abbrev pub Eval : Type 0
Eval = Node → State → Outcome

-- ---- one step after another

-- goes on with a value; each other end passes
abbrev pub next_by : Exit → State → (Plain → State → Outcome) → Outcome
next_by (Gives value) s next = next value s
next_by Stopped s next = ends Stopped s
next_by (Reported value) s next = ends (Reported value) s
next_by Left s next = ends Left s
next_by Budget s next = ends Budget s
next_by (Error kind place body) s next = ends (Error kind place body) s

infixr 5 ◌>>=◌
abbrev pub ◌>>=◌ : Outcome → (Plain → State → Outcome) → Outcome
o >>= next = next_by o.exit o.state next

-- one unit is spent first; where none is left, all ends there
abbrev pub spend_by : ℕ → State → (State → Outcome) → Outcome
spend_by zero s next = ends Budget s
spend_by (suc units) s next = next (record s { units = units })

abbrev pub spend : State → (State → Outcome) → Outcome
spend s next = spend_by s.units s next

abbrev pub choose : Bool → Outcome → Outcome → Outcome
choose true first second = first
choose false first second = second

-- what is found, or the error where nothing is
abbrev pub found : {X : Type 0} → Option X → ErrorKind → Span → State → (X → Outcome) → Outcome
found (Some x) kind place s next = next x
found None kind place s next = fails kind place s

-- what a word comes to, or its error
abbrev pub come_to : {X : Type 0} → Result X ErrorKind → Span → State → (X → Outcome) → Outcome
come_to (Ok x) place s next = next x
come_to (Err kind) place s next = fails kind place s

-- the part at an index; every node that is read has the parts of its word
abbrev pub with_part : Node → ℕ → Span → State → (Node → Outcome) → Outcome
with_part t index place s next = found (slice_get (parts t) index) WrongType place s next

-- ---- what a value is taken for

abbrev pub with_number : Plain → Span → State → (ℤ → Outcome) → Outcome
with_number (PlainNumber count) place s next = next count
with_number (PlainTruth truth) place s next = fails WrongType place s
with_number (PlainWords bytes) place s next = fails WrongType place s
with_number (PlainItems items) place s next = fails WrongType place s
with_number (PlainTurtle turtle) place s next = fails WrongType place s
with_number (PlainPatch patch) place s next = fails WrongType place s
with_number (PlainLink link) place s next = fails WrongType place s
with_number PlainNobody place s next = fails WrongType place s
with_number (PlainSet set) place s next = fails WrongType place s

abbrev pub with_truth : Plain → Span → State → (Bool → Outcome) → Outcome
with_truth (PlainTruth truth) place s next = next truth
with_truth (PlainNumber count) place s next = fails WrongType place s
with_truth (PlainWords bytes) place s next = fails WrongType place s
with_truth (PlainItems items) place s next = fails WrongType place s
with_truth (PlainTurtle turtle) place s next = fails WrongType place s
with_truth (PlainPatch patch) place s next = fails WrongType place s
with_truth (PlainLink link) place s next = fails WrongType place s
with_truth PlainNobody place s next = fails WrongType place s
with_truth (PlainSet set) place s next = fails WrongType place s
