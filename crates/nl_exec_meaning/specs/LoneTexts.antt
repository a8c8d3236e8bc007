-- What a lone text begins with, how it ends, and what it leaves.
use Rattle.std.specs.Prelude.{ℕ, []}
use Rattle.nl_fixed.specs.declared.span.Span.{Span}
use Rattle.nl_value.specs.Plain.{Plain}
use Rattle.nl_tree.specs.declared.declared.Form.{Form}
use Rattle.nl_tree.specs.declared.declared.Form.TheVariants as form
use Rattle.nl_exec_acts.specs.Stage.{Scene, scene, stage_of}
use Rattle.nl_exec_acts.specs.declared.fail.ErrorKind.{ErrorKind}
use Rattle.nl_exec_meaning.specs.State as meant
use Rattle.nl_exec_meaning.specs.State.{State}
use Rattle.nl_exec_meaning.specs.Meaning.{lone_site}

-- the state in which a lone text begins, with so many units to spend
abbrev pub first_state : Scene → ℕ → State
first_state now units = record { globals = now.world.globals; stage = stage_of now; locals = []; site = lone_site; units = units }

-- an end as plain data
pub data Ending : Type 0 where
  Done : Ending
  Stopped : Ending
  Reported : Plain → Ending
  Budget : Ending
  Error : ErrorKind → Span → ℕ → Ending

-- the end of a text of a form, by that of its evaluation: the observer, who runs it, never dies
abbrev pub ending_of : Form → meant.Exit → Ending
ending_of form.Commands (meant.Gives value) = Done
ending_of form.Reporter (meant.Gives value) = Reported value
ending_of any meant.Stopped = Stopped
ending_of any (meant.Reported value) = Reported value
ending_of any meant.Left = Done
ending_of any meant.Budget = Budget
ending_of any (meant.Error kind place body) = Error kind place body

-- what a state leaves: the world with its global variables, the ticks, and the state of the random stream
abbrev pub scene_in : State → Scene
scene_in s = scene (record { globals = s.globals; rest = s.stage.rest }) s.stage.ticks s.stage.stream

-- with the random stream elsewhere
abbrev pub in_stream : ℕ → Scene → Scene
in_stream stream now = record now { stream = stream }
