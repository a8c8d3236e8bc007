-- What is left of the open text.
use Rattle.std.specs.Prelude.{ℕ, List, Option, Some, None}
use Rattle.nl_tree.specs.declared.declared.Form.{Form}
use Rattle.nl_exec_meaning.specs.Code.{Code}
use Rattle.nl_exec_meaning.specs.State.{State, Outcome, goes_on}
use Rattle.nl_exec_levels.specs.declared.levels.Level.{Level}
use Rattle.nl_exec_levels.specs.declared.focus.Focus.{Focus}
use Rattle.nl_exec_levels.specs.declared.focus.Focus.TheVariants as focus
use Rattle.nl_exec.specs.declared.phase.Phase.{Phase}
use Rattle.nl_exec.specs.declared.phase.Phase.TheVariants as phase
use Rattle.nl_exec_levels.specs.Rest.{rest}

-- what comes next in an open text of this form
abbrev pub focus_of : Phase → Form → Option Focus
focus_of phase.Closed form = None
focus_of (phase.Begun t) form = Some (focus.Start form t)
focus_of (phase.Waiting w) form = Some (focus.Want w)
focus_of phase.Failed form = None

-- the outcome of the open text from this state; without one, nothing
abbrev pub rest_by : Option Focus → Code → ℕ → List Level → State → Outcome
rest_by None c limit levels s = goes_on s
rest_by (Some at) c limit levels s = rest c limit levels at s
