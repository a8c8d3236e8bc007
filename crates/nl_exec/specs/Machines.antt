-- What a machine shows.
use Rattle.std.specs.Prelude.{◌≡◌, ℕ, ◌+◌, ◌-◌}
use Rattle.nl_tree.specs.Checked.{Checked}
use Rattle.nl_tree.specs.Tree.{Node}
use Rattle.nl_tree.specs.declared.declared.Form.{Form}
use Rattle.nl_agents.specs.World.{World}
use Rattle.nl_agents.specs.declared.store.Store.{Ghosts}
use Rattle.nl_exec_acts.specs.Stage.{Scene, scene}
use Rattle.nl_exec_meaning.specs.State.{State, Outcome}
use Rattle.nl_exec_meaning.specs.LoneTexts.{Ending, ending_of, first_state}
use Rattle.nl_exec_meaning.specs.Meaning.{text}
use Rattle.nl_exec_meaning.specs.Seen.{state_of}
use Rattle.nl_exec.specs.Slices.{focus_of, rest_by}
use Rattle.nl_exec.specs.declared.phase.Phase.TheVariants.{Closed, Failed}
use Rattle.nl_exec.specs.declared.slices.Machine.{Machine}

-- what a machine has with so many units to spend
abbrev pub state_with : {S : Type 0} {G : Ghosts S} → Machine S G → ℕ → State
state_with m units = state_of m.code.names m.hands units

-- the outcome of the open text from a state
abbrev pub rest_from : {S : Type 0} {G : Ghosts S} → Machine S G → State → Outcome
rest_from m s = rest_by (focus_of m.phase m.form) m.code m.limit m.levels.items s

-- the outcome of the open text with so many units to spend
abbrev pub rest_of : {S : Type 0} {G : Ghosts S} → Machine S G → ℕ → Outcome
rest_of m units = rest_from m (state_with m units)

-- an outcome that leaves so many units more
abbrev pub with_more : ℕ → Outcome → Outcome
with_more units o = record o { state = record o.state { units = o.state.units + units } }

-- the end that the outcome is of the open text
abbrev pub end_in : {S : Type 0} {G : Ghosts S} → Machine S G → Outcome → Ending
end_in m o = ending_of m.form o.exit

-- the world with its global variables, the ticks, and the state of the random stream
abbrev pub scene_of : {S : Type 0} {G : Ghosts S} → Machine S G → Scene
scene_of {G = g} m = scene (g.world m.hands.stage.store) m.hands.stage.ticks m.hands.stage.stream

abbrev pub world_of : {S : Type 0} {G : Ghosts S} → Machine S G → World
world_of {G = g} m = g.world m.hands.stage.store

abbrev pub program_of : {S : Type 0} {G : Ghosts S} → Machine S G → Checked
program_of m = m.code.program

abbrev pub form_of : {S : Type 0} {G : Ghosts S} → Machine S G → Form
form_of m = m.form

abbrev pub spent_of : {S : Type 0} {G : Ghosts S} → Machine S G → ℕ
spent_of m = m.spent

-- the units that can be spent yet
abbrev pub units_left : {S : Type 0} {G : Ghosts S} → Machine S G → ℕ
units_left m = m.budget - m.spent

abbrev pub IsOpen : {S : Type 0} {G : Ghosts S} → Machine S G → Type 0
IsOpen m = m.phase ≡ Closed → ⊥

abbrev pub IsClosed : {S : Type 0} {G : Ghosts S} → Machine S G → Type 0
IsClosed m = m.phase ≡ Closed

-- memory was wanting
abbrev pub HasFailed : {S : Type 0} {G : Ghosts S} → Machine S G → Type 0
HasFailed m = m.phase ≡ Failed

abbrev pub HasNotFailed : {S : Type 0} {G : Ghosts S} → Machine S G → Type 0
HasNotFailed m = HasFailed m → ⊥

-- with another world
abbrev pub in_world : World → Scene → Scene
in_world w now = record now { world = w }

-- what a lone text means over what the machine has
abbrev pub meant : {S : Type 0} {G : Ghosts S} → Machine S G → Form → Node → ℕ → Outcome
meant m form tree units = text m.code.program form tree (first_state (scene_of m) units)
