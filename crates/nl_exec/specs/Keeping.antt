-- What a machine keeps between texts and while one is open, as long as memory isn't wanting.
use Rattle.std.specs.Prelude.{◌≡◌, Bool, true, false, IsTrue, List}
use Rattle.nl_agents_layout.specs.Layouts.{layout_of}
use Rattle.nl_agents.specs.declared.store.Store.{Ghosts}
use Rattle.nl_exec_meaning.specs.Code.{Code}
use Rattle.nl_exec_meaning.specs.Seen.{ground}
use Rattle.nl_exec_meaning.specs.Standing.{HandsFit}
use Rattle.nl_exec_meaning.specs.declared.hands.Hands.{Hands}
use Rattle.nl_exec_levels.specs.Steady.{LevelsFit}
use Rattle.nl_exec_levels.specs.declared.levels.Level.{Level}
use Rattle.nl_exec.specs.declared.phase.Phase.{Phase}
use Rattle.nl_exec.specs.declared.phase.Phase.TheVariants as phase

-- memory was never wanting
abbrev pub is_well : Phase → Bool
is_well phase.Closed = true
is_well (phase.Begun t) = true
is_well (phase.Waiting w) = true
is_well phase.Failed = false

-- the layout is the program's, and the locals and who runs fit the world
abbrev pub KeptIn : {S : Type 0} {G : Ghosts S} → Phase → Code → Hands S G → Type 0
KeptIn p c h = IsTrue (is_well p) → ((ground h).layout ≡ layout_of c.program.declared) × HandsFit h

-- and so do the levels
abbrev pub HeldIn : {S : Type 0} {G : Ghosts S} → Phase → Hands S G → List Level → Type 0
HeldIn p h levels = IsTrue (is_well p) → LevelsFit (ground h) levels
