-- What holds of all that a machine holds, as long as memory isn't wanting.
use Rattle.std.specs.Prelude.{◌≡◌, ⊤, List, [], ◌∷◌}
use Rattle.nl_agents_layout.specs.Layouts.{layout_of}
use Rattle.nl_agents.specs.declared.store.Store.{Ghosts}
use Rattle.nl_exec_meaning.specs.Code.{Code}
use Rattle.nl_exec_meaning.specs.Ground.{Ground}
use Rattle.nl_exec_meaning.specs.Seen.{ground}
use Rattle.nl_exec_meaning.specs.Sound.{IsSound}
use Rattle.nl_exec_meaning.specs.Standing.{ExitFits, FrameFits, HandsFit}
use Rattle.nl_exec_meaning.specs.declared.hands.Hands.{Hands}
use Rattle.nl_exec_levels.specs.declared.levels.Level.{Level}
use Rattle.nl_exec_levels.specs.declared.focus.Focus.{Focus}
use Rattle.nl_exec_levels.specs.declared.focus.Focus.TheVariants as focus
use Rattle.nl_exec_levels.specs.declared.focus.Stop.{Stop}
use Rattle.nl_exec_levels.specs.declared.focus.Stop.TheVariants as stop

-- what the levels hold fits the world
abbrev pub LevelsFit : Ground → List Level → Type 0
LevelsFit g [] = ⊤
LevelsFit g (l ∷ ls) = FrameFits g l.frame × LevelsFit g ls

abbrev pub FocusFits : Ground → Focus → Type 0
FocusFits g (focus.Give exit) = ExitFits g exit
FocusFits g (focus.Start form t) = ⊤
FocusFits g (focus.Enter t) = ⊤
FocusFits g (focus.Want w) = ⊤

abbrev pub StopFits : Ground → Stop → Type 0
StopFits g (stop.Wanted w) = ⊤
StopFits g (stop.End exit) = ExitFits g exit

-- The layout is the program's, the program is sound over it, and what is held fits the world.
pub record IsSteady {S : Type 0} {G : Ghosts S} (c : Code) (h : Hands S G) (levels : List Level) : Type 0 where
  pub laid : (ground h).layout ≡ layout_of c.program.declared
  pub sound : IsSound c.program (ground h).layout
  pub fit : HandsFit h
  pub held : LevelsFit (ground h) levels
