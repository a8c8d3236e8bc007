-- What is left of a text that runs.
use Rattle.std.specs.Prelude.{◌≡◌, ℕ, ◌-◌, ⊤, List, [], ◌∷◌, length}
use Rattle.nl_tree.specs.Tree.{span}
use Rattle.nl_exec_meaning.specs.Code.{Code, node_at}
use Rattle.nl_exec_meaning.specs.State.{State, Exit, Outcome, Budget, goes_on, spend}
use Rattle.nl_exec_meaning.specs.Meaning.{limited, evaluator, text_by}
use Rattle.nl_exec_meaning.specs.Frames.{resumed}
use Rattle.nl_exec_meaning.specs.Seen.{ended, exit_seen}
use Rattle.nl_exec_levels.specs.declared.levels.Level.{Level}
use Rattle.nl_exec_levels.specs.declared.focus.Wish.{Wish}
use Rattle.nl_exec_levels.specs.declared.focus.Wish.TheVariants as wish
use Rattle.nl_exec_levels.specs.declared.focus.Focus.{Focus}
use Rattle.nl_exec_levels.specs.declared.focus.Focus.TheVariants as focus
use Rattle.nl_exec_levels.specs.declared.focus.Stop.{Stop}
use Rattle.nl_exec_levels.specs.declared.focus.Stop.TheVariants as stop

-- what comes once a unit is spent, with this room for nesting
abbrev pub wished : Code → ℕ → Wish → State → Outcome
wished c room (wish.Node t) s = evaluator c.program room (node_at c t) s
wished c room wish.Tick s = goes_on s

-- what the focus gives
abbrev pub begun : Code → ℕ → Focus → State → Outcome
begun c room (focus.Start form t) s = text_by c.program room form (node_at c t) s
begun c room (focus.Enter t) s = evaluator c.program room (node_at c t) s
begun c room (focus.Want w) s = spend s (λ s1. wished c room w s1)
begun c room (focus.Give exit) s = ended exit s

-- An outcome through the levels, the topmost of which is the last. Each has one room less than the one below it, and what it comes to is within
-- the limits on values.
unfoldable pub through : Code → ℕ → List Level → Outcome → Outcome
through c room [] o = o
through c room (l ∷ ls) o =
    limited (span (node_at c l.node)) (resumed c (evaluator c.program (room - 1)) l.frame (through c (room - 1) ls o))

-- the outcome of the levels and the focus in this state
abbrev pub rest : Code → ℕ → List Level → Focus → State → Outcome
rest c limit levels at s = through c limit levels (begun c (limit - length levels) at s)

-- the focus of a machine that has stopped
abbrev pub stopped : Stop → Focus
stopped (stop.Wanted w) = focus.Want w
stopped (stop.End exit) = focus.Give exit

-- a text has ended only where no level is left
abbrev pub IsOver : List Level → Stop → Type 0
IsOver levels (stop.Wanted w) = ⊤
IsOver levels (stop.End exit) = levels ≡ []

-- a unit is wanted only where none is left
abbrev pub IsSpent : Stop → ℕ → Type 0
IsSpent (stop.Wanted w) left = left ≡ 0
IsSpent (stop.End exit) left = ⊤

-- the end of a slice: that of the text, or of the units
abbrev pub stop_exit : Stop → Exit
stop_exit (stop.Wanted w) = Budget
stop_exit (stop.End exit) = exit_seen exit
