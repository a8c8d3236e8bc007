-- How many steps can come before the next unit is wanted, at most. This is for the proof that they end.
use Rattle.std.specs.Prelude.{ℕ, suc, ◌+◌, List, [], ◌∷◌}
use Rattle.nl_exec_meaning.specs.Code.{Code, node_at}
use Rattle.nl_exec_meaning.specs.Weight.{weight}
use Rattle.nl_exec_meaning.specs.Work.{frame_work}
use Rattle.nl_exec_levels.specs.declared.levels.Level.{Level}
use Rattle.nl_exec_levels.specs.declared.focus.Focus.{Focus}
use Rattle.nl_exec_levels.specs.declared.focus.Focus.TheVariants as focus

abbrev pub levels_work : Code → List Level → ℕ
levels_work c [] = 0
levels_work c (l ∷ ls) = frame_work c l.frame + levels_work c ls

-- what is behind a unit doesn't count
abbrev pub total_work : Code → List Level → Focus → ℕ
total_work c levels (focus.Start form t) = levels_work c levels + suc (weight (node_at c t))
total_work c levels (focus.Enter t) = levels_work c levels + weight (node_at c t)
total_work c levels (focus.Give exit) = levels_work c levels
total_work c levels (focus.Want w) = 0
