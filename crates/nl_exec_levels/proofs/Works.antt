-- The work of levels.
use Rattle.std.proofs.Common.{◌≡◌, ◌+◌, List, [], ◌∷◌, ◌++◌, arith}
use Rattle.nl_exec_meaning.specs.Code.{Code}
use Rattle.nl_exec_meaning.specs.Work.{frame_work}
use Rattle.nl_exec_levels.specs.declared.levels.Level.{Level}
use Rattle.nl_exec_levels.specs.Work.{levels_work}

pub works_push : (c : Code) (ls : List Level) (l : Level) → levels_work c (ls ++ l ∷ []) ≡ levels_work c ls + frame_work c l.frame
works_push c [] l = omega arith
works_push c (k ∷ ls) l = omega (arith, works_push c ls l)
