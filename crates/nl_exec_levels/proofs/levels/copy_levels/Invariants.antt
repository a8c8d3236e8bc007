-- Those so far are copied.
use Rattle.std.proofs.Common.{◌≡◌, take}
use Rattle.nl_exec_levels.proofs.levels.copy_levels.Given as goal

abbrev pub invariant-loop-level : goal.invariant-loop-level
invariant-loop-level l = l.copied.items ≡ take l.level-index l.levels
