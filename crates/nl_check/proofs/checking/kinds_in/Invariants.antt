use Rattle.std.proofs.Common.{◌≡◌, take}
use Rattle.nl_check.proofs.checking.kinds_in.Given as goal

abbrev pub invariant-loop-at : goal.invariant-loop-at
invariant-loop-at l = l.list.items ≡ take l.at l.program.kinds
