use Rattle.std.proofs.Common.{◌≡◌, take}
use Rattle.nl_check.proofs.checking.listed.Given as goal

abbrev pub invariant-loop-entry : goal.invariant-loop-entry
invariant-loop-entry l = l.list ≡ take l.entry-index l.kinds
