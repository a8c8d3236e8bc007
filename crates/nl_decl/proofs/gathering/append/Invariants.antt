use Rattle.std.proofs.Common.{◌≡◌, ◌++◌, drop}
use Rattle.nl_decl.proofs.gathering.append.Given as goal

-- the names so far, and those that are left
abbrev pub invariant-names : goal.invariant-names
invariant-names l = l.list ++ drop l.name-index l.names ≡ l.fn.list ++ l.names
