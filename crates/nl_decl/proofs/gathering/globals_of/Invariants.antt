use Rattle.std.proofs.Common.{◌≡◌, ◌++◌, drop}
use Rattle.nl_decl.specs.Gathered.{globals_in}
use Rattle.nl_decl.proofs.gathering.globals_of.Given as goal

-- the variables so far, and those that are left
abbrev pub invariant-declarations : goal.invariant-declarations
invariant-declarations l = l.list ++ globals_in (drop l.declaration-index l.declarations) ≡ globals_in l.declarations
