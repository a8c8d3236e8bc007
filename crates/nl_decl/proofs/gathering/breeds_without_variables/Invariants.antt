use Rattle.std.proofs.Common.{◌≡◌, ◌++◌, drop}
use Rattle.nl_decl.specs.inner.Gathering.{bare_breeds}
use Rattle.nl_decl.proofs.gathering.breeds_without_variables.Given as goal

-- the breeds so far, and those that are left
abbrev pub invariant-declarations : goal.invariant-declarations
invariant-declarations l = l.breeds.items ++ bare_breeds (drop l.declaration-index l.declarations) ≡ bare_breeds l.declarations
