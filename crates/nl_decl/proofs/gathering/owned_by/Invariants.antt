use Rattle.std.proofs.Common.{◌≡◌, ◌++◌, drop}
use Rattle.nl_decl.specs.Gathered.{owned_in}
use Rattle.nl_decl.proofs.gathering.owned_by.Given as goal

-- the variables so far, and those that are left
abbrev pub invariant-declarations : goal.invariant-declarations
invariant-declarations l = l.list ++ owned_in l.owner (drop l.declaration-index l.declarations) ≡ owned_in l.owner l.declarations
