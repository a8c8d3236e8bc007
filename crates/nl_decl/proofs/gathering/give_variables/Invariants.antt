use Rattle.std.proofs.Common.{◌≡◌, drop}
use Rattle.nl_decl.specs.inner.Gathering.{with_owned}
use Rattle.nl_decl.proofs.gathering.give_variables.Given as goal

-- the breeds have what is declared so far, and get the rest
abbrev pub invariant-declarations : goal.invariant-declarations
invariant-declarations l = with_owned 0 (drop l.declaration-index l.declarations) l.breeds.items ≡ with_owned 0 l.declarations l.fn.breeds.items
