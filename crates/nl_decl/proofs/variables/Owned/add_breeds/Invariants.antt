use Rattle.std.proofs.Common.{drop}
use Rattle.nl_decl.specs.inner.Index.{AddsOwn}
use Rattle.nl_decl.specs.declared.variables.Owned.{Owned}
use Rattle.nl_decl.proofs.variables.Owned.add_breeds.Given as goal

-- the variables of the rest are all that is left to add
abbrev pub invariant-breeds : goal.invariant-breeds
invariant-breeds l = (later : Owned) → AddsOwn l.self (drop l.breed-index l.breeds) later → AddsOwn l.fn.self l.breeds later
