use Rattle.std.proofs.Common.{◌≡◌, ◌+◌, ◌<◌, ◌≤◌, ◌^◌, ◌++◌, drop}
use Rattle.nl_decl.specs.Claims.{claims_from, claims}
use Rattle.nl_decl_outline.specs.Lengths.{total_length}
use Rattle.nl_decl.proofs.claims.claims_of.Given as goal

-- the declarations so far are taken in, and the rest fits
abbrev pub invariant-declarations : goal.invariant-declarations
invariant-declarations l =
    (l.claims.list.items ++ claims_from l.claims.sorts.items l.claims.procedures l.claims.tokens (drop l.declaration-index l.declarations) ≡ claims l.declarations)
    × (l.claims.tokens + total_length (drop l.declaration-index l.declarations) < 2 ^ 62)
    × (l.claims.procedures ≤ l.claims.tokens)
