use Rattle.std.proofs.Common.{◌≡◌, ◌+◌, ◌++◌, drop}
use Rattle.nl_decl.specs.Claims.{claimed_from}
use Rattle.nl_decl.proofs.claims.claim_names.Given as goal

-- the names so far are claimed one after another
abbrev pub invariant-names : goal.invariant-names
invariant-names l =
    (l.at ≡ l.place + l.name-index)
    × (l.list.items ++ claimed_from l.at l.claim (drop l.name-index l.names) ≡ l.fn.list.items ++ claimed_from l.place l.claim l.names)
