use Rattle.std.proofs.Common.{◌≡◌, List, map, take, drop}
use Rattle.std.specs.HashSet.{contains}
use Rattle.nl_decl.specs.declared.claims.Claimed.{Claimed}
use Rattle.nl_decl.specs.Claims.{first_clash, widget_claim}
use Rattle.nl_decl.specs.inner.Ledger.{same_marked, Holds}
use Rattle.nl_decl.proofs.ledger.first_duplicate.Given as goal

-- the marks are those of the widgets so far
abbrev pub invariant-widgets : goal.invariant-widgets
invariant-widgets l = (l.name-items ≡ l.widgets) × Holds (map widget_claim (take l.name-index l.widgets)) (contains same_marked l.marks)

-- the marks are those of names so far, none of which is declared twice
abbrev pub invariant-claims : goal.invariant-claims
invariant-claims l =
    (seen : List Claimed) × (Holds seen (contains same_marked l.marks) × (first_clash seen (drop l.claimed-index l.claims) ≡ first_clash (map widget_claim l.widgets) l.claims))
