use Rattle.std.proofs.Common.{◌≡◌, drop}
use Rattle.std.specs.List.{list_any}
use Rattle.std.specs.HashSet.{contains}
use Rattle.nl_decl.specs.inner.Ledger.{same_marked}
use Rattle.nl_decl.proofs.ledger.bears.Given as goal

-- none of the marks so far is on the name
abbrev pub invariant-asked : goal.invariant-asked
invariant-asked l =
    (l.key.name ≡ l.fn.key.name)
    × (list_any (λ m. contains same_marked l.marks (record { name = l.fn.key.name; mark = m })) (drop l.mark-index l.asked) ≡ list_any (λ m. contains same_marked l.marks (record { name = l.fn.key.name; mark = m })) l.asked)
