use Rattle.std.proofs.Common.{◌≡◌, take}
use Rattle.nl_birth.specs.Links.{wanted}
use Rattle.nl_birth.proofs.linking.wanted.Given as goal

abbrev pub invariant-loop-target : goal.invariant-loop-target
invariant-loop-target g l = l.wanted.items ≡ wanted l.fn.way l.breed l.caller (take l.target-index l.target-items) (g.S.Store.world l.store)

abbrev pub ghosts-partners : goal.ghosts-partners
ghosts-partners g a = record { name = a.blank.name; parts = a.blank.parts }
