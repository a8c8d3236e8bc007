use Rattle.nl_birth.specs.Links.{link_room, first_ties}
use Rattle.nl_birth.proofs.Counting.{IsSoFar}
use Rattle.nl_birth.proofs.linking.tie_all.Given as goal

abbrev pub invariant-loop-target : goal.invariant-loop-target
invariant-loop-target g l =
    let start = g.S.Store.world l.fn.store in
    IsSoFar (first_ties l.fn.way l.breed l.caller l.targets start) (link_room start) start.rest.links_given l.target-index (g.S.Store.world l.store) l.made
