-- Only links of the turtle are gone.
use Rattle.std.proofs.Common.{length}
use Rattle.nl_store.proofs.Cutting.{IsCut}
use Rattle.nl_store.proofs.roster.Roster.cut_all_of.Given as goal

abbrev pub invariant-loop-link : goal.invariant-loop-link
invariant-loop-link l = IsCut l.turtle l.initial.self l.self

abbrev pub decreases-loop-link : goal.decreases-loop-link
decreases-loop-link l = length l.self.links
