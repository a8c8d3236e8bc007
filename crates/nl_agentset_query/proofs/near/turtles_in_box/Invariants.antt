use Rattle.nl_grid.proofs.WalkLemmas.{left_of}
use Rattle.nl_agentset_query.proofs.Gathering.{Gathered}
use Rattle.nl_agentset_query.proofs.near.turtles_in_box.Given as goal

abbrev pub invariant-loop-next : goal.invariant-loop-next
invariant-loop-next g l = Gathered (g.S.Store.world l.store).rest l.around l.next l.found.items l.fn.steps l.steps

abbrev pub decreases-loop-next : goal.decreases-loop-next
decreases-loop-next g l = left_of l.next
