use Rattle.nl_grid.proofs.WalkLemmas.{Walked, left_of}
use Rattle.nl_grid.proofs.shape.Shape.neighbors.Given as goal

abbrev pub invariant-loop-next : goal.invariant-loop-next
invariant-loop-next l = Walked l.patch l.around l.next l.out l.count

abbrev pub decreases-loop-next : goal.decreases-loop-next
decreases-loop-next l = left_of l.next
