use Rattle.nl_grid.specs.Geometry.{is_in_line}
use Rattle.nl_grid.proofs.WalkLemmas.{Picked}
use Rattle.nl_grid.proofs.shape.Shape.neighbors4.Given as goal

abbrev pub invariant-loop-other : goal.invariant-loop-other
invariant-loop-other l = Picked (is_in_line l.self l.patch) l.other-items l.other-index l.out l.count
