use Rattle.std.proofs.Common.{◌≡◌}
use Rattle.nl_fixed.specs.Sines.{reach}
use Rattle.nl_fixed.proofs.Directions.{IsBestBelow}
use Rattle.nl_fixed.proofs.sine.direction_of.Given as goal

abbrev pub invariant-loop-degree : goal.invariant-loop-degree
invariant-loop-degree l = record { best : IsBestBelow l.x l.y l.degree l.best; farthest : l.farthest ≡ reach l.x l.y l.best }
