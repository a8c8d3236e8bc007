use Rattle.std.proofs.Common.{subst}
use Rattle.nl_grid.specs.Geometry.{IsWithinLimits}
use Rattle.nl_grid.proofs.shape.Shape.patches.Goals as goal

pub returns-clause-limits : goal.returns-clause-limits
returns-clause-limits c = subst IsWithinLimits c.self.view_is c.self.invariant
