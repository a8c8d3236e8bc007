-- Neighbors are patches of the world.
use Rattle.std.proofs.Common.{ℕ, Bool, true, false}
use Rattle.nl_grid.specs.Geometry.{Plane, ArePatchesOf}
use Rattle.nl_grid.proofs.LawLemmas.{neighbors_of_world, neighbors4_of_world}
use Rattle.nl_motion.specs.Climbing.{ring_of}

pub ring_of_world : (four : Bool) (plane : Plane) (patch : ℕ) → ArePatchesOf plane (ring_of four plane patch)
ring_of_world true plane patch = neighbors4_of_world plane patch
ring_of_world false plane patch = neighbors_of_world plane patch
