use Rattle.std.proofs.Common.{ℕ, List, subst, sym}
use Rattle.std.specs.List.Sorted.{IsStrictlyIncreasing}
use Rattle.std.proofs.lemmas.List.Kept.{IsStrictlyIncreasing-filter}
use Rattle.nl_grid.specs.Geometry.{Plane, neighbors_of, neighbors4_of, patches_near, all_patches}
use Rattle.nl_agents_layout.proofs.Ascending.{range_ascends}
use Rattle.nl_agentset.proofs.patches.patches_around.Goals as goal

neighbors_ascend : (plane : Plane) (patch : ℕ) → IsStrictlyIncreasing (neighbors_of plane patch)
unfolding neighbors_of patches_near
neighbors_ascend plane patch = IsStrictlyIncreasing-filter _ _ (IsStrictlyIncreasing-filter _ (all_patches plane) (range_ascends 0 _))

neighbors4_ascend : (plane : Plane) (patch : ℕ) → IsStrictlyIncreasing (neighbors4_of plane patch)
unfolding neighbors4_of
neighbors4_ascend plane patch = IsStrictlyIncreasing-filter _ (neighbors_of plane patch) (neighbors_ascend plane patch)

pub of_patches-requires : goal.of_patches-requires
of_patches-requires g c = subst (λ (l : List ℕ). IsStrictlyIncreasing l) (sym c.neighbors-count.ensures.patches) (neighbors_ascend _ _)

pub of_patches-requires-in-Neighbors4 : goal.of_patches-requires-in-Neighbors4
of_patches-requires-in-Neighbors4 g c = subst (λ (l : List ℕ). IsStrictlyIncreasing l) (sym c.neighbors4-count.ensures.patches) (neighbors4_ascend _ _)
