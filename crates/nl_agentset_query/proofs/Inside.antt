-- The members of a set of patches are patches of the world.
use Rattle.std.specs.Prelude.{◌≡◌, ◌<◌, All}
use Rattle.nl_value.specs.Sets.{set_kind}
use Rattle.nl_value.specs.declared.sets.AgentKind.TheVariants as the_kind
use Rattle.nl_value.specs.declared.sets.AgentSet.{AgentSet}
use Rattle.nl_value.specs.declared.sets.AgentSet.TheVariants as the_set
use Rattle.nl_grid.specs.Geometry.{patches_of}
use Rattle.nl_agents.specs.World.{Rest}
use Rattle.nl_agents.specs.Members.{members_of, is_listed}
use Rattle.nl_agentset_query.proofs.Regional.{patches_inside, all_inside}

pub patch_members : (r : Rest) (set : AgentSet) → set_kind set ≡ the_kind.Patch → All (λ patch. patch < patches_of r.shape) (members_of r set)
patch_members r the_set.Patches is = all_inside r
patch_members r (the_set.SomePatches numbers) is = patches_inside r (is_listed numbers)
patch_members r the_set.Turtles is = cc
patch_members r (the_set.Breed breed) is = cc
patch_members r the_set.Links is = cc
patch_members r (the_set.LinkBreed breed) is = cc
patch_members r (the_set.SomeTurtles numbers) is = cc
patch_members r (the_set.SomeLinks numbers) is = cc
