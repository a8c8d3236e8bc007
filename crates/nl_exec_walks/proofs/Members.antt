-- Members fit the world, also in another order, and a patch among them has a small number.
use Rattle.std.proofs.Common.{◌≡◌, ◌<◌, ◌&&◌, ℕ, IsTrue, List, [], ◌∷◌, Some, All, slice_get, refl, ap, ◌∙◌, arith}
use Rattle.std.specs.List.{list_all}
use Rattle.std.specs.List.Sorted.{IsPermutation}
use Rattle.std.proofs.lemmas.Bool.{lt-ltb, ltb-true}
use Rattle.std.proofs.lemmas.List.Elements.{All-head, All-tail}
use Rattle.std.proofs.lemmas.List.Sorted.{All-permutation}
use Rattle.nl_value.specs.Sets.{set_kind}
use Rattle.nl_value.specs.declared.sets.AgentKind.{AgentKind}
use Rattle.nl_value.specs.declared.sets.AgentKind.TheVariants as kind
use Rattle.nl_value.specs.declared.sets.AgentSet.{AgentSet}
use Rattle.nl_value.specs.declared.sets.AgentSet.TheVariants as the_set
use Rattle.nl_grid.specs.Geometry.{patches_of}
use Rattle.nl_agents.specs.World.{Rest, World}
use Rattle.nl_agents.specs.Changes.{OwnerLives}
use Rattle.nl_agents.specs.Members.{members_of, is_listed}
use Rattle.nl_agents.specs.Standing.{IsWorld}
use Rattle.nl_agents.specs.declared.agents.Owner.{Owner}
use Rattle.nl_agents.specs.declared.agents.Owner.TheVariants as owner
use Rattle.nl_agentset_query.proofs.Regional.{patches_inside, all_inside}
use Rattle.nl_exec_meaning.specs.Walks.{owner_of}
use Rattle.nl_exec_meaning.specs.Ground.{Ground, ground_of, patch_in, agent_fits}
use Rattle.nl_exec_meaning.specs.Standing.{MembersFit}
use Rattle.nl_exec_meaning.proofs.Grounds.{pass_get}

-- ---- the members of a set

patches-fit : (r : Rest) (xs : List ℕ) → All (λ patch. patch < patches_of r.shape) xs → IsTrue (list_all (patch_in (ground_of r)) xs)
unfolding patch_in
patches-fit r [] all = refl
patches-fit r (x ∷ xs) all =
    ap (λ b. b && list_all (patch_in (ground_of r)) xs) (lt-ltb x (patches_of r.shape) (All-head (λ patch. patch < patches_of r.shape) x xs all))
    ∙ patches-fit r xs (All-tail (λ patch. patch < patches_of r.shape) x xs all)

-- the members of a set in another order
pub mixed_fit : (r : Rest) (set : AgentSet) (xs : List ℕ) → IsPermutation (members_of r set) xs → MembersFit (ground_of r) (set_kind set) xs
mixed_fit r the_set.Patches xs moved =
    patches-fit r xs (All-permutation (λ patch. patch < patches_of r.shape) (members_of r the_set.Patches) xs moved (all_inside r))
mixed_fit r (the_set.SomePatches numbers) xs moved =
    patches-fit r xs
    (All-permutation (λ patch. patch < patches_of r.shape) (members_of r (the_set.SomePatches numbers)) xs moved (patches_inside r (is_listed numbers)))
mixed_fit r the_set.Turtles xs moved = tt
mixed_fit r (the_set.Breed breed) xs moved = tt
mixed_fit r the_set.Links xs moved = tt
mixed_fit r (the_set.LinkBreed breed) xs moved = tt
mixed_fit r (the_set.SomeTurtles numbers) xs moved = tt
mixed_fit r (the_set.SomeLinks numbers) xs moved = tt

pub members_fit : (r : Rest) (set : AgentSet) → MembersFit (ground_of r) (set_kind set) (members_of r set)
members_fit r the_set.Patches = patches-fit r (members_of r the_set.Patches) (all_inside r)
members_fit r (the_set.SomePatches numbers) = patches-fit r (members_of r (the_set.SomePatches numbers)) (patches_inside r (is_listed numbers))
members_fit r the_set.Turtles = tt
members_fit r (the_set.Breed breed) = tt
members_fit r the_set.Links = tt
members_fit r (the_set.LinkBreed breed) = tt
members_fit r (the_set.SomeTurtles numbers) = tt
members_fit r (the_set.SomeLinks numbers) = tt

-- ---- one of them

-- a patch of the world has a small number
pub member_small : (w : World) (which : AgentKind) (ms : List ℕ) (i m : ℕ) → IsWorld w → MembersFit (ground_of w.rest) which ms → slice_get ms i ≡ Some m
    → which ≡ kind.Patch → m < 4294967296
unfolding patch_in
member_small w kind.Patch ms i m world fit is patch =
    let below = ltb-true m (patches_of w.rest.shape) (pass_get (patch_in (ground_of w.rest)) ms i m fit is) in
    omega (arith, below, world.shape.few)
member_small w kind.Turtle ms i m world fit is patch = cc
member_small w kind.Link ms i m world fit is patch = cc

-- a member is an agent that fits
pub member_agent_fits : (g : Ground) (which : AgentKind) (ms : List ℕ) (i m : ℕ) → MembersFit g which ms → slice_get ms i ≡ Some m → IsTrue (agent_fits g (owner_of which m))
member_agent_fits g kind.Patch ms i m fit is = pass_get (patch_in g) ms i m fit is
member_agent_fits g kind.Turtle ms i m fit is = refl
member_agent_fits g kind.Link ms i m fit is = refl

-- who lives fits
pub living_fits : (w : World) (agent : Owner) → OwnerLives agent w → IsTrue (agent_fits (ground_of w.rest) agent)
unfolding patch_in
living_fits w owner.Observer lives = refl
living_fits w (owner.Turtle turtle) lives = refl
living_fits w (owner.Patch patch) lives = lt-ltb patch (patches_of w.rest.shape) lives
living_fits w (owner.Link link) lives = refl
