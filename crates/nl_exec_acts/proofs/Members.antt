-- The members of a set, as values in order: they are few, and fit the world.
use Rattle.std.specs.Prelude.{◌≡◌, ℕ, ◌<◌, ◌&&◌, ◌^◌, Bool, true, false, if◌then◌else◌, List, [], ◌∷◌, map, All, refl}
use Rattle.std.proofs.Common.{ap, sym, ◌∙◌, subst, arith}
use Rattle.std.specs.List.{list_all}
use Rattle.std.proofs.lemmas.Bool.{and_parts, lt-ltb}
use Rattle.std.proofs.lemmas.List.Elements.{All-head, All-tail}
use Rattle.nl_value.specs.Order.{comes_first}
use Rattle.nl_value.specs.Plain.{PlainItems, plains}
use Rattle.nl_value.specs.Sets.{set_kind}
use Rattle.nl_value.specs.Sorting.{inserted, sorted_by}
use Rattle.nl_value.specs.declared.sets.AgentKind.{AgentKind}
use Rattle.nl_value.specs.declared.sets.AgentKind.TheVariants as kind
use Rattle.nl_value.specs.declared.sets.AgentSet.{AgentSet}
use Rattle.nl_value.specs.declared.sets.AgentSet.TheVariants as the_set
use Rattle.nl_value.proofs.Fitting.{values_fit-plains}
use Rattle.nl_grid.specs.Geometry.{patches_of}
use Rattle.nl_agents.specs.World.{Rest, World}
use Rattle.nl_agents.specs.Members.{members_of, is_listed}
use Rattle.nl_agents.specs.Names.{patch_fits, set_fits, living_of}
use Rattle.nl_agents.specs.Standing.{IsWorld, fits_rest}
use Rattle.nl_agentset_query.specs.Agents.{agent_value}
use Rattle.nl_agentset_query.proofs.Regional.{patches_inside, all_inside}
use Rattle.nl_exec_acts.specs.Acts.{members_in_order}

-- the members of a set of patches are patches of the world
patch_members : (r : Rest) (set : AgentSet) → set_kind set ≡ kind.Patch → All (λ patch. patch < patches_of r.shape) (members_of r set)
patch_members r the_set.Patches is = all_inside r
patch_members r (the_set.SomePatches numbers) is = patches_inside r (is_listed numbers)
patch_members r the_set.Turtles is = cc
patch_members r (the_set.Breed breed) is = cc
patch_members r the_set.Links is = cc
patch_members r (the_set.LinkBreed breed) is = cc
patch_members r (the_set.SomeTurtles numbers) is = cc
patch_members r (the_set.SomeLinks numbers) is = cc

-- the numbers of patches are small
pub patches_are_small : (w : World) (set : AgentSet) (numbers : List ℕ) → IsWorld w → numbers ≡ members_of w.rest set → set_kind set ≡ kind.Patch → All (λ number. number < 2 ^ 32) numbers
patches_are_small w set numbers world same is =
    subst (λ l. All (λ number. number < 2 ^ 32) l) (sym same)
    (λ k d inside. omega (arith, patch_members w.rest set is k d inside, world.shape.few))

-- what is true of all items is true of them in order
module _ {X : Type 0} (test : X → Bool) (lt : X → X → Bool) where
  inserted_all : (x : X) (xs : List X) → test x ≡ true → list_all test xs ≡ true → list_all test (inserted lt x xs) ≡ true
  inserted_all x [] one all = ap (λ b. b && true) one
  inserted_all x (y ∷ ys) one all = by (lt y x) (inserted_all x ys one parts.1)
    where
      parts : (test y ≡ true) × (list_all test ys ≡ true)
      parts = and_parts (test y) (list_all test ys) all

      by : (b : Bool) → list_all test (inserted lt x ys) ≡ true → list_all test (if b then y ∷ inserted lt x ys else x ∷ y ∷ ys) ≡ true
      by true later = ap (λ b. b && list_all test (inserted lt x ys)) parts.0 ∙ later
      by false later = ap (λ b. b && list_all test (y ∷ ys)) one ∙ all

  pub sorted_all : (xs : List X) → list_all test xs ≡ true → list_all test (sorted_by lt xs) ≡ true
  sorted_all [] all = refl
  sorted_all (x ∷ xs) all =
      let parts = and_parts (test x) (list_all test xs) all in
      inserted_all x (sorted_by lt xs) parts.0 (sorted_all xs parts.1)

-- agents fit, as far as the patches among them are of the world
agents_fit : (r : Rest) (which : AgentKind) (numbers : List ℕ) → (which ≡ kind.Patch → All (λ number. number < patches_of r.shape) numbers) → list_all (fits_rest r) (map (agent_value which) numbers) ≡ true
agents_fit r which [] inside = refl
agents_fit r kind.Turtle (n ∷ ns) inside = agents_fit r kind.Turtle ns (λ is. cc)
agents_fit r kind.Link (n ∷ ns) inside = agents_fit r kind.Link ns (λ is. cc)
agents_fit r kind.Patch (n ∷ ns) inside =
    let all : All (λ number. number < patches_of r.shape) (n ∷ ns) = inside refl in
    ap (λ b. b && list_all (fits_rest r) (map (agent_value kind.Patch) ns)) (lt-ltb n (patches_of r.shape) (All-head (λ number. number < patches_of r.shape) n ns all))
    ∙ agents_fit r kind.Patch ns (λ is. All-tail (λ number. number < patches_of r.shape) n ns all)

pub members_fit : (r : Rest) (set : AgentSet) → fits_rest r (PlainItems (plains (members_in_order r set))) ≡ true
members_fit r set =
    values_fit-plains (patch_fits r) (set_fits r) (members_in_order r set)
    ∙ sorted_all (fits_rest r) (comes_first (living_of r)) (map (agent_value (set_kind set)) (members_of r set))
    (agents_fit r (set_kind set) (members_of r set) (patch_members r set))
