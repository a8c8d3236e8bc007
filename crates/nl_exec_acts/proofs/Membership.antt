-- Which agents are members of a set, without a list of them.
use Rattle.std.specs.Prelude.{◌≡◌, ℕ, ◌==◌, ◌&&◌, ◌||◌, Bool, true, false, if◌then◌else◌, List, [], ◌∷◌, Option, Some, None, is_some, map, filter, find, refl}
use Rattle.std.proofs.Common.{ap, sym, ◌∙◌}
use Rattle.std.specs.List.Sorted.{IsStrictlyIncreasing}
use Rattle.nl_value.specs.Nouns.{Serials}
use Rattle.nl_value.specs.declared.sets.AgentSet.TheVariants as set
use Rattle.nl_grid.specs.Geometry.{patches_of, all_patches}
use Rattle.nl_agents_layout.specs.Nouns.{BreedNumber}
use Rattle.nl_agents.specs.World.{Rest, World}
use Rattle.nl_agents.specs.Changes.{turtle_of, link_of, turtle_lives, link_lives}
use Rattle.nl_agents.specs.Members.{members_of, is_listed, is_of_breed, is_link_of_breed}
use Rattle.nl_agents.specs.Names.{patch_fits}
use Rattle.nl_agents.specs.Standing.{IsWorld}
use Rattle.nl_agents.specs.declared.agents.Turtle.{Turtle}
use Rattle.nl_agents.specs.declared.agents.Link.{Link}
use Rattle.nl_agents_layout.proofs.Ascending.{has_filter, has_range}
use Rattle.nl_agents.proofs.LivingMembers.{found_passing, listed_turtles, listed_links}
use Rattle.nl_agentset_query.specs.Agents.{turtle_passes, link_passes}

module _ {X : Type 0} (serial : X → ℕ) where
  abbrev named : ℕ → X → Bool
  named z x = serial x == z

  abbrev passes : (X → Bool) → Option X → Bool
  passes test None = false
  passes test (Some x) = test x

  -- a serial is among those of all agents where one is found by it
  pub all_listed : (xs : List X) (z : ℕ) → is_listed (map serial xs) z ≡ is_some (find (named z) xs)
  all_listed [] z = refl
  all_listed (x ∷ xs) z = by (serial x == z) (all_listed xs z)
    where
      by : (b : Bool) → is_listed (map serial xs) z ≡ is_some (find (named z) xs) → (b || is_listed (map serial xs) z) ≡ is_some (if b then Some x else find (named z) xs)
      by true later = refl
      by false later = later

  there_passes : (test : X → Bool) (o : Option X) → (is_some o && passes test o) ≡ passes test o
  there_passes test None = refl
  there_passes test (Some x) = refl

  -- and among those that pass a test where the one that is found passes it
  pub passing_listed : (test : X → Bool) (xs : List X) (z : ℕ) → IsStrictlyIncreasing (map serial xs) → is_listed (map serial (filter test xs)) z ≡ passes test (find (named z) xs)
  passing_listed test xs z rise =
      ap (λ l. is_listed l z) (sym (found_passing serial test xs rise))
      ∙ has_filter (λ n. passes test (find (named n) xs)) (map serial xs) z
      ∙ ap (λ b. b && passes test (find (named z) xs)) (all_listed xs z)
      ∙ there_passes test (find (named z) xs)

-- ---- turtles

pub all_turtles_listed : (r : Rest) (z : ℕ) → is_listed (members_of r set.Turtles) z ≡ turtle_lives r z
all_turtles_listed r z = all_listed (λ (t : Turtle). t.serial) r.turtles z

pub bred_turtles_listed : (w : World) (breed : BreedNumber) (z : ℕ) → IsWorld w → is_listed (members_of w.rest (set.Breed breed)) z ≡ turtle_passes (is_of_breed breed) (turtle_of z w.rest)
bred_turtles_listed w breed z world = passing_listed (λ (t : Turtle). t.serial) (is_of_breed breed) w.rest.turtles z world.agents.turtles_ascend

pub some_turtles_listed : (w : World) (numbers : Serials) (z : ℕ) → IsWorld w → IsStrictlyIncreasing numbers
    → is_listed (members_of w.rest (set.SomeTurtles numbers)) z ≡ (is_listed numbers z && turtle_lives w.rest z)
some_turtles_listed w numbers z world up =
    ap (λ l. is_listed l z) (sym (listed_turtles w numbers world up)) ∙ has_filter (turtle_lives w.rest) numbers z

-- ---- links

pub all_links_listed : (r : Rest) (z : ℕ) → is_listed (members_of r set.Links) z ≡ link_lives r z
all_links_listed r z = all_listed (λ (l : Link). l.serial) r.links z

pub bred_links_listed : (w : World) (breed : BreedNumber) (z : ℕ) → IsWorld w → is_listed (members_of w.rest (set.LinkBreed breed)) z ≡ link_passes (is_link_of_breed breed) (link_of z w.rest)
bred_links_listed w breed z world = passing_listed (λ (l : Link). l.serial) (is_link_of_breed breed) w.rest.links z world.agents.links_ascend

pub some_links_listed : (w : World) (numbers : Serials) (z : ℕ) → IsWorld w → IsStrictlyIncreasing numbers
    → is_listed (members_of w.rest (set.SomeLinks numbers)) z ≡ (is_listed numbers z && link_lives w.rest z)
some_links_listed w numbers z world up =
    ap (λ l. is_listed l z) (sym (listed_links w numbers world up)) ∙ has_filter (link_lives w.rest) numbers z

-- ---- patches

pub all_patches_listed : (r : Rest) (z : ℕ) → is_listed (members_of r set.Patches) z ≡ patch_fits r z
all_patches_listed r z = has_range (patches_of r.shape) z

pub some_patches_listed : (r : Rest) (numbers : Serials) (z : ℕ) → is_listed (members_of r (set.SomePatches numbers)) z ≡ (patch_fits r z && is_listed numbers z)
some_patches_listed r numbers z =
    has_filter (is_listed numbers) (all_patches r.shape) z ∙ ap (λ b. b && is_listed numbers z) (has_range (patches_of r.shape) z)

-- ---- of two tests the second is asked where the first is passed

pub both_then : (a b whole : Bool) → whole ≡ (a && b) → a ≡ true → b ≡ whole
both_then true b whole e h = sym e
both_then false b whole e h = cc

pub both_else : (a b whole : Bool) → whole ≡ (a && b) → a ≡ false → a ≡ whole
both_else true b whole e h = cc
both_else false b whole e h = sym e
