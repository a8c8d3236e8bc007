-- The members of a set that lists some of the living members of another one, and what words of sets give.
use Rattle.std.proofs.Common.{◌≡◌, ℕ, ◌≤◌, ◌+◌, ◌==◌, ◌&&◌, ◌||◌, nat_le, Bool, true, false, if◌then◌else◌, List, [], ◌∷◌, map, filter, length, Option, Some, None, IsSome, is_some, refl, ap, ◌∙◌, sym, arith, ⊎_elim}
use Rattle.std.specs.List.Sorted.{IsStrictlyIncreasing}
use Rattle.std.proofs.lemmas.Bool.{or_cases, or_left, or_right, and_parts, le-leb}
use Rattle.std.proofs.lemmas.List.Kept.{IsStrictlyIncreasing-filter}
use Rattle.nl_value.specs.Plain.{PlainSet}
use Rattle.nl_value.specs.Sets.{set_kind}
use Rattle.nl_value.specs.Limits.{within_limits}
use Rattle.nl_value.specs.declared.sets.AgentKind.{AgentKind}
use Rattle.nl_value.specs.declared.sets.AgentKind.TheVariants as kind
use Rattle.nl_value.specs.declared.sets.AgentSet.{AgentSet}
use Rattle.nl_value.specs.declared.sets.AgentSet.TheVariants.{Turtles, Breed, Patches, Links, LinkBreed, SomeTurtles, SomePatches, SomeLinks}
use Rattle.nl_agents.specs.World.{Rest, World}
use Rattle.nl_agents.specs.Changes.{turtle_of, link_of, OwnerLives}
use Rattle.nl_agents.specs.Members.{all_turtles, all_links, is_of_breed, is_link_of_breed, is_listed, members_of}
use Rattle.nl_agents.specs.Standing.{IsWorld}
use Rattle.nl_agents.specs.declared.agents.Turtle.{Turtle}
use Rattle.nl_agents.specs.declared.agents.Link.{Link}
use Rattle.nl_agents.specs.declared.agents.Owner.{Owner}
use Rattle.nl_agents.specs.declared.agents.Owner.TheVariants as owner
use Rattle.nl_agents_layout.proofs.Ascending.{has, same_ascending, has_filter}
use Rattle.nl_agents.proofs.LivingMembers.{members_ascend, passing_ascend}
use Rattle.nl_agentset_query.specs.Agents.{listed}
use Rattle.nl_agentset_query.specs.declared.words.Side.TheVariants as side
use Rattle.nl_agentset.specs.Places.{turtles_on}
use Rattle.nl_agentset.specs.Links.{is_link_at, links_at}
use Rattle.nl_exec_meaning.specs.Acting.{who_asks}

-- ---- some of a list

implied : (a b : Bool) → (b ≡ true → a ≡ true) → (a && b) ≡ b
implied true b h = refl
implied false true h = h refl
implied false false h = refl

left_of : (a b : Bool) → (a && b) ≡ true → a ≡ true
left_of a b h = let parts = and_parts a b h in parts.0

-- those of a list that are among these are these, where all of these are of it
among_these : (ys xs : List ℕ) → IsStrictlyIncreasing ys → IsStrictlyIncreasing xs → ((z : ℕ) → has ys z ≡ true → has xs z ≡ true) → filter (is_listed ys) xs ≡ ys
among_these ys xs up rise inside =
    same_ascending (filter (is_listed ys) xs) ys (IsStrictlyIncreasing-filter (is_listed ys) xs rise) up
    (λ z. has_filter (is_listed ys) xs z ∙ implied (has xs z) (has ys z) (inside z))

kept_is_there : (p : ℕ → Bool) (xs : List ℕ) (z : ℕ) → has (filter p xs) z ≡ true → has xs z ≡ true
kept_is_there p xs z h = left_of (has xs z) (p z) (sym (has_filter p xs z) ∙ h)

module _ {X : Type 0} (serial : X → ℕ) where
  map_filter : (p : ℕ → Bool) (xs : List X) → map serial (filter (λ x. p (serial x)) xs) ≡ filter p (map serial xs)
  map_filter p [] = refl
  map_filter p (x ∷ xs) = by (p (serial x)) (map_filter p xs)
    where
      by : (b : Bool) → map serial (filter (λ y. p (serial y)) xs) ≡ filter p (map serial xs)
          → map serial (if b then x ∷ filter (λ y. p (serial y)) xs else filter (λ y. p (serial y)) xs) ≡ (if b then serial x ∷ filter p (map serial xs) else filter p (map serial xs))
      by true later = ap (λ l. serial x ∷ l) later
      by false later = later

  of_all : (test : X → Bool) (xs : List X) (z : ℕ) → has (map serial (filter test xs)) z ≡ true → has (map serial xs) z ≡ true
  of_all test [] z h = h
  of_all test (x ∷ xs) z h = by (test x) (of_all test xs z) h
    where
      by : (b : Bool) → (has (map serial (filter test xs)) z ≡ true → has (map serial xs) z ≡ true)
          → has (map serial (if b then x ∷ filter test xs else filter test xs)) z ≡ true → ((serial x == z) || has (map serial xs) z) ≡ true
      by true later is =
          ⊎_elim (λ here. or_left (serial x == z) (has (map serial xs) z) here) (λ there. or_right (serial x == z) (has (map serial xs) z) (later there))
          (or_cases (serial x == z) (has (map serial (filter test xs)) z) is)
      by false later is = or_right (serial x == z) (has (map serial xs) z) (later is)

  listed_again : (xs : List X) (ys : List ℕ) → IsStrictlyIncreasing ys → IsStrictlyIncreasing (map serial xs) → ((z : ℕ) → has ys z ≡ true → has (map serial xs) z ≡ true)
      → map serial (filter (λ x. is_listed ys (serial x)) xs) ≡ ys
  listed_again xs ys up rise inside = map_filter (is_listed ys) xs ∙ among_these ys (map serial xs) up rise inside

-- ---- some of the members of a set

abbrev all_of : AgentKind → Rest → List ℕ
all_of kind.Turtle r = all_turtles r
all_of kind.Patch r = members_of r Patches
all_of kind.Link r = all_links r

are_of_all : (r : Rest) (set : AgentSet) (z : ℕ) → has (members_of r set) z ≡ true → has (all_of (set_kind set) r) z ≡ true
are_of_all r Turtles z h = h
are_of_all r (Breed breed) z h = of_all (λ (t : Turtle). t.serial) (is_of_breed breed) r.turtles z h
are_of_all r Patches z h = h
are_of_all r Links z h = h
are_of_all r (LinkBreed breed) z h = of_all (λ (l : Link). l.serial) (is_link_of_breed breed) r.links z h
are_of_all r (SomeTurtles numbers) z h = of_all (λ (t : Turtle). t.serial) (λ t. is_listed numbers t.serial) r.turtles z h
are_of_all r (SomePatches numbers) z h = kept_is_there (is_listed numbers) (members_of r Patches) z h
are_of_all r (SomeLinks numbers) z h = of_all (λ (l : Link). l.serial) (λ l. is_listed numbers l.serial) r.links z h

listed_are : (w : World) (which : AgentKind) (ys : List ℕ) → IsWorld w → IsStrictlyIncreasing ys → ((z : ℕ) → has ys z ≡ true → has (all_of which w.rest) z ≡ true)
    → members_of w.rest (listed which ys) ≡ ys
listed_are w kind.Turtle ys world up inside = listed_again (λ (t : Turtle). t.serial) w.rest.turtles ys up world.agents.turtles_ascend inside
listed_are w kind.Patch ys world up inside = among_these ys (members_of w.rest Patches) up (members_ascend w Patches world) inside
listed_are w kind.Link ys world up inside = listed_again (λ (l : Link). l.serial) w.rest.links ys up world.agents.links_ascend inside

-- the set of some of the members of a set has just these
pub some_members : (w : World) (set : AgentSet) (p : ℕ → Bool) → IsWorld w
    → members_of w.rest (listed (set_kind set) (filter p (members_of w.rest set))) ≡ filter p (members_of w.rest set)
some_members w set p world =
    let all = members_of w.rest set in
    listed_are w (set_kind set) (filter p all) world (IsStrictlyIncreasing-filter p all (members_ascend w set world))
    (λ z h. are_of_all w.rest set z (kept_is_there p all z h))

-- the set of the turtles, or of the links, that pass a test has just these
turtles_again : (w : World) (test : Turtle → Bool) → IsWorld w
    → members_of w.rest (SomeTurtles (map (λ t. t.serial) (filter test w.rest.turtles))) ≡ map (λ t. t.serial) (filter test w.rest.turtles)
turtles_again w test world =
    let serial : Turtle → ℕ = λ t. t.serial in
    listed_are w kind.Turtle (map serial (filter test w.rest.turtles)) world (passing_ascend serial test w.rest.turtles world.agents.turtles_ascend)
    (λ z h. of_all serial test w.rest.turtles z h)

links_again : (w : World) (test : Link → Bool) → IsWorld w
    → members_of w.rest (SomeLinks (map (λ l. l.serial) (filter test w.rest.links))) ≡ map (λ l. l.serial) (filter test w.rest.links)
links_again w test world =
    let serial : Link → ℕ = λ l. l.serial in
    listed_are w kind.Link (map serial (filter test w.rest.links)) world (passing_ascend serial test w.rest.links world.agents.links_ascend)
    (λ z h. of_all serial test w.rest.links z h)

pub turtles_on_again : (w : World) (patches : List ℕ) → IsWorld w
    → members_of w.rest (SomeTurtles (turtles_on w.rest None patches)) ≡ turtles_on w.rest None patches
turtles_on_again w patches world = turtles_again w _ world

pub links_at_again : (w : World) (turtle : ℕ) → IsWorld w
    → members_of w.rest (SomeLinks (links_at w.rest side.Any None turtle)) ≡ links_at w.rest side.Any None turtle
links_at_again w turtle world = links_again w (is_link_at side.Any None turtle) world

pub kind_of_listed : (which : AgentKind) (numbers : List ℕ) → set_kind (listed which numbers) ≡ which
kind_of_listed kind.Turtle numbers = refl
kind_of_listed kind.Patch numbers = refl
kind_of_listed kind.Link numbers = refl

-- ---- the size of such a set

within : (n : ℕ) → n ≤ 400_000 → (nat_le (1 + n) 1_000_000 && true) ≡ true
within n few = ap (λ b. b && true) (le-leb (1 + n) 1_000_000 (omega (arith, few)))

pub small : (which : AgentKind) (ys : List ℕ) → length ys ≤ 400_000 → within_limits (PlainSet (listed which ys)) ≡ true
small kind.Turtle ys few = within (length ys) few
small kind.Patch ys few = within (length ys) few
small kind.Link ys few = within (length ys) few

-- ---- who asks

there : {A : Type 0} (o : Option A) → IsSome o → (if is_some o then false else true) ≡ false
there (Some x) h = refl
there None h = absurd (cc)

-- a living agent asks as itself
pub asks : (w : World) (agent : Owner) → OwnerLives agent w → who_asks w.rest agent ≡ agent
asks w owner.Observer lives = refl
asks w (owner.Turtle turtle) lives = ap (λ b. if b then owner.Observer else owner.Turtle turtle) (there (turtle_of turtle w.rest) lives)
asks w (owner.Patch patch) lives = refl
asks w (owner.Link link) lives = ap (λ b. if b then owner.Observer else owner.Link link) (there (link_of link w.rest) lives)
