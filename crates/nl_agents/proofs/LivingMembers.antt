-- The living members of sets as a view finds them, and what is known of living agents.
use Rattle.std.specs.Prelude.{◌≡◌, ℕ, zero, suc, ◌<◌, ◌≤◌, ◌==◌, ◌&&◌, ◌||◌, Bool, true, false, if◌then◌else◌, List, [], ◌∷◌, Option, Some, None, IsSome, is_some, map, filter, find, length, nat_lt, All, IsTrue, refl}
use Rattle.std.proofs.Common.{ap, sym, ◌∙◌, subst, get_or, arith, ⊎_elim}
use Rattle.std.specs.List.{list_all}
use Rattle.std.specs.List.Sorted.{IsStrictlyIncreasing}
use Rattle.std.proofs.lemmas.Bool.{eq-eqb, eqb-true, ne_eqb, and_parts, and_right, or_cases, or_left, or_right, lt-ltb, ltb-true}
use Rattle.std.proofs.lemmas.List.{length-map}
use Rattle.std.proofs.lemmas.List.Elements.{All-head, All-tail}
use Rattle.std.proofs.lemmas.List.Folds.{list_any_at}
use Rattle.std.proofs.lemmas.List.FromFn.{length-range_with_len}
use Rattle.std.proofs.lemmas.List.Kept.{IsStrictlyIncreasing-filter}
use Rattle.std.proofs.lemmas.List.Sums.{length-filter, count_by-le-length}
use Rattle.nl_value.specs.Nouns.{Serials}
use Rattle.nl_value.specs.declared.sets.AgentSet.{AgentSet}
use Rattle.nl_value.specs.declared.sets.AgentSet.TheVariants.{Turtles, Breed, Patches, Links, LinkBreed, SomeTurtles, SomePatches, SomeLinks}
use Rattle.nl_grid.specs.Geometry.{all_patches, patches_of}
use Rattle.nl_agents_layout.specs.Nouns.{BreedNumber}
use Rattle.nl_agents.specs.World.{Rest, World}
use Rattle.nl_agents.specs.Changes.{turtle_of, link_of, turtle_lives, link_lives, TurtleLives, LinkLives}
use Rattle.nl_agents.specs.Members.{links_where, all_links, is_of_breed, is_link_of_breed, is_listed, members_of}
use Rattle.nl_agents.specs.Names.{set_fits, patch_fits}
use Rattle.nl_agents.specs.Standing.{IsTurtleOf, IsWorld}
use Rattle.nl_agents.specs.inner.Views.{link_is_of}
use Rattle.nl_agents.specs.declared.agents.Turtle.{Turtle}
use Rattle.nl_agents.specs.declared.agents.Link.{Link}
use Rattle.nl_agents_layout.proofs.Ascending.{has, rest_ascends, first_is_below, same_ascending, has_filter, range_ascends, ranged}

-- ---- agents of one kind, by their serials

module _ {X : Type 0} (serial : X → ℕ) where
  abbrev named : ℕ → X → Bool
  named z x = serial x == z

  -- an agent of a serial is found where the serial is among those of all
  lives : (xs : List X) (z : ℕ) → is_some (find (named z) xs) ≡ has (map serial xs) z
  lives [] z = refl
  lives (x ∷ xs) z = by (serial x == z) (lives xs z)
    where
      by : (b : Bool) → is_some (find (named z) xs) ≡ has (map serial xs) z → is_some (if b then Some x else find (named z) xs) ≡ (b || has (map serial xs) z)
      by true later = refl
      by false later = later

  map_filter : (p : ℕ → Bool) (xs : List X) → map serial (filter (λ x. p (serial x)) xs) ≡ filter p (map serial xs)
  map_filter p [] = refl
  map_filter p (x ∷ xs) = by (p (serial x)) (map_filter p xs)
    where
      by : (b : Bool) → map serial (filter (λ y. p (serial y)) xs) ≡ filter p (map serial xs)
          → map serial (if b then x ∷ filter (λ y. p (serial y)) xs else filter (λ y. p (serial y)) xs) ≡ (if b then serial x ∷ filter p (map serial xs) else filter p (map serial xs))
      by true later = ap (λ l. serial x ∷ l) later
      by false later = later

  swapped : (a b : Bool) → (a && b) ≡ (b && a)
  swapped true true = refl
  swapped true false = refl
  swapped false true = refl
  swapped false false = refl

  -- the numbers of a list that live are the agents that are listed
  pub listed_living : (numbers : Serials) (xs : List X) → IsStrictlyIncreasing numbers → IsStrictlyIncreasing (map serial xs)
      → filter (λ z. is_some (find (named z) xs)) numbers ≡ map serial (filter (λ x. is_listed numbers (serial x)) xs)
  listed_living numbers xs up rise =
      let lives_in : ℕ → Bool = λ z. is_some (find (named z) xs) in
      same_ascending (filter lives_in numbers) (filter (is_listed numbers) (map serial xs))
      (IsStrictlyIncreasing-filter lives_in numbers up)
      (IsStrictlyIncreasing-filter (is_listed numbers) (map serial xs) rise)
      (λ z.
      has_filter lives_in numbers z ∙ ap (λ b. has numbers z && b) (lives xs z)
      ∙ swapped (has numbers z) (has (map serial xs) z) ∙ sym (has_filter (is_listed numbers) (map serial xs) z))
      ∙ sym (map_filter (is_listed numbers) xs)

  has_at : (xs : List X) (k : ℕ) (x : X) → k < length xs → has (map serial xs) (serial (get_or xs k x)) ≡ true
  has_at [] k x inside = absurd (omega arith)
  has_at (y ∷ ys) zero x inside = or_left (serial y == serial y) (has (map serial ys) (serial y)) (eq-eqb (serial y) (serial y) refl)
  has_at (y ∷ ys) (suc k) x inside = or_right (serial y == serial (get_or ys k x)) (has (map serial ys) (serial (get_or ys k x))) (has_at ys k x (omega (arith, inside)))

  -- each agent is the one that its serial finds
  finds : (xs : List X) → IsStrictlyIncreasing (map serial xs) → All (λ x. find (named (serial x)) xs ≡ Some x) xs
  finds [] rise k x inside = absurd (omega arith)
  finds (y ∷ ys) rise zero x inside = let here = eq-eqb (serial y) (serial y) refl in rw here refl
  finds (y ∷ ys) rise (suc k) x inside =
      let it = get_or ys k x in
      let within : k < length ys = omega (arith, inside) in
      let below = first_is_below (serial y) (map serial ys) rise (serial it) (has_at ys k x within) in
      let apart = ne_eqb (serial y) (serial it) (λ same. omega (arith, below, same)) in
      rw apart (finds ys (rest_ascends (serial y) (map serial ys) rise) k x within)

  agreeing : (q : ℕ → Bool) (test : X → Bool) (xs : List X) → All (λ x. q (serial x) ≡ test x) xs → filter q (map serial xs) ≡ map serial (filter test xs)
  agreeing q test [] all = refl
  agreeing q test (x ∷ xs) all = by (q (serial x)) (test x) (All-head (λ y. q (serial y) ≡ test y) x xs all) (agreeing q test xs (All-tail (λ y. q (serial y) ≡ test y) x xs all))
    where
      by : (a b : Bool) → a ≡ b → filter q (map serial xs) ≡ map serial (filter test xs)
          → (if a then serial x ∷ filter q (map serial xs) else filter q (map serial xs)) ≡ map serial (if b then x ∷ filter test xs else filter test xs)
      by a true same later = rw same (ap (λ l. serial x ∷ l) later)
      by a false same later = rw same later

  abbrev passes : (X → Bool) → Option X → Bool
  passes test None = false
  passes test (Some x) = test x

  -- the agents that pass a test, by their serials
  pub found_passing : (test : X → Bool) (xs : List X) → IsStrictlyIncreasing (map serial xs) → filter (λ z. passes test (find (named z) xs)) (map serial xs) ≡ map serial (filter test xs)
  found_passing test xs rise = agreeing (λ z. passes test (find (named z) xs)) test xs (λ k x inside. ap (passes test) (finds xs rise k x inside))

  pub passing_ascend : (test : X → Bool) (xs : List X) → IsStrictlyIncreasing (map serial xs) → IsStrictlyIncreasing (map serial (filter test xs))
  passing_ascend test xs rise =
      subst (λ l. IsStrictlyIncreasing l) (found_passing test xs rise)
      (IsStrictlyIncreasing-filter (λ z. passes test (find (named z) xs)) (map serial xs) rise)

  pub passing_are_few : (test : X → Bool) (xs : List X) → length (map serial (filter test xs)) ≤ length xs
  passing_are_few test xs = omega (arith, length-map (filter test xs) serial, length-filter test xs, count_by-le-length test xs)

  -- each of all serials finds an agent
  pub each_lives : (xs : List X) (k : ℕ) (z : ℕ) → k < length (map serial xs) → is_some (find (named (get_or (map serial xs) k z)) xs) ≡ true
  each_lives xs k z inside =
      let it = get_or (map serial xs) k z in
      lives xs it ∙ list_any_at (λ other. other == it) (map serial xs) k z inside (eq-eqb it it refl)

  -- what is found has the serial, and what is true of each agent is true of it
  pub found_so : (P : X → Type 0) (xs : List X) (z : ℕ) (x : X) → All P xs → find (named z) xs ≡ Some x → (serial x ≡ z) × P x
  found_so P [] z x all h = cc
  found_so P (y ∷ ys) z x all h = by (serial y == z) refl h (found_so P ys z x (All-tail P y ys all))
    where
      by : (b : Bool) → (serial y == z) ≡ b → (if b then Some y else find (named z) ys) ≡ Some x → (find (named z) ys ≡ Some x → (serial x ≡ z) × P x) → (serial x ≡ z) × P x
      by true is here later = let it : y ≡ x = cc in (subst (λ w. serial w ≡ z) it (eqb-true (serial y) z is), subst P it (All-head P y ys all))
      by false is here later = later here

-- ---- members

within : (b : Bool) (z bound : ℕ) → (b ≡ true → z < bound) → b ≡ (nat_lt z bound && b)
within true z bound h = ap (λ a. a && true) (sym (lt-ltb z bound (h refl)))
within false z bound h = sym (and_right (nat_lt z bound) false refl)

listed_fit : (r : Rest) (numbers : Serials) (z : ℕ) → list_all (patch_fits r) numbers ≡ true → has numbers z ≡ true → z < patches_of r.shape
listed_fit r [] z all h = cc
listed_fit r (n ∷ ns) z all h =
    let parts = and_parts (patch_fits r n) (list_all (patch_fits r) ns) all in
    ⊎_elim
    (λ here. omega (arith, ltb-true n (patches_of r.shape) parts.0, eqb-true n z here))
    (λ later. listed_fit r ns z parts.1 later)
    (or_cases (n == z) (has ns z) h)

-- patches that fit are members
pub listed_patches : (r : Rest) (numbers : Serials) → IsStrictlyIncreasing numbers → IsTrue (set_fits r (SomePatches numbers)) → numbers ≡ members_of r (SomePatches numbers)
listed_patches r numbers up fit =
    ranged (is_listed numbers) (patches_of r.shape) numbers up (λ z. within (has numbers z) z (patches_of r.shape) (listed_fit r numbers z fit))

pub listed_turtles : (w : World) (numbers : Serials) → IsWorld w → IsStrictlyIncreasing numbers → filter (turtle_lives w.rest) numbers ≡ members_of w.rest (SomeTurtles numbers)
listed_turtles w numbers world up = listed_living (λ (t : Turtle). t.serial) numbers w.rest.turtles up world.agents.turtles_ascend

pub listed_links : (w : World) (numbers : Serials) → IsWorld w → IsStrictlyIncreasing numbers → filter (link_lives w.rest) numbers ≡ members_of w.rest (SomeLinks numbers)
listed_links w numbers world up = listed_living (λ (l : Link). l.serial) numbers w.rest.links up world.agents.links_ascend

pub links_bred : (w : World) (breed : BreedNumber) → IsWorld w → filter (λ link. link_is_of breed (link_of link w.rest)) (all_links w.rest) ≡ links_where (is_link_of_breed breed) w.rest
links_bred w breed world = found_passing (λ (l : Link). l.serial) (is_link_of_breed breed) w.rest.links world.agents.links_ascend

pub each_link_lives : (w : World) (k z : ℕ) → k < length (all_links w.rest) → LinkLives (get_or (all_links w.rest) k z) w
each_link_lives w k z inside = each_lives (λ (l : Link). l.serial) w.rest.links k z inside

pub members_ascend : (w : World) (set : AgentSet) → IsWorld w → IsStrictlyIncreasing (members_of w.rest set)
members_ascend w Turtles world = world.agents.turtles_ascend
members_ascend w (Breed breed) world = passing_ascend (λ (t : Turtle). t.serial) (is_of_breed breed) w.rest.turtles world.agents.turtles_ascend
members_ascend w Patches world = range_ascends 0 (patches_of w.rest.shape)
members_ascend w Links world = world.agents.links_ascend
members_ascend w (LinkBreed breed) world = passing_ascend (λ (l : Link). l.serial) (is_link_of_breed breed) w.rest.links world.agents.links_ascend
members_ascend w (SomeTurtles numbers) world = passing_ascend (λ (t : Turtle). t.serial) (λ t. is_listed numbers t.serial) w.rest.turtles world.agents.turtles_ascend
members_ascend w (SomePatches numbers) world = IsStrictlyIncreasing-filter (is_listed numbers) (all_patches w.rest.shape) (range_ascends 0 (patches_of w.rest.shape))
members_ascend w (SomeLinks numbers) world = passing_ascend (λ (l : Link). l.serial) (λ l. is_listed numbers l.serial) w.rest.links world.agents.links_ascend

pub members_are_few : (w : World) (set : AgentSet) → IsWorld w → length (members_of w.rest set) ≤ 400_000
members_are_few w Turtles world = omega (arith, length-map w.rest.turtles (λ (t : Turtle). t.serial), world.few.turtles)
members_are_few w (Breed breed) world = omega (arith, passing_are_few (λ (t : Turtle). t.serial) (is_of_breed breed) w.rest.turtles, world.few.turtles)
members_are_few w Patches world = omega (arith, length-range_with_len 0 (patches_of w.rest.shape), world.shape.few)
members_are_few w Links world = omega (arith, length-map w.rest.links (λ (l : Link). l.serial), world.few.links)
members_are_few w (LinkBreed breed) world = omega (arith, passing_are_few (λ (l : Link). l.serial) (is_link_of_breed breed) w.rest.links, world.few.links)
members_are_few w (SomeTurtles numbers) world = omega (arith, passing_are_few (λ (t : Turtle). t.serial) (λ t. is_listed numbers t.serial) w.rest.turtles, world.few.turtles)
members_are_few w (SomePatches numbers) world =
    omega (
      arith,
      length-filter (is_listed numbers) (all_patches w.rest.shape),
      count_by-le-length (is_listed numbers) (all_patches w.rest.shape),
      length-range_with_len 0 (patches_of w.rest.shape),
      world.shape.few,
    )
members_are_few w (SomeLinks numbers) world = omega (arith, passing_are_few (λ (l : Link). l.serial) (λ l. is_listed numbers l.serial) w.rest.links, world.few.links)

-- ---- living agents

pub turtle_found : (w : World) (serial : ℕ) (t : Turtle) → IsWorld w → turtle_of serial w.rest ≡ Some t → (t.serial ≡ serial) × IsTurtleOf w.rest t
turtle_found w serial t world h = found_so (λ (x : Turtle). x.serial) (IsTurtleOf w.rest) w.rest.turtles serial t world.agents.turtles h

-- the range of a living turtle's serial
pub turtle_given : (w : World) (serial : ℕ) → IsWorld w → TurtleLives serial w → (w.rest.base ≤ serial) × (serial < w.rest.turtles_given)
turtle_given w serial world here = by (turtle_of serial w.rest) refl here
  where
    by : (o : Option Turtle) → turtle_of serial w.rest ≡ o → IsSome o → (w.rest.base ≤ serial) × (serial < w.rest.turtles_given)
    by None is some = cc
    by (Some t) is some = let (same, stands) = turtle_found w serial t world is in (omega (arith, same, stands.called), omega (arith, same, stands.given))
