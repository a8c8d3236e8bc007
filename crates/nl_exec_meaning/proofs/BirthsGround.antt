-- Births and the making of links leave the shape and the layout of the world, however many are made.
use Rattle.std.proofs.Common.{ℕ, zero, suc, ℤ, Bool, true, false, if◌then◌else◌, [], ◌∷◌, take, nat_le, refl}
use Rattle.nl_value.specs.Nouns.{Serials}
use Rattle.nl_grid.specs.Geometry.{center_of}
use Rattle.nl_grid.specs.declared.point.Point.{Point}
use Rattle.nl_agents_layout.specs.Nouns.{BreedNumber}
use Rattle.nl_agents.specs.World.{Rest, World}
use Rattle.nl_birth.specs.Births.{Scene, drawn_births, ordered_births, hatchings, count_of, birthplace, creations, created, sproutings, sprouted, hatched}
use Rattle.nl_birth.specs.Links.{wanted, tied_to, tied_to_all, is_refused, linkings, linked}
use Rattle.nl_birth.specs.Outcomes.{BirthOutcome, Made, Filled, Refused, outcome_of}
use Rattle.nl_birth.specs.declared.way.Way.{Way}
use Rattle.nl_exec_meaning.proofs.Ground.{SameGround}

-- what comes of births or links leaves the ground of the rest, whether all were made or not
abbrev pub LeavesGround : {X : Type 0} → (X → Rest) → Rest → BirthOutcome X → Type 0
LeavesGround rest_in r (Made made now) = SameGround (rest_in now) r
LeavesGround rest_in r (Filled now) = SameGround (rest_in now) r
LeavesGround rest_in r (Refused now) = SameGround (rest_in now) r

if-leaves : {X : Type 0} (rest_in : X → Rest) (r : Rest) (truth : Bool) (a b : BirthOutcome X) → LeavesGround rest_in r a → LeavesGround rest_in r b →
    LeavesGround rest_in r (if truth then a else b)
if-leaves rest_in r true a b first second = first
if-leaves rest_in r false a b first second = second

outcome-leaves : {X : Type 0} (rest_in : X → Rest) (r : Rest) (after : ℕ → X) (room first count : ℕ) → ((k : ℕ) → SameGround (rest_in (after k)) r) →
    LeavesGround rest_in r (outcome_of after room first count)
outcome-leaves rest_in r after room first count keeps =
    if-leaves rest_in r (nat_le count room) (Made _ (after count)) (Filled (after room)) (keeps count) (keeps room)

-- ---- births

pub drawn_births_ground : (breed : BreedNumber) (at : Point) (s : Scene) (k : ℕ) → SameGround (drawn_births breed at s k).world.rest s.world.rest
unfolding drawn_births
drawn_births_ground breed at s zero = (refl, refl)
drawn_births_ground breed at s (suc k) = drawn_births_ground breed at s k

pub ordered_births_ground : (breed : BreedNumber) (count : ℕ) (w : World) (k : ℕ) → SameGround (ordered_births breed count w k).rest w.rest
unfolding ordered_births
ordered_births_ground breed count w zero = (refl, refl)
ordered_births_ground breed count w (suc k) = ordered_births_ground breed count w k

pub hatchings_ground : (breed : BreedNumber) (parent : ℕ) (at : Point) (w : World) (k : ℕ) → SameGround (hatchings breed parent at w k).rest w.rest
unfolding hatchings
hatchings_ground breed parent at w zero = (refl, refl)
hatchings_ground breed parent at w (suc k) = hatchings_ground breed parent at w k

creations-ground : (ordered : Bool) (breed : BreedNumber) (count : ℕ) (s : Scene) (k : ℕ) →
    SameGround (creations ordered breed count s k).world.rest s.world.rest
creations-ground true breed count s k = ordered_births_ground breed count s.world k
creations-ground false breed count s k = drawn_births_ground breed _ s k

pub created_ground : (ordered : Bool) (breed : BreedNumber) (number : ℤ) (s : Scene) →
    LeavesGround (λ now. now.world.rest) s.world.rest (created ordered breed number s)
created_ground ordered breed number s =
    outcome-leaves {X = Scene} (λ now. now.world.rest) s.world.rest (creations ordered breed (count_of number) s) _ _ _
    (creations-ground ordered breed (count_of number) s)

pub sprouted_ground : (patch : ℕ) (breed : BreedNumber) (number : ℤ) (s : Scene) →
    LeavesGround (λ now. now.world.rest) s.world.rest (sprouted patch breed number s)
sprouted_ground patch breed number s =
    outcome-leaves {X = Scene} (λ now. now.world.rest) s.world.rest (sproutings patch breed s) _ _ _
    (drawn_births_ground breed (center_of s.world.rest.shape patch) s)

pub hatched_ground : (parent : ℕ) (breed : BreedNumber) (number : ℤ) (w : World) →
    LeavesGround (λ now. now.rest) w.rest (hatched parent breed number w)
hatched_ground parent breed number w =
    outcome-leaves {X = World} (λ now. now.rest) w.rest (hatchings breed parent (birthplace parent w) w) _ _ _
    (hatchings_ground breed parent (birthplace parent w) w)

-- ---- links

pub tied_to_all_ground : (way : Way) (breed : BreedNumber) (caller : ℕ) (targets : Serials) (w : World) →
    SameGround (tied_to_all way breed caller targets w).rest w.rest
unfolding tied_to_all
tied_to_all_ground way breed caller [] w = (refl, refl)
tied_to_all_ground way breed caller (t ∷ ts) w = tied_to_all_ground way breed caller ts (tied_to way breed caller t w)

pub linked_ground : (way : Way) (breed : BreedNumber) (caller : ℕ) (targets : Serials) (w : World) →
    LeavesGround (λ now. now.rest) w.rest (linked way breed caller targets w)
linked_ground way breed caller targets w =
    if-leaves {X = World} (λ now. now.rest) w.rest (is_refused way breed caller targets w) (Refused w) _ (refl, refl)
    (outcome-leaves {X = World} (λ now. now.rest) w.rest (linkings way breed caller targets w) _ _ _
    (λ k. tied_to_all_ground way breed caller (take k (wanted way breed caller targets w)) w))
