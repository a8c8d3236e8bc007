-- Members in a region: what is kept of the turtles on the patches of its box, and of lists.
use Rattle.std.specs.Prelude.{◌≡◌, ℕ, ◌<◌, ◌==◌, ◌&&◌, Bool, true, false, List, [], ◌∷◌, map, filter, length, Option, Some, None, All, refl}
use Rattle.std.proofs.Common.{ap, sym, ◌∙◌, get_or}
use Rattle.std.specs.Int.Signed.{le_z_yes}
use Rattle.std.specs.List.Sorted.{IsStrictlyIncreasing}
use Rattle.std.proofs.lemmas.Bool.{eq-eqb, and_parts, ltb-true}
use Rattle.std.proofs.lemmas.Float.{T_from_true}
use Rattle.std.proofs.lemmas.List.Folds.{list_any_at}
use Rattle.std.proofs.lemmas.List.Kept.{IsStrictlyIncreasing-filter}
use Rattle.nl_value.specs.declared.sets.AgentKind.TheVariants as the_kind
use Rattle.nl_value.specs.declared.sets.AgentSet.TheVariants.{Turtles, Breed}
use Rattle.nl_grid.specs.Geometry.{IsPointOf, all_patches, box_patches, patch_at, patches_of}
use Rattle.nl_grid.proofs.CoverLemmas.{box_covers}
use Rattle.nl_agents.specs.Nouns.{BreedNumber}
use Rattle.nl_agents.specs.World.{Rest, World}
use Rattle.nl_agents.specs.Changes.{turtle_of}
use Rattle.nl_agents.specs.Members.{turtles_where, all_turtles}
use Rattle.nl_agents.specs.Standing.{IsWorld}
use Rattle.nl_agents.specs.declared.agents.Turtle.{Turtle}
use Rattle.nl_agents.proofs.Ascending.{has, has_filter, has_range, same_ascending}
use Rattle.nl_agents.proofs.LivingMembers.{found_passing, passing_ascend, turtle_found}
use Rattle.nl_agentset_query.specs.Near.{is_within, is_in_box, stands_where, members_where, turtles_in_box}
use Rattle.nl_agentset_query.specs.declared.near.Region.{Region}
use Rattle.nl_agentset_query.specs.inner.Regions.{holds, is_in_directions, is_bred, is_kept}
use Rattle.nl_agentset_query.proofs.Gathering.{in_box_ascend}

has_at : (xs : List ℕ) (k x : ℕ) → k < length xs → has xs (get_or xs k x) ≡ true
has_at xs k x inside = list_any_at (λ y. y == get_or xs k x) xs k x inside (eq-eqb (get_or xs k x) (get_or xs k x) refl)

abbrev passes : (Turtle → Bool) → Option Turtle → Bool
passes test None = false
passes test (Some t) = test t

-- a turtle that passes a test is listed where it is found and passes
has_where : (w : World) (test : Turtle → Bool) (z : ℕ) → IsWorld w → has (turtles_where test w.rest) z ≡ (has (all_turtles w.rest) z && passes test (turtle_of z w.rest))
has_where w test z world =
    let found = found_passing (λ (t : Turtle). t.serial) test w.rest.turtles world.agents.turtles_ascend in
    let by_find : ℕ → Bool = λ y. passes test (turtle_of y w.rest) in
    ap (λ l. has l z) (sym found) ∙ has_filter by_find (all_turtles w.rest) z

-- who stands in the region stands on a patch of the box
in_region_in_box : (w : World) (region : Region) (t : Turtle) → IsWorld w → IsPointOf w.rest.shape region.at → IsPointOf w.rest.shape t.at → holds w.rest.shape region t.at ≡ true → is_in_box w.rest region.at region.radius t ≡ true
in_region_in_box w region t world from to h =
    let parts = and_parts (is_within w.rest.shape region.at region.radius t.at) (is_in_directions w.rest.shape region t.at) h in
    let near = le_z_yes (T_from_true (is_within w.rest.shape region.at region.radius t.at) parts.0) in
    let (k, inside, at) = box_covers w.rest.shape region.at t.at region.radius world.shape from to near in
    let here = patch_at w.rest.shape t.at in
    list_any_at (λ y. y == here) (box_patches w.rest.shape region.at region.radius) k here inside (eq-eqb (get_or (box_patches w.rest.shape region.at region.radius) k here) here at)

-- the test of a set of all turtles or of a breed, over turtles
abbrev bred : Option BreedNumber → Turtle → Bool
bred None t = true
bred (Some breed) t = t.breed == breed

same_kept : (w : World) (region : Region) (breed : Option BreedNumber) (z : ℕ) → IsWorld w → IsPointOf w.rest.shape region.at → (h : Bool)
    → ((h && passes (is_in_box w.rest region.at region.radius) (turtle_of z w.rest)) && is_kept w.rest region breed z)
    ≡ ((h && passes (bred breed) (turtle_of z w.rest)) && stands_where (holds w.rest.shape region) w.rest the_kind.Turtle z)
same_kept w region breed z world from h = by (turtle_of z w.rest) refl
  where
    none : (a b c d : Bool) → ((a && false) && b) ≡ ((a && c) && false)
    none true b true d = refl
    none true b false d = refl
    none false b c d = refl

    some : (a i b s : Bool) → (s ≡ true → i ≡ true) → ((a && i) && (b && s)) ≡ ((a && b) && s)
    some true true true s covers = refl
    some true true false s covers = refl
    some true false true true covers = covers refl
    some true false true false covers = refl
    some true false false true covers = refl
    some true false false false covers = refl
    some false i b s covers = refl

    bred_same : (breed : Option BreedNumber) (t : Turtle) → is_bred breed (Some t) ≡ bred breed t
    bred_same None t = refl
    bred_same (Some b) t = refl

    by : (o : Option Turtle) → turtle_of z w.rest ≡ o
        → ((h && passes (is_in_box w.rest region.at region.radius) (turtle_of z w.rest)) && is_kept w.rest region breed z)
        ≡ ((h && passes (bred breed) (turtle_of z w.rest)) && stands_where (holds w.rest.shape region) w.rest the_kind.Turtle z)
    by None is = rw is (none h (is_bred breed None && false) false false)
    by (Some t) is =
        let stands = (turtle_found w z t world is).1 in
        let all = some h (is_in_box w.rest region.at region.radius t) (bred breed t) (holds w.rest.shape region t.at) (in_region_in_box w region t world from stands.at) in
        rw (is, bred_same breed t) all

-- what is kept of the turtles in the box is what is kept of all
kept_in_box : (w : World) (region : Region) (breed : Option BreedNumber) → IsWorld w → IsPointOf w.rest.shape region.at
    → filter (is_kept w.rest region breed) (turtles_in_box w.rest region.at region.radius)
    ≡ filter (stands_where (holds w.rest.shape region) w.rest the_kind.Turtle) (turtles_where (bred breed) w.rest)
kept_in_box w region breed world from =
    let r = w.rest in
    let kept = is_kept r region breed in
    let stands = stands_where (holds r.shape region) r the_kind.Turtle in
    let box = turtles_in_box r region.at region.radius in
    let all = turtles_where (bred breed) r in
    same_ascending (filter kept box) (filter stands all)
    (IsStrictlyIncreasing-filter kept box (in_box_ascend w region.at region.radius world))
    (IsStrictlyIncreasing-filter stands all (passing w breed world))
    (λ z.
    has_filter kept box z ∙ ap (λ b. b && kept z) (has_where w (is_in_box r region.at region.radius) z world)
    ∙ same_kept w region breed z world from (has (all_turtles r) z)
    ∙ sym (has_filter stands all z ∙ ap (λ b. b && stands z) (has_where w (bred breed) z world)))
  where
    passing : (w : World) (breed : Option BreedNumber) → IsWorld w → IsStrictlyIncreasing (turtles_where (bred breed) w.rest)
    passing w breed world = passing_ascend (λ (t : Turtle). t.serial) (bred breed) w.rest.turtles world.agents.turtles_ascend

every_turtle : (xs : List Turtle) → filter (bred None) xs ≡ xs
every_turtle [] = refl
every_turtle (x ∷ xs) = ap (λ l. x ∷ l) (every_turtle xs)

pub turtles_kept : (w : World) (region : Region) → IsWorld w → IsPointOf w.rest.shape region.at
    → filter (is_kept w.rest region None) (turtles_in_box w.rest region.at region.radius) ≡ members_where (holds w.rest.shape region) w.rest Turtles
turtles_kept w region world from =
    kept_in_box w region None world from
    ∙ ap (λ (l : List Turtle). filter (stands_where (holds w.rest.shape region) w.rest the_kind.Turtle) (map (λ t. t.serial) l)) (every_turtle w.rest.turtles)

pub breed_kept : (w : World) (region : Region) (breed : BreedNumber) → IsWorld w → IsPointOf w.rest.shape region.at
    → filter (is_kept w.rest region (Some breed)) (turtles_in_box w.rest region.at region.radius) ≡ members_where (holds w.rest.shape region) w.rest (Breed breed)
breed_kept w region breed world from = kept_in_box w region (Some breed) world from

-- links stand nowhere
pub none_kept : (xs : List ℕ) → [] ≡ filter (λ x. false) xs
none_kept [] = refl
none_kept (x ∷ xs) = none_kept xs

-- each patch of a set is one of the world
pub patches_inside : (r : Rest) (p : ℕ → Bool) → All (λ patch. patch < patches_of r.shape) (filter p (all_patches r.shape))
patches_inside r p k x inside =
    let patch = get_or (filter p (all_patches r.shape)) k x in
    let parts = and_parts (has (all_patches r.shape) patch) (p patch) (sym (has_filter p (all_patches r.shape) patch) ∙ has_at (filter p (all_patches r.shape)) k x inside) in
    ltb-true patch (patches_of r.shape) (sym (has_range (patches_of r.shape) patch) ∙ parts.0)

pub all_inside : (r : Rest) → All (λ patch. patch < patches_of r.shape) (all_patches r.shape)
all_inside r k x inside =
    let patch = get_or (all_patches r.shape) k x in
    ltb-true patch (patches_of r.shape) (sym (has_range (patches_of r.shape) patch) ∙ has_at (all_patches r.shape) k x inside)
