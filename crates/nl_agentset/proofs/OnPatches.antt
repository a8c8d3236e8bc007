-- Turtles on patches, as they are gathered patch by patch and kept by their breed.
use Rattle.std.specs.Prelude.{◌≡◌, ℕ, ◌==◌, ◌&&◌, ◌||◌, nat_lt, Bool, true, false, if◌then◌else◌, List, [], ◌∷◌, ◌++◌, map, filter, take, length, All, ◌<◌, ◌≤◌, ◌+◌, Option, refl}
use Rattle.std.proofs.Common.{ap, sym, ◌∙◌, arith, get_or}
use Rattle.std.specs.List.{flat_map}
use Rattle.std.specs.List.Sorted.{IsStrictlyIncreasing}
use Rattle.std.proofs.lemmas.Bool.{eq-eqb, eqb-true, and_right, lt-ltb}
use Rattle.std.proofs.lemmas.Bool.Decides.{Decides-eqb, same_from_decides}
use Rattle.std.proofs.lemmas.List.{take_more, append-nil, length-append}
use Rattle.std.proofs.lemmas.List.Folds.{length-flat_map-take}
use Rattle.std.proofs.lemmas.Grind.{flat_map-append}
use Rattle.nl_grid.specs.Geometry.{patch_at, patches_of, all_patches}
use Rattle.nl_agents_layout.specs.Nouns.{BreedNumber}
use Rattle.nl_agents.specs.World.{Rest, World}
use Rattle.nl_agents.specs.Changes.{turtle_of}
use Rattle.nl_agents.specs.Members.{turtles_where, is_on, is_listed}
use Rattle.nl_agents.specs.Standing.{IsWorld}
use Rattle.nl_agents.specs.declared.agents.Turtle.{Turtle}
use Rattle.nl_agents_layout.proofs.Ascending.{same_ascending, ranged}
use Rattle.nl_agents.proofs.LivingMembers.{passing_ascend}
use Rattle.nl_agentset_query.proofs.Boxes.{each_has, each_counted}
use Rattle.nl_agentset.specs.Places.{turtles_on}
use Rattle.nl_agentset.specs.Reads.{patches_reads}
use Rattle.nl_agentset_query.specs.Agents.{is_of, turtle_passes}
use Rattle.nl_agentset_query.specs.Orders.{SameNumbers}
use Rattle.nl_agentset.proofs.Found.{turtles_kept, same_turtles, one_of_all}

turned : (a b : ℕ) → (a == b) ≡ (b == a)
turned a b = same_from_decides {P = a ≡ b} (a == b) (b == a) (Decides-eqb a b) ((λ h. sym (eqb-true b a h)), (λ same. eq-eqb b a (sym same)))

one_patch : (a b c : Bool) → a ≡ c → (a && b) ≡ (b && (c || false))
one_patch true true true is = refl
one_patch true false true is = refl
one_patch false true false is = refl
one_patch false false false is = refl
one_patch true b false is = cc
one_patch false b true is = cc

several : (a b c : Bool) → a ≡ c → (a && b) ≡ (b && c)
several true true true is = refl
several true false true is = refl
several false true false is = refl
several false false false is = refl
several true b false is = cc
several false b true is = cc

abbrev serial_of : Turtle → ℕ
serial_of t = t.serial

-- of the turtles on a patch those of a breed
pub bred_on_one : (w : World) (breed : Option BreedNumber) (patch : ℕ) → IsWorld w
    → filter (λ z. turtle_passes (λ t. is_of breed t.breed) (turtle_of z w.rest)) (turtles_where (is_on w.rest patch) w.rest) ≡ turtles_on w.rest breed (patch ∷ [])
bred_on_one w breed patch world =
    turtles_kept w (is_on w.rest patch) (λ t. is_of breed t.breed) world
    ∙ ap (map serial_of) (same_turtles (λ t. is_on w.rest patch t && is_of breed t.breed) (λ t. is_of breed t.breed && is_listed (patch ∷ []) (patch_at w.rest.shape t.at)) w.rest.turtles
    (λ t. one_patch (is_on w.rest patch t) (is_of breed t.breed) (patch == patch_at w.rest.shape t.at) (turned (patch_at w.rest.shape t.at) patch)))

-- of the turtles on several patches, gathered patch by patch and put in order, those of a breed
pub bred_on_several : (w : World) (breed : Option BreedNumber) (patches each found all : List ℕ) → IsWorld w → SameNumbers patches each
    → found ≡ flat_map (λ patch. turtles_where (is_on w.rest patch) w.rest) each → SameNumbers found all → IsStrictlyIncreasing all
    → filter (λ z. turtle_passes (λ t. is_of breed t.breed) (turtle_of z w.rest)) all ≡ turtles_on w.rest breed patches
bred_on_several w breed patches each found all world same are again up =
    ap (filter (λ z. turtle_passes (λ t. is_of breed t.breed) (turtle_of z w.rest))) all_are
    ∙ turtles_kept w on_each (λ t. is_of breed t.breed) world
    ∙ ap (map serial_of) (same_turtles (λ t. on_each t && is_of breed t.breed) (λ t. is_of breed t.breed && is_listed patches (patch_at w.rest.shape t.at)) w.rest.turtles
    (λ t. several (on_each t) (is_of breed t.breed) (is_listed patches (patch_at w.rest.shape t.at)) (same (patch_at w.rest.shape t.at))))
  where
    on_each : Turtle → Bool
    on_each t = is_listed each (patch_at w.rest.shape t.at)

    all_are : all ≡ turtles_where on_each w.rest
    all_are =
        same_ascending all (turtles_where on_each w.rest) up (passing_ascend serial_of on_each w.rest.turtles world.agents.turtles_ascend)
        (λ z. again z ∙ ap (λ l. is_listed l z) are ∙ each_has serial_of (λ (t : Turtle). patch_at w.rest.shape t.at) w.rest.turtles each z)

-- one patch more
pub gathered_more : (f : ℕ → List ℕ) (xs : List ℕ) (i : ℕ) (found more : List ℕ) → i < length xs → found ≡ flat_map f (take i xs) → more ≡ found ++ f (get_or xs i 0)
    → more ≡ flat_map f (take (i + 1) xs)
gathered_more f xs i found more inside so_far next =
    let x = get_or xs i 0 in
    next ∙ ap (λ l. l ++ f x) so_far ∙ ap (λ l. flat_map f (take i xs) ++ l) (sym (append-nil (f x))) ∙ sym (flat_map-append f (take i xs) (x ∷ []))
    ∙ ap (flat_map f) (sym (take_more xs i 0 inside))

none_listed : (breed : Option BreedNumber) (ts : List Turtle) → map serial_of (filter (λ t. is_of breed t.breed && false) ts) ≡ []
none_listed breed [] = refl
none_listed breed (t ∷ ts) = ap (λ b. map serial_of (if b then t ∷ filter (λ x. is_of breed x.breed && false) ts else filter (λ x. is_of breed x.breed && false) ts)) (and_right (is_of breed t.breed) false refl) ∙ none_listed breed ts

-- no turtles are on no patches
pub none_on : (r : Rest) (breed : Option BreedNumber) → [] ≡ turtles_on r breed []
none_on r breed = sym (none_listed breed r.turtles)

-- ---- what is read for them

below_so : (b : Bool) (z bound : ℕ) → (b ≡ true → z < bound) → b ≡ (nat_lt z bound && b)
below_so true z bound below = ap (λ a. a && true) (sym (lt-ltb z bound (below refl)))
below_so false z bound below = sym (and_right (nat_lt z bound) false refl)

-- patches of the world in order are its patches that are listed
once_each : (r : Rest) (patches each : List ℕ) → SameNumbers patches each → IsStrictlyIncreasing each → All (λ patch. patch < patches_of r.shape) patches
    → each ≡ filter (is_listed patches) (all_patches r.shape)
once_each r patches each same up inside =
    ranged (is_listed patches) (patches_of r.shape) each up
    (λ z. same z ∙ below_so (is_listed patches z) z (patches_of r.shape) (λ h. one_of_all (λ patch. patch < patches_of r.shape) patches z inside h))

-- for each turtle on several patches one, and one for each patch
pub several_reads : (r : Rest) (patches each : List ℕ) (before now : ℕ) → SameNumbers patches each → IsStrictlyIncreasing each → All (λ patch. patch < patches_of r.shape) patches
    → now ≤ before + (length (flat_map (λ patch. turtles_where (is_on r patch) r) each) + length each) → now ≤ before + patches_reads r patches
several_reads r patches each before now same up inside reads =
    let few = each_counted serial_of (λ (t : Turtle). patch_at r.shape t.at) r.turtles each up in
    let those =
    ap (λ (ts : List Turtle). length (map serial_of ts))
    (same_turtles (λ t. is_listed each (patch_at r.shape t.at)) (λ t. is_listed patches (patch_at r.shape t.at)) r.turtles (λ t. same (patch_at r.shape t.at))) in
    let once = ap (λ (l : List ℕ). length l) (once_each r patches each same up inside) in
    omega (arith, few, those, once, reads)

-- one patch more is read
pub reads_more : (found here more : List ℕ) (i before now new : ℕ) → more ≡ found ++ here → now ≤ before + (length found + i) → new ≤ now + length here + 1
    → new ≤ before + (length more + (i + 1))
reads_more found here more i before now new is so_far next = omega (arith, ap (λ (l : List ℕ). length l) is, length-append found here, so_far, next)

-- and what is read up to it is no more than what is read for all
pub reads_at_most : (f : ℕ → List ℕ) (xs found : List ℕ) (i before now new : ℕ) → i < length xs → found ≡ flat_map f (take i xs) → now ≤ before + (length found + i)
    → new ≤ now + length (f (get_or xs i 0)) + 1 → new ≤ before + (length (flat_map f xs) + length xs)
reads_at_most f xs found i before now new inside is so_far next =
    let part = length-flat_map-take f xs i 0 inside in
    omega (arith, inside, part, ap (λ (l : List ℕ). length l) is, so_far, next)
