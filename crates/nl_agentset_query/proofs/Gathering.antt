-- The turtles on the patches of a box, as they are gathered patch by patch.
use Rattle.std.specs.Prelude.{◌≡◌, ℕ, zero, suc, ℤ, ◌+◌, ◌<◌, ◌≤◌, ◌==◌, true, List, [], ◌∷◌, ◌++◌, length, take, slice_get, Option, Some, None, refl}
use Rattle.std.proofs.Common.{ap, sym, ◌∙◌, subst, arith, get_or, nat_cmp}
use Rattle.std.specs.List.{flat_map, dedup}
use Rattle.std.proofs.lemmas.Map.Keys.{IsStrictlyIncreasing-dedup}
use Rattle.nl_agents.proofs.Ascending.{same_once}
use Rattle.std.specs.List.Sorted.{IsStrictlyIncreasing, IsSorted, IsPermutation}
use Rattle.std.proofs.lemmas.Bool.{eq-eqb, and_parts, or_left, or_right, ltb-true}
use Rattle.std.proofs.lemmas.List.{length-append}
use Rattle.std.proofs.lemmas.List.Folds.{length-flat_map-take}
use Rattle.std.proofs.lemmas.List.Kept.{IsStrictlyIncreasing-filter}
use Rattle.std.proofs.lemmas.Grind.{flat_map-append}
use Rattle.nl_grid.specs.Geometry.{Plane, patch_at, patches_of, reach_of, is_near, box_patches, patches_near, all_patches}
use Rattle.nl_grid.specs.declared.point.Point.{Point}
use Rattle.nl_agents.specs.World.{Rest, World}
use Rattle.nl_agents.specs.Members.{turtles_where, is_on}
use Rattle.nl_agents.specs.Standing.{IsWorld}
use Rattle.nl_agents.specs.declared.agents.Turtle.{Turtle}
use Rattle.nl_agents.proofs.Ascending.{has, has_filter, has_range, same_ascending, range_ascends}
use Rattle.nl_agents.proofs.LivingMembers.{passing_ascend}
use Rattle.nl_agentset_query.specs.Near.{turtles_in_box, is_in_box, box_reads}
use Rattle.nl_agentset_query.proofs.Boxes.{each_has, each_counted}

abbrev serial_of : Turtle → ℕ
serial_of t = t.serial

abbrev patch_in : Rest → Turtle → ℕ
patch_in r t = patch_at r.shape t.at

-- the turtles on a patch
abbrev here : Rest → ℕ → List ℕ
here r patch = turtles_where (is_on r patch) r

-- the walk stands at an index of the box, the turtles of the patches before it are gathered, and so much was read
pub record Gathered (r : Rest) (box : List ℕ) (next : Option ℕ) (found : List ℕ) (before reads : ℕ) : Type 0 where
  pub index : ℕ
  pub stands : next ≡ slice_get box index
  pub within : index ≤ length box
  pub are : found ≡ flat_map (here r) (take index box)
  pub counted : reads ≤ before + length found + index

pub begins : (r : Rest) (box : List ℕ) (next : Option ℕ) (before : ℕ) → next ≡ slice_get box 0 → Gathered r box next [] before before
begins r box next before is = record { index = 0; stands = is; within = omega arith; are = refl; counted = omega arith }

-- the patch at an index, and what comes up to it
up_to : (box : List ℕ) (index patch : ℕ) → slice_get box index ≡ Some patch → (index < length box) × (take (suc index) box ≡ take index box ++ patch ∷ [])
up_to [] index patch is = absurd (let wrong = is in cc)
up_to (x ∷ xs) zero patch is = (omega arith, let same : x ≡ patch = cc in ap (λ y. y ∷ []) same)
up_to (x ∷ xs) (suc index) patch is = let later = up_to xs index patch is in (omega (arith, later.0), ap (λ l. x ∷ l) later.1)

listed_at : (box : List ℕ) (index patch : ℕ) → slice_get box index ≡ Some patch → has box patch ≡ true
listed_at [] index patch is = absurd (let wrong = is in cc)
listed_at (x ∷ xs) zero patch is = let same : x ≡ patch = cc in or_left (x == patch) (has xs patch) (eq-eqb x patch same)
listed_at (x ∷ xs) (suc index) patch is = or_right (x == patch) (has xs patch) (listed_at xs index patch is)

all_taken : (box : List ℕ) (index : ℕ) → slice_get box index ≡ None → index ≤ length box → (take index box ≡ box) × (index ≡ length box)
all_taken [] zero is inside = (refl, refl)
all_taken [] (suc index) is inside = absurd (omega (arith, inside))
all_taken (x ∷ xs) zero is inside = absurd (let wrong = is in cc)
all_taken (x ∷ xs) (suc index) is inside = let later = all_taken xs index is (omega (arith, inside)) in (ap (λ l. x ∷ l) later.0, omega (arith, later.1))

pub goes_on : (r : Rest) (box : List ℕ) (next after : Option ℕ) (found : List ℕ) (before reads more : ℕ) (patch : ℕ) → Gathered r box next found before reads → next ≡ Some patch
    → ((index : ℕ) → slice_get box index ≡ Some patch → after ≡ slice_get box (index + 1)) → more ≤ reads + length (here r patch) + 1
    → Gathered r box after (found ++ here r patch) before more
goes_on r box next after found before reads more patch g is walk few =
    let at = sym g.stands ∙ is in
    let up = up_to box g.index patch at in
    let one : g.index + 1 ≡ suc g.index = omega arith in
    record {
      index = g.index + 1;
      stands = walk g.index at;
      within = omega (arith, up.0);
      are = ap (λ l. l ++ here r patch) g.are ∙ one_more ∙ sym (ap (flat_map (here r)) (ap (λ n. take n box) one ∙ up.1));
      counted = omega (arith, g.counted, few, length-append found (here r patch));
    }
  where
    none_after : (xs : List ℕ) → xs ++ [] ≡ xs
    none_after [] = refl
    none_after (x ∷ xs) = ap (λ l. x ∷ l) (none_after xs)

    one_more : flat_map (here r) (take g.index box) ++ here r patch ≡ flat_map (here r) (take g.index box ++ patch ∷ [])
    one_more = ap (λ l. flat_map (here r) (take g.index box) ++ l) (sym (none_after (here r patch))) ∙ sym (flat_map-append (here r) (take g.index box) (patch ∷ []))

pub box_ascends : (plane : Plane) (at : Point) (radius : ℤ) → IsStrictlyIncreasing (box_patches plane at radius)
unfolding box_patches patches_near
box_ascends plane at radius = IsStrictlyIncreasing-filter _ (all_patches plane) (range_ascends 0 _)

in_world : (plane : Plane) (at : Point) (radius : ℤ) (patch : ℕ) → has (box_patches plane at radius) patch ≡ true → patch < patches_of plane
unfolding box_patches patches_near
in_world plane at radius patch h =
    let near = is_near plane (reach_of radius) (patch_at plane at) in
    let both = and_parts (has (all_patches plane) patch) (near patch) (sym (has_filter near (all_patches plane) patch) ∙ h) in
    ltb-true patch (patches_of plane) (sym (has_range (patches_of plane) patch) ∙ both.0)

-- each patch of the walk is one of the world
pub walks_in_world : (r : Rest) (at : Point) (radius : ℤ) (next : Option ℕ) (found : List ℕ) (before reads patch : ℕ) → Gathered r (box_patches r.shape at radius) next found before reads → next ≡ Some patch → patch < patches_of r.shape
walks_in_world r at radius next found before reads patch g is =
    let box = box_patches r.shape at radius in
    in_world r.shape at radius patch (listed_at box g.index patch (sym g.stands ∙ is))

-- and what is read up to it is no more than what is read for all
pub reads_are_few : (r : Rest) (at : Point) (radius : ℤ) (next : Option ℕ) (found : List ℕ) (before reads more patch : ℕ) → Gathered r (box_patches r.shape at radius) next found before reads → next ≡ Some patch
    → more ≤ reads + length (here r patch) + 1 → more ≤ before + box_reads r at radius
reads_are_few r at radius next found before reads more patch g is few =
    let box = box_patches r.shape at radius in
    let up = up_to box g.index patch (sym g.stands ∙ is) in
    let all = each_counted serial_of (patch_in r) r.turtles box (box_ascends r.shape at radius) in
    let part = length-flat_map-take (here r) box g.index 0 up.0 in
    let this : get_or box g.index 0 ≡ patch = at_index box g.index patch (sym g.stands ∙ is) in
    let part2 : length (flat_map (here r) (take g.index box)) + length (here r patch) ≤ length (flat_map (here r) box) =
    subst (λ p. length (flat_map (here r) (take g.index box)) + length (here r p) ≤ length (flat_map (here r) box)) this part in
    omega (arith, g.counted, few, up.0, all, part2, ap length g.are)
  where
    at_index : (xs : List ℕ) (index patch : ℕ) → slice_get xs index ≡ Some patch → get_or xs index 0 ≡ patch
    at_index [] index patch is = absurd (let wrong = is in cc)
    at_index (x ∷ xs) zero patch is = cc
    at_index (x ∷ xs) (suc index) patch is = at_index xs index patch is

-- at the end all are gathered
pub gathered : (r : Rest) (at : Point) (radius : ℤ) (found : List ℕ) (before reads : ℕ) → Gathered r (box_patches r.shape at radius) None found before reads
    → ((z : ℕ) → has found z ≡ has (turtles_in_box r at radius) z) × (reads ≤ before + box_reads r at radius)
gathered r at radius found before reads g =
    let box = box_patches r.shape at radius in
    let all = all_taken box g.index (sym g.stands) g.within in
    let are = g.are ∙ ap (flat_map (here r)) all.0 in (
      λ z. ap (λ l. has l z) are ∙ each_has serial_of (patch_in r) r.turtles box z,
      let few = each_counted serial_of (patch_in r) r.turtles box (box_ascends r.shape at radius) in
          omega (arith, g.counted, ap length are, few, all.1),
    )

pub in_box_ascend : (w : World) (at : Point) (radius : ℤ) → IsWorld w → IsStrictlyIncreasing (turtles_in_box w.rest at radius)
in_box_ascend w at radius world = passing_ascend serial_of (is_in_box w.rest at radius) w.rest.turtles world.agents.turtles_ascend

-- what is left of a list after a sort, without its repeated numbers, where it has the same numbers
pub put_in_order : (w : World) (at : Point) (radius : ℤ) (found sorted : List ℕ) → IsWorld w → IsPermutation found sorted → IsSorted nat_cmp sorted
    → ((z : ℕ) → has found z ≡ has (turtles_in_box w.rest at radius) z) → dedup (λ a b. a == b) sorted ≡ turtles_in_box w.rest at radius
put_in_order w at radius found sorted world mixed up same =
    same_ascending (dedup (λ a b. a == b) sorted) (turtles_in_box w.rest at radius) (IsStrictlyIncreasing-dedup sorted up) (in_box_ascend w at radius world)
    (λ z. same_once found sorted (dedup (λ a b. a == b) sorted) mixed refl z ∙ same z)
