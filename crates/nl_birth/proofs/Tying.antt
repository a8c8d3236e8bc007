-- Links that are made one after another: what they keep, and that none stands in the way of a later one.
use Rattle.std.specs.Prelude.{◌≡◌, ℕ, suc, ◌+◌, ◌<◌, ◌≤◌, ◌==◌, Bool, true, false, ◌&&◌, ◌||◌, not, List, [], ◌∷◌, ◌++◌, filter, take, find, length, min, max, All, IsSome, IsTrue}
use Rattle.std.specs.List.{list_any}
use Rattle.std.specs.List.Sorted.{IsStrictlyIncreasing}
use Rattle.std.proofs.Common.{arith, ap, ap₂, ◌∙◌, sym, refl, subst, get_or, inl, inr, ⊎_elim}
use Rattle.std.proofs.lemmas.Bool.{both_ways, cond_both, cases_lt, ne_eqb, eq-eqb, or_parts, not-true}
use Rattle.std.proofs.lemmas.Bool.Decides.{nat_tests}
use Rattle.std.proofs.lemmas.List.{length-append, take_more, get_or-take, length-take-le, get_or_default}
use Rattle.std.proofs.lemmas.List.Elements.{All-head, All-tail, All-filter, All-weaker, filter_passes}
use Rattle.std.proofs.lemmas.List.Folds.{list_any-append, list_any-from_Any}
use Rattle.std.proofs.lemmas.List.Kept.{AllPairs-from_increasing, IsStrictlyIncreasing-filter}
use Rattle.nl_value.specs.Nouns.{Serials}
use Rattle.nl_agents_layout.specs.Nouns.{BreedNumber}
use Rattle.nl_agents_layout.specs.Layouts.{is_link_breed}
use Rattle.nl_agents.specs.World.{Rest, World}
use Rattle.nl_agents.specs.Changes.{is_turtle, TurtleLives, AreLinksFull, joins, new_link, tied}
use Rattle.nl_agents.specs.Members.{is_listed}
use Rattle.nl_agents.specs.declared.refusals.TieFail.{TieFail}
use Rattle.nl_agents.specs.declared.refusals.TieFail.TheVariants as tie
use Rattle.nl_birth.specs.declared.way.Way.{Way}
use Rattle.nl_birth.specs.declared.way.Way.TheVariants.{With, To, From}
use Rattle.nl_birth.specs.Links.{has_direction, first_end, second_end, is_joined, tied_to, tied_to_all, first_ties, linkings, wanted, link_room}
use Rattle.nl_birth.specs.Outcomes.{IsCutShort, fail_of_tie}
use Rattle.nl_birth.proofs.Counting.{IsSoFar, Explains}

-- ---- what so many links keep

pub record IsMoreLinked (w now : World) (k : ℕ) : Type 0 where
  pub layout : now.rest.layout ≡ w.rest.layout
  pub turtles : now.rest.turtles ≡ w.rest.turtles
  pub many : length now.rest.links ≡ length w.rest.links + k
  pub given : now.rest.links_given ≡ w.rest.links_given + k

pub tied_more : (way : Way) (breed : BreedNumber) (caller : ℕ) (ts : List ℕ) (w : World) → IsMoreLinked w (tied_to_all way breed caller ts w) (length ts)
unfolding tied_to_all
tied_more way breed caller [] w = record { layout = refl; turtles = refl; many = omega arith; given = omega arith }
tied_more way breed caller (t ∷ ts) w =
    let h = tied_more way breed caller ts (tied_to way breed caller t w) in
    let long = length-append w.rest.links (new_link breed (has_direction way) (first_end way caller t) (second_end way caller t) w.rest ∷ []) in
    let many = h.many in
    let given = h.given in
    record { layout = h.layout; turtles = h.turtles; many = omega (arith, long, many); given = omega (arith, given) }

pub tied_push : (way : Way) (breed : BreedNumber) (caller : ℕ) (ts : List ℕ) (t : ℕ) (w : World) → tied_to_all way breed caller (ts ++ t ∷ []) w ≡ tied_to way breed caller t (tied_to_all way breed caller ts w)
unfolding tied_to_all
tied_push way breed caller [] t w = refl
tied_push way breed caller (u ∷ us) t w = tied_push way breed caller us t (tied_to way breed caller u w)

-- ---- no link joins the caller with two targets

with_apart : (c t u : ℕ) → (t ≡ u → ⊥) → (((min c u == min c t) && (max c u == max c t)) || (true && (min c u == max c t) && (max c u == min c t))) ≡ false
with_apart c t u h = grind (arith, nat_tests)

to_apart : (c t u : ℕ) → (t ≡ u → ⊥) → (((c == c) && (u == t)) || (false && (c == t) && (u == c))) ≡ false
to_apart c t u h = grind (arith, nat_tests)

from_apart : (c t u : ℕ) → (t ≡ u → ⊥) → (((u == t) && (c == c)) || (false && (u == c) && (c == t))) ≡ false
from_apart c t u h = grind (arith, nat_tests)

no_and : (a b : Bool) → b ≡ false → (a && b) ≡ false
no_and true b h = h
no_and false b h = refl

new_apart : (way : Way) (breed : BreedNumber) (c t u : ℕ) (r : Rest) → (t ≡ u → ⊥)
    → joins breed (has_direction way) (first_end way c t) (second_end way c t) (new_link breed (has_direction way) (first_end way c u) (second_end way c u) r) ≡ false
new_apart With breed c t u r h = no_and ((breed == breed) && true) (((min c u == min c t) && (max c u == max c t)) || (true && (min c u == max c t) && (max c u == min c t))) (with_apart c t u h)
new_apart To breed c t u r h = no_and ((breed == breed) && true) (((c == c) && (u == t)) || (false && (c == t) && (u == c))) (to_apart c t u h)
new_apart From breed c t u r h = no_and ((breed == breed) && true) (((u == t) && (c == c)) || (false && (u == c) && (c == t))) (from_apart c t u h)

pub still_free : (way : Way) (breed : BreedNumber) (c t : ℕ) (us : List ℕ) (w : World) → All (λ u. t ≡ u → ⊥) us → is_joined way breed c w t ≡ false → is_joined way breed c (tied_to_all way breed c us w) t ≡ false
unfolding tied_to_all
still_free way breed c t [] w apart h = h
still_free way breed c t (u ∷ us) w apart h =
    let test = joins breed (has_direction way) (first_end way c t) (second_end way c t) in
    let new = new_link breed (has_direction way) (first_end way c u) (second_end way c u) w.rest in
    let here : test new ≡ false = new_apart way breed c t u w.rest (All-head (λ v. t ≡ v → ⊥) u us apart) in
    still_free way breed c t us (tied_to way breed c u w) (All-tail (λ v. t ≡ v → ⊥) u us apart)
    (list_any-append test w.rest.links (new ∷ []) ∙ ap₂ (λ x y. x || (y || false)) h here)

-- earlier targets are others
pub taken_apart : (ts : List ℕ) (i : ℕ) → IsStrictlyIncreasing ts → i < length ts → All (λ u. get_or ts i 0 ≡ u → ⊥) (take i ts)
taken_apart ts i up l k d inside e =
    let short = length-take-le i ts (omega arith) in
    let below : k < i = omega (arith, inside, short) in
    let there = get_or-take i ts k d below in
    let less = AllPairs-from_increasing ts up k i d below l in
    let same = get_or_default ts i d 0 l in
    omega (arith, less, there, same, e)

-- ---- after so many links

module _ (way : Way) (breed : BreedNumber) (caller : ℕ) (ts : List ℕ) (w now : World) (k room first : ℕ) (made : Serials) (h : IsSoFar (first_ties way breed caller ts w) room first k now made) where
  pub linked_at : k ≤ length ts → IsMoreLinked w now k
  linked_at l =
      subst (λ n. IsMoreLinked w now n) (length-take-le k ts l) (subst (λ x. IsMoreLinked w x (length (take k ts))) (sym h.leaves) (tied_more way breed caller (take k ts) w))

  pub next_tie : k < length ts → (next : World) (directed : Bool) (end1 end2 : ℕ) → next ≡ tied breed directed end1 end2 now → directed ≡ has_direction way → end1 ≡ first_end way caller (get_or ts k 0) → end2 ≡ second_end way caller (get_or ts k 0)
      → next ≡ first_ties way breed caller ts w (suc k)
  next_tie l next directed end1 end2 is d one two =
      let t = get_or ts k 0 in
      let one_on : suc k ≡ k + 1 = omega arith in
      let more : take (suc k) ts ≡ take k ts ++ t ∷ [] = ap (λ n. take n ts) one_on ∙ take_more ts k 0 l in
      is
      ∙ ap (λ x. tied breed x end1 end2 now) d
      ∙ ap₂ (λ x y. tied breed (has_direction way) x y now) one two
      ∙ ap (tied_to way breed caller t) h.leaves
      ∙ sym (tied_push way breed caller (take k ts) t w)
      ∙ ap (λ us. tied_to_all way breed caller us w) (sym more)

  pub none_between : k < length ts → IsStrictlyIncreasing ts → All (λ t. is_joined way breed caller w t ≡ false) ts → (directed : Bool) (end1 end2 : ℕ) → directed ≡ has_direction way → end1 ≡ first_end way caller (get_or ts k 0)
      → end2 ≡ second_end way caller (get_or ts k 0) → list_any (joins breed directed end1 end2) now.rest.links ≡ false
  none_between l up free directed end1 end2 d one two =
      let t = get_or ts k 0 in
      let kept = still_free way breed caller t (take k ts) w (taken_apart ts k up l) (free k 0 l) in
      ap (λ x. list_any (joins breed x end1 end2) now.rest.links) d
      ∙ ap₂ (λ x y. list_any (joins breed (has_direction way) x y) now.rest.links) one two
      ∙ ap (λ x. is_joined way breed caller x t) h.leaves
      ∙ kept

pub lives_now : (w now : World) (k turtle : ℕ) → IsMoreLinked w now k → TurtleLives turtle w → TurtleLives turtle now
lives_now w now k turtle h lives = subst (λ ts. IsSome (find (is_turtle turtle) ts)) (sym h.turtles) lives

pub breed_now : (w now : World) (k : ℕ) (breed : BreedNumber) → IsMoreLinked w now k → IsTrue (is_link_breed w.rest.layout breed) → IsTrue (is_link_breed now.rest.layout breed)
breed_now w now k breed h e = subst (λ l. IsTrue (is_link_breed l breed)) (sym h.layout) e

-- ---- the two ends

pub first_is : (P : ℕ → Type 0) (way : Way) (caller t end1 : ℕ) → end1 ≡ first_end way caller t → P caller → P t → P end1
first_is P With caller t end1 e p q = subst P (sym e) (⊎_elim (λ l. let is : caller ≡ min caller t = omega arith in subst P is p) (λ l. let is : t ≡ min caller t = omega arith in subst P is q) (cases_lt caller t))
first_is P To caller t end1 e p q = subst P (sym e) p
first_is P From caller t end1 e p q = subst P (sym e) q

pub second_is : (P : ℕ → Type 0) (way : Way) (caller t end2 : ℕ) → end2 ≡ second_end way caller t → P caller → P t → P end2
second_is P With caller t end2 e p q = subst P (sym e) (⊎_elim (λ l. let is : t ≡ max caller t = omega arith in subst P is q) (λ l. let is : caller ≡ max caller t = omega arith in subst P is p) (cases_lt caller t))
second_is P To caller t end2 e p q = subst P (sym e) q
second_is P From caller t end2 e p q = subst P (sym e) p

ends_differ : (way : Way) (caller t : ℕ) → (t ≡ caller → ⊥) → first_end way caller t ≡ second_end way caller t → ⊥
ends_differ With caller t h e = h (omega arith)
ends_differ To caller t h e = h (sym e)
ends_differ From caller t h e = h e

pub ends_apart : (way : Way) (caller t end1 end2 : ℕ) → (t ≡ caller → ⊥) → end1 ≡ first_end way caller t → end2 ≡ second_end way caller t → (end1 == end2) ≡ false
ends_apart way caller t end1 end2 h one two = ne_eqb end1 end2 (λ e. ends_differ way caller t h (sym one ∙ e ∙ two))

pub not_listed : (ts : List ℕ) (n i : ℕ) → is_listed ts n ≡ false → i < length ts → get_or ts i 0 ≡ n → ⊥
not_listed ts n i h l e =
    let there = list_any-from_Any (λ other. other == n) ts (i, get_or ts i 0, l, get_or_default ts i (get_or ts i 0) 0 l, eq-eqb (get_or ts i 0) n e) in
    both_ways (is_listed ts n) h there

-- ---- room

pub no_link_room : (w now : World) (k : ℕ) → IsMoreLinked w now k → AreLinksFull now → link_room w ≤ k
no_link_room w now k h full =
    let many = h.many in
    let given = h.given in
    ⊎_elim (λ (a : 400000 ≤ length now.rest.links). let r : link_room w ≤ k = omega (arith, a, many) in r)
    (λ (a : 9000000000000 ≤ now.rest.links_given). let r : link_room w ≤ k = omega (arith, a, given) in r) full

pub more_link_room : (w now : World) (k : ℕ) → IsMoreLinked w now k → (AreLinksFull now → ⊥) → suc k ≤ link_room w
more_link_room w now k h room =
    let many = h.many in
    let given = h.given in
    let fewer : length now.rest.links < 400000 = omega (arith, λ (l : 400000 ≤ length now.rest.links). room (inl l)) in
    let below : now.rest.links_given < 9000000000000 = omega (arith, λ (l : 9000000000000 ≤ now.rest.links_given). room (inr l)) in
    omega (arith, fewer, below, many, given)

pub tie_explained : (fail : TieFail) (room k : ℕ) → (fail ≡ tie.Full → room ≤ k) → Explains (fail_of_tie fail) room k
tie_explained tie.Full room k h = h refl
tie_explained tie.NoMemory room k h = tt

-- ---- what is wanted

wanted_listed : (test : ℕ → Bool) (ts : List ℕ) (n : ℕ) → is_listed ts n ≡ false → is_listed (filter test ts) n ≡ false
wanted_listed test [] n h = refl
wanted_listed test (t ∷ ts) n h =
    let parts = or_parts (t == n) (is_listed ts n) h in
    let rest = wanted_listed test ts n parts.1 in
    cond_both (test t) (t ∷ filter test ts) (filter test ts) (λ us. is_listed us n ≡ false) (λ _. ap₂ (λ x y. x || y) parts.0 rest) (λ _. rest)

wanted_free : (way : Way) (breed : BreedNumber) (caller : ℕ) (targets : Serials) (w : World) → All (λ t. is_joined way breed caller w t ≡ false) (wanted way breed caller targets w)
wanted_free way breed caller targets w =
    All-weaker (λ t. not (is_joined way breed caller w t) ≡ true) (λ t. is_joined way breed caller w t ≡ false) (λ t e. not-true (is_joined way breed caller w t) e) (wanted way breed caller targets w)
    (filter_passes (λ t. not (is_joined way breed caller w t)) targets)

pub none_linked : (way : Way) (breed : BreedNumber) (caller : ℕ) (targets : Serials) (w : World) (most : ℕ) → IsCutShort (linkings way breed caller targets w) most w
unfolding tied_to_all
none_linked way breed caller targets w most = record { made = 0; few = omega arith; leaves = refl }

pub wanted_ascends : (way : Way) (breed : BreedNumber) (caller : ℕ) (targets items : Serials) (w : World) → IsStrictlyIncreasing targets → items ≡ wanted way breed caller targets w → IsStrictlyIncreasing items
wanted_ascends way breed caller targets items w up e =
    subst IsStrictlyIncreasing (sym e) (IsStrictlyIncreasing-filter (λ t. not (is_joined way breed caller w t)) targets up)

-- of the list that is passed on
module _ (way : Way) (breed : BreedNumber) (caller : ℕ) (targets items passed : Serials) (w : World) (is : items ≡ wanted way breed caller targets w) (same : passed ≡ items) where
  pub passed_live : All (λ t. TurtleLives t w) targets → All (λ t. TurtleLives t w) passed
  passed_live h = subst (All (λ t. TurtleLives t w)) (sym (same ∙ is)) (All-filter (λ t. not (is_joined way breed caller w t)) (λ t. TurtleLives t w) targets h)

  pub passed_free : All (λ t. is_joined way breed caller w t ≡ false) passed
  passed_free = subst (All (λ t. is_joined way breed caller w t ≡ false)) (sym (same ∙ is)) (wanted_free way breed caller targets w)

  pub passed_apart : is_listed targets caller ≡ false → is_listed passed caller ≡ false
  passed_apart h = ap (λ ts. is_listed ts caller) (same ∙ is) ∙ wanted_listed (λ t. not (is_joined way breed caller w t)) targets caller h
