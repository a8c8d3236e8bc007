-- How many turtles live and how many serials were given after births, and what becomes of births by that.
use Rattle.std.specs.Prelude.{◌↔◌, ◌≡◌, ℕ, zero, suc, ◌+◌, ◌<◌, ◌≤◌, [], ◌∷◌, ◌++◌, length, Option, Some, None, IsTrue, Result, Ok, Err, min, nat_le}
use Rattle.std.specs.List.{range_with_len}
use Rattle.std.specs.Result.{IsErrAnd}
use Rattle.std.proofs.lemmas.Result.{err_from_is_err_and}
use Rattle.std.proofs.Common.{arith, ap, ap₂, ◌∙◌, sym, refl, subst, inl, inr, ⊎_elim}
use Rattle.std.proofs.lemmas.Bool.{cond-true, cond-false, le-leb, leb-true, false_from_ne_true, cases_lt}
use Rattle.std.proofs.lemmas.List.{length-append, length-map}
use Rattle.std.proofs.lemmas.List.FromFn.{length-range_with_len, get_or-range_with_len}
use Rattle.nl_value.specs.Plain.{Plain, PlainNumber}
use Rattle.nl_value.specs.Nouns.{Serials}
use Rattle.nl_value.specs.Ascending.{IsAboveLast}
use Rattle.nl_grid.specs.Geometry.{IsPointOf}
use Rattle.nl_grid.specs.declared.point.Point.{Point}
use Rattle.nl_agents_layout.specs.Nouns.{Slot, BreedNumber}
use Rattle.nl_agents_layout.specs.Layouts.{is_turtle_breed}
use Rattle.nl_agents_layout.specs.BuiltIn.{color_slot, heading_slot}
use Rattle.nl_agents.specs.World.{World}
use Rattle.nl_agents.specs.Changes.{TurtleLives, AreTurtlesFull, born, newborn, revalued, value_set}
use Rattle.nl_agents.specs.declared.agents.Owner.TheVariants as owner
use Rattle.nl_agents.specs.declared.refusals.BearFail.{BearFail}
use Rattle.nl_agents.specs.declared.refusals.BearFail.TheVariants as bear
use Rattle.nl_agents.proofs.Worlds.{turtle_by}
use Rattle.nl_birth.specs.declared.looks.Looks.{Looks}
use Rattle.nl_birth.specs.declared.failing.BirthFail.{BirthFail}
use Rattle.nl_birth.specs.declared.failing.BirthFail.TheVariants.{TooMany, LinkFault, NoMemory}
use Rattle.nl_birth.specs.Looks.{drawn_looks, looks_in_order, born_with}
use Rattle.nl_birth.specs.Births.{Scene, turtle_room, drawn_birth, drawn_births, ordered_births, hatchings, origin}
use Rattle.nl_birth.specs.Outcomes.{BirthOutcome, Made, Filled, outcome_of, IsOutcome, IsCutShort, fail_of_bear}
use Rattle.nl_birth.proofs.Setting.{lives_beside}

-- ---- serials in a row

pub range_more : (a n : ℕ) → range_with_len a (n + 1) ≡ range_with_len a n ++ (a + n) ∷ []
range_more a zero = ap (λ m. m ∷ []) (omega arith)
range_more a (suc n) =
    let next : suc n + 1 ≡ suc (n + 1) = omega arith in
    let last : (a + 1) + n ≡ a + suc n = omega arith in
    ap (range_with_len a) next ∙ ap (λ xs. a ∷ xs) (range_more (a + 1) n ∙ ap (λ m. range_with_len (a + 1) n ++ m ∷ []) last)

pub above_range : (a n : ℕ) → IsAboveLast (a + n) (range_with_len a n)
above_range a n k e =
    let long = length-range_with_len a n in
    let last = get_or-range_with_len a n k 0 (omega arith) in
    omega (arith, last, long, e)

-- ---- what so many births keep

pub record IsMore (w now : World) (k : ℕ) : Type 0 where
  pub layout : now.rest.layout ≡ w.rest.layout
  pub shape : now.rest.shape ≡ w.rest.shape
  pub many : length now.rest.turtles ≡ length w.rest.turtles + k
  pub given : now.rest.turtles_given ≡ w.rest.turtles_given + k

pub none_more : (w : World) → IsMore w w 0
none_more w = record { layout = refl; shape = refl; many = omega arith; given = omega arith }

pub more_born : (w now : World) (k : ℕ) (breed : BreedNumber) (at : Point) (parent : Option ℕ) → IsMore w now k → IsMore w (born breed at parent now) (suc k)
more_born w now k breed at parent h =
    let long = length-append now.rest.turtles (newborn breed at parent now.rest ∷ []) in
    let many = h.many in
    let given = h.given in
    record { layout = h.layout; shape = h.shape; many = omega (arith, long, many); given = omega (arith, given) }

pub more_set : (w now : World) (k turtle : ℕ) (slot : Slot) (value : Plain) → IsMore w now k → IsMore w (revalued (owner.Turtle turtle) slot value now) k
more_set w now k turtle slot value h = record {
  layout = h.layout;
  shape = h.shape;
  many = length-map now.rest.turtles (turtle_by (λ t. record t { vars = value_set now.rest.layout.some_turtle t.vars slot value }) turtle) ∙ h.many;
  given = h.given;
}

pub more_with : (w now : World) (k : ℕ) (breed : BreedNumber) (at : Point) (looks : Looks) → IsMore w now k → IsMore w (born_with breed at looks now) (suc k)
more_with w now k breed at looks h =
    let turtle = now.rest.turtles_given in
    let one = born breed at None now in
    let colored = revalued (owner.Turtle turtle) color_slot (PlainNumber looks.color) one in
    more_set w colored (suc k) turtle heading_slot (PlainNumber looks.heading)
    (more_set w one (suc k) turtle color_slot (PlainNumber looks.color) (more_born w now k breed at None h))

pub drawn_more : (breed : BreedNumber) (at : Point) (s : Scene) (k : ℕ) → IsMore s.world (drawn_births breed at s k).world k
unfolding drawn_births
drawn_more breed at s zero = none_more s.world
drawn_more breed at s (suc k) =
    let before = drawn_births breed at s k in
    more_with s.world before.world k breed at (drawn_looks before.stream).0 (drawn_more breed at s k)

pub ordered_more : (breed : BreedNumber) (count : ℕ) (w : World) (k : ℕ) → IsMore w (ordered_births breed count w k) k
unfolding ordered_births
ordered_more breed count w zero = none_more w
ordered_more breed count w (suc k) = more_with w (ordered_births breed count w k) k breed origin (looks_in_order count k) (ordered_more breed count w k)

pub hatched_more : (breed : BreedNumber) (parent : ℕ) (at : Point) (w : World) (k : ℕ) → IsMore w (hatchings breed parent at w k) k
unfolding hatchings
hatched_more breed parent at w zero = none_more w
hatched_more breed parent at w (suc k) = more_born w (hatchings breed parent at w k) k breed at (Some parent) (hatched_more breed parent at w k)

pub hatched_lives : (breed : BreedNumber) (parent : ℕ) (at : Point) (w : World) (k : ℕ) → TurtleLives parent w → TurtleLives parent (hatchings breed parent at w k)
unfolding hatchings
hatched_lives breed parent at w zero h = h
hatched_lives breed parent at w (suc k) h = lives_beside (hatchings breed parent at w k) breed at (Some parent) parent (hatched_lives breed parent at w k h)

-- ---- room

pub no_room : (w now : World) (k : ℕ) → IsMore w now k → AreTurtlesFull now → turtle_room w ≤ k
no_room w now k h full =
    let many = h.many in
    let given = h.given in
    ⊎_elim (λ (a : 200000 ≤ length now.rest.turtles). let r : turtle_room w ≤ k = omega (arith, a, many) in r)
    (λ (a : 9000000000000 ≤ now.rest.turtles_given). let r : turtle_room w ≤ k = omega (arith, a, given) in r) full

pub more_room : (w now : World) (k : ℕ) → IsMore w now k → (AreTurtlesFull now → ⊥) → suc k ≤ turtle_room w
more_room w now k h room =
    let many = h.many in
    let given = h.given in
    let fewer : length now.rest.turtles < 200000 = omega (arith, λ (l : 200000 ≤ length now.rest.turtles). room (inl l)) in
    let below : now.rest.turtles_given < 9000000000000 = omega (arith, λ (l : 9000000000000 ≤ now.rest.turtles_given). room (inr l)) in
    omega (arith, fewer, below, many, given)

pub room_ends : (breed : BreedNumber) (at : Point) (s : Scene) (k : ℕ) → AreTurtlesFull (drawn_births breed at s k).world ↔ (turtle_room s.world ≤ k)
room_ends breed at s k =
    let more = drawn_more breed at s k in
    (no_room s.world (drawn_births breed at s k).world k more, full_turtles s.world (drawn_births breed at s k).world k more)
  where
    full_turtles : (w now : World) (k : ℕ) → IsMore w now k → turtle_room w ≤ k → AreTurtlesFull now
    full_turtles w now k h l =
        let many = h.many in
        let given = h.given in
        ⊎_elim
        (λ a. ⊎_elim (λ b. absurd (omega (arith, many, given, a, b, l))) (λ b. inr b) (cases_lt now.rest.turtles_given 9000000000000))
        (λ a. inl a) (cases_lt (length now.rest.turtles) 200000)

-- ---- outcomes

pub all_made : {X : Type 0} (after : ℕ → X) (room first count : ℕ) → count ≤ room → outcome_of after room first count ≡ Made (range_with_len first count) (after count)
all_made after room first count h =
    cond-true (nat_le count room) (Made (range_with_len first count) (after count)) (Filled (after room)) (le-leb count room h)

pub all_filled : {X : Type 0} (after : ℕ → X) (room first count k : ℕ) → k ≤ room → room ≤ k → k < count → outcome_of after room first count ≡ Filled (after k)
all_filled after room first count k low high more =
    let same : room ≡ k = omega arith in
    cond-false (nat_le count room) (Made (range_with_len first count) (after count)) (Filled (after room))
    (false_from_ne_true (nat_le count room) (λ e. let l = leb-true count room e in omega (arith, l)))
    ∙ ap (λ n. Filled (after n)) same

-- ---- so many were made

-- k of them were made, and this is what that leaves
pub record IsSoFar {X : Type 0} (after : ℕ → X) (room first k : ℕ) (now : X) (made : Serials) : Type 0 where
  pub leaves : now ≡ after k
  pub serials : made ≡ range_with_len first k
  pub fit : k ≤ room

pub none_so_far : {X : Type 0} (after : ℕ → X) (room first : ℕ) (now : X) (made : Serials) → now ≡ after 0 → made ≡ [] → IsSoFar after room first 0 now made
none_so_far after room first now made is none = record { leaves = is; serials = none; fit = omega arith }

pub one_more : {X : Type 0} (after : ℕ → X) (room first k : ℕ) (now next : X) (made pushed : Serials) (serial : ℕ) → IsSoFar after room first k now made → next ≡ after (suc k) → serial ≡ first + k
    → pushed ≡ made ++ serial ∷ [] → suc k ≤ room → IsSoFar after room first (k + 1) next pushed
one_more after room first k now next made pushed serial h is at push fit = record {
  leaves = is ∙ ap after (omega arith);
  serials = push ∙ ap (λ xs. xs ++ serial ∷ []) h.serials ∙ ap (λ n. range_with_len first k ++ n ∷ []) at ∙ sym (range_more first k);
  fit = omega arith;
}

pub may_push : {X : Type 0} (after : ℕ → X) (room first k : ℕ) (now : X) (made : Serials) (serial : ℕ) → IsSoFar after room first k now made → serial ≡ first + k → IsAboveLast serial made
may_push after room first k now made serial h at =
    subst (λ n. IsAboveLast n made) (sym at) (subst (IsAboveLast (first + k)) (sym h.serials) (above_range first k))

pub all_done : {X : Type 0} (after : ℕ → X) (room first count : ℕ) (now : X) (made : Serials) → IsSoFar after room first count now made
    → IsOutcome (outcome_of after room first count) after (min count room) (Ok made) now
all_done after room first count now made h =
    all_made after room first count h.fit ∙ ap (λ xs. Made xs (after count)) (sym h.serials) ∙ ap (Made made) (sym h.leaves)

pub cut_short : {X : Type 0} (after : ℕ → X) (room count k : ℕ) (now : X) → now ≡ after k → k ≤ count → k ≤ room → IsCutShort after (min count room) now
cut_short after room count k now is few fit = record { made = k; few = omega arith; leaves = is }

-- ---- each of the births

abbrev pub scene : World → ℕ → Scene
scene w s = record { world = w; stream = s }

pub layout_of : (w now : World) (k : ℕ) (breed : BreedNumber) → IsMore w now k → IsTrue (is_turtle_breed w.rest.layout breed) → IsTrue (is_turtle_breed now.rest.layout breed)
layout_of w now k breed h e = subst (λ l. IsTrue (is_turtle_breed l breed)) (sym h.layout) e

pub inside_of : (w now : World) (k : ℕ) (at : Point) → IsMore w now k → IsPointOf w.rest.shape at → IsPointOf now.rest.shape at
inside_of w now k at h e = subst (λ s. IsPointOf s at) (sym h.shape) e

pub drawn_at : (breed : BreedNumber) (at : Point) (s now : Scene) (k room first : ℕ) (made : Serials) → IsSoFar (drawn_births breed at s) room first k now made → IsMore s.world now.world k
drawn_at breed at s now k room first made h = subst (λ x. IsMore s.world x.world k) (sym h.leaves) (drawn_more breed at s k)

pub drawn_next : (breed : BreedNumber) (at : Point) (s now : Scene) (k room first : ℕ) (made : Serials) (next : Scene) → IsSoFar (drawn_births breed at s) room first k now made → next ≡ drawn_birth breed at now
    → next ≡ drawn_births breed at s (suc k)
unfolding drawn_births
drawn_next breed at s now k room first made next h e = e ∙ ap (drawn_birth breed at) h.leaves

pub ordered_at : (breed : BreedNumber) (count : ℕ) (w now : World) (k room first : ℕ) (made : Serials) → IsSoFar (ordered_births breed count w) room first k now made → IsMore w now k
ordered_at breed count w now k room first made h = subst (λ x. IsMore w x k) (sym h.leaves) (ordered_more breed count w k)

pub ordered_next : (breed : BreedNumber) (count : ℕ) (w now : World) (k room first : ℕ) (made : Serials) (next : World) → IsSoFar (ordered_births breed count w) room first k now made
    → next ≡ born_with breed origin (looks_in_order count k) now → next ≡ ordered_births breed count w (suc k)
unfolding ordered_births
ordered_next breed count w now k room first made next h e = e ∙ ap (born_with breed origin (looks_in_order count k)) h.leaves

pub hatched_at : (breed : BreedNumber) (parent : ℕ) (at : Point) (w now : World) (k room first : ℕ) (made : Serials) → IsSoFar (hatchings breed parent at w) room first k now made → IsMore w now k
hatched_at breed parent at w now k room first made h = subst (λ x. IsMore w x k) (sym h.leaves) (hatched_more breed parent at w k)

pub hatched_next : (breed : BreedNumber) (parent : ℕ) (at : Point) (w now : World) (k room first : ℕ) (made : Serials) (next : World) → IsSoFar (hatchings breed parent at w) room first k now made
    → next ≡ born breed at (Some parent) now → next ≡ hatchings breed parent at w (suc k)
unfolding hatchings
hatched_next breed parent at w now k room first made next h e = e ∙ ap (born breed at (Some parent)) h.leaves

-- ---- what calls answer

pub exits : {X : Type 0} (outcome : BirthOutcome X) (after : ℕ → X) (most : ℕ) (now : X) (r : Result Serials BirthFail) (fail : BirthFail) → IsErrAnd r (λ mine. mine ≡ fail) → IsOutcome outcome after most (Err fail) now
    → IsOutcome outcome after most r now
exits outcome after most now r fail e h =
    let p = err_from_is_err_and r e in
    subst (λ x. IsOutcome outcome after most x now) (sym (p.1 ∙ ap Err p.2)) h

-- why no more was made: for a full store there was no more room
abbrev pub Explains : BirthFail → (room k : ℕ) → Type 0
Explains TooMany room k = room ≤ k
Explains LinkFault room k = ⊥
Explains NoMemory room k = Unit {0}

-- so a call ends where one more was refused after k of them, and nothing is changed
pub ends_refused : {X : Type 0} (after : ℕ → X) (room first count k : ℕ) (now next : X) (made : Serials) (r : Result Serials BirthFail) (fail : BirthFail) → IsErrAnd r (λ mine. mine ≡ fail)
    → IsSoFar after room first k now made → next ≡ now → k < count → Explains fail room k → IsOutcome (outcome_of after room first count) after (min count room) r next
ends_refused after room first count k now next made r fail e h same more why =
    exits (outcome_of after room first count) after (min count room) next r fail e (by fail why)
  where
    by : (fail : BirthFail) → Explains fail room k → IsOutcome (outcome_of after room first count) after (min count room) (Err fail) next
    by TooMany full = all_filled after room first count k h.fit full more ∙ ap Filled (sym (same ∙ h.leaves))
    by LinkFault none = absurd none
    by NoMemory free = let fit = h.fit in record { made = k; few = omega (arith, more, fit); leaves = same ∙ h.leaves }

-- and so where one more was made, and memory was refused for its serial
pub ends_made : {X : Type 0} (after : ℕ → X) (room first count k : ℕ) (next : X) (r : Result Serials BirthFail) → IsErrAnd r (λ mine. mine ≡ NoMemory) → next ≡ after (suc k) → k < count → suc k ≤ room
    → IsOutcome (outcome_of after room first count) after (min count room) r next
ends_made after room first count k next r e step more fit =
    exits (outcome_of after room first count) after (min count room) next r NoMemory e (cut_short after room count (suc k) next step (omega (arith, more)) fit)

pub bear_explained : (fail : BearFail) (room k : ℕ) → (fail ≡ bear.Full → room ≤ k) → Explains (fail_of_bear fail) room k
bear_explained bear.Full room k h = h refl
bear_explained bear.NoMemory room k h = tt

pub ok_not_full : {T E : Type 0} (x : T) (y : E) (full : Type 0) → (full → Ok x ≡ Err y) → full → ⊥
ok_not_full x y full h f = let e = h f in cc

pub same_scene : (w v : World) (s t : ℕ) → w ≡ v → s ≡ t → scene w s ≡ scene v t
same_scene w v s t p q = ap₂ scene p q

pub born_alike : (next now : World) (breed : BreedNumber) (at place : Point) (looks others : Looks) → next ≡ born_with breed at looks now → at ≡ place → looks ≡ others → next ≡ born_with breed place others now
born_alike next now breed at place looks others e p q = e ∙ ap₂ (λ x y. born_with breed x y now) p q

pub hatched_alike : (next now : World) (breed : BreedNumber) (at place : Point) (parent : ℕ) → next ≡ born breed at (Some parent) now → at ≡ place → next ≡ born breed place (Some parent) now
hatched_alike next now breed at place parent e p = e ∙ ap (λ x. born breed x (Some parent) now) p

pub inside_alike : (w : World) (at place : Point) → at ≡ place → IsPointOf w.rest.shape place → IsPointOf w.rest.shape at
inside_alike w at place e h = subst (IsPointOf w.rest.shape) (sym e) h

pub lives_still : (breed : BreedNumber) (parent : ℕ) (at : Point) (w now : World) (k : ℕ) → now ≡ hatchings breed parent at w k → TurtleLives parent w → TurtleLives parent now
lives_still breed parent at w now k e h = subst (TurtleLives parent) (sym e) (hatched_lives breed parent at w k h)
