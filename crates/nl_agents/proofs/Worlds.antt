-- The first world is a world, and each change of one leaves a world.
use Rattle.std.specs.Prelude.{◌≡◌, ℕ, zero, suc, ◌+◌, ◌-◌, ◌<◌, ◌≤◌, ◌==◌, Bool, true, false, not, cond, if◌then◌else◌, IsTrue, List, [], ◌∷◌, ◌++◌, map, filter, find, length, Option, Some, None, IsSome, IfSome, is_some, All, nat_lt, slice_set}
use Rattle.std.specs.List.{list_all, list_any}
use Rattle.std.specs.List.Sorted.{IsStrictlyIncreasing}
use Rattle.std.proofs.Common.{arith, ap, ◌∙◌, sym, refl, subst, inl, inr, get_or}
use Rattle.std.proofs.lemmas.Bool.{cond_both, ne_eqb, eqb-true, eqb-false, not-true, or_parts, not_from_false, and_parts, and_from}
use Rattle.std.proofs.lemmas.List.{length-append, length-map, length-set, length-replicate}
use Rattle.std.proofs.lemmas.List.Elements.{All-nil, All-push, All-filter, All-map, All-head, All-tail, All-cons, filter_passes, All-weaker}
use Rattle.nl_value.specs.Plain.{Plain}
use Rattle.nl_grid.specs.Geometry.{Plane, IsPointOf, IsWithinLimits}
use Rattle.nl_grid.specs.declared.point.Point.{Point}
use Rattle.nl_agents_layout.specs.Nouns.{Slot, Slots, BreedNumber}
use Rattle.nl_agents.specs.Nouns.{Vars}
use Rattle.nl_agents_layout.specs.BuiltIn.{zero_value, heading_slot}
use Rattle.nl_agents_layout.specs.Layouts.{turtle_owns, link_owns, is_turtle_breed, is_link_breed, has_slot}
use Rattle.nl_agents.specs.World.{Rest, World, first_world, first_patches}
use Rattle.nl_agents.specs.Changes.{is_turtle, is_link, turtle_of, TurtleLives, value_in, value_set, set_entry, turtle_changed, link_changed, moved, bred_vars, rebred, birth_vars, parent_of, newborn, born, AreTurtlesFull, has_end, killed, cut, joins, new_link, tied, AreLinksFull, changed_at, revalued, global_set, turtles_cleared, links_cleared, patches_cleared, cleared_from, globals_cleared}
use Rattle.nl_agents.specs.Standing.{AreVars, IsNumber, IsTurtleOf, IsLinkOf, ArePatchVars, IsWorld, MayHold, fits_rest}
use Rattle.nl_agents_layout.specs.declared.layout.Layout.{Layout}
use Rattle.nl_agents.specs.declared.agents.Turtle.{Turtle}
use Rattle.nl_agents.specs.declared.agents.Link.{Link}
use Rattle.nl_agents.specs.declared.agents.Owner.{Owner}
use Rattle.nl_agents.specs.declared.agents.Owner.TheVariants as owner
use Rattle.nl_agents.proofs.Keyed.{ascend_nil, appended, filtered, keys_stay}
use Rattle.nl_agents.proofs.Finding.{found_before, found_changed, found_kept, found_all, there, there_still}
use Rattle.nl_agents.proofs.FirstValues.{first_turtle, first_heading, first_link, first_patches_are, first_patches_many, zeros_fit}
use Rattle.nl_agents.proofs.Staying.{turtles_stay, link_stays, links_stay, agents_stay, few_stay, agents_changed}
use Rattle.nl_agents.proofs.Ties.{differ_filtered, differ_appended, differ_changed, KeepsTies}
use Rattle.nl_agents.proofs.Vars.{bred_are_vars, bred_under, set_are_vars, set_same, set_other}

-- ---- the first world

pub first_is_world : (layout : Layout) (shape : Plane) → IsWithinLimits shape → IsWorld (first_world layout shape)
first_is_world layout shape h =
    let w = first_world layout shape in
    record {
      shape = h;
      globals = length-replicate layout.globals zero_value;
      run = refl;
      globals_fit = zeros_fit (fits_rest w.rest) layout.globals refl;
      run_fits = refl;
      agents = record {
        turtles = All-nil (IsTurtleOf w.rest);
        turtles_ascend = ascend_nil;
        links = All-nil (IsLinkOf w.rest);
        links_ascend = ascend_nil;
        links_differ = refl;
      };
      patches = record { many = first_patches_many layout shape; vars = first_patches_are w.rest };
      few = record { turtles = omega arith; turtles_given = omega arith; links = omega arith; links_given = omega arith; base = omega arith };
    }

-- ---- births

length_filtered : {X : Type 0} (test : X → Bool) (xs : List X) → length (filter test xs) ≤ length xs
length_filtered test [] = omega arith
length_filtered test (x ∷ xs) =
    let le = length_filtered test xs in
    cond_both (test x) (x ∷ filter test xs) (filter test xs) (λ l. length l ≤ length (x ∷ xs)) (λ _. omega arith) (λ _. omega arith)

-- what a turtle is born with, from a parent or from none
born_with : (r : Rest) (breed : BreedNumber) (parent : Option Turtle) → IfSome parent (IsTurtleOf r)
    → AreVars (fits_rest r) r.layout.some_turtle (turtle_owns r.layout breed) (birth_vars r.layout breed parent) × IfSome (value_in r.layout.some_turtle (birth_vars r.layout breed parent) heading_slot) IsNumber
born_with r breed None h = (first_turtle r breed, first_heading r.layout breed)
born_with r breed (Some t) h = (
  bred_are_vars (fits_rest r) (turtle_owns r.layout t.breed) (turtle_owns r.layout breed) r.layout.some_turtle t.vars refl h.vars,
  bred_under (λ o. IfSome o IsNumber) (turtle_owns r.layout breed) r.layout.some_turtle t.vars heading_slot tt refl h.heading,
)

found_is : (r : Rest) (o : Option Turtle) (serial : ℕ) → turtle_of serial r ≡ o → All (IsTurtleOf r) r.turtles → IfSome o (IsTurtleOf r)
found_is r None serial e h = tt
found_is r (Some t) serial e h = found_all (is_turtle serial) (IsTurtleOf r) r.turtles t h e

parent_is : (r : Rest) (parent : Option ℕ) → All (IsTurtleOf r) r.turtles → IfSome (parent_of parent r) (IsTurtleOf r)
parent_is r None h = tt
parent_is r (Some serial) h = found_is r (turtle_of serial r) serial refl h

lives_before : (serial : ℕ) (turtles : List Turtle) (t : Turtle) → IsSome (find (is_turtle serial) turtles) → IsSome (find (is_turtle serial) (turtles ++ t ∷ []))
lives_before serial turtles t h =
    let at = there (find (is_turtle serial) turtles) h in
    ap is_some (found_before (is_turtle serial) turtles (t ∷ []) at.0 at.1)

pub born_is_world : (breed : BreedNumber) (at : Point) (parent : Option ℕ) (w : World) → IsWorld w → IsTrue (is_turtle_breed w.rest.layout breed) → IsPointOf w.rest.shape at → (AreTurtlesFull w → ⊥) → IsWorld (born breed at parent w)
born_is_world breed at parent w h fits inside room =
    let r = w.rest in
    let t = newborn breed at parent r in
    let turtles = r.turtles ++ t ∷ [] in
    let given = r.turtles_given + 1 in
    let with = born_with r breed (parent_of parent r) (parent_is r parent h.agents.turtles) in
    let few = h.few in
    let fewer : length r.turtles < 200000 = omega (arith, λ (l : 200000 ≤ length r.turtles). room (inl l)) in
    let below : r.turtles_given < 9000000000000 = omega (arith, λ (l : 9000000000000 ≤ r.turtles_given). room (inr l)) in
    let more : length turtles ≡ length r.turtles + 1 = omega (arith, length-append r.turtles (t ∷ [])) in
    agents_changed w turtles r.links given r.links_given r.base h
    (record {
      turtles = All-push (IsTurtleOf (record r { turtles = turtles; turtles_given = given })) r.turtles t
          (turtles_stay r r.run turtles r.patches r.links given r.links_given r.turtles (omega arith) h.agents.turtles)
          (record { given = omega arith; called = few.base; at = inside; breed = fits; vars = with.0; heading = with.1 });
      turtles_ascend = appended (λ (x : Turtle). x.serial) r.turtles t h.agents.turtles_ascend
          (All-weaker (IsTurtleOf r) (λ x. x.serial < r.turtles_given) (λ x a. a.given) r.turtles h.agents.turtles);
      links = links_stay r r.run turtles r.patches r.links given r.links_given r.links (λ serial a. lives_before serial r.turtles t a) (omega arith) h.agents.links;
      links_ascend = h.agents.links_ascend;
      links_differ = h.agents.links_differ;
    })
    (record { turtles = omega arith; turtles_given = omega arith; links = few.links; links_given = few.links_given; base = let a = few.base in omega arith })

-- ---- deaths

-- a turtle that isn't the dead one lives on
lives_on : (dead serial : ℕ) (turtles : List Turtle) → (serial == dead) ≡ false → IsSome (find (is_turtle serial) turtles) → IsSome (find (is_turtle serial) (filter (λ t. not (is_turtle dead t)) turtles))
lives_on dead serial turtles other h =
    ap is_some
    (found_kept (is_turtle serial) (λ t. not (is_turtle dead t))
    (λ t e. not_from_false (is_turtle dead t) (ne_eqb t.serial dead (λ q. eqb-false serial dead other (sym (eqb-true t.serial serial e) ∙ q))))
    turtles)
    ∙ h

link_left : (dead : ℕ) (r : Rest) (links : List Link) (l : Link) → not (has_end dead l) ≡ true → IsLinkOf r l → IsLinkOf (record r { turtles = filter (λ t. not (is_turtle dead t)) r.turtles; links = links }) l
link_left dead r links l free h =
    let apart = or_parts (l.end1 == dead) (l.end2 == dead) (not-true (has_end dead l) free) in
    link_stays r r.run (filter (λ t. not (is_turtle dead t)) r.turtles) r.patches links r.turtles_given r.links_given l
    (lives_on dead l.end1 r.turtles apart.0 h.first)
    (lives_on dead l.end2 r.turtles apart.1 h.second)
    (omega arith) h

pub killed_is_world : (serial : ℕ) (w : World) → IsWorld w → IsWorld (killed serial w)
killed_is_world serial w h =
    let r = w.rest in
    let turtles = filter (λ t. not (is_turtle serial t)) r.turtles in
    let links = filter (λ l. not (has_end serial l)) r.links in
    let few = h.few in
    let fewer = length_filtered (λ t. not (is_turtle serial t)) r.turtles in
    let fewer_links = length_filtered (λ l. not (has_end serial l)) r.links in
    let kept = All-filter (λ l. not (has_end serial l)) (IsLinkOf r) r.links h.agents.links in
    let free = filter_passes (λ l. not (has_end serial l)) r.links in
    agents_changed w turtles links r.turtles_given r.links_given r.base h
    (record {
      turtles = turtles_stay r r.run turtles r.patches links r.turtles_given r.links_given turtles (omega arith)
          (All-filter (λ t. not (is_turtle serial t)) (IsTurtleOf r) r.turtles h.agents.turtles);
      turtles_ascend = filtered (λ (x : Turtle). x.serial) (λ t. not (is_turtle serial t)) r.turtles h.agents.turtles_ascend;
      links = λ k d l. link_left serial r links (get_or links k d) (free k d l) (kept k d l);
      links_ascend = filtered (λ (x : Link). x.serial) (λ l. not (has_end serial l)) r.links h.agents.links_ascend;
      links_differ = differ_filtered (λ l. not (has_end serial l)) r.links h.agents.links_differ;
    })
    (record { turtles = omega arith; turtles_given = few.turtles_given; links = omega arith; links_given = few.links_given; base = few.base })

pub cut_is_world : (serial : ℕ) (w : World) → IsWorld w → IsWorld (cut serial w)
cut_is_world serial w h =
    let r = w.rest in
    let links = filter (λ l. not (is_link serial l)) r.links in
    let few = h.few in
    let fewer_links = length_filtered (λ l. not (is_link serial l)) r.links in
    agents_changed w r.turtles links r.turtles_given r.links_given r.base h
    (record {
      turtles = turtles_stay r r.run r.turtles r.patches links r.turtles_given r.links_given r.turtles (omega arith) h.agents.turtles;
      turtles_ascend = h.agents.turtles_ascend;
      links = links_stay r r.run r.turtles r.patches links r.turtles_given r.links_given links (λ s a. a) (omega arith)
          (All-filter (λ l. not (is_link serial l)) (IsLinkOf r) r.links h.agents.links);
      links_ascend = filtered (λ (x : Link). x.serial) (λ l. not (is_link serial l)) r.links h.agents.links_ascend;
      links_differ = differ_filtered (λ l. not (is_link serial l)) r.links h.agents.links_differ;
    })
    (record { turtles = few.turtles; turtles_given = few.turtles_given; links = omega arith; links_given = few.links_given; base = few.base })

-- ---- a turtle is changed

-- the change of one turtle, as a change of all
abbrev pub turtle_by : (Turtle → Turtle) → ℕ → Turtle → Turtle
turtle_by change serial t = if is_turtle serial t then change t else t

pub serial_by : (change : Turtle → Turtle) → ((t : Turtle) → (change t).serial ≡ t.serial) → (serial : ℕ) (t : Turtle) → (turtle_by change serial t).serial ≡ t.serial
serial_by change same serial t = cond_both (is_turtle serial t) (change t) t (λ x. x.serial ≡ t.serial) (λ _. same t) (λ _. refl)

-- it lives as before
lives_by : (change : Turtle → Turtle) → ((t : Turtle) → (change t).serial ≡ t.serial) → (changed serial : ℕ) (turtles : List Turtle) → IsSome (find (is_turtle serial) turtles) → IsSome (find (is_turtle serial) (map (turtle_by change changed) turtles))
lives_by change same changed serial turtles h =
    ap is_some (found_changed (is_turtle serial) (turtle_by change changed) (λ t. ap (λ n. n == serial) (serial_by change same changed t)) turtles)
    ∙ there_still (turtle_by change changed) (find (is_turtle serial) turtles)
    ∙ h

turtle_changed_is_world : (change : Turtle → Turtle) (serial : ℕ) (w : World) → IsWorld w → ((t : Turtle) → (change t).serial ≡ t.serial) → ((t : Turtle) → IsTurtleOf w.rest t → IsTurtleOf w.rest (change t))
    → IsWorld (record w { rest = turtle_changed change serial w.rest })
turtle_changed_is_world change serial w h same good =
    let r = w.rest in
    let turtles = map (turtle_by change serial) r.turtles in
    let few = h.few in
    agents_changed w turtles r.links r.turtles_given r.links_given r.base h
    (record {
      turtles = turtles_stay r r.run turtles r.patches r.links r.turtles_given r.links_given turtles (omega arith)
          (All-map (IsTurtleOf r) (turtle_by change serial) r.turtles
          (All-weaker (IsTurtleOf r) (λ t. IsTurtleOf r (turtle_by change serial t))
          (λ t a. cond_both (is_turtle serial t) (change t) t (IsTurtleOf r) (λ _. good t a) (λ _. a)) r.turtles h.agents.turtles));
      turtles_ascend = subst IsStrictlyIncreasing (sym (keys_stay (λ (x : Turtle). x.serial) (turtle_by change serial) (serial_by change same serial) r.turtles)) h.agents.turtles_ascend;
      links = links_stay r r.run turtles r.patches r.links r.turtles_given r.links_given r.links (λ s a. lives_by change same serial s r.turtles a) (omega arith) h.agents.links;
      links_ascend = h.agents.links_ascend;
      links_differ = h.agents.links_differ;
    })
    (record {
      turtles = subst (λ n. n ≤ 200000) (sym (length-map r.turtles (turtle_by change serial))) few.turtles;
      turtles_given = few.turtles_given;
      links = few.links;
      links_given = few.links_given;
      base = few.base;
    })

pub moved_is_world : (serial : ℕ) (to : Point) (w : World) → IsWorld w → IsPointOf w.rest.shape to → IsWorld (moved serial to w)
moved_is_world serial to w h inside =
    turtle_changed_is_world (λ t. record t { at = to }) serial w h (λ t. refl)
    (λ t a. record { given = a.given; called = a.called; at = inside; breed = a.breed; vars = a.vars; heading = a.heading })

pub rebred_is_world : (serial : ℕ) (breed : BreedNumber) (w : World) → IsWorld w → IsTrue (is_turtle_breed w.rest.layout breed) → IsWorld (rebred serial breed w)
rebred_is_world serial breed w h fits =
    let r = w.rest in
    turtle_changed_is_world (λ t. record t { breed = breed; vars = bred_vars r.layout breed t.vars }) serial w h (λ t. refl)
    (λ t a. record {
      given = a.given;
      called = a.called;
      at = a.at;
      breed = fits;
      vars = bred_are_vars (fits_rest r) (turtle_owns r.layout t.breed) (turtle_owns r.layout breed) r.layout.some_turtle t.vars refl a.vars;
      heading = bred_under (λ o. IfSome o IsNumber) (turtle_owns r.layout breed) r.layout.some_turtle t.vars heading_slot tt refl a.heading;
    })

-- ---- links

pub tied_is_world : (breed : BreedNumber) (directed : Bool) (end1 end2 : ℕ) (w : World) → IsWorld w → IsTrue (is_link_breed w.rest.layout breed) → TurtleLives end1 w → TurtleLives end2 w → (end1 == end2) ≡ false
    → list_any (joins breed directed end1 end2) w.rest.links ≡ false → (AreLinksFull w → ⊥) → IsWorld (tied breed directed end1 end2 w)
tied_is_world breed directed end1 end2 w h fits first second apart none room =
    let r = w.rest in
    let l = new_link breed directed end1 end2 r in
    let links = r.links ++ l ∷ [] in
    let given = r.links_given + 1 in
    let few = h.few in
    let fewer : length r.links < 400000 = omega (arith, λ (m : 400000 ≤ length r.links). room (inl m)) in
    let below : r.links_given < 9000000000000 = omega (arith, λ (m : 9000000000000 ≤ r.links_given). room (inr m)) in
    let more : length links ≡ length r.links + 1 = omega (arith, length-append r.links (l ∷ [])) in
    agents_changed w r.turtles links r.turtles_given given r.base h
    (record {
      turtles = turtles_stay r r.run r.turtles r.patches links r.turtles_given given r.turtles (omega arith) h.agents.turtles;
      turtles_ascend = h.agents.turtles_ascend;
      links = All-push (IsLinkOf (record r { links = links; links_given = given })) r.links l
          (links_stay r r.run r.turtles r.patches links r.turtles_given given r.links (λ s a. a) (omega arith) h.agents.links)
          (record { given = omega arith; first = first; second = second; apart = apart; breed = fits; vars = first_link r breed });
      links_ascend = appended (λ (x : Link). x.serial) r.links l h.agents.links_ascend
          (All-weaker (IsLinkOf r) (λ x. x.serial < r.links_given) (λ x a. a.given) r.links h.agents.links);
      links_differ = differ_appended r.links l none h.agents.links_differ;
    })
    (record { turtles = few.turtles; turtles_given = few.turtles_given; links = omega arith; links_given = omega arith; base = few.base })

-- ---- a variable is set

any_set : (value : Plain) (o : Option Plain) → IsNumber value → IfSome (set_entry value o) IsNumber
any_set value None h = tt
any_set value (Some old) h = h

is_set : (slots : Slots) (vars : Vars) (slot : Slot) (value : Plain) (here : Bool) → (slot == heading_slot) ≡ here → (here ≡ true → IsNumber value) → IfSome (value_in slots vars heading_slot) IsNumber
    → IfSome (value_in slots (value_set slots vars slot value) heading_slot) IsNumber
is_set slots vars slot value true e good h =
    let q = eqb-true slot heading_slot e in
    subst (λ n. IfSome (value_in slots (value_set slots vars n value) heading_slot) IsNumber) (sym q)
    (subst (λ o. IfSome o IsNumber) (sym (set_same slots vars heading_slot value)) (any_set value (value_in slots vars heading_slot) (good refl)))
is_set slots vars slot value false e good h =
    subst (λ o. IfSome o IsNumber) (sym (set_other slots vars slot heading_slot value e)) h

abbrev pub link_by : (Link → Link) → ℕ → Link → Link
link_by change serial l = if is_link serial l then change l else l

pub link_serial_by : (change : Link → Link) → ((l : Link) → (change l).serial ≡ l.serial) → (serial : ℕ) (l : Link) → (link_by change serial l).serial ≡ l.serial
link_serial_by change same serial l = cond_both (is_link serial l) (change l) l (λ x. x.serial ≡ l.serial) (λ _. same l) (λ _. refl)

ties_by : (change : Link → Link) (serial : ℕ) → KeepsTies change → KeepsTies (link_by change serial)
ties_by change serial k = record {
  breed = λ l. cond_both (is_link serial l) (change l) l (λ x. x.breed ≡ l.breed) (λ _. k.breed l) (λ _. refl);
  directed = λ l. cond_both (is_link serial l) (change l) l (λ x. x.directed ≡ l.directed) (λ _. k.directed l) (λ _. refl);
  end1 = λ l. cond_both (is_link serial l) (change l) l (λ x. x.end1 ≡ l.end1) (λ _. k.end1 l) (λ _. refl);
  end2 = λ l. cond_both (is_link serial l) (change l) l (λ x. x.end2 ≡ l.end2) (λ _. k.end2 l) (λ _. refl);
}

link_changed_is_world : (change : Link → Link) (serial : ℕ) (w : World) → IsWorld w → ((l : Link) → (change l).serial ≡ l.serial) → KeepsTies change → ((l : Link) → IsLinkOf w.rest l → IsLinkOf w.rest (change l))
    → IsWorld (record w { rest = link_changed change serial w.rest })
link_changed_is_world change serial w h same ties good =
    let r = w.rest in
    let links = map (link_by change serial) r.links in
    let few = h.few in
    agents_changed w r.turtles links r.turtles_given r.links_given r.base h
    (record {
      turtles = turtles_stay r r.run r.turtles r.patches links r.turtles_given r.links_given r.turtles (omega arith) h.agents.turtles;
      turtles_ascend = h.agents.turtles_ascend;
      links = links_stay r r.run r.turtles r.patches links r.turtles_given r.links_given links (λ s a. a) (omega arith)
          (All-map (IsLinkOf r) (link_by change serial) r.links
          (All-weaker (IsLinkOf r) (λ l. IsLinkOf r (link_by change serial l))
          (λ l a. cond_both (is_link serial l) (change l) l (IsLinkOf r) (λ _. good l a) (λ _. a)) r.links h.agents.links));
      links_ascend = subst IsStrictlyIncreasing
          (sym (keys_stay (λ (x : Link). x.serial) (link_by change serial) (link_serial_by change same serial) r.links))
          h.agents.links_ascend;
      links_differ = differ_changed (link_by change serial) (ties_by change serial ties) r.links ∙ h.agents.links_differ;
    })
    (record {
      turtles = few.turtles;
      turtles_given = few.turtles_given;
      links = subst (λ n. n ≤ 400000) (sym (length-map r.links (link_by change serial))) few.links;
      links_given = few.links_given;
      base = few.base;
    })

all_set : {X : Type 0} (test : X → Bool) (xs : List X) (i : ℕ) (x : X) → list_all test xs ≡ true → test x ≡ true → list_all test (slice_set xs i x) ≡ true
all_set test [] i x h e = refl
all_set test (y ∷ ys) zero x h e = and_from (test x) (list_all test ys) e ((and_parts (test y) (list_all test ys) h).1)
all_set test (y ∷ ys) (suc i) x h e =
    let parts = and_parts (test y) (list_all test ys) h in
    and_from (test y) (list_all test (slice_set ys i x)) parts.0 (all_set test ys i x parts.1 e)

global_is_world : (slot : Slot) (value : Plain) (w : World) → IsWorld w → fits_rest w.rest value ≡ true → IsWorld (global_set slot value w)
global_is_world slot value w h fits =
    let r = w.rest in
    let run = slice_set r.run (slot - length w.globals) value in
    cond_both (nat_lt slot (length w.globals)) (record w { globals = slice_set w.globals slot value }) (record w { rest = record r { run = run } }) IsWorld
    (λ _. record {
      shape = h.shape;
      globals = length-set w.globals slot value ∙ h.globals;
      run = h.run;
      globals_fit = all_set (fits_rest r) w.globals slot value h.globals_fit fits;
      run_fits = h.run_fits;
      agents = h.agents;
      patches = h.patches;
      few = h.few;
    })
    (λ _. record {
      shape = h.shape;
      globals = h.globals;
      run = length-set r.run (slot - length w.globals) value ∙ h.run;
      globals_fit = h.globals_fit;
      run_fits = all_set (fits_rest r) r.run (slot - length w.globals) value h.run_fits fits;
      agents = agents_stay r run r.patches h.agents;
      patches = record { many = h.patches.many; vars = h.patches.vars };
      few = few_stay r run r.patches h.few;
    })

-- one patch is changed
length_changed : (change : Vars → Vars) (patch : ℕ) (patches : List Vars) → length (changed_at change patch patches) ≡ length patches
length_changed change patch [] = refl
length_changed change zero (p ∷ ps) = refl
length_changed change (suc n) (p ∷ ps) = ap suc (length_changed change n ps)

all_changed : (P : Vars → Type 0) (change : Vars → Vars) (patch : ℕ) (patches : List Vars) → ((vars : Vars) → P vars → P (change vars)) → All P patches → All P (changed_at change patch patches)
all_changed P change patch [] good h = h
all_changed P change zero (p ∷ ps) good h = All-cons P (change p) ps (good p (All-head P p ps h)) (All-tail P p ps h)
all_changed P change (suc n) (p ∷ ps) good h = All-cons P p (changed_at change n ps) (All-head P p ps h) (all_changed P change n ps good (All-tail P p ps h))

patches_are_world : (patches : List Vars) (w : World) → IsWorld w → length patches ≡ length w.rest.patches → All (ArePatchVars w.rest) patches → IsWorld (record w { rest = record w.rest { patches = patches } })
patches_are_world patches w h many vars = record {
  shape = h.shape;
  globals = h.globals;
  run = h.run;
  globals_fit = h.globals_fit;
  run_fits = h.run_fits;
  agents = agents_stay w.rest w.rest.run patches h.agents;
  patches = record { many = many ∙ h.patches.many; vars = vars };
  few = few_stay w.rest w.rest.run patches h.few;
}

pub revalued_is_world : (whose : Owner) (slot : Slot) (value : Plain) (w : World) → IsWorld w → MayHold w.rest whose slot value → IsWorld (revalued whose slot value w)
revalued_is_world owner.Observer slot value w h may = global_is_world slot value w h may.0
revalued_is_world (owner.Turtle serial) slot value w h may =
    let r = w.rest in
    turtle_changed_is_world (λ t. record t { vars = value_set r.layout.some_turtle t.vars slot value }) serial w h (λ t. refl)
    (λ t a. record {
      given = a.given;
      called = a.called;
      at = a.at;
      breed = a.breed;
      vars = set_are_vars (fits_rest r) (turtle_owns r.layout t.breed) r.layout.some_turtle t.vars slot value may.0 a.vars;
      heading = is_set r.layout.some_turtle t.vars slot value (slot == heading_slot) refl may.1 a.heading;
    })
revalued_is_world (owner.Patch patch) slot value w h may =
    let r = w.rest in
    let change : Vars → Vars = λ vars. value_set r.layout.every_patch vars slot value in
    patches_are_world (changed_at change patch r.patches) w h (length_changed change patch r.patches)
    (all_changed (ArePatchVars r) change patch r.patches (λ vars a. set_are_vars (fits_rest r) (λ s. true) r.layout.every_patch vars slot value may.0 a) h.patches.vars)
revalued_is_world (owner.Link serial) slot value w h may =
    let r = w.rest in
    link_changed_is_world (λ l. record l { vars = value_set r.layout.some_link l.vars slot value }) serial w h (λ l. refl)
    (record { breed = λ l. refl; directed = λ l. refl; end1 = λ l. refl; end2 = λ l. refl })
    (λ l a. record {
      given = a.given;
      first = a.first;
      second = a.second;
      apart = a.apart;
      breed = a.breed;
      vars = set_are_vars (fits_rest r) (link_owns r.layout l.breed) r.layout.some_link l.vars slot value may.0 a.vars;
    })

-- ---- clears

pub turtles_cleared_is_world : (w : World) → IsWorld w → IsWorld (turtles_cleared w)
turtles_cleared_is_world w h =
    let r = w.rest in
    let few = h.few in
    let after = record r { turtles = []; links = []; base = r.turtles_given } in
    agents_changed w [] [] r.turtles_given r.links_given r.turtles_given h
    (record {
      turtles = All-nil (IsTurtleOf after);
      turtles_ascend = ascend_nil;
      links = All-nil (IsLinkOf after);
      links_ascend = ascend_nil;
      links_differ = refl;
    })
    (record { turtles = omega arith; turtles_given = few.turtles_given; links = omega arith; links_given = few.links_given; base = omega arith })

pub links_cleared_is_world : (w : World) → IsWorld w → IsWorld (links_cleared w)
links_cleared_is_world w h =
    let r = w.rest in
    let few = h.few in
    agents_changed w r.turtles [] r.turtles_given r.links_given r.base h
    (record {
      turtles = turtles_stay r r.run r.turtles r.patches [] r.turtles_given r.links_given r.turtles (omega arith) h.agents.turtles;
      turtles_ascend = h.agents.turtles_ascend;
      links = All-nil (IsLinkOf (record r { links = [] }));
      links_ascend = ascend_nil;
      links_differ = refl;
    })
    (record { turtles = few.turtles; turtles_given = few.turtles_given; links = omega arith; links_given = few.links_given; base = few.base })

pub patches_cleared_is_world : (w : World) → IsWorld w → IsWorld (patches_cleared w)
patches_cleared_is_world w h =
    let r = w.rest in
    patches_are_world (first_patches r.layout r.shape) w h (first_patches_many r.layout r.shape ∙ sym h.patches.many) (first_patches_are r)

cleared_length : (coded : Slots) (slot : Slot) (values : List Plain) → length (cleared_from coded slot values) ≡ length values
cleared_length coded slot [] = refl
cleared_length coded slot (v ∷ vs) = ap suc (cleared_length coded (slot + 1) vs)

cleared_fit : (fits : Plain → Bool) (coded : Slots) (slot : Slot) (values : List Plain) → fits zero_value ≡ true → list_all fits values ≡ true → list_all fits (cleared_from coded slot values) ≡ true
cleared_fit fits coded slot [] good h = h
cleared_fit fits coded slot (v ∷ vs) good h =
    let parts = and_parts (fits v) (list_all fits vs) h in
    and_from (fits (cond (has_slot coded slot) zero_value v)) (list_all fits (cleared_from coded (slot + 1) vs))
    (cond_both (has_slot coded slot) zero_value v (λ x. fits x ≡ true) (λ _. good) (λ _. parts.0))
    (cleared_fit fits coded (slot + 1) vs good parts.1)

pub globals_cleared_is_world : (w : World) → IsWorld w → IsWorld (globals_cleared w)
globals_cleared_is_world w h =
    let coded = w.rest.layout.coded in
    record {
      shape = h.shape;
      globals = cleared_length coded 0 w.globals ∙ h.globals;
      run = h.run;
      globals_fit = cleared_fit (fits_rest w.rest) coded 0 w.globals refl h.globals_fit;
      run_fits = h.run_fits;
      agents = h.agents;
      patches = h.patches;
      few = h.few;
    }
