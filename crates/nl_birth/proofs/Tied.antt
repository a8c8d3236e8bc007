-- Links are appended and nothing else is changed, and making them again makes none.
use Rattle.std.specs.Prelude.{◌≡◌, ◌↔◌, ℕ, suc, ◌+◌, ◌<◌, ◌≤◌, ◌==◌, Bool, true, false, ◌&&◌, ◌||◌, not, cond, List, [], ◌∷◌, ◌++◌, filter, length, min, max, nat_le}
use Rattle.std.specs.List.{list_any, range_with_len}
use Rattle.std.proofs.Common.{arith, ap, ap₂, ◌∙◌, sym, refl, subst, inl, inr, ⊎_elim}
use Rattle.std.proofs.lemmas.Bool.{cond_both, cond-true, cond-false, or_parts, or_left, or_right, or_cases, eq-eqb, eqb-true, le-leb, false≢true, not_from_true, not_from_false, cases_lt}
use Rattle.std.proofs.lemmas.List.{append_assoc, take_all}
use Rattle.std.proofs.lemmas.List.Elements.{All-nil, All-cons}
use Rattle.std.proofs.lemmas.List.Folds.{list_any-append}
use Rattle.nl_value.specs.Nouns.{Serials}
use Rattle.nl_agents_layout.specs.Nouns.{BreedNumber}
use Rattle.nl_agents.specs.World.{Rest, World}
use Rattle.nl_agents.specs.Changes.{AreLinksFull, joins, new_link}
use Rattle.nl_agents.specs.Members.{is_listed}
use Rattle.nl_agents.specs.declared.agents.Link.{Link}
use Rattle.nl_agents_layout.proofs.Ascending.{has_filter}
use Rattle.nl_birth.specs.declared.way.Way.{Way}
use Rattle.nl_birth.specs.Links.{has_direction, first_end, second_end, is_joined, wanted, tied_to, tied_to_all, first_ties, link_room, is_none, is_of_other_kind, is_refused, linkings, linked}
use Rattle.nl_birth.specs.Outcomes.{BirthOutcome, Made, Filled, Refused, outcome_of}
use Rattle.nl_birth.specs.Laws.{HasMoreLinks}
use Rattle.nl_birth.proofs.Tying.{IsMoreLinked, tied_more, no_link_room}

pub links_append : (way : Way) (breed : BreedNumber) (caller : ℕ) (ts : Serials) (w : World) → HasMoreLinks way breed caller ts w (tied_to_all way breed caller ts w)
unfolding tied_to_all
links_append way breed caller [] w = record {
  new = [];
  serials = refl;
  breeds = All-nil (λ (l : Link). l.breed ≡ breed);
  directions = All-nil (λ (l : Link). l.directed ≡ has_direction way);
  firsts = refl;
  seconds = refl;
  rest = ap₂ (λ ls n. record w { rest = record w.rest { links = ls; links_given = n } }) (nothing_more w.rest.links) nothing_given;
}
  where
    nothing_more : (ls : List Link) → ls ≡ ls ++ []
    nothing_more [] = refl
    nothing_more (l ∷ ls) = ap (λ us. l ∷ us) (nothing_more ls)

    nothing_given : w.rest.links_given ≡ w.rest.links_given + 0
    nothing_given = omega arith
links_append way breed caller (t ∷ ts) w =
    let new = new_link breed (has_direction way) (first_end way caller t) (second_end way caller t) w.rest in
    let h = links_append way breed caller ts (tied_to way breed caller t w) in
    record {
      new = new ∷ h.new;
      serials = ap (λ ns. w.rest.links_given ∷ ns) h.serials;
      breeds = All-cons (λ (l : Link). l.breed ≡ breed) new h.new refl h.breeds;
      directions = All-cons (λ (l : Link). l.directed ≡ has_direction way) new h.new refl h.directions;
      firsts = ap (λ ns. first_end way caller t ∷ ns) h.firsts;
      seconds = ap (λ ns. second_end way caller t ∷ ns) h.seconds;
      rest = h.rest ∙ ap₂ (λ ls n. record w { rest = record w.rest { links = ls; links_given = n } }) (append_assoc w.rest.links (new ∷ []) h.new) (counted (length ts));
    }
  where
    counted : (n : ℕ) → (w.rest.links_given + 1) + n ≡ w.rest.links_given + suc n
    counted n = omega arith

pub lower_first : (c t : ℕ) → (c ≡ t → ⊥) → min c t < max c t
lower_first c t h = omega arith

-- ---- again

self_ends : (way : Way) (breed : BreedNumber) (c t : ℕ) (r : Rest)
    → joins breed (has_direction way) (first_end way c t) (second_end way c t) (new_link breed (has_direction way) (first_end way c t) (second_end way c t) r) ≡ true
self_ends way breed c t r =
    let one = first_end way c t in
    let two = second_end way c t in
    let b = eq-eqb breed breed refl in
    let p = eq-eqb one one refl in
    let q = eq-eqb two two refl in
    all_hold (breed == breed) (has_direction way) (one == one) (two == two) ((not (has_direction way) && (one == two)) && (two == one)) b p q
  where
    all_hold : (b d p q o : Bool) → b ≡ true → p ≡ true → q ≡ true → ((b && cond d d (not d)) && ((p && q) || o)) ≡ true
    all_hold true true true true o e f g = refl
    all_hold true false true true o e f g = refl
    all_hold false d p q o e f g = absurd (false≢true e)
    all_hold true d false q o e f g = absurd (false≢true f)
    all_hold true d true false o e f g = absurd (false≢true g)

still_joined : (way : Way) (breed : BreedNumber) (c t : ℕ) (us : List ℕ) (w : World) → is_joined way breed c w t ≡ true → is_joined way breed c (tied_to_all way breed c us w) t ≡ true
unfolding tied_to_all
still_joined way breed c t [] w h = h
still_joined way breed c t (u ∷ us) w h =
    let test = joins breed (has_direction way) (first_end way c t) (second_end way c t) in
    let new = new_link breed (has_direction way) (first_end way c u) (second_end way c u) w.rest in
    still_joined way breed c t us (tied_to way breed c u w) (list_any-append test w.rest.links (new ∷ []) ∙ or_left (list_any test w.rest.links) (test new || false) h)

now_joined : (way : Way) (breed : BreedNumber) (c t : ℕ) (us : List ℕ) (w : World) → is_listed us t ≡ true → is_joined way breed c (tied_to_all way breed c us w) t ≡ true
unfolding tied_to_all
now_joined way breed c t [] w h = absurd (false≢true h)
now_joined way breed c t (u ∷ us) w h =
    let test = joins breed (has_direction way) (first_end way c t) (second_end way c t) in
    let new = new_link breed (has_direction way) (first_end way c u) (second_end way c u) w.rest in
    ⊎_elim
    (λ e. let same : u ≡ t = eqb-true u t e in
    let here : test new ≡ true = subst (λ v. test (new_link breed (has_direction way) (first_end way c v) (second_end way c v) w.rest) ≡ true) (sym same) (self_ends way breed c t w.rest) in
    still_joined way breed c t us (tied_to way breed c u w) (list_any-append test w.rest.links (new ∷ []) ∙ or_right (list_any test w.rest.links) (test new || false) (or_left (test new) false here)))
    (λ e. now_joined way breed c t us (tied_to way breed c u w) e)
    (or_cases (u == t) (is_listed us t) h)

none_left : (test : ℕ → Bool) (ts : List ℕ) → ((t : ℕ) → is_listed ts t ≡ true → test t ≡ true) → filter (λ t. not (test t)) ts ≡ []
none_left test [] h = refl
none_left test (t ∷ ts) h =
    cond-false (not (test t)) (t ∷ filter (λ u. not (test u)) ts) (filter (λ u. not (test u)) ts) (not_from_true (test t) (h t (or_left (t == t) (is_listed ts t) (eq-eqb t t refl))))
    ∙ none_left test ts (λ u e. h u (or_right (t == u) (is_listed ts u) e))

-- after all that were wanted no target is wanted
pub none_wanted : (way : Way) (breed : BreedNumber) (c : ℕ) (targets : Serials) (w : World) → wanted way breed c targets (tied_to_all way breed c (wanted way breed c targets w) w) ≡ []
none_wanted way breed c targets w =
    let ws = wanted way breed c targets w in
    none_left (is_joined way breed c (tied_to_all way breed c ws w)) targets
    (λ t e. joined_either t e (is_joined way breed c w t) refl)
  where
    joined_either : (t : ℕ) → is_listed targets t ≡ true → (b : Bool) → is_joined way breed c w t ≡ b → is_joined way breed c (tied_to_all way breed c (wanted way breed c targets w) w) t ≡ true
    joined_either t e true j = still_joined way breed c t (wanted way breed c targets w) w j
    joined_either t e false j =
        now_joined way breed c t (wanted way breed c targets w) w
        (has_filter (λ u. not (is_joined way breed c w u)) targets t ∙ ap₂ (λ x y. x && y) e (not_from_false (is_joined way breed c w t) j))

made_is : {X : Type 0} (after : ℕ → X) (room first count : ℕ) (made : Serials) (now : X) → outcome_of after room first count ≡ Made made now → now ≡ after count
made_is after room first count made now e =
    cond_both (nat_le count room) (Made (range_with_len first count) (after count)) (Filled (after room)) (λ o. o ≡ Made made now → now ≡ after count) (λ _ q. cc) (λ _ q. cc) e

not_refused : {X : Type 0} (refused : Bool) (w : X) (o : BirthOutcome X) (made : Serials) (now : X) → cond refused (Refused w) o ≡ Made made now → (refused ≡ false) × (o ≡ Made made now)
not_refused true w o made now e = cc
not_refused false w o made now e = (refl, e)

no_fault : (b s other : Bool) (ws : Serials) → s ≡ false → ws ≡ [] → (s || (b && not (is_none ws) && other)) ≡ false
no_fault b s other ws p q = ap₂ (λ x us. x || (b && not (is_none us) && other)) p q ∙ no_third b other
  where
    no_third : (b other : Bool) → ((b && false) && other) ≡ false
    no_third true other = refl
    no_third false other = refl

pub made_twice : (way : Way) (breed : BreedNumber) (c : ℕ) (targets made : Serials) (w now : World) → linked way breed c targets w ≡ Made made now → linked way breed c targets now ≡ Made [] now
unfolding tied_to_all
made_twice way breed c targets made w now e =
    let ws = wanted way breed c targets w in
    let free = not_refused (is_refused way breed c targets w) w (outcome_of (linkings way breed c targets w) (link_room w) w.rest.links_given (length ws)) made now e in
    let after = made_is (linkings way breed c targets w) (link_room w) w.rest.links_given (length ws) made now free.1 ∙ ap (λ ts. tied_to_all way breed c ts w) (take_all (length ws) ws (omega arith)) in
    let none : wanted way breed c targets now ≡ [] = ap (wanted way breed c targets) after ∙ none_wanted way breed c targets w in
    let listed = (or_parts (is_listed targets c) ((breed == 0) && not (is_none ws) && list_any (is_of_other_kind (has_direction way)) w.rest.links) free.0).0 in
    let refused = no_fault (breed == 0) (is_listed targets c) (list_any (is_of_other_kind (has_direction way)) now.rest.links) (wanted way breed c targets now) listed none in
    let finish : Serials → BirthOutcome World = λ us. outcome_of (first_ties way breed c us now) (link_room now) now.rest.links_given (length us) in
    cond-false (is_refused way breed c targets now) (Refused now) (finish (wanted way breed c targets now)) refused
    ∙ ap finish none
    ∙ cond-true (nat_le 0 (link_room now)) (Made [] now) (Filled (first_ties way breed c [] now (link_room now))) (le-leb 0 (link_room now) (omega arith))

-- ---- room

pub link_room_ends : (way : Way) (breed : BreedNumber) (c : ℕ) (ts : Serials) (w : World) → AreLinksFull (tied_to_all way breed c ts w) ↔ (link_room w ≤ length ts)
link_room_ends way breed c ts w =
    let now = tied_to_all way breed c ts w in
    let more = tied_more way breed c ts w in
    (no_link_room w now (length ts) more, λ l. full_links w now (length ts) more l)
  where
    full_links : (w now : World) (k : ℕ) → IsMoreLinked w now k → link_room w ≤ k → AreLinksFull now
    full_links w now k h l =
        let many = h.many in
        let given = h.given in
        ⊎_elim
        (λ a. ⊎_elim (λ b. absurd (omega (arith, many, given, a, b, l))) (λ b. inr b) (cases_lt now.rest.links_given 9000000000000))
        (λ a. inl a) (cases_lt (length now.rest.links) 400000)
