-- A link to one target.
use Rattle.std.specs.Prelude.{◌≡◌, ℕ, ◌==◌, Bool, true, false, ◌&&◌, ◌||◌, not, if◌then◌else◌, [], ◌∷◌, length, Result, Err}
use Rattle.std.specs.List.{list_any, range_with_len}
use Rattle.std.specs.Result.{IsErrAnd}
use Rattle.std.proofs.Common.{arith, ap, ap₂, ◌∙◌, refl, subst, sym}
use Rattle.std.proofs.lemmas.Result.{err_from_is_err_and}
use Rattle.nl_value.specs.Nouns.{Serials}
use Rattle.nl_agents_layout.specs.Nouns.{BreedNumber}
use Rattle.nl_agents.specs.World.{World}
use Rattle.nl_agents.specs.Changes.{AreLinksFull, tied}
use Rattle.nl_agents.specs.Members.{is_listed}
use Rattle.nl_agents.specs.declared.refusals.TieFail.{TieFail}
use Rattle.nl_agents.specs.declared.refusals.TieFail.TheVariants as tie
use Rattle.nl_birth.specs.declared.failing.BirthFail.{BirthFail}
use Rattle.nl_birth.specs.declared.way.Way.{Way}
use Rattle.nl_birth.specs.Links.{first_end, first_ties, has_direction, is_joined, is_none, is_of_other_kind, link_room, linked, linkings, links_made, second_end, tied_to, tied_to_all, wanted}
use Rattle.nl_birth.specs.Outcomes.{IsMade, IsOutcomeOfOne, BirthOutcome, Filled, Refused, fail_of_tie}
use Rattle.nl_birth.specs.Keeping.{Keeps}
use Rattle.nl_birth.proofs.Counting.{all_filled, all_made}
use Rattle.nl_birth.proofs.Keeping.{links_keep}
use Rattle.nl_birth.proofs.Tied.{links_append}
use Rattle.nl_birth.proofs.Tying.{IsMoreLinked, more_link_room, no_link_room}

no_or : (a : Bool) → a ≡ false → (a || false) ≡ false
no_or true h = h
no_or false h = refl

no_more : (w : World) → IsMoreLinked w w 0
no_more w = record { layout = refl; turtles = refl; many = omega arith; given = omega arith }

module _ (way : Way) (breed : BreedNumber) (caller target : ℕ) (w : World) (apart : (target == caller) ≡ false) where
  -- what becomes of it where these are wanted
  abbrev linked_to : Serials → BirthOutcome World
  linked_to ws =
      if is_listed (target ∷ []) caller || ((breed == 0) && not (is_none ws) && list_any (is_of_other_kind (has_direction way)) w.rest.links)
      then Refused w
      else links_made (first_ties way breed caller ws w) w (length ws)

  listed_not : is_listed (target ∷ []) caller ≡ false
  listed_not = no_or (target == caller) apart

  pub joined_already : is_joined way breed caller w target ≡ true → IsMade (linked way breed caller (target ∷ []) w) w
  unfolding tied_to_all
  joined_already joined = ([], ap linked_to none ∙ refused (is_listed (target ∷ []) caller) (breed == 0) listed_not ∙ all_made (first_ties way breed caller [] w) (link_room w) w.rest.links_given 0 (omega arith))
    where
      none : wanted way breed caller (target ∷ []) w ≡ []
      none = ap (λ b. if not b then target ∷ [] else []) joined

      refused : (a b : Bool) → a ≡ false
          → (if a || (b && false && list_any (is_of_other_kind (has_direction way)) w.rest.links) then Refused w else links_made (first_ties way breed caller [] w) w 0) ≡ links_made (first_ties way breed caller [] w) w 0
      refused true b h = absurd (cc)
      refused false true h = refl
      refused false false h = refl

  only_wanted : is_joined way breed caller w target ≡ false → wanted way breed caller (target ∷ []) w ≡ target ∷ []
  only_wanted free = ap (λ b. if not b then target ∷ [] else []) free

  pub barred : is_joined way breed caller w target ≡ false → ((breed == 0) && list_any (is_of_other_kind (has_direction way)) w.rest.links) ≡ true
      → linked way breed caller (target ∷ []) w ≡ Refused w
  barred free other = ap linked_to (only_wanted free) ∙ refused (is_listed (target ∷ []) caller) (breed == 0) (list_any (is_of_other_kind (has_direction way)) w.rest.links) other
    where
      refused : (a b k : Bool) → (b && k) ≡ true
          → (if a || (b && true && k) then Refused w else links_made (first_ties way breed caller (target ∷ []) w) w 1) ≡ Refused w
      refused true b k e = refl
      refused false true true e = refl
      refused false true false e = absurd (cc)
      refused false false k e = absurd (cc)

  allowed_one : is_joined way breed caller w target ≡ false → ((breed == 0) && list_any (is_of_other_kind (has_direction way)) w.rest.links) ≡ false
      → linked way breed caller (target ∷ []) w ≡ links_made (first_ties way breed caller (target ∷ []) w) w 1
  allowed_one free allowed =
      ap linked_to (only_wanted free)
      ∙ refused (is_listed (target ∷ []) caller) (breed == 0) (list_any (is_of_other_kind (has_direction way)) w.rest.links) listed_not allowed
    where
      refused : (a b k : Bool) → a ≡ false → (b && k) ≡ false
          → (if a || (b && true && k) then Refused w else links_made (first_ties way breed caller (target ∷ []) w) w 1) ≡ links_made (first_ties way breed caller (target ∷ []) w) w 1
      refused true b k h e = absurd (cc)
      refused false true true h e = absurd (cc)
      refused false true false h e = refl
      refused false false k h e = refl

  pub made_one : is_joined way breed caller w target ≡ false → ((breed == 0) && list_any (is_of_other_kind (has_direction way)) w.rest.links) ≡ false → (AreLinksFull w → ⊥)
      → IsMade (linked way breed caller (target ∷ []) w) (tied_to way breed caller target w)
  unfolding tied_to_all
  made_one free allowed room = (
    range_with_len w.rest.links_given 1,
    allowed_one free allowed
        ∙ all_made (first_ties way breed caller (target ∷ []) w) (link_room w) w.rest.links_given 1 (more_link_room w w 0 (no_more w) room),
  )

  pub full_for_one : is_joined way breed caller w target ≡ false → ((breed == 0) && list_any (is_of_other_kind (has_direction way)) w.rest.links) ≡ false → AreLinksFull w
      → linked way breed caller (target ∷ []) w ≡ Filled w
  unfolding tied_to_all
  full_for_one free allowed full =
      allowed_one free allowed
      ∙ all_filled (first_ties way breed caller (target ∷ []) w) (link_room w) w.rest.links_given 1 0 (omega arith) (no_link_room w w 0 (no_more w) full) (omega arith)

-- a turtle isn't linked with itself
pub to_itself : (way : Way) (breed : BreedNumber) (caller target : ℕ) (w : World) → (target == caller) ≡ true → linked way breed caller (target ∷ []) w ≡ Refused w
to_itself way breed caller target w itself =
    ap (λ b. if (b || false) || ((breed == 0) && not (is_none (wanted way breed caller (target ∷ []) w)) && list_any (is_of_other_kind (has_direction way)) w.rest.links)
    then Refused w
    else links_made (linkings way breed caller (target ∷ []) w) w (length (wanted way breed caller (target ∷ []) w))) itself

-- it ends as this refusal says
pub one_ends : {X : Type 0} (outcome : BirthOutcome X) (now : X) (r : Result (Unit {0}) BirthFail) (fail : BirthFail) → IsErrAnd r (λ mine. mine ≡ fail) → IsOutcomeOfOne outcome (Err fail) now
    → IsOutcomeOfOne outcome r now
one_ends outcome now r fail e h =
    let p = err_from_is_err_and r e in
    subst (λ x. IsOutcomeOfOne outcome x now) (sym (p.1 ∙ ap Err p.2)) h

-- where a store refuses it, the store is full, or memory was refused
pub store_refuses : {X : Type 0} (outcome : BirthOutcome X) (now : X) (fail : TieFail) → (fail ≡ tie.Full → outcome ≡ Filled now) → IsOutcomeOfOne outcome (Err (fail_of_tie fail)) now
store_refuses outcome now tie.Full h = h refl
store_refuses outcome now tie.NoMemory h = tt

-- a link that was made leaves all that there was
pub one_keeps : (way : Way) (breed : BreedNumber) (caller target : ℕ) (w : World) → Keeps w (tied_to way breed caller target w)
unfolding tied_to_all
one_keeps way breed caller target w = links_keep way breed caller (target ∷ []) w (tied_to way breed caller target w) (links_append way breed caller (target ∷ []) w)

-- a link that was made with these ends is that to the target
pub as_told : (way : Way) (breed : BreedNumber) (caller target : ℕ) (w now : World) (directed : Bool) (end1 end2 : ℕ) → now ≡ tied breed directed end1 end2 w → directed ≡ has_direction way
    → end1 ≡ first_end way caller target → end2 ≡ second_end way caller target → now ≡ tied_to way breed caller target w
as_told way breed caller target w now directed end1 end2 is d one two =
    is ∙ ap (λ x. tied breed x end1 end2 w) d ∙ ap₂ (λ x y. tied breed (has_direction way) x y w) one two
