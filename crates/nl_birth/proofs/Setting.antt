-- A variable that a turtle doesn't own is set to nothing, and a turtle lives on when one is set.
use Rattle.std.specs.Prelude.{◌≡◌, ℕ, ◌==◌, ◌++◌, Bool, true, false, List, [], ◌∷◌, map, find, Option, Some, None, is_some, Result, Ok, Err, OnOk, OnErr, IsErr}
use Rattle.std.proofs.Common.{arith, ap, ap₂, ◌∙◌, sym, refl, subst}
use Rattle.std.proofs.lemmas.Bool.{cond_both, cond-true, cond-false, eqb-true, eq-eqb}
use Rattle.std.proofs.lemmas.Option.{none-some, same_Some}
use Rattle.nl_value.specs.Plain.{Plain}
use Rattle.nl_grid.specs.declared.point.Point.{Point}
use Rattle.nl_agents_layout.specs.Nouns.{Slot, Slots, BreedNumber}
use Rattle.nl_agents.specs.Nouns.{Vars}
use Rattle.nl_agents_layout.specs.Layouts.{turtle_owns}
use Rattle.nl_agents.specs.World.{World}
use Rattle.nl_agents.specs.Changes.{is_turtle, turtle_of, TurtleLives, in_turtle, value_in, value_set, set_entry, value_of, revalued, born, newborn}
use Rattle.nl_agents.specs.Standing.{IsWorld, IsTurtleOf}
use Rattle.nl_agents.specs.declared.agents.Turtle.{Turtle}
use Rattle.nl_agents.specs.declared.agents.Owner.TheVariants as owner
use Rattle.nl_agents.proofs.Keyed.{Ascend, ascend_tail, map_none, not_found, before}
use Rattle.nl_agents.proofs.Finding.{found_before, found_changed, found_all, there, there_still}
use Rattle.nl_agents.proofs.Worlds.{turtle_by, serial_by}

-- ---- entries

entry_stays : (owned : Bool) (value : Plain) (v : Option Plain) → is_some v ≡ owned → owned ≡ false → set_entry value v ≡ v
entry_stays owned value None o h = refl
entry_stays owned value (Some old) o h = cc

-- a variable that isn't owned has no entry
set_unowned : (owns : Slot → Bool) (slots : Slots) (vars : Vars) (slot : Slot) (value : Plain) → map is_some vars ≡ map owns slots → owns slot ≡ false → value_set slots vars slot value ≡ vars
set_unowned owns [] vars slot value o h = refl
set_unowned owns (s ∷ ss) [] slot value o h = refl
set_unowned owns (s ∷ ss) (v ∷ vs) slot value o h =
    let head : is_some v ≡ owns s = cc in
    let tail : map is_some vs ≡ map owns ss = cc in
    ap₂ (λ x xs. x ∷ xs)
    (cond_both (s == slot) (set_entry value v) v (λ x. x ≡ v) (λ t. entry_stays (owns s) value v head (ap owns (eqb-true s slot t) ∙ h)) (λ _. refl))
    (set_unowned owns ss vs slot value tail h)

some_owned : (v : Option Plain) (owned : Bool) → is_some v ≡ owned → owned ≡ true → v ≡ None → ⊥
some_owned None owned o h e = cc
some_owned (Some x) owned o h e = cc

-- one that has no value isn't owned, or has no slot
set_valueless : (owns : Slot → Bool) (slots : Slots) (vars : Vars) (slot : Slot) (value : Plain) (owned : Bool) → owns slot ≡ owned → map is_some vars ≡ map owns slots → value_in slots vars slot ≡ None
    → value_set slots vars slot value ≡ vars
set_valueless owns slots vars slot value false w o h = set_unowned owns slots vars slot value o w
set_valueless owns [] vars slot value true w o h = refl
set_valueless owns (s ∷ ss) [] slot value true w o h = refl
set_valueless owns (s ∷ ss) (v ∷ vs) slot value true w o h =
    let head : is_some v ≡ owns s = cc in
    let tail : map is_some vs ≡ map owns ss = cc in
    cond_both (s == slot) v (value_in ss vs slot) (λ x. x ≡ None → value_set (s ∷ ss) (v ∷ vs) slot value ≡ v ∷ vs)
    (λ t e. absurd (some_owned v (owns s) head (ap owns (eqb-true s slot t) ∙ w) e))
    (λ t e. ap₂ (λ x xs. x ∷ xs) (cond-false (s == slot) (set_entry value v) v t) (set_valueless owns ss vs slot value true w tail e))
    h

-- ---- turtles

module _ (change : Turtle → Turtle) where
  -- a change that leaves the turtle of a serial leaves all
  map_same : (serial : ℕ) (ts : List Turtle) (t : Turtle) → Ascend (λ x. x.serial) ts → find (is_turtle serial) ts ≡ Some t → change t ≡ t → map (turtle_by change serial) ts ≡ ts
  map_same serial [] t up e h = absurd (none-some t e)
  map_same serial (x ∷ xs) t up e h =
      cond_both (is_turtle serial x) (Some x) (find (is_turtle serial) xs) (λ o. o ≡ Some t → map (turtle_by change serial) (x ∷ xs) ≡ x ∷ xs)
      (λ p q. ap₂ (λ y ys. y ∷ ys)
      (cond-true (is_turtle serial x) (change x) x p ∙ subst (λ y. change y ≡ y) (sym (same_Some x t q)) h)
      (map_none (λ y. y.serial) change xs serial (none_later serial x xs up p)))
      (λ p q. ap₂ (λ y ys. y ∷ ys) (cond-false (is_turtle serial x) (change x) x p) (map_same serial xs t (ascend_tail x.serial (map (λ y. y.serial) xs) up) q h))
      e
    where
      none_later : (serial : ℕ) (x : Turtle) (xs : List Turtle) → Ascend (λ y. y.serial) (x ∷ xs) → is_turtle serial x ≡ true → find (is_turtle serial) xs ≡ None
      none_later serial x xs up p =
          not_found (λ (y : Turtle). y.serial) xs serial
          (λ i y e q. let l = before (λ (z : Turtle). z.serial) x xs i y up e in let s = eqb-true x.serial serial p in omega (arith, l, s, q))

pub unowned_stays : (w : World) (turtle : ℕ) (slot : Slot) (value : Plain) → IsWorld w → TurtleLives turtle w → value_of (owner.Turtle turtle) slot w ≡ None → revalued (owner.Turtle turtle) slot value w ≡ w
unowned_stays w turtle slot value h lives none =
    let r = w.rest in
    let at = there (turtle_of turtle r) lives in
    let t = at.0 in
    let is = found_all (is_turtle turtle) (IsTurtleOf r) r.turtles t h.agents.turtles at.1 in
    let change : Turtle → Turtle = λ x. record x { vars = value_set r.layout.some_turtle x.vars slot value } in
    let valueless : value_in r.layout.some_turtle t.vars slot ≡ None = sym (ap (in_turtle r.layout slot) at.1) ∙ none in
    let same : change t ≡ t = ap (λ vars. record t { vars = vars }) (set_valueless (turtle_owns r.layout t.breed) r.layout.some_turtle t.vars slot value (turtle_owns r.layout t.breed slot) refl is.vars.owned valueless) in
    ap (λ ts. record w { rest = record r { turtles = ts } }) (map_same change turtle r.turtles t h.agents.turtles_ascend at.1 same)

-- what a store leaves after a call that sets a variable where it is owned, and leaves all where it isn't
pub set_or_stays : {T E : Type 0} (r : Result T E) (w now target : World) (none : Type 0) → OnOk r (now ≡ target) → OnErr r (now ≡ w) → (IsErr r → none) → (none → target ≡ w) → now ≡ target
set_or_stays (Ok x) w now target none ok err at_err stays = ok
set_or_stays (Err x) w now target none ok err at_err stays = err ∙ sym (stays (at_err refl))

pub lives_set : (w : World) (turtle other : ℕ) (slot : Slot) (value : Plain) → TurtleLives turtle w → TurtleLives turtle (revalued (owner.Turtle other) slot value w)
lives_set w turtle other slot value h =
    let change : Turtle → Turtle = λ t. record t { vars = value_set w.rest.layout.some_turtle t.vars slot value } in
    ap is_some (found_changed (is_turtle turtle) (turtle_by change other) (λ t. ap (λ n. n == turtle) (serial_by change (λ _. refl) other t)) w.rest.turtles)
    ∙ there_still (turtle_by change other) (turtle_of turtle w.rest)
    ∙ h

-- the turtle that is born lives
pub lives_born : (w : World) (breed : BreedNumber) (at : Point) (parent : Option ℕ) → TurtleLives w.rest.turtles_given (born breed at parent w)
lives_born w breed at parent = lives_last w.rest.turtles (newborn breed at parent w.rest) w.rest.turtles_given (eq-eqb w.rest.turtles_given w.rest.turtles_given refl)
  where
    lives_last : (ts : List Turtle) (t : Turtle) (serial : ℕ) → is_turtle serial t ≡ true → is_some (find (is_turtle serial) (ts ++ t ∷ [])) ≡ true
    lives_last [] t serial e = ap is_some (cond-true (is_turtle serial t) (Some t) None e)
    lives_last (x ∷ xs) t serial e =
        cond_both (is_turtle serial x) (Some x) (find (is_turtle serial) (xs ++ t ∷ [])) (λ o. is_some o ≡ true) (λ _. refl) (λ _. lives_last xs t serial e)

-- and so do those that lived before
pub lives_beside : (w : World) (breed : BreedNumber) (at : Point) (parent : Option ℕ) (turtle : ℕ) → TurtleLives turtle w → TurtleLives turtle (born breed at parent w)
lives_beside w breed at parent turtle h =
    let found = there (turtle_of turtle w.rest) h in
    ap is_some (found_before (is_turtle turtle) w.rest.turtles (newborn breed at parent w.rest ∷ []) found.0 found.1)

pub newborn_lives : (w now : World) (turtle : ℕ) (breed : BreedNumber) (at : Point) (parent : Option ℕ) → turtle ≡ w.rest.turtles_given → now ≡ born breed at parent w → TurtleLives turtle now
newborn_lives w now turtle breed at parent serial is =
    subst (λ n. TurtleLives n now) (sym serial) (subst (TurtleLives w.rest.turtles_given) (sym is) (lives_born w breed at parent))
