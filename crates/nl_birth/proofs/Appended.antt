-- Births append turtles and change nothing else.
use Rattle.std.specs.Prelude.{◌≡◌, ℕ, zero, suc, ◌+◌, ◌<◌, Bool, true, false, List, [], ◌∷◌, ◌++◌, map, Option, Some, None, is_some, option_map, All}
use Rattle.std.specs.List.{range_with_len}
use Rattle.std.proofs.Common.{arith, ap, ap₂, ◌∙◌, sym, refl, subst}
use Rattle.std.proofs.lemmas.Bool.{cond-true, cond-false, ne_eqb, eq-eqb, true≢false}
use Rattle.std.proofs.lemmas.List.{map_push, append_assoc}
use Rattle.std.proofs.lemmas.List.Elements.{All-nil, All-head, All-tail, All-push, All-weaker}
use Rattle.nl_value.specs.Plain.{Plain, PlainNumber}
use Rattle.nl_grid.specs.declared.point.Point.{Point}
use Rattle.nl_agents_layout.specs.Nouns.{Slots, Slot, BreedNumber}
use Rattle.nl_agents.specs.Nouns.{Vars}
use Rattle.nl_agents_layout.specs.BuiltIn.{color_slot, heading_slot}
use Rattle.nl_agents_layout.specs.Layouts.{turtle_owns}
use Rattle.nl_agents.specs.World.{World}
use Rattle.nl_agents.specs.Changes.{is_turtle, turtle_of, value_set, bred_entry, bred_entries, birth_vars, born, newborn}
use Rattle.nl_agents.specs.Standing.{IsWorld, IsTurtleOf}
use Rattle.nl_agents.specs.declared.agents.Turtle.{Turtle}
use Rattle.nl_agents.proofs.Finding.{found_before, found_all}
use Rattle.nl_agents.proofs.Worlds.{turtle_by}
use Rattle.nl_birth.specs.declared.looks.Looks.{Looks}
use Rattle.nl_birth.specs.Looks.{drawn_looks, looks_in_order, born_with}
use Rattle.nl_birth.specs.Births.{Scene, origin, point_or_origin, drawn_births, ordered_births, hatchings, birthplace}
use Rattle.nl_birth.specs.Laws.{HasMoreTurtles, IsOfAt, IsLike}
use Rattle.nl_birth.proofs.Counting.{range_more}

-- ---- one more

-- the serials of all are below the next one
abbrev pub AreGiven : World → Type 0
AreGiven w = All (λ (t : Turtle). t.serial < w.rest.turtles_given) w.rest.turtles

pub all_given : (w : World) → IsWorld w → AreGiven w
all_given w h = All-weaker (IsTurtleOf w.rest) (λ t. t.serial < w.rest.turtles_given) (λ t a. a.given) w.rest.turtles h.agents.turtles

abbrev pub with_turtle : Turtle → World → World
with_turtle t w = record w { rest = record w.rest { turtles = w.rest.turtles ++ t ∷ []; turtles_given = w.rest.turtles_given + 1 } }

-- a change of the last turtle by its serial, which no other has
last_changed : (change : Turtle → Turtle) (n : ℕ) (ts : List Turtle) (t : Turtle) → All (λ (x : Turtle). x.serial < n) ts → t.serial ≡ n → map (turtle_by change n) (ts ++ t ∷ []) ≡ ts ++ change t ∷ []
last_changed change n [] t h e = ap (λ x. x ∷ []) (cond-true (is_turtle n t) (change t) t (eq-eqb t.serial n e))
last_changed change n (x ∷ xs) t h e =
    let below = All-head (λ (y : Turtle). y.serial < n) x xs h in
    ap₂ (λ y ys. y ∷ ys) (cond-false (is_turtle n x) (change x) x (ne_eqb x.serial n (λ q. omega (arith, below, q))))
    (last_changed change n xs t (All-tail (λ (y : Turtle). y.serial < n) x xs h) e)

-- what a turtle is with its looks
abbrev pub looking : Slots → Looks → Turtle → Turtle
looking slots looks t = record t { vars = value_set slots (value_set slots t.vars color_slot (PlainNumber looks.color)) heading_slot (PlainNumber looks.heading) }

pub born_with_is : (w : World) (breed : BreedNumber) (at : Point) (looks : Looks) → AreGiven w → born_with breed at looks w ≡ with_turtle (looking w.rest.layout.some_turtle looks (newborn breed at None w.rest)) w
born_with_is w breed at looks h =
    let n = w.rest.turtles_given in
    let slots = w.rest.layout.some_turtle in
    let t = newborn breed at None w.rest in
    let color : Turtle → Turtle = λ x. record x { vars = value_set slots x.vars color_slot (PlainNumber looks.color) } in
    let heading : Turtle → Turtle = λ x. record x { vars = value_set slots x.vars heading_slot (PlainNumber looks.heading) } in
    let make : List Turtle → World = λ ts. record w { rest = record w.rest { turtles = ts; turtles_given = n + 1 } } in
    ap (λ ts. make (map (turtle_by heading n) ts)) (last_changed color n w.rest.turtles t h refl)
    ∙ ap make (last_changed heading n w.rest.turtles (color t) h refl)

-- ---- many more

module _ (IsNew : Turtle → Type 0) (w : World) where
  pub none_new : HasMoreTurtles IsNew w w 0
  none_new = record {
    new = [];
    serials = refl;
    are = All-nil IsNew;
    rest = ap₂ (λ ts n. record w { rest = record w.rest { turtles = ts; turtles_given = n } }) (nothing_more w.rest.turtles) nothing_given;
  }
    where
      nothing_more : (ts : List Turtle) → ts ≡ ts ++ []
      nothing_more [] = refl
      nothing_more (t ∷ ts) = ap (λ us. t ∷ us) (nothing_more ts)

      nothing_given : w.rest.turtles_given ≡ w.rest.turtles_given + 0
      nothing_given = omega arith

  pub one_new : (now next : World) (k : ℕ) (t : Turtle) → HasMoreTurtles IsNew w now k → t.serial ≡ now.rest.turtles_given → IsNew t → next ≡ with_turtle t now → HasMoreTurtles IsNew w next (suc k)
  one_new now next k t h serial is e =
      let given : now.rest.turtles_given ≡ w.rest.turtles_given + k = ap (λ x. x.rest.turtles_given) h.rest in
      let next_one : k + 1 ≡ suc k = omega arith in
      record {
        new = h.new ++ t ∷ [];
        serials = map_push (λ (x : Turtle). x.serial) h.new t ∙ ap₂ (λ ns n. ns ++ n ∷ []) h.serials (serial ∙ given) ∙ sym (range_more w.rest.turtles_given k)
            ∙ ap (range_with_len w.rest.turtles_given) next_one;
        are = All-push IsNew h.new t h.are is;
        rest = e ∙ ap (with_turtle t) h.rest ∙ ap₂ (λ ts n. record w { rest = record w.rest { turtles = ts; turtles_given = n } }) (append_assoc w.rest.turtles h.new (t ∷ [])) (counted k);
      }
    where
      counted : (k : ℕ) → (w.rest.turtles_given + k) + 1 ≡ w.rest.turtles_given + suc k
      counted k = omega arith

still_given : (w : World) (t : Turtle) → AreGiven w → t.serial ≡ w.rest.turtles_given → AreGiven (with_turtle t w)
still_given w t h e =
    All-push (λ (x : Turtle). x.serial < w.rest.turtles_given + 1) w.rest.turtles t
    (All-weaker (λ (x : Turtle). x.serial < w.rest.turtles_given) (λ x. x.serial < w.rest.turtles_given + 1) (λ x l. omega (arith, l)) w.rest.turtles h) (omega (arith, e))

with_given : (w : World) (breed : BreedNumber) (at : Point) (looks : Looks) → AreGiven w → AreGiven (born_with breed at looks w)
with_given w breed at looks h = subst AreGiven (sym (born_with_is w breed at looks h)) (still_given w (looking w.rest.layout.some_turtle looks (newborn breed at None w.rest)) h refl)

pub drawn_given : (breed : BreedNumber) (at : Point) (s : Scene) (k : ℕ) → AreGiven s.world → AreGiven (drawn_births breed at s k).world
unfolding drawn_births
drawn_given breed at s zero h = h
drawn_given breed at s (suc k) h = let now = drawn_births breed at s k in with_given now.world breed at (drawn_looks now.stream).0 (drawn_given breed at s k h)

pub drawn_append : (breed : BreedNumber) (at : Point) (s : Scene) (k : ℕ) → IsWorld s.world → HasMoreTurtles (IsOfAt breed at) s.world (drawn_births breed at s k).world k
unfolding drawn_births
drawn_append breed at s zero h = none_new (IsOfAt breed at) s.world
drawn_append breed at s (suc k) h =
    let now = drawn_births breed at s k in
    let looks = (drawn_looks now.stream).0 in
    let t = looking now.world.rest.layout.some_turtle looks (newborn breed at None now.world.rest) in
    one_new (IsOfAt breed at) s.world now.world (born_with breed at looks now.world) k t (drawn_append breed at s k h) refl (record { breed_is = refl; at_is = refl })
    (born_with_is now.world breed at looks (drawn_given breed at s k (all_given s.world h)))

pub ordered_given : (breed : BreedNumber) (most : ℕ) (w : World) (k : ℕ) → AreGiven w → AreGiven (ordered_births breed most w k)
unfolding ordered_births
ordered_given breed most w zero h = h
ordered_given breed most w (suc k) h = with_given (ordered_births breed most w k) breed origin (looks_in_order most k) (ordered_given breed most w k h)

pub ordered_append : (breed : BreedNumber) (most : ℕ) (w : World) (k : ℕ) → IsWorld w → HasMoreTurtles (IsOfAt breed origin) w (ordered_births breed most w k) k
unfolding ordered_births
ordered_append breed most w zero h = none_new (IsOfAt breed origin) w
ordered_append breed most w (suc k) h =
    let now = ordered_births breed most w k in
    let looks = looks_in_order most k in
    let t = looking now.rest.layout.some_turtle looks (newborn breed origin None now.rest) in
    one_new (IsOfAt breed origin) w now (born_with breed origin looks now) k t (ordered_append breed most w k h) refl (record { breed_is = refl; at_is = refl })
    (born_with_is now breed origin looks (ordered_given breed most w k (all_given w h)))

pub hatched_append : (breed : BreedNumber) (parent : ℕ) (at : Point) (w : World) (k : ℕ) → HasMoreTurtles (IsOfAt breed at) w (hatchings breed parent at w k) k
unfolding hatchings
hatched_append breed parent at w zero = none_new (IsOfAt breed at) w
hatched_append breed parent at w (suc k) =
    let now = hatchings breed parent at w k in
    one_new (IsOfAt breed at) w now (born breed at (Some parent) now) k (newborn breed at (Some parent) now.rest) (hatched_append breed parent at w k) refl (record { breed_is = refl; at_is = refl }) refl

-- ---- children of the same breed

same_entry : (owned : Bool) (v : Option Plain) → is_some v ≡ owned → bred_entry owned v ≡ v
same_entry false None e = refl
same_entry false (Some x) e = absurd (true≢false e)
same_entry true None e = absurd (true≢false (sym e))
same_entry true (Some x) e = refl

same_vars : (owns : Slot → Bool) (slots : Slots) (vars : Vars) → map is_some vars ≡ map owns slots → bred_entries owns slots vars ≡ vars
same_vars owns [] [] o = refl
same_vars owns [] (v ∷ vs) o = cc
same_vars owns (s ∷ ss) [] o = refl
same_vars owns (s ∷ ss) (v ∷ vs) o =
    let head : is_some v ≡ owns s = cc in
    let tail : map is_some vs ≡ map owns ss = cc in
    ap₂ (λ x xs. x ∷ xs) (same_entry (owns s) v head) (same_vars owns ss vs tail)

pub hatched_alike : (w : World) (parent : ℕ) (t : Turtle) (k : ℕ) → IsWorld w → turtle_of parent w.rest ≡ Some t → HasMoreTurtles (IsLike t) w (hatchings t.breed parent (birthplace parent w) w k) k
unfolding hatchings
hatched_alike w parent t zero h e = none_new (IsLike t) w
hatched_alike w parent t (suc k) h e =
    let now = hatchings t.breed parent (birthplace parent w) w k in
    let before = hatched_alike w parent t k h e in
    let found : turtle_of parent now.rest ≡ Some t = ap (λ x. turtle_of parent x.rest) before.rest ∙ found_before (is_turtle parent) w.rest.turtles before.new t e in
    let layout : now.rest.layout ≡ w.rest.layout = ap (λ x. x.rest.layout) before.rest in
    let is = found_all (is_turtle parent) (IsTurtleOf w.rest) w.rest.turtles t h.agents.turtles e in
    let vars : birth_vars now.rest.layout t.breed (turtle_of parent now.rest) ≡ t.vars =
    ap₂ (λ l o. birth_vars l t.breed o) layout found ∙ same_vars (turtle_owns w.rest.layout t.breed) w.rest.layout.some_turtle t.vars is.vars.owned in
    let at : birthplace parent w ≡ t.at = ap (λ o. point_or_origin (option_map (λ (x : Turtle). x.at) o)) e in
    one_new (IsLike t) w now (born t.breed (birthplace parent w) (Some parent) now) k (newborn t.breed (birthplace parent w) (Some parent) now.rest) before refl
    (ap₂ (λ p v. record t { at = p; vars = v }) at vars) refl
