-- What turtles were born with stays while others are born.
use Rattle.std.specs.Prelude.{◌≡◌, ℕ, zero, suc, ◌+◌, ◌<◌, Bool, true, false, cond, [], ◌∷◌, Option, Some, None}
use Rattle.std.proofs.Common.{arith, ap, ◌∙◌, sym, refl, subst, ⊎_elim}
use Rattle.std.proofs.lemmas.Bool.{cond-true, ne_eqb, eq-eqb, cases_eq}
use Rattle.std.proofs.lemmas.Option.{none-some}
use Rattle.std.proofs.lemmas.List.Elements.{All-weaker}
use Rattle.nl_value.specs.Plain.{Plain, PlainNumber}
use Rattle.nl_grid.specs.declared.point.Point.{Point}
use Rattle.nl_agents_layout.specs.Nouns.{Slot, BreedNumber}
use Rattle.nl_agents_layout.specs.BuiltIn.{color_slot, heading_slot, first_of_turtle}
use Rattle.nl_agents_layout.specs.Layouts.{turtle_owns}
use Rattle.nl_agents.specs.World.{World, first_turtle_vars}
use Rattle.nl_agents.specs.Changes.{is_turtle, turtle_of, in_turtle, value_in, value_set, set_entry, value_of, newborn}
use Rattle.nl_agents.specs.Standing.{IsWorld}
use Rattle.nl_agents_layout.specs.declared.layout.Layout.{Layout}
use Rattle.nl_agents.specs.declared.agents.Turtle.{Turtle}
use Rattle.nl_agents.specs.declared.agents.Owner.TheVariants as owner
use Rattle.nl_agents.proofs.Finding.{found_before, found_after, none_found}
use Rattle.nl_agents.proofs.Vars.{first_exactly, set_same, set_other}
use Rattle.nl_birth.specs.declared.looks.Looks.{Looks}
use Rattle.nl_birth.specs.Looks.{drawn_looks, looks_in_order, born_with}
use Rattle.nl_birth.specs.Births.{Scene, origin, drawn_births, ordered_births}
use Rattle.nl_birth.specs.Laws.{HasLooks, OwnLooks}
use Rattle.nl_birth.proofs.Counting.{drawn_more, ordered_more}
use Rattle.nl_birth.proofs.Appended.{AreGiven, all_given, with_turtle, looking, born_with_is, drawn_given, ordered_given}

owned_set : (value first : Plain) (owned : Bool) (o : Option Plain) → o ≡ cond owned (Some first) None → owned ≡ true → set_entry value o ≡ Some value
owned_set value first owned o e h = ap (set_entry value) (e ∙ cond-true owned (Some first) None h)

-- what stands under the slots of the looks
under_color : (layout : Layout) (breed : BreedNumber) (looks : Looks) → OwnLooks layout breed
    → value_in layout.some_turtle (value_set layout.some_turtle (value_set layout.some_turtle (first_turtle_vars layout breed) color_slot (PlainNumber looks.color)) heading_slot (PlainNumber looks.heading)) color_slot ≡ Some (PlainNumber looks.color)
under_color layout breed looks h =
    let slots = layout.some_turtle in
    let first = first_turtle_vars layout breed in
    set_other slots (value_set slots first color_slot (PlainNumber looks.color)) heading_slot color_slot (PlainNumber looks.heading) refl
    ∙ set_same slots first color_slot (PlainNumber looks.color)
    ∙ owned_set (PlainNumber looks.color) (first_of_turtle color_slot) (turtle_owns layout breed color_slot) (value_in slots first color_slot)
    (first_exactly (turtle_owns layout breed) first_of_turtle slots color_slot h.color_kept) h.color_owned

under_heading : (layout : Layout) (breed : BreedNumber) (looks : Looks) → OwnLooks layout breed
    → value_in layout.some_turtle (value_set layout.some_turtle (value_set layout.some_turtle (first_turtle_vars layout breed) color_slot (PlainNumber looks.color)) heading_slot (PlainNumber looks.heading)) heading_slot ≡ Some (PlainNumber looks.heading)
under_heading layout breed looks h =
    let slots = layout.some_turtle in
    let first = first_turtle_vars layout breed in
    set_same slots (value_set slots first color_slot (PlainNumber looks.color)) heading_slot (PlainNumber looks.heading)
    ∙ owned_set (PlainNumber looks.heading) (first_of_turtle heading_slot) (turtle_owns layout breed heading_slot) (value_in slots (value_set slots first color_slot (PlainNumber looks.color)) heading_slot)
    (set_other slots first color_slot heading_slot (PlainNumber looks.color) refl ∙ first_exactly (turtle_owns layout breed) first_of_turtle slots heading_slot h.heading_kept) h.heading_owned

-- the last turtle is found by its serial
last_found : (w : World) (t : Turtle) → AreGiven w → t.serial ≡ w.rest.turtles_given → turtle_of w.rest.turtles_given (with_turtle t w).rest ≡ Some t
last_found w t h e =
    let n = w.rest.turtles_given in
    found_after (is_turtle n) w.rest.turtles (t ∷ [])
    (none_found (is_turtle n) w.rest.turtles
    (All-weaker (λ (x : Turtle). x.serial < n) (λ x. is_turtle n x ≡ false) (λ x l. ne_eqb x.serial n (λ q. omega (arith, l, q))) w.rest.turtles h))
    ∙ cond-true (is_turtle n t) (Some t) None (eq-eqb t.serial n e)

pub last_looks : (w : World) (breed : BreedNumber) (at : Point) (looks : Looks) → AreGiven w → OwnLooks w.rest.layout breed → HasLooks w.rest.turtles_given looks (born_with breed at looks w)
last_looks w breed at looks h own =
    let layout = w.rest.layout in
    let t = looking layout.some_turtle looks (newborn breed at None w.rest) in
    let found = last_found w t h refl in
    subst (HasLooks w.rest.turtles_given looks) (sym (born_with_is w breed at looks h)) (record {
      color = ap (in_turtle layout color_slot) found ∙ under_color layout breed looks own;
      heading = ap (in_turtle layout heading_slot) found ∙ under_heading layout breed looks own;
    })

value_stays : (w : World) (t : Turtle) (turtle : ℕ) (slot : Slot) (v : Plain) (o : Option Turtle) → turtle_of turtle w.rest ≡ o → in_turtle w.rest.layout slot o ≡ Some v → value_of (owner.Turtle turtle) slot (with_turtle t w) ≡ Some v
value_stays w t turtle slot v None e h = absurd (none-some v h)
value_stays w t turtle slot v (Some u) e h = ap (in_turtle w.rest.layout slot) (found_before (is_turtle turtle) w.rest.turtles (t ∷ []) u e) ∙ h

pub looks_before : (w : World) (breed : BreedNumber) (at : Point) (looks others : Looks) (turtle : ℕ) → AreGiven w → HasLooks turtle looks w → HasLooks turtle looks (born_with breed at others w)
looks_before w breed at looks others turtle h has =
    let t = looking w.rest.layout.some_turtle others (newborn breed at None w.rest) in
    subst (HasLooks turtle looks) (sym (born_with_is w breed at others h)) (record {
      color = value_stays w t turtle color_slot (PlainNumber looks.color) (turtle_of turtle w.rest) refl has.color;
      heading = value_stays w t turtle heading_slot (PlainNumber looks.heading) (turtle_of turtle w.rest) refl has.heading;
    })

pub drawn_looks_stay : (breed : BreedNumber) (at : Point) (s : Scene) (count index : ℕ) → IsWorld s.world → OwnLooks s.world.rest.layout breed → index < count
    → HasLooks (s.world.rest.turtles_given + index) (drawn_looks (drawn_births breed at s index).stream).0 (drawn_births breed at s count).world
unfolding drawn_births
drawn_looks_stay breed at s zero index h own l = absurd (omega (arith, l))
drawn_looks_stay breed at s (suc k) index h own l =
    let now = drawn_births breed at s k in
    let given = drawn_given breed at s k (all_given s.world h) in
    let more = drawn_more breed at s k in
    ⊎_elim
    (λ e. subst (λ i. HasLooks (s.world.rest.turtles_given + i) (drawn_looks (drawn_births breed at s i).stream).0 (drawn_births breed at s (suc k)).world) (sym e)
    (subst (λ n. HasLooks n (drawn_looks now.stream).0 (born_with breed at (drawn_looks now.stream).0 now.world)) more.given
    (last_looks now.world breed at (drawn_looks now.stream).0 given (subst (λ x. OwnLooks x breed) (sym more.layout) own))))
    (λ apart. looks_before now.world breed at (drawn_looks (drawn_births breed at s index).stream).0 (drawn_looks now.stream).0 (s.world.rest.turtles_given + index) given
    (drawn_looks_stay breed at s k index h own (omega (arith, l, apart))))
    (cases_eq index k)

pub ordered_looks_stay : (breed : BreedNumber) (most : ℕ) (w : World) (count index : ℕ) → IsWorld w → OwnLooks w.rest.layout breed → index < count
    → HasLooks (w.rest.turtles_given + index) (looks_in_order most index) (ordered_births breed most w count)
unfolding ordered_births
ordered_looks_stay breed most w zero index h own l = absurd (omega (arith, l))
ordered_looks_stay breed most w (suc k) index h own l =
    let now = ordered_births breed most w k in
    let given = ordered_given breed most w k (all_given w h) in
    let more = ordered_more breed most w k in
    ⊎_elim
    (λ e. subst (λ i. HasLooks (w.rest.turtles_given + i) (looks_in_order most i) (ordered_births breed most w (suc k))) (sym e)
    (subst (λ n. HasLooks n (looks_in_order most k) (born_with breed origin (looks_in_order most k) now)) more.given
    (last_looks now breed origin (looks_in_order most k) given (subst (λ x. OwnLooks x breed) (sym more.layout) own))))
    (λ apart. looks_before now breed origin (looks_in_order most index) (looks_in_order most k) (w.rest.turtles_given + index) given
    (ordered_looks_stay breed most w k index h own (omega (arith, l, apart))))
    (cases_eq index k)
