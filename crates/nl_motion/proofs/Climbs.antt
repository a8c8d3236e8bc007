-- A climb, from the center of the turtle's patch on.
use Rattle.std.proofs.Common.{◌≡◌, ℕ, ℤ, Bool, true, false, if◌then◌else◌, Option, Some, None, refl, ap, ◌∙◌}
use Rattle.std.specs.Prelude.{is_some}
use Rattle.nl_grid.specs.Geometry.{center_of, heading_between}
use Rattle.nl_value.specs.Plain.{PlainNumber}
use Rattle.nl_agents_layout.specs.BuiltIn.{heading_slot}
use Rattle.nl_agents.specs.World.{World}
use Rattle.nl_agents.specs.Changes.{value_of, revalued}
use Rattle.nl_agents.specs.declared.agents.Owner.TheVariants as owner
use Rattle.nl_motion.specs.Climbing.{patch_number, choice_around, climb_end, home_of, centered, headed, faced, climbed_to, climbed, state_climbed}

pub climb_is : (turtle slot : ℕ) (up four : Bool) (w : World) (state from : ℕ) (here : World) (to : Option ℕ)
    → from ≡ home_of turtle w → here ≡ centered turtle from w
    → to ≡ climb_end up (patch_number here slot) from (choice_around up four slot from here state).0
    → climbed_to turtle from to here ≡ climbed turtle slot up four w state
climb_is turtle slot up four w state from here to e_from e_here e_to =
    let ends : ℕ → World → World = λ f v. climbed_to turtle f (climb_end up (patch_number v slot) f (choice_around up four slot f v state).0) v in
    let at_home : ends from (centered turtle from w) ≡ ends (home_of turtle w) (centered turtle (home_of turtle w) w) = ap (λ f. ends f (centered turtle f w)) e_from in
    ap (λ o. climbed_to turtle from o here) e_to ∙ ap (ends from) e_here ∙ at_home

pub state_is : (turtle slot : ℕ) (up four : Bool) (w : World) (state from : ℕ) (here : World)
    → from ≡ home_of turtle w → here ≡ centered turtle from w
    → (choice_around up four slot from here state).1 ≡ state_climbed turtle slot up four w state
state_is turtle slot up four w state from here e_from e_here =
    let at_home : (choice_around up four slot from (centered turtle from w) state).1 ≡ (choice_around up four slot (home_of turtle w) (centered turtle (home_of turtle w) w) state).1 =
    ap (λ f. (choice_around up four slot f (centered turtle f w) state).1) e_from in
    ap (λ v. (choice_around up four slot from v state).1) e_here ∙ at_home

same_shape : (turtle : ℕ) (heading : ℤ) (w : World) (b : Bool)
    → (if b then revalued (owner.Turtle turtle) heading_slot (PlainNumber heading) w else w).rest.shape ≡ w.rest.shape
same_shape turtle heading w true = refl
same_shape turtle heading w false = refl

headed_shape : (turtle : ℕ) (heading : Option ℤ) (w : World) → (headed turtle heading w).rest.shape ≡ w.rest.shape
headed_shape turtle None w = refl
headed_shape turtle (Some heading) w = same_shape turtle heading w (is_some (value_of (owner.Turtle turtle) heading_slot w))

-- a turn leaves the shape of the world
pub faced_shape : (turtle from to : ℕ) (w : World) → (faced turtle from to w).rest.shape ≡ w.rest.shape
faced_shape turtle from to w = headed_shape turtle (heading_between w.rest.shape (center_of w.rest.shape from) (center_of w.rest.shape to)) w
