-- Turtles that go to the neighbor with the greatest number, or the least: `uphill`, `downhill` and their forms over four neighbors, by the
-- NetLogo Dictionary. That one of several is drawn, and that the draw is made before the turtle's own patch is looked at, is this
-- project's own choice.
use Rattle.std.specs.Prelude.{ℕ, ℤ, int_lt, Bool, false, not, if◌then◌else◌, List, map, filter, Option, Some, None, is_some}
use Rattle.std.specs.List.{list_any}
use Rattle.nl_value.specs.Plain.{PlainNumber}
use Rattle.nl_grid.specs.Nouns.{Patches}
use Rattle.nl_grid.specs.Geometry.{Plane, patch_at, center_of, heading_between, neighbors_of, neighbors4_of}
use Rattle.nl_draw.specs.Stream.{chosen}
use Rattle.nl_agents_layout.specs.Nouns.{Slot}
use Rattle.nl_agents_layout.specs.BuiltIn.{heading_slot}
use Rattle.nl_agents.specs.World.{Rest, World}
use Rattle.nl_agents.specs.Changes.{turtle_of, value_of, moved, revalued}
use Rattle.nl_agents.specs.declared.agents.Turtle.{Turtle}
use Rattle.nl_agents.specs.declared.agents.Owner.TheVariants as owner
use Rattle.nl_motion.specs.Motion.{held_number}

-- the neighbors of a patch: all of them, or the four that are one step away on one axis
abbrev pub ring_of : Bool → Plane → ℕ → Patches
ring_of four plane patch = if four then neighbors4_of plane patch else neighbors_of plane patch

-- the number that a patch keeps under a slot
abbrev pub patch_number : World → Slot → ℕ → Option ℤ
patch_number w slot patch = held_number (value_of (owner.Patch patch) slot w)

-- ---- the best of some patches

-- both are numbers, and the first is above the second; below it, where the way is down
abbrev pub surpasses : Bool → Option ℤ → Option ℤ → Bool
surpasses up (Some one) (Some other) = if up then int_lt other one else int_lt one other
surpasses up (Some one) None = false
surpasses up None other = false

-- it is a number, and none of the others surpasses it
abbrev pub is_best : Bool → List (Option ℤ) → Option ℤ → Bool
is_best up others None = false
is_best up others (Some count) = not (list_any (λ other. surpasses up other (Some count)) others)

-- the patches, in order, whose number none of these patches' numbers surpasses
abbrev pub best_of : Bool → (ℕ → Option ℤ) → Patches → Patches
best_of up number patches = filter (λ patch. is_best up (map number patches) (number patch)) patches

-- ---- a climb

-- the patch on which a turtle stands
abbrev pub patch_under : Rest → Option Turtle → ℕ
patch_under r None = 0
patch_under r (Some t) = patch_at r.shape t.at

abbrev pub home_of : ℕ → World → ℕ
home_of turtle w = patch_under w.rest (turtle_of turtle w.rest)

-- the best neighbors of a patch, one of which is chosen: that one, and the state of the stream after
abbrev pub choice_around : Bool → Bool → Slot → ℕ → World → ℕ → Option ℕ × ℕ
choice_around up four slot from w state = chosen (best_of up (patch_number w slot) (ring_of four w.rest.shape from)) state

-- where a climb leads: to the chosen neighbor, where its number surpasses the own patch's
abbrev pub climb_end : Bool → (ℕ → Option ℤ) → ℕ → Option ℕ → Option ℕ
climb_end up number from None = None
climb_end up number from (Some to) = if surpasses up (number to) (number from) then Some to else None

-- the turtle has the heading, where there is one and where it owns a heading
abbrev pub headed : ℕ → Option ℤ → World → World
headed turtle None w = w
headed turtle (Some heading) w =
    if is_some (value_of (owner.Turtle turtle) heading_slot w)
    then revalued (owner.Turtle turtle) heading_slot (PlainNumber heading) w
    else w

-- the turtle stands at the center of a patch
abbrev pub centered : ℕ → ℕ → World → World
centered turtle patch w = moved turtle (center_of w.rest.shape patch) w

-- it has the heading from the center of one patch to that of another one
abbrev pub faced : ℕ → ℕ → ℕ → World → World
faced turtle from to w = headed turtle (heading_between w.rest.shape (center_of w.rest.shape from) (center_of w.rest.shape to)) w

-- from the center of a patch it turns to that of another one and goes there
abbrev pub climbed_to : ℕ → ℕ → Option ℕ → World → World
climbed_to turtle from None w = w
climbed_to turtle from (Some to) w = centered turtle to (faced turtle from to w)

-- the world after a climb
abbrev pub climbed : ℕ → Slot → Bool → Bool → World → ℕ → World
climbed turtle slot up four w state =
    let from = home_of turtle w in
    let choice = choice_around up four slot from w state in
    climbed_to turtle from (climb_end up (patch_number w slot) from choice.0) (centered turtle from w)

-- the state of the stream after a climb
abbrev pub state_climbed : ℕ → Slot → Bool → Bool → World → ℕ → ℕ
state_climbed turtle slot up four w state = (choice_around up four slot (home_of turtle w) w state).1
