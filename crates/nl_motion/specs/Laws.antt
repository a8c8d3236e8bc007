-- What the rules of motion mean: laws above the definitions.
use Rattle.std.specs.Prelude.{◌≡◌, ℕ, ℤ, pos, ◌+ℤ◌, ◌*ℤ◌, neg_ℤ, ◌≤ℤ◌, Bool, true, false, List, length, replicate, option_map, unwrap_or, Some, None, Ok, Contains}
use Rattle.nl_grid.specs.Geometry.{Plane, IsWithinLimits, length_of, patches_of, center_of, point_ahead}
use Rattle.nl_grid.specs.declared.axis.Axis.{Axis}
use Rattle.nl_grid.specs.declared.point.Point.{Point}
use Rattle.nl_agents_layout.specs.Nouns.{Slot}
use Rattle.nl_agents.specs.World.{World}
use Rattle.nl_agents.specs.Changes.{TurtleLives, turtle_of}
use Rattle.nl_motion.specs.Climbing.{ring_of, patch_number, surpasses, choice_around, climb_end, home_of, centered, climbed, state_climbed}
use Rattle.nl_motion.specs.Diffusion.{total, diffused_field}

-- ---- steps

-- A coordinate after a step and the same step back: the two products of a step and its opposite, each rounded, make 0 or a millionth
-- together, and on an axis that wraps the coordinate is whole sides away.
pub record IsBackAt (axis : Axis) (from to : ℤ) : Type 0 where
  pub rest : ℤ
  pub low : pos 0 ≤ℤ rest
  pub high : rest ≤ℤ pos 1
  pub sides : ℤ
  pub is : to ≡ (from +ℤ rest) +ℤ (pos (length_of axis) *ℤ sides)
  pub flat : axis.wraps ≡ false → to ≡ from +ℤ rest

pub record IsBack (plane : Plane) (from to : Point) : Type 0 where
  pub x : IsBackAt plane.x from.x to.x
  pub y : IsBackAt plane.y from.y to.y

abbrev pub StepsLeadBack : Type 0
StepsLeadBack =
    (plane : Plane) (from there back : Point) (heading by : ℤ) → IsWithinLimits plane →
    point_ahead plane from heading by ≡ Ok (Some there) → point_ahead plane there heading (neg_ℤ by) ≡ Ok (Some back) →
    IsBack plane from back

-- ---- climbs

-- the patch to which a climb leads: that of the turtle where it leads to no other one
abbrev pub summit : ℕ → Slot → Bool → Bool → World → ℕ → ℕ
summit turtle slot up four w state =
    let from = home_of turtle w in
    unwrap_or (climb_end up (patch_number w slot) from (choice_around up four slot from w state).0) from

abbrev pub ClimbsEndAtCenters : Type 0
ClimbsEndAtCenters =
    (turtle : ℕ) (slot : Slot) (up four : Bool) (w : World) (state : ℕ) → TurtleLives turtle w →
    option_map (λ t. t.at) (turtle_of turtle (climbed turtle slot up four w state).rest)
    ≡ Some (center_of w.rest.shape (summit turtle slot up four w state))

-- where a climb leads to another patch, its number surpasses that of the turtle's own, and no neighbor's number surpasses it
pub record IsSummit (up four : Bool) (slot : Slot) (w : World) (from to : ℕ) : Type 0 where
  pub higher : surpasses up (patch_number w slot to) (patch_number w slot from) ≡ true
  pub highest : (other : ℕ) → Contains (ring_of four w.rest.shape from) other →
      surpasses up (patch_number w slot other) (patch_number w slot to) ≡ false

abbrev pub ClimbsLeadToSummits : Type 0
ClimbsLeadToSummits =
    (up four : Bool) (slot : Slot) (from to : ℕ) (w : World) (state : ℕ) →
    climb_end up (patch_number w slot) from (choice_around up four slot from w state).0 ≡ Some to → IsSummit up four slot w from to

-- where no neighbor keeps a number nothing is drawn, and the turtle goes to the center of its patch and no further
abbrev pub NoNumbersNoDraw : Type 0
NoNumbersNoDraw =
    (turtle : ℕ) (slot : Slot) (up four : Bool) (w : World) (state : ℕ) →
    ((other : ℕ) → Contains (ring_of four w.rest.shape (home_of turtle w)) other → patch_number w slot other ≡ None) →
    (state_climbed turtle slot up four w state ≡ state) × (climbed turtle slot up four w state ≡ centered turtle (home_of turtle w) w)

-- ---- diffusion

-- the total of a field stays
abbrev pub DiffusionKeepsTotals : Type 0
DiffusionKeepsTotals =
    (four : Bool) (plane : Plane) (part : ℤ) (field : List ℤ) → length field ≡ patches_of plane →
    total (diffused_field four plane part field) ≡ total field

-- a part of 0 changes nothing
abbrev pub DiffusingNothingKeepsFields : Type 0
DiffusingNothingKeepsFields =
    (four : Bool) (plane : Plane) (field : List ℤ) → length field ≡ patches_of plane → diffused_field four plane (pos 0) field ≡ field

-- a field of one value stays, whatever the shape of the world
abbrev pub EvenFieldsStay : Type 0
EvenFieldsStay =
    (four : Bool) (plane : Plane) (part count : ℤ) →
    diffused_field four plane part (replicate (patches_of plane) count) ≡ replicate (patches_of plane) count
