-- Rows of motion, climbs and diffusion, computed by the definitions.
use Rattle.std.proofs.Common.{◌≡◌, ℕ, true, false, List, [], ◌∷◌, ℤ, pos, negsuc, Option, Some, None, Ok, Err, refl, codes}
use Rattle.std.specs.Prelude.{slice_get}
use Rattle.std.specs.Option.{option_and_then}
use Rattle.nl_fixed.specs.Numbers.{one, rounded_quotient, as_number, sum_of}
use Rattle.nl_fixed.specs.Sines.{sine_of, cosine_of, in_turn, nearest_degree, turn_sine, half_turn_sine, sines}
use Rattle.nl_value.specs.Plain.{Plain, PlainNumber, PlainWords}
use Rattle.nl_grid.specs.Geometry.{Plane, plane_of, moved_inside, wrapped, wrapped_point, point_beside, point_ahead, is_near, patches_near, neighbors_of, neighbors4_of}
use Rattle.nl_grid.specs.declared.point.Point.{Point}
use Rattle.nl_agents.specs.World.{World}
use Rattle.nl_motion.specs.Motion.{place_answer, step_answer}
use Rattle.nl_motion.specs.Climbing.{best_of, climb_end}
use Rattle.nl_motion.specs.Diffusion.{one_share, count_after, diffused_field, diffuse_fault}
use Rattle.nl_motion.specs.declared.faults.MoveFault.TheVariants as fault

-- from -2 to 2 on both axes
abbrev box : Plane
box = plane_of (negsuc 1) (pos 2) (negsuc 1) (pos 2) false false

abbrev torus : Plane
torus = plane_of (negsuc 1) (pos 2) (negsuc 1) (pos 2) true true

-- ---- steps

-- at the heading 45 a step by 1 goes by rounded products on both axes; one that the box forbids isn't made
abbrev origin : Point
origin = record { x = pos 0; y = pos 0 }

pub by_rounded_products : step_answer (point_ahead box origin (pos 45_000_000) (pos one)) ≡ Ok true
unfolding point_ahead point_beside sum_of as_number rounded_quotient wrapped_point wrapped sine_of cosine_of in_turn nearest_degree turn_sine half_turn_sine sines
by_rounded_products = refl

pub to_both_sides : point_ahead box origin (pos 45_000_000) (pos one) ≡ Ok (Some (record { x = pos 707_107; y = pos 707_107 }))
unfolding point_ahead point_beside sum_of as_number rounded_quotient wrapped_point wrapped sine_of cosine_of in_turn nearest_degree turn_sine half_turn_sine sines
to_both_sides = refl

pub not_out_of_the_box : step_answer (point_ahead box origin (pos 45_000_000) (pos 4_000_000)) ≡ Ok false
unfolding point_ahead point_beside sum_of as_number rounded_quotient wrapped_point wrapped sine_of cosine_of in_turn nearest_degree turn_sine half_turn_sine sines
not_out_of_the_box = refl

-- ---- places

pub outside_of_the_box : place_answer (wrapped_point box (pos 2_500_000) (pos 0)) ≡ Err fault.OutOfWorld
unfolding wrapped_point wrapped
outside_of_the_box = refl

pub around_the_torus : wrapped_point torus (pos 2_500_000) (pos 0) ≡ Some (record { x = negsuc 2_499_999; y = pos 0 })
unfolding wrapped_point wrapped moved_inside
around_the_torus = refl

-- ---- climbs

abbrev numbers : List (Option ℤ)
numbers = Some (pos 3) ∷ None ∷ Some (pos 7) ∷ Some (pos 7) ∷ Some (pos 1) ∷ []

abbrev of_patch : ℕ → Option ℤ
of_patch patch = option_and_then (λ n. n) (slice_get numbers patch)

-- the greatest numbers, in order, and the least one; a patch that keeps no number is never the best
pub greatest : best_of true of_patch (0 ∷ 1 ∷ 2 ∷ 3 ∷ 4 ∷ []) ≡ 2 ∷ 3 ∷ []
greatest = refl

pub least : best_of false of_patch (0 ∷ 1 ∷ 2 ∷ 3 ∷ 4 ∷ []) ≡ 4 ∷ []
least = refl

pub none : best_of true of_patch (1 ∷ []) ≡ []
none = refl

-- an equal number isn't climbed to, nor any number from a patch that keeps none
pub not_to_an_equal_one : climb_end false of_patch 2 (Some 3) ≡ None
not_to_an_equal_one = refl

pub not_from_no_number : climb_end true of_patch 1 (Some 3) ≡ None
not_from_no_number = refl

pub up_from_a_lesser_one : climb_end true of_patch 0 (Some 3) ≡ Some 3
up_from_a_lesser_one = refl

-- ---- diffusion

-- in a box of 2 by 2 each patch keeps five shares of 0.125 and gets three
pub five_and_three : diffused_field false (plane_of (pos 0) (pos 1) (pos 0) (pos 1) false false) (pos one) (pos one ∷ pos one ∷ pos one ∷ pos one ∷ [])
    ≡ pos one ∷ pos one ∷ pos one ∷ pos one ∷ []
unfolding count_after one_share neighbors_of patches_near is_near
five_and_three = refl

-- the one in the middle gives all away
pub all_given : diffused_field false (plane_of (negsuc 0) (pos 1) (negsuc 0) (pos 1) false false) (pos one)
    (pos 0 ∷ pos 0 ∷ pos 0 ∷ pos 0 ∷ pos 8_000_000 ∷ pos 0 ∷ pos 0 ∷ pos 0 ∷ pos 0 ∷ [])
    ≡ pos one ∷ pos one ∷ pos one ∷ pos one ∷ pos 0 ∷ pos one ∷ pos one ∷ pos one ∷ pos one ∷ []
unfolding count_after one_share neighbors_of patches_near is_near
all_given = refl

pub to_four : diffused_field true (plane_of (negsuc 0) (pos 1) (negsuc 0) (pos 1) false false) (pos one)
    (pos 0 ∷ pos 0 ∷ pos 0 ∷ pos 0 ∷ pos 8_000_000 ∷ pos 0 ∷ pos 0 ∷ pos 0 ∷ pos 0 ∷ [])
    ≡ pos 0 ∷ pos 2_000_000 ∷ pos 0 ∷ pos 2_000_000 ∷ pos 0 ∷ pos 2_000_000 ∷ pos 0 ∷ pos 2_000_000 ∷ pos 0 ∷ []
unfolding count_after one_share neighbors4_of neighbors_of patches_near is_near
to_four = refl

-- the one patch of a world has no neighbor
pub alone : diffused_field false (plane_of (pos 0) (pos 0) (pos 0) (pos 0) true true) (pos one) (pos 8 ∷ []) ≡ pos 8 ∷ []
unfolding count_after one_share neighbors_of patches_near is_near
alone = refl

-- a share is cut: of ten an eighth is one, and of ten below 0 it is two below
pub cut_shares : diffused_field false (plane_of (pos 0) (pos 1) (pos 0) (pos 0) false false) (pos one) (negsuc 9 ∷ pos 0 ∷ []) ≡ negsuc 7 ∷ negsuc 1 ∷ []
unfolding count_after one_share neighbors_of patches_near is_near
cut_shares = refl

-- ---- refusals

-- two patches side by side, which keep these values under the slot 14
abbrev pair_of : Option Plain → Option Plain → World
pair_of left right = record {
  globals = [];
  rest = record {
    shape = plane_of (pos 0) (pos 1) (pos 0) (pos 0) false false;
    layout = record {
      globals = 0;
      coded = [];
      slots = 15;
      every_turtle = [];
      every_patch = 14 ∷ [];
      every_link = [];
      some_turtle = [];
      some_link = [];
      breeds = [];
    };
    run = [];
    turtles = [];
    patches = (left ∷ []) ∷ (right ∷ []) ∷ [];
    links = [];
    turtles_given = 0;
    links_given = 0;
    base = 0;
  };
}

abbrev number : ℤ → Option Plain
number count = Some (PlainNumber count)

abbrev text : Option Plain
text = Some (PlainWords (codes "x"))

pub a_text_is_no_number : diffuse_fault 14 (pos one) false (pair_of (number (pos 1)) text) ≡ Some fault.WrongType
unfolding diffuse_fault
a_text_is_no_number = refl

pub a_variable_that_is_not_there : diffuse_fault 15 (pos one) false (pair_of (number (pos 1)) (number (pos 1))) ≡ Some fault.WrongType
unfolding diffuse_fault
a_variable_that_is_not_there = refl

pub the_part_comes_first : diffuse_fault 14 (pos 1_000_001) false (pair_of (number (pos 1)) text) ≡ Some fault.Domain
unfolding diffuse_fault
the_part_comes_first = refl

pub less_than_nothing : diffuse_fault 14 (negsuc 0) true (pair_of (number (pos 1)) (number (pos 1))) ≡ Some fault.Domain
unfolding diffuse_fault
less_than_nothing = refl

pub nothing_refused : diffuse_fault 14 (pos one) false (pair_of (number (pos 1)) (number (pos 2))) ≡ None
unfolding diffuse_fault count_after one_share neighbors_of patches_near is_near
nothing_refused = refl
