-- Worked texts of draws, points, breeds, links, sets and diffusion, computed.
use Rattle.std.proofs.Common.{◌≡◌, ℕ, List, [], ◌∷◌, true, false, Some, refl, pos, negsuc, codes, length}
use Rattle.nl_words.specs.Rows.{rows}
use Rattle.nl_fixed.specs.Numbers.{rounded_quotient, as_number, sum_of, nearest_multiple, floor_of, ceiling_of, root_up_to, whole_root}
use Rattle.nl_value.specs.Plain.{Plain, PlainNumber, PlainTruth, PlainItems, PlainTurtle, PlainNobody, plains}
use Rattle.nl_grid.specs.Geometry.{Plane, plane_of, wrapped, wrapped_point, moved_inside, patch_at, number_of_patch, center_of, patch_by_coordinates, axis_offset, distance_of, is_near, patches_near, neighbors_of}
use Rattle.nl_draw.specs.Stream.{first_state, next_state, word_of, state_after, words_from, drawn, shuffled, shuffled_from, chosen, chosen_index}
use Rattle.nl_tree.specs.Tree.{Node}
use Rattle.nl_tree.specs.Checked.{Checked}
use Rattle.nl_agents_layout.specs.Layouts.{layout_of}
use Rattle.nl_motion.specs.Diffusion.{one_share, count_after, diffuse_fault}
use Rattle.nl_birth.specs.Births.{drawn_births, ordered_births, hatchings}
use Rattle.nl_birth.specs.Links.{tied_to_all}
use Rattle.nl_birth.specs.Looks.{drawn_looks, looks_in_order, heading_in_order}
use Rattle.nl_exec_acts.specs.declared.fail.ErrorKind.TheVariants.{LinkFault, TooFew, Domain}
use Rattle.nl_exec_meaning.specs.State.{Error, rest_of}
use Rattle.nl_exec_meaning.specs.Meaning.{cases, evaluator}
use Rattle.nl_exec_meaning.proofs.Samples.{declared_with, bred_model, breed, directed_breed, empty_model, at, word_at, word, one, millionths, number, block, expression, torus, runs, runs_in, exit_of, living, x_in, x_after}

-- numbers in a list
abbrev numbers : List ℕ → Plain
numbers ns = PlainItems (plains (each ns))
  where
    each : List ℕ → List Plain
    each [] = []
    each (n ∷ ns) = PlainNumber (pos n) ∷ each ns

abbrev set_x : Node → Node
set_x value = word "set" (one "x" ∷ value ∷ [])

abbrev of_turtle : ℕ → Node → Node
of_turtle n value = word "of" (expression value ∷ word "turtle" (number n ∷ []) ∷ [])

-- ---- draws, from the stream of the seed 42

-- set x list random 10 random 10
pub the_first_draws : x_after (block (set_x (word "list" (word "random" (number 10 ∷ []) ∷ word "random" (number 10 ∷ []) ∷ word "random" (number 10 ∷ []) ∷ [])) ∷ [])) 9
    ≡ Some (numbers (5_000_000 ∷ 9_000_000 ∷ 6_000_000 ∷ []))
unfolding cases evaluator rows layout_of first_state drawn words_from word_of state_after next_state ceiling_of floor_of nearest_multiple as_number
the_first_draws = refl

-- crt 1 set x [list color heading] of turtle 0
pub looks_are_drawn : x_after (block (word "crt" (number 1 ∷ []) ∷ set_x (of_turtle 0 (word "list" (one "color" ∷ one "heading" ∷ []))) ∷ [])) 9
    ≡ Some (numbers (135_000_000 ∷ 339_000_000 ∷ []))
unfolding cases evaluator rows layout_of first_state drawn words_from word_of state_after next_state drawn_looks drawn_births
looks_are_drawn = refl

-- ---- points

-- cro 1 [ set xcor 2.5 ] set x [xcor] of turtle 0, where the world wraps
pub a_coordinate_wraps : x_in (runs_in torus empty_model (block (word "cro" (number 1 ∷ block (word "set" (one "xcor" ∷ millionths (pos 2_500_000) ∷ []) ∷ []) ∷ []) ∷ set_x (of_turtle 0 (one "xcor")) ∷ [])) 9)
    ≡ Some (PlainNumber (negsuc 2_499_999))
unfolding cases evaluator rows layout_of looks_in_order heading_in_order rounded_quotient ordered_births shuffled shuffled_from wrapped_point wrapped moved_inside
a_coordinate_wraps = refl

-- cro 1 [ setxy -2.5 0 ] set x [distancexy 2.49999 0] of turtle 0: round the side it is ten millionths
pub the_shorter_way_round : x_in (runs_in torus empty_model (block (word "cro" (number 1 ∷ block (word "setxy" (millionths (negsuc 2_499_999) ∷ number 0 ∷ []) ∷ []) ∷ [])
    ∷ set_x (of_turtle 0 (word "distancexy" (millionths (pos 2_499_990) ∷ number 0 ∷ []))) ∷ [])) 9)
    ≡ Some (PlainNumber (pos 10))
unfolding cases evaluator rows layout_of looks_in_order heading_in_order rounded_quotient ordered_births shuffled shuffled_from wrapped_point wrapped moved_inside distance_of axis_offset whole_root root_up_to
the_shorter_way_round = refl

-- ---- sets

-- cro 4 ask turtles [ ask other turtles [ die ] ]
pub one_is_left_over : living empty_model (block (word "cro" (number 4 ∷ []) ∷ word "ask" (one "turtles" ∷ block (word "ask" (word "other" (one "turtles" ∷ []) ∷ block (one "die" ∷ []) ∷ []) ∷ []) ∷ []) ∷ [])) 99 ≡ 1
unfolding cases evaluator rows layout_of first_state shuffled shuffled_from drawn words_from word_of state_after next_state looks_in_order heading_in_order rounded_quotient ordered_births
one_is_left_over = refl

-- cro 1 set x turtles set y turtle-set turtles cro 2 set x list count x count y
pub all_turtles_grow : x_after (block (word "cro" (number 1 ∷ []) ∷ set_x (one "turtles") ∷ word "set" (one "y" ∷ word "turtle-set" (one "turtles" ∷ []) ∷ []) ∷ word "cro" (number 2 ∷ [])
    ∷ set_x (word "list" (word "count" (one "x" ∷ []) ∷ word "count" (one "y" ∷ []) ∷ [])) ∷ [])) 9
    ≡ Some (numbers (3_000_000 ∷ 1_000_000 ∷ []))
unfolding cases evaluator rows layout_of looks_in_order heading_in_order rounded_quotient ordered_births
all_turtles_grow = refl

-- cro 1 set x turtle 0 clear-turtles cro 1 set x list (x = nobody) (x = turtle 0)
pub a_dead_turtle_is_nobody : x_after (block (word "cro" (number 1 ∷ []) ∷ set_x (word "turtle" (number 0 ∷ [])) ∷ one "clear-turtles" ∷ word "cro" (number 1 ∷ [])
    ∷ set_x (word "list" (word "=" (one "x" ∷ one "nobody" ∷ []) ∷ word "=" (one "x" ∷ word "turtle" (number 0 ∷ []) ∷ []) ∷ [])) ∷ [])) 9
    ≡ Some (PlainItems (plains (PlainTruth true ∷ PlainTruth false ∷ [])))
unfolding cases evaluator rows layout_of looks_in_order heading_in_order rounded_quotient ordered_births
a_dead_turtle_is_nobody = refl

-- cro 3 set x max-one-of turtles [who], and of none
pub the_greatest : x_after (block (word "cro" (number 3 ∷ []) ∷ set_x (word "max-one-of" (one "turtles" ∷ expression (one "who") ∷ [])) ∷ [])) 9 ≡ Some (PlainTurtle 2)
unfolding cases evaluator rows layout_of first_state drawn words_from word_of state_after next_state chosen chosen_index looks_in_order heading_in_order rounded_quotient ordered_births
the_greatest = refl

pub none_is_the_greatest : x_after (block (set_x (word "max-one-of" (one "turtles" ∷ expression (one "who") ∷ [])) ∷ [])) 9 ≡ Some PlainNobody
unfolding cases evaluator rows layout_of chosen chosen_index
none_is_the_greatest = refl

-- cro 2 set x sort max-n-of N turtles [who]
abbrev some_greatest : Node → Node
some_greatest n = block (word "cro" (number 2 ∷ []) ∷ set_x (word "sort" (word_at 30 "max-n-of" (n ∷ one "turtles" ∷ expression (one "who") ∷ []) ∷ [])) ∷ [])

pub so_many_of_the_greatest :
    (x_after (some_greatest (number 1)) 9 ≡ Some (PlainItems (plains (PlainTurtle 1 ∷ []))))
    × (exit_of empty_model (some_greatest (number 3)) 9 ≡ Error TooFew (at 30) 0)
    × (exit_of empty_model (some_greatest (millionths (negsuc 499_999))) 9 ≡ Error Domain (at 30) 0)
unfolding cases evaluator rows layout_of first_state shuffled shuffled_from drawn words_from word_of state_after next_state looks_in_order heading_in_order rounded_quotient ordered_births
so_many_of_the_greatest = (refl, refl, refl)

-- ---- breeds

-- breed [foxes fox]  breed [owls owl]: create-ordered-foxes 3 ask fox 1 [ set breed owls ] set x list count foxes sort owls
pub a_fox_becomes_an_owl : x_in (runs (bred_model (breed "foxes" "fox" [] ∷ breed "owls" "owl" [] ∷ []))
    (block (word "create-ordered-foxes" (number 3 ∷ []) ∷ word "ask" (word "fox" (number 1 ∷ []) ∷ block (word "set" (one "breed" ∷ one "owls" ∷ []) ∷ []) ∷ [])
    ∷ set_x (word "list" (word "count" (one "foxes" ∷ []) ∷ word "sort" (one "owls" ∷ []) ∷ [])) ∷ [])) 9)
    ≡ Some (PlainItems (plains (PlainNumber (pos 2_000_000) ∷ PlainItems (plains (PlainTurtle 1 ∷ [])) ∷ [])))
unfolding cases evaluator rows layout_of looks_in_order heading_in_order rounded_quotient ordered_births
a_fox_becomes_an_owl = refl

-- ask patches [ sprout-owls 1 [ hatch-foxes 1 ] ]
pub children_change_their_breed : x_in (runs (bred_model (breed "foxes" "fox" [] ∷ breed "owls" "owl" [] ∷ []))
    (block (word "ask" (one "patches" ∷ block (word "sprout-owls" (number 1 ∷ block (word "hatch-foxes" (number 1 ∷ []) ∷ []) ∷ []) ∷ []) ∷ [])
    ∷ set_x (word "list" (word "sort" (one "owls" ∷ []) ∷ word "sort" (one "foxes" ∷ []) ∷ [])) ∷ [])) 9)
    ≡ Some (PlainItems (plains (PlainItems (plains (PlainTurtle 0 ∷ [])) ∷ PlainItems (plains (PlainTurtle 1 ∷ [])) ∷ [])))
unfolding cases evaluator rows layout_of first_state shuffled shuffled_from drawn words_from word_of state_after next_state drawn_looks drawn_births hatchings center_of
children_change_their_breed = refl

-- ---- links

-- cro 2 ask turtle 0 [ create-link-to turtle 1 create-link-with turtle 1 ]
abbrev both_kinds : Node
both_kinds =
    block (word "cro" (number 2 ∷ [])
    ∷ word "ask" (word "turtle" (number 0 ∷ []) ∷ block (word "create-link-to" (word "turtle" (number 1 ∷ []) ∷ []) ∷ word_at 45 "create-link-with" (word "turtle" (number 1 ∷ []) ∷ []) ∷ []) ∷ [])
    ∷ [])

pub links_of_one_kind : (exit_of empty_model both_kinds 9 ≡ Error LinkFault (at 45) 0) × (length (rest_of (runs empty_model both_kinds 9).state).links ≡ 1)
unfolding cases evaluator rows layout_of looks_in_order heading_in_order rounded_quotient ordered_births tied_to_all
links_of_one_kind = (refl, refl)

-- cro 2 ask turtle 0 [ LINK turtle 1 ] ask turtle 1 [ LINK turtle 0 ]
abbrev both_ways : Node → Node → Node
both_ways there back =
    block (word "cro" (number 2 ∷ [])
    ∷ word "ask" (word "turtle" (number 0 ∷ []) ∷ block (there ∷ []) ∷ [])
    ∷ word "ask" (word "turtle" (number 1 ∷ []) ∷ block (back ∷ []) ∷ [])
    ∷ set_x (word "list" (word "count" (one "links" ∷ []) ∷ of_turtle 0 (word "count" (one "my-out-links" ∷ [])) ∷ [])) ∷ [])

pub one_link_joins_both_ways : x_after (both_ways (word "create-link-with" (word "turtle" (number 1 ∷ []) ∷ [])) (word "create-link-with" (word "turtle" (number 0 ∷ []) ∷ []))) 19
    ≡ Some (numbers (1_000_000 ∷ 1_000_000 ∷ []))
unfolding cases evaluator rows layout_of looks_in_order heading_in_order rounded_quotient ordered_births tied_to_all
one_link_joins_both_ways = refl

-- directed-link-breed [wires wire]
pub one_wire_each_way : x_in (runs (bred_model (directed_breed "wires" "wire" ∷ []))
    (both_ways (word "create-wire-to" (word "turtle" (number 1 ∷ []) ∷ [])) (word "create-wire-to" (word "turtle" (number 0 ∷ []) ∷ []))) 19)
    ≡ Some (numbers (2_000_000 ∷ 1_000_000 ∷ []))
unfolding cases evaluator rows layout_of looks_in_order heading_in_order rounded_quotient ordered_births tied_to_all
one_wire_each_way = refl

-- ---- diffusion

-- patches-own [p]
abbrev with_p : Checked
with_p = record { declared = record (declared_with [] []) { patches_own = codes "p" ∷ [] }; bodies = []; kinds = [] }

-- ask patch 0 0 [ set p 8 ] diffuse p 1 set x list ([p] of patch 0 0) ([p] of patch 1 1)
abbrev spreading : Node
spreading =
    block (word "ask" (word "patch" (number 0 ∷ number 0 ∷ []) ∷ block (word "set" (one "p" ∷ number 8 ∷ []) ∷ []) ∷ [])
    ∷ word "diffuse" (one "p" ∷ number 1 ∷ [])
    ∷ set_x (word "list" (word "of" (expression (one "p") ∷ word "patch" (number 0 ∷ number 0 ∷ []) ∷ []) ∷ word "of" (expression (one "p") ∷ word "patch" (number 1 ∷ number 1 ∷ []) ∷ []) ∷ [])) ∷ [])

pub a_lone_patch_keeps_all : x_in (runs with_p spreading 99) ≡ Some (numbers (8_000_000 ∷ 8_000_000 ∷ []))
unfolding cases evaluator rows layout_of sum_of as_number rounded_quotient wrapped wrapped_point moved_inside patch_at number_of_patch patch_by_coordinates neighbors_of patches_near is_near one_share count_after diffuse_fault
a_lone_patch_keeps_all = refl

-- the same of nine patches with edges
abbrev nine : Plane
nine = plane_of (negsuc 0) (pos 1) (negsuc 0) (pos 1) false false

pub each_neighbor_has_a_share : x_in (runs_in nine with_p spreading 99) ≡ Some (numbers (0 ∷ 1_000_000 ∷ []))
unfolding cases evaluator rows layout_of sum_of as_number rounded_quotient wrapped wrapped_point moved_inside patch_at number_of_patch patch_by_coordinates neighbors_of patches_near is_near one_share count_after diffuse_fault
each_neighbor_has_a_share = refl
