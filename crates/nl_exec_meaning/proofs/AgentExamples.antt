-- Worked texts of agents, computed.
use Rattle.std.proofs.Common.{◌≡◌, ℤ, [], ◌∷◌, false, Option, Some, refl, pos, negsuc, length}
use Rattle.std.specs.Prelude.{option_map}
use Prim.Native.String.{String}
use Rattle.nl_words.specs.Rows.{rows}
use Rattle.nl_fixed.specs.Numbers.{rounded_quotient, as_number, sum_of, difference_of}
use Rattle.nl_fixed.specs.Sines.{sine_of, cosine_of, in_turn, nearest_degree, turn_sine, half_turn_sine, sines}
use Rattle.nl_value.specs.Plain.{PlainNumber, PlainTruth, PlainItems, PlainTurtle, PlainSet, plains}
use Rattle.nl_value.specs.declared.sets.AgentSet.TheVariants as set
use Rattle.nl_grid.specs.Geometry.{wrapped, wrapped_point, point_beside, point_ahead, patch_at, number_of_patch}
use Rattle.nl_draw.specs.Stream.{first_state, next_state, word_of, state_after, words_from, drawn, shuffled, shuffled_from}
use Rattle.nl_tree.specs.Tree.{Node}
use Rattle.nl_tree.specs.Checked.{Checked}
use Rattle.nl_agents_layout.specs.Layouts.{layout_of}
use Rattle.nl_agents.specs.Changes.{turtle_of}
use Rattle.nl_birth.specs.Births.{ordered_births, hatchings}
use Rattle.nl_birth.specs.Links.{tied_to_all}
use Rattle.nl_birth.specs.Looks.{looks_in_order, heading_in_order}
use Rattle.nl_exec_acts.specs.declared.fail.ErrorKind.TheVariants.{WrongType, WrongContext, NoAgent, NoVariable, OutOfWorld, TicksOff}
use Rattle.nl_exec_meaning.specs.State.{Outcome, Error, rest_of}
use Rattle.nl_exec_meaning.specs.Meaning.{cases, evaluator}
use Rattle.nl_exec_meaning.proofs.Samples.{empty_model, breed, bred_model, word_at, word, one, millionths, number, block, expression, at, box, runs, runs_in, living, x_in, x_after, value_of}

-- ---- motion

abbrev place_in : Outcome → Option (ℤ × ℤ)
place_in o = option_map (λ t. (t.at.x, t.at.y)) (turtle_of 0 (rest_of o.state))

-- cro 1 [ set heading 90 fd 10 ]: by steps up to the edge of the box; and with jump 10 not at all
abbrev going : String → Node
going name = block (word "cro" (number 1 ∷ block (word "set" (one "heading" ∷ number 90 ∷ []) ∷ word name (number 10 ∷ []) ∷ []) ∷ []) ∷ [])

pub walks_to_the_edge : place_in (runs_in box empty_model (going "fd") 99) ≡ Some (pos 2_000_000, pos 0)
unfolding cases evaluator rows layout_of looks_in_order heading_in_order rounded_quotient ordered_births shuffled shuffled_from point_ahead point_beside sum_of as_number wrapped_point wrapped sine_of cosine_of in_turn nearest_degree turn_sine half_turn_sine sines
walks_to_the_edge = refl

pub jumps_not_past_it : place_in (runs_in box empty_model (going "jump") 99) ≡ Some (pos 0, pos 0)
unfolding cases evaluator rows layout_of looks_in_order heading_in_order rounded_quotient ordered_births shuffled shuffled_from point_ahead point_beside sum_of as_number wrapped_point wrapped sine_of cosine_of in_turn nearest_degree turn_sine half_turn_sine sines
jumps_not_past_it = refl

-- a unit for each step, that which the box forbids too: cro, the turn, two statements and three steps
pub steps_cost : (runs_in box empty_model (going "fd") 7).state.units ≡ 0
unfolding cases evaluator rows layout_of looks_in_order heading_in_order rounded_quotient ordered_births shuffled shuffled_from point_ahead point_beside sum_of as_number wrapped_point wrapped sine_of cosine_of in_turn nearest_degree turn_sine half_turn_sine sines
steps_cost = refl

-- cro 1 [ set xcor 2.5 ]: outside of the box, told at `set`
pub out_of_the_box : (runs_in box empty_model (block (word "cro" (number 1 ∷ block (word_at 9 "set" (one "xcor" ∷ millionths (pos 2_500_000) ∷ []) ∷ []) ∷ []) ∷ [])) 9).exit ≡ Error OutOfWorld (at 9) 0
unfolding cases evaluator rows layout_of looks_in_order heading_in_order rounded_quotient ordered_births shuffled shuffled_from wrapped_point wrapped
out_of_the_box = refl

-- ---- births

-- cro 3 ask turtles [ hatch 1 ]: the new ones don't act in the same ask
pub newborns_wait : living empty_model (block (word "cro" (number 3 ∷ []) ∷ word "ask" (one "turtles" ∷ block (word "hatch" (number 1 ∷ []) ∷ []) ∷ []) ∷ [])) 99 ≡ 6
unfolding cases evaluator rows layout_of first_state shuffled shuffled_from drawn words_from word_of state_after next_state looks_in_order heading_in_order rounded_quotient ordered_births hatchings
newborns_wait = refl

-- cro 3 ask turtle 0 [ create-links-with other turtles ] ask turtle 1 [ die ]: a link dies with its end
abbrev cut_star : Node
cut_star =
    block (word "cro" (number 3 ∷ [])
    ∷ word "ask" (word "turtle" (number 0 ∷ []) ∷ block (word "create-links-with" (word "other" (one "turtles" ∷ []) ∷ []) ∷ []) ∷ [])
    ∷ word "ask" (word "turtle" (number 1 ∷ []) ∷ block (one "die" ∷ []) ∷ [])
    ∷ [])

pub a_link_is_left : length (rest_of (runs empty_model cut_star 99).state).links ≡ 1
unfolding cases evaluator rows layout_of looks_in_order heading_in_order rounded_quotient ordered_births tied_to_all
a_link_is_left = refl

-- ---- sets

-- cro 3 set x [who] of turtles
pub values_are_shuffled : x_after (block (word "cro" (number 3 ∷ []) ∷ word "set" (one "x" ∷ word "of" (expression (one "who") ∷ one "turtles" ∷ []) ∷ []) ∷ [])) 99
    ≡ Some (PlainItems (plains (PlainNumber (pos 2_000_000) ∷ PlainNumber (pos 1_000_000) ∷ PlainNumber (pos 0) ∷ [])))
unfolding cases evaluator rows layout_of first_state shuffled shuffled_from drawn words_from word_of state_after next_state looks_in_order heading_in_order rounded_quotient ordered_births
values_are_shuffled = refl

-- cro 3 set x turtles with [who > 0]
pub those_with : x_after (block (word "cro" (number 3 ∷ []) ∷ word "set" (one "x" ∷ word "with" (one "turtles" ∷ expression (word ">" (one "who" ∷ number 0 ∷ [])) ∷ []) ∷ []) ∷ [])) 99
    ≡ Some (PlainSet (set.SomeTurtles (1 ∷ 2 ∷ [])))
unfolding cases evaluator rows layout_of looks_in_order heading_in_order rounded_quotient ordered_births
those_with = refl

-- cro 3 set x all? turtles [who < 1]: it ends at the first false, after two of three turns
abbrev all_below : Node
all_below = block (word "cro" (number 3 ∷ []) ∷ word "set" (one "x" ∷ word "all?" (one "turtles" ∷ expression (word "<" (one "who" ∷ number 1 ∷ [])) ∷ []) ∷ []) ∷ [])

pub ends_at_the_first : (x_after all_below 4 ≡ Some (PlainTruth false)) × ((runs empty_model all_below 4).state.units ≡ 0)
unfolding cases evaluator rows layout_of looks_in_order heading_in_order rounded_quotient ordered_births
ends_at_the_first = (refl, refl)

-- cro 3 set x turtles with-min [who > 0]: what is no number is passed over
pub truths_are_passed_over : x_after (block (word "cro" (number 3 ∷ []) ∷ word "set" (one "x" ∷ word "with-min" (one "turtles" ∷ expression (word ">" (one "who" ∷ number 0 ∷ [])) ∷ []) ∷ []) ∷ [])) 99
    ≡ Some (PlainSet (set.SomeTurtles []))
unfolding cases evaluator rows layout_of looks_in_order heading_in_order rounded_quotient ordered_births
truths_are_passed_over = refl

-- cro 3 set x sort-on [0 - who] turtles
pub sorted_by_values : x_after (block (word "cro" (number 3 ∷ []) ∷ word "set" (one "x" ∷ word "sort-on" (expression (word "-" (number 0 ∷ one "who" ∷ [])) ∷ one "turtles" ∷ []) ∷ []) ∷ [])) 99
    ≡ Some (PlainItems (plains (PlainTurtle 2 ∷ PlainTurtle 1 ∷ PlainTurtle 0 ∷ [])))
unfolding cases evaluator rows layout_of looks_in_order heading_in_order rounded_quotient ordered_births difference_of as_number
sorted_by_values = refl

-- cro 2 ask turtle 1 [ ask turtle 0 [ set x myself ] ], and myself where the observer asked
pub the_asker : x_after (block (word "cro" (number 2 ∷ []) ∷ word "ask" (word "turtle" (number 1 ∷ []) ∷ block (word "ask" (word "turtle" (number 0 ∷ []) ∷ block (word "set" (one "x" ∷ one "myself" ∷ []) ∷ []) ∷ []) ∷ []) ∷ []) ∷ [])) 99
    ≡ Some (PlainTurtle 1)
unfolding cases evaluator rows layout_of looks_in_order heading_in_order rounded_quotient ordered_births
the_asker = refl

pub nobody_asked : (runs empty_model (block (word "cro" (number 1 ∷ []) ∷ word "ask" (word "turtle" (number 0 ∷ []) ∷ block (word "set" (one "x" ∷ word_at 7 "myself" [] ∷ []) ∷ []) ∷ []) ∷ [])) 99).exit
    ≡ Error NoAgent (at 7) 0
unfolding cases evaluator rows layout_of looks_in_order heading_in_order rounded_quotient ordered_births
nobody_asked = refl

-- ---- variables

-- set x patches ask x [ fd 1 ]: that these are patches is known only when it runs
pub patches_walk_nowhere : (runs empty_model (block (word "set" (one "x" ∷ one "patches" ∷ []) ∷ word "ask" (one "x" ∷ block (word_at 8 "fd" (number 1 ∷ []) ∷ []) ∷ []) ∷ [])) 99).exit
    ≡ Error WrongContext (at 8) 0
unfolding cases evaluator rows layout_of shuffled shuffled_from
patches_walk_nowhere = refl

-- cro 1 [ set color 141 set heading -90 set pcolor 280.5 ] and the three of them
abbrev kept_colors : Node
kept_colors =
    block (word "cro" (number 1 ∷ block (word "set" (one "color" ∷ number 141 ∷ [])
    ∷ word "set" (one "heading" ∷ millionths (negsuc 89_999_999) ∷ [])
    ∷ word "set" (one "pcolor" ∷ millionths (pos 280_500_000) ∷ [])
    ∷ word "set" (one "x" ∷ word "list" (one "color" ∷ word "list" (one "heading" ∷ one "pcolor" ∷ []) ∷ []) ∷ []) ∷ []) ∷ []) ∷ [])

pub colors_and_headings_are_kept : x_after kept_colors 99
    ≡ Some (PlainItems (plains (PlainNumber (pos 1_000_000) ∷ PlainItems (plains (PlainNumber (pos 270_000_000) ∷ PlainNumber (pos 500_000) ∷ [])) ∷ [])))
unfolding cases evaluator rows layout_of looks_in_order heading_in_order rounded_quotient ordered_births shuffled shuffled_from patch_at number_of_patch
colors_and_headings_are_kept = refl

-- cro 1 [ set size true ]
pub a_size_is_a_number : (runs empty_model (block (word "cro" (number 1 ∷ block (word_at 9 "set" (one "size" ∷ one "true" ∷ []) ∷ []) ∷ []) ∷ [])) 9).exit ≡ Error WrongType (at 9) 0
unfolding cases evaluator rows layout_of looks_in_order heading_in_order rounded_quotient ordered_births shuffled shuffled_from
a_size_is_a_number = refl

-- breed [foxes fox]  breed [owls owl]  owls-own [wings]
abbrev with_breeds : Checked
with_breeds = bred_model (breed "foxes" "fox" [] ∷ breed "owls" "owl" ("wings" ∷ []) ∷ [])

-- create-ordered-foxes 1 [ set x wings ]: told at the variable; and after set breed owls it is 0
pub foxes_have_no_wings : (runs with_breeds (block (word "create-ordered-foxes" (number 1 ∷ block (word "set" (one "x" ∷ word_at 30 "wings" [] ∷ []) ∷ []) ∷ []) ∷ [])) 9).exit ≡ Error NoVariable (at 30) 0
unfolding cases evaluator rows layout_of looks_in_order heading_in_order rounded_quotient ordered_births shuffled shuffled_from
foxes_have_no_wings = refl

pub owls_have_wings : x_in (runs with_breeds (block (word "create-ordered-foxes" (number 1 ∷ block (word "set" (one "breed" ∷ one "owls" ∷ []) ∷ word "set" (one "x" ∷ one "wings" ∷ []) ∷ []) ∷ []) ∷ [])) 9)
    ≡ Some (PlainNumber (pos 0))
unfolding cases evaluator rows layout_of looks_in_order heading_in_order rounded_quotient ordered_births shuffled shuffled_from
owls_have_wings = refl

-- ---- the clock

pub the_clock_is_off : value_of empty_model (word_at 3 "ticks" []) ≡ Error TicksOff (at 3) 0
unfolding cases evaluator rows layout_of
the_clock_is_off = refl

-- reset-ticks tick set x ticks
pub the_clock_runs : x_after (block (one "reset-ticks" ∷ one "tick" ∷ word "set" (one "x" ∷ one "ticks" ∷ []) ∷ [])) 3 ≡ Some (PlainNumber (pos 1_000_000))
unfolding cases evaluator rows layout_of sum_of as_number
the_clock_runs = refl
