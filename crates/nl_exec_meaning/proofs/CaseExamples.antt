-- Worked texts for each case of a node, computed.
use Rattle.std.proofs.Common.{◌≡◌, ℕ, [], ◌∷◌, true, false, Some, None, refl, pos, negsuc, codes}
use Rattle.nl_words.specs.Rows.{rows}
use Rattle.nl_fixed.specs.Numbers.{rounded_quotient, as_number, sum_of, difference_of, product_of}
use Rattle.nl_value.specs.Plain.{PlainNumber, PlainTruth, PlainWords, PlainItems, PlainNobody, plains}
use Rattle.nl_grid.specs.Geometry.{wrapped, wrapped_point}
use Rattle.nl_draw.specs.Stream.{first_state, next_state, word_of, state_after, words_from, drawn, shuffled, shuffled_from}
use Rattle.nl_tree.specs.Tree.{Node}
use Rattle.nl_tree.specs.Checked.{Checked}
use Rattle.nl_tree.specs.declared.declared.Form.TheVariants as form
use Rattle.nl_agents_layout.specs.Layouts.{layout_of}
use Rattle.nl_birth.specs.Births.{ordered_births}
use Rattle.nl_birth.specs.Looks.{looks_in_order, heading_in_order}
use Rattle.nl_exec_acts.specs.declared.fail.ErrorKind.TheVariants.{WrongType, WrongContext, TooLarge, TooNested}
use Rattle.nl_exec_meaning.specs.State.{Exit, Gives, Stopped, Budget, Error}
use Rattle.nl_exec_meaning.specs.Blocks.{unending}
use Rattle.nl_exec_meaning.specs.Meaning.{cases, evaluator, nesting_limit, text_by}
use Rattle.nl_exec_meaning.proofs.Samples.{model, empty_model, procedure, at, word_at, word, one, number, block, expression, literal, text_of, minus_at, one_patch, beginning, runs, exit_of, living, x_in, y_in, x_after, value_of}

-- ---- values

-- [1 ["a"]]
pub a_literal_list_has_its_items : value_of empty_model (literal (number 1 ∷ literal (text_of "a" ∷ []) ∷ []))
    ≡ Gives (PlainItems (plains (PlainNumber (pos 1_000_000) ∷ PlainItems (plains (PlainWords (codes "a") ∷ [])) ∷ [])))
unfolding cases evaluator rows layout_of
a_literal_list_has_its_items = refl

-- ( - 3 ), and ( - true )
pub a_number_is_negated :
    (value_of empty_model (minus_at 2 (number 3)) ≡ Gives (PlainNumber (negsuc 2_999_999)))
    × (value_of empty_model (minus_at 2 (one "true")) ≡ Error WrongType (at 2) 0)
unfolding cases evaluator rows layout_of
a_number_is_negated = (refl, refl)

-- true or 1, false or 1
pub or_is_decided_by_the_left :
    (value_of empty_model (word "or" (one "true" ∷ number 1 ∷ [])) ≡ Gives (PlainTruth true))
    × (value_of empty_model (word_at 6 "or" (one "false" ∷ number 1 ∷ [])) ≡ Error WrongType (at 6) 0)
unfolding cases evaluator rows layout_of
or_is_decided_by_the_left = (refl, refl)

-- ifelse-value 1 < 2 [ 3 ] [ 4 ], and ifelse-value 1 [ 3 ] [ 4 ]
pub one_of_two_values :
    (value_of empty_model (word "ifelse-value" (word "<" (number 1 ∷ number 2 ∷ []) ∷ expression (number 3) ∷ expression (number 4) ∷ [])) ≡ Gives (PlainNumber (pos 3_000_000)))
    × (value_of empty_model (word_at 0 "ifelse-value" (number 1 ∷ expression (number 3) ∷ expression (number 4) ∷ [])) ≡ Error WrongType (at 0) 0)
unfolding cases evaluator rows layout_of
one_of_two_values = (refl, refl)

-- ---- locals

-- let a 1 if true [ let b 2 set a b ] set x a
abbrev inner_local : Node
inner_local =
    block (word "let" (one "a" ∷ number 1 ∷ [])
    ∷ word "if" (one "true" ∷ block (word "let" (one "b" ∷ number 2 ∷ []) ∷ word "set" (one "a" ∷ one "b" ∷ []) ∷ []) ∷ [])
    ∷ word "set" (one "x" ∷ one "a" ∷ []) ∷ [])

pub a_block_sets_a_local_around_it : (x_after inner_local 9 ≡ Some (PlainNumber (pos 2_000_000))) × ((runs empty_model inner_local 9).state.locals ≡ [])
unfolding cases evaluator rows layout_of
a_block_sets_a_local_around_it = (refl, refl)

-- repeat 2 [ let k 1 set x x + k ]
pub each_turn_has_its_local : x_after (block (word "repeat" (number 2 ∷ block (word "let" (one "k" ∷ number 1 ∷ []) ∷ word "set" (one "x" ∷ word "+" (one "x" ∷ one "k" ∷ []) ∷ []) ∷ []) ∷ []) ∷ [])) 9
    ≡ Some (PlainNumber (pos 2_000_000))
unfolding cases evaluator rows layout_of sum_of as_number
each_turn_has_its_local = refl

-- to down [ n ] let k n if n > 0 [ down n - 1 ] set x x * 10 + k end
abbrev down_body : Node
down_body =
    block (word "let" (one "k" ∷ one "n" ∷ [])
    ∷ word "if" (word ">" (one "n" ∷ number 0 ∷ []) ∷ block (word "down" (word "-" (one "n" ∷ number 1 ∷ []) ∷ []) ∷ []) ∷ [])
    ∷ word "set" (one "x" ∷ word "+" (word "*" (one "x" ∷ number 10 ∷ []) ∷ one "k" ∷ []) ∷ []) ∷ [])

abbrev with_down : Checked
with_down = model (procedure "down" false (codes "n" ∷ []) ∷ []) (down_body ∷ [])

-- down 2: each call has its own n and k, and keeps them behind an inner one
pub each_call_has_its_locals : x_in (runs with_down (block (word "down" (number 2 ∷ []) ∷ [])) 99) ≡ Some (PlainNumber (pos 12_000_000))
unfolding cases evaluator rows layout_of sum_of difference_of product_of rounded_quotient as_number
each_call_has_its_locals = refl

-- ---- `stop` and `report`

-- repeat 3 [ set x x + 1 stop ] set y 1: it leaves the text
abbrev stopping : Node
stopping =
    block (word "repeat" (number 3 ∷ block (word "set" (one "x" ∷ word "+" (one "x" ∷ number 1 ∷ []) ∷ []) ∷ one "stop" ∷ []) ∷ [])
    ∷ word "set" (one "y" ∷ number 1 ∷ []) ∷ [])

pub stop_leaves_the_text :
    (exit_of empty_model stopping 99 ≡ Stopped) × (x_after stopping 99 ≡ Some (PlainNumber (pos 1_000_000))) × (y_in (runs empty_model stopping 99) ≡ Some (PlainNumber (pos 0)))
unfolding cases evaluator rows layout_of sum_of as_number
stop_leaves_the_text = (refl, refl, refl)

-- cro 2 ask turtles [ set x x + 1 if true [ stop ] set x 9 ]: it leaves a turn of an ask
pub stop_leaves_a_turn : x_after (block (word "cro" (number 2 ∷ [])
    ∷ word "ask" (one "turtles" ∷ block (word "set" (one "x" ∷ word "+" (one "x" ∷ number 1 ∷ []) ∷ []) ∷ word "if" (one "true" ∷ block (one "stop" ∷ []) ∷ []) ∷ word "set" (one "x" ∷ number 9 ∷ []) ∷ []) ∷ []) ∷ [])) 99
    ≡ Some (PlainNumber (pos 2_000_000))
unfolding cases evaluator rows layout_of first_state shuffled shuffled_from drawn words_from word_of state_after next_state looks_in_order heading_in_order rounded_quotient ordered_births sum_of as_number
stop_leaves_a_turn = refl

-- to-report twice [ n ] loop [ if true [ report n * 2 ] ] end
abbrev with_twice : Checked
with_twice =
    model (procedure "twice" true (codes "n" ∷ []) ∷ [])
    (block (word "loop" (block (word "if" (one "true" ∷ block (word "report" (word "*" (one "n" ∷ number 2 ∷ []) ∷ []) ∷ []) ∷ []) ∷ []) ∷ []) ∷ []) ∷ [])

-- set x twice 3: five units, those of the statement, the loop, its turn, `if` and `report`
abbrev set_twice : Node
set_twice = block (word "set" (one "x" ∷ word "twice" (number 3 ∷ []) ∷ []) ∷ [])

pub report_leaves_the_procedure : (x_in (runs with_twice set_twice 5) ≡ Some (PlainNumber (pos 6_000_000))) × (exit_of with_twice set_twice 4 ≡ Budget)
unfolding cases evaluator unending rows layout_of product_of rounded_quotient as_number
report_leaves_the_procedure = (refl, refl)

-- ---- limits

-- to dive [n] if n > 0 [ dive n - 1 ] end
abbrev with_dive : Checked
with_dive =
    model (procedure "dive" false (codes "n" ∷ []) ∷ [])
    (block (word "if" (word_at 17 ">" (one "n" ∷ number 0 ∷ []) ∷ block (word "dive" (word "-" (one "n" ∷ number 1 ∷ []) ∷ []) ∷ []) ∷ []) ∷ []) ∷ [])

-- dive N with room for 20 nodes in each other: a call of N lies 2 + 4 N deep, and its `>` three nodes deeper
abbrev diving : ℕ → Exit
diving n = (text_by with_dive 20 form.Commands (block (word "dive" (number n ∷ []) ∷ [])) (beginning one_patch with_dive 99)).exit

pub too_deep_is_an_error : (diving 3 ≡ Gives PlainNobody) × (diving 4 ≡ Error TooNested (at 17) 1)
unfolding cases evaluator rows layout_of difference_of as_number
too_deep_is_an_error = (refl, refl)

-- dive 124 lies 501 deep, and that fits into the room that there is
pub nesting_has_room : (nesting_limit ≡ 200000) × (exit_of with_dive (block (word "dive" (number 124 ∷ []) ∷ [])) 999 ≡ Gives PlainNobody)
unfolding cases evaluator rows layout_of difference_of as_number
nesting_has_room = (refl, refl)

-- repeat N [ set x list x 1 ]: a list is one deeper than what it holds
abbrev nested_lists : ℕ → Node
nested_lists n = block (word "repeat" (number n ∷ block (word "set" (one "x" ∷ word_at 20 "list" (one "x" ∷ number 1 ∷ []) ∷ []) ∷ []) ∷ []) ∷ [])

pub too_large_is_an_error :
    (exit_of empty_model (nested_lists 199) 999 ≡ Gives PlainNobody) × (exit_of empty_model (nested_lists 200) 999 ≡ Error TooLarge (at 20) 0)
unfolding cases evaluator rows layout_of
too_large_is_an_error = (refl, refl)

-- ---- what is set

-- cro 1 [ set NAME VALUE ]
abbrev setting : Node → Node → Exit
setting variable value =
    exit_of empty_model (block (word "cro" (number 1 ∷ block (word_at 9 "set" (variable ∷ value ∷ []) ∷ []) ∷ []) ∷ [])) 9

pub each_variable_has_its_kind :
    (setting (one "heading") (one "true") ≡ Error WrongType (at 9) 0)
    × (setting (one "hidden?") (number 1) ≡ Error WrongType (at 9) 0)
    × (setting (one "shape") (number 1) ≡ Error WrongType (at 9) 0)
    × (setting (one "breed") (one "patches") ≡ Error WrongType (at 9) 0)
    × (setting (one "xcor") (one "nobody") ≡ Error WrongType (at 9) 0)
    × (setting (one "label") (one "nobody") ≡ Gives PlainNobody)
unfolding cases evaluator rows layout_of first_state shuffled shuffled_from drawn words_from word_of state_after next_state looks_in_order heading_in_order rounded_quotient ordered_births
each_variable_has_its_kind = (refl, refl, refl, refl, refl, refl)

-- set x patches ask x [ set color 1 ]: that patches have no such variable is told at the variable, behind the value
pub patches_have_no_color :
    exit_of empty_model (block (word "set" (one "x" ∷ one "patches" ∷ []) ∷ word "ask" (one "x" ∷ block (word_at 7 "set" (word_at 11 "color" [] ∷ number 1 ∷ []) ∷ []) ∷ []) ∷ [])) 9
    ≡ Error WrongContext (at 11) 0
unfolding cases evaluator rows layout_of shuffled shuffled_from
patches_have_no_color = refl

-- to-report killed ask turtles [ die ] report 5 end
abbrev with_killed : Checked
with_killed =
    model (procedure "killed" true [] ∷ [])
    (block (word "ask" (one "turtles" ∷ block (one "die" ∷ []) ∷ []) ∷ word "report" (number 5 ∷ []) ∷ []) ∷ [])

-- cro 1 ask turtle 0 [ set NAME killed + count turtles set y 1 ]
abbrev killing : Node → Node
killing variable =
    block (word "cro" (number 1 ∷ [])
    ∷ word "ask" (word "turtle" (number 0 ∷ []) ∷ block (word "set" (variable ∷ word "+" (one "killed" ∷ word "count" (one "turtles" ∷ []) ∷ []) ∷ []) ∷ word "set" (one "y" ∷ number 1 ∷ []) ∷ []) ∷ [])
    ∷ [])

-- An agent that died on the way leaves its procedure at the next statement, here `report`.
pub the_dead_report_nothing : (x_in (runs with_killed (killing (one "x")) 99) ≡ Some (PlainNumber (pos 0))) × (exit_of with_killed (killing (one "x")) 99 ≡ Gives PlainNobody)
unfolding cases evaluator rows layout_of first_state shuffled shuffled_from drawn words_from word_of state_after next_state looks_in_order heading_in_order rounded_quotient ordered_births sum_of as_number
the_dead_report_nothing = (refl, refl)

-- to-report dying ask turtles [ die ] end, by the value of another agent's block: cro 1 ask turtle 0 [ set NAME [dying] of patch 0 0 + count turtles set y 1 ]
abbrev with_dying : Checked
with_dying = model (procedure "dying" true [] ∷ []) (block (word "ask" (one "turtles" ∷ block (one "die" ∷ []) ∷ []) ∷ word "report" (number 5 ∷ []) ∷ []) ∷ [])

abbrev dying : Node → Node
dying variable =
    block (word "cro" (number 1 ∷ [])
    ∷ word "ask" (word "turtle" (number 0 ∷ []) ∷ block (
    word "set" (variable ∷ word "+" (word "of" (expression (one "dying") ∷ word "patch" (number 0 ∷ number 0 ∷ []) ∷ []) ∷ word "count" (one "turtles" ∷ []) ∷ []) ∷ [])
    ∷ word "set" (one "y" ∷ number 1 ∷ []) ∷ []) ∷ [])
    ∷ [])

-- The rest of the statement runs: the turtles are counted, a global variable is set, one of turtles isn't; and then the agent leaves.
pub the_dead_go_on_to_the_next_statement :
    (x_in (runs with_dying (dying (one "x")) 99) ≡ Some (PlainNumber (pos 5_000_000)))
    × (y_in (runs with_dying (dying (one "x")) 99) ≡ Some (PlainNumber (pos 0)))
    × (exit_of with_dying (dying (one "color")) 99 ≡ Gives PlainNobody)
unfolding cases evaluator rows layout_of first_state shuffled shuffled_from drawn words_from word_of state_after next_state looks_in_order heading_in_order rounded_quotient ordered_births sum_of as_number wrapped_point wrapped
the_dead_go_on_to_the_next_statement = (refl, refl, refl)

-- ---- clears

-- cro 2 set x 1 reset-ticks clear-all
abbrev clearing : Node
clearing = block (word "cro" (number 2 ∷ []) ∷ word "set" (one "x" ∷ number 1 ∷ []) ∷ one "reset-ticks" ∷ one "clear-all" ∷ [])

pub all_is_cleared :
    (living empty_model clearing 9 ≡ 0) × (x_after clearing 9 ≡ Some (PlainNumber (pos 0))) × ((runs empty_model clearing 9).state.stage.ticks ≡ None)
unfolding cases evaluator rows layout_of looks_in_order heading_in_order rounded_quotient ordered_births
all_is_cleared = (refl, refl, refl)
