-- Worked texts, computed.
use Rattle.std.proofs.Common.{◌≡◌, [], ◌∷◌, true, false, Some, refl, pos, negsuc}
use Rattle.nl_words.specs.Rows.{rows}
use Rattle.nl_fixed.specs.Numbers.{rounded_quotient, as_number, sum_of, difference_of}
use Rattle.nl_value.specs.Plain.{PlainNumber, PlainTruth, PlainNobody, PlainTurtle}
use Rattle.nl_draw.specs.Stream.{first_state, next_state, word_of, state_after, words_from, drawn, shuffled, shuffled_from}
use Rattle.nl_tree.specs.Tree.{Node}
use Rattle.nl_tree.specs.Checked.{Checked}
use Rattle.nl_agents_layout.specs.Layouts.{layout_of}
use Rattle.nl_birth.specs.Births.{ordered_births}
use Rattle.nl_birth.specs.Looks.{looks_in_order, heading_in_order}
use Rattle.nl_exec_acts.specs.declared.fail.ErrorKind.TheVariants.{WrongType, NoAgent, NoReport}
use Rattle.nl_exec_meaning.specs.State.{Gives, Stopped, Budget, Error}
use Rattle.nl_exec_meaning.specs.Blocks.{unending}
use Rattle.nl_exec_meaning.specs.Meaning.{cases, evaluator}
use Rattle.nl_exec_meaning.proofs.Samples.{model, empty_model, procedure, at, word_at, word, one, millionths, number, block, expression, paren, exit_of, living, x_after, value_of}

-- ---- units

-- a loop without end spends its budget
pub endless : exit_of empty_model (block (word "loop" (block [] ∷ []) ∷ [])) 5 ≡ Budget
unfolding cases evaluator unending rows layout_of
endless = refl

-- cro 2 ask turtles [ die ] cro 1
abbrev births_and_deaths : Node
births_and_deaths =
    block (word "cro" (number 2 ∷ []) ∷ word "ask" (one "turtles" ∷ block (one "die" ∷ []) ∷ []) ∷ word "cro" (number 1 ∷ []) ∷ [])

-- a unit for each statement and each turn: the fifth is that of the second turn
pub one_is_left : (exit_of empty_model births_and_deaths 5 ≡ Budget) × (living empty_model births_and_deaths 5 ≡ 1)
unfolding cases evaluator rows layout_of first_state shuffled shuffled_from drawn words_from word_of state_after next_state looks_in_order heading_in_order rounded_quotient ordered_births
one_is_left = (refl, refl)

pub one_is_born : (exit_of empty_model births_and_deaths 7 ≡ Gives PlainNobody) × (living empty_model births_and_deaths 7 ≡ 1)
unfolding cases evaluator rows layout_of first_state shuffled shuffled_from drawn words_from word_of state_after next_state looks_in_order heading_in_order rounded_quotient ordered_births
one_is_born = (refl, refl)

-- let i 0 while [ i < 3 ] [ set i i + 1 ] set x i
abbrev counting : Node
counting =
    block (word "let" (one "i" ∷ number 0 ∷ [])
    ∷ word "while" (expression (word "<" (one "i" ∷ number 3 ∷ [])) ∷ block (word "set" (one "i" ∷ word "+" (one "i" ∷ number 1 ∷ []) ∷ []) ∷ []) ∷ [])
    ∷ word "set" (one "x" ∷ one "i" ∷ []) ∷ [])

-- three statements, four tests, three turns and their statements
pub counts_to_three : (x_after counting 13 ≡ Some (PlainNumber (pos 3_000_000))) × (exit_of empty_model counting 13 ≡ Gives PlainNobody)
unfolding cases evaluator unending rows layout_of sum_of as_number
counts_to_three = (refl, refl)

pub lacks_a_unit : exit_of empty_model counting 12 ≡ Budget
unfolding cases evaluator unending rows layout_of sum_of as_number
lacks_a_unit = refl

-- repeat 2.9 [ set x x + 1 ], and none below 1
abbrev turns_of : Node → Node
turns_of n = block (word "repeat" (n ∷ block (word "set" (one "x" ∷ word "+" (one "x" ∷ number 1 ∷ []) ∷ []) ∷ []) ∷ []) ∷ [])

pub repeats_whole_turns :
    (x_after (turns_of (millionths (pos 2_900_000))) 50 ≡ Some (PlainNumber (pos 2_000_000)))
    × (x_after (turns_of (millionths (negsuc 999_999))) 50 ≡ Some (PlainNumber (pos 0)))
unfolding cases evaluator rows layout_of sum_of as_number
repeats_whole_turns = (refl, refl)

-- ---- expressions

-- 2 - 1 - 1
pub from_the_left : value_of empty_model (word "-" (word "-" (number 2 ∷ number 1 ∷ []) ∷ number 1 ∷ [])) ≡ Gives (PlainNumber (pos 0))
unfolding cases evaluator rows layout_of difference_of as_number
from_the_left = refl

-- false and 1, true and 1
pub decided_by_the_left :
    (value_of empty_model (word "and" (one "false" ∷ number 1 ∷ [])) ≡ Gives (PlainTruth false))
    × (value_of empty_model (word_at 5 "and" (one "true" ∷ number 1 ∷ [])) ≡ Error WrongType (at 5) 0)
unfolding cases evaluator rows layout_of
decided_by_the_left = (refl, refl)

-- red
pub a_color_is_a_number : value_of empty_model (one "red") ≡ Gives (PlainNumber (pos 15_000_000))
unfolding cases evaluator rows layout_of
a_color_is_a_number = refl

-- ---- agents that die

-- cro 1 set x turtle 0 clear-turtles cro 1
abbrev kept_turtle : Node
kept_turtle = block (word "cro" (number 1 ∷ []) ∷ word "set" (one "x" ∷ word "turtle" (number 0 ∷ []) ∷ []) ∷ one "clear-turtles" ∷ word "cro" (number 1 ∷ []) ∷ [])

pub a_dead_turtle_is_kept : x_after kept_turtle 9 ≡ Some (PlainTurtle 0)
unfolding cases evaluator rows layout_of looks_in_order heading_in_order rounded_quotient ordered_births
a_dead_turtle_is_kept = refl

-- cro 2 ask turtle 0 [ ask turtles [ die ] fd 1 ]
abbrev dead_asker : Node
dead_asker =
    block (word "cro" (number 2 ∷ [])
    ∷ word "ask" (word "turtle" (number 0 ∷ []) ∷ block (word "ask" (one "turtles" ∷ block (one "die" ∷ []) ∷ []) ∷ word "fd" (number 1 ∷ []) ∷ []) ∷ [])
    ∷ [])

-- both turtles have their turns, and the asker leaves at its next statement without a unit
pub an_asker_that_died_leaves : (exit_of empty_model dead_asker 8 ≡ Gives PlainNobody) × (living empty_model dead_asker 8 ≡ 0)
unfolding cases evaluator rows layout_of first_state shuffled shuffled_from drawn words_from word_of state_after next_state looks_in_order heading_in_order rounded_quotient ordered_births
an_asker_that_died_leaves = (refl, refl)

-- ---- procedures

-- to-report gone die report 1 end
abbrev with_gone : Checked
with_gone = model (procedure "gone" true [] ∷ []) (block (one "die" ∷ word "report" (number 1 ∷ []) ∷ []) ∷ [])

-- cro 1 set x [gone] of turtle 0
abbrev value_of_the_gone : Node
value_of_the_gone =
    block (word "cro" (number 1 ∷ []) ∷ word "set" (one "x" ∷ word_at 19 "of" (expression (one "gone") ∷ word "turtle" (number 0 ∷ []) ∷ []) ∷ []) ∷ [])

pub the_gone_have_no_value : (exit_of with_gone value_of_the_gone 9 ≡ Error NoAgent (at 19) 0) × (living with_gone value_of_the_gone 9 ≡ 0)
unfolding cases evaluator rows layout_of looks_in_order heading_in_order rounded_quotient ordered_births
the_gone_have_no_value = (refl, refl)

-- to halt stop end  to-report silent end
abbrev with_halt : Checked
with_halt = model (procedure "halt" false [] ∷ procedure "silent" true [] ∷ []) (block (one "stop" ∷ []) ∷ block [] ∷ [])

-- halt cro 1: the rest of the text runs first. In a block, as in if true [ halt ] cro 1, it ends nothing
pub a_call_that_stopped_ends_the_text :
    (exit_of with_halt (block (paren (one "halt") ∷ word "cro" (number 1 ∷ []) ∷ [])) 9 ≡ Stopped)
    × (living with_halt (block (one "halt" ∷ word "cro" (number 1 ∷ []) ∷ [])) 9 ≡ 1)
    × (exit_of with_halt (block (word "if" (one "true" ∷ block (one "halt" ∷ []) ∷ []) ∷ word "cro" (number 1 ∷ []) ∷ [])) 9 ≡ Gives PlainNobody)
unfolding cases evaluator rows layout_of looks_in_order heading_in_order rounded_quotient ordered_births
a_call_that_stopped_ends_the_text = (refl, refl, refl)

-- set x silent: it ends without `report`
pub a_reporter_has_to_report : exit_of with_halt (block (word "set" (one "x" ∷ word_at 6 "silent" [] ∷ []) ∷ [])) 9 ≡ Error NoReport (at 6) 0
unfolding cases evaluator rows layout_of
a_reporter_has_to_report = refl
