-- Worked texts with many-way conditions and with blocks that are run in turns, computed.
use Rattle.std.proofs.Common.{◌≡◌, ℕ, List, [], ◌∷◌, true, false, Some, None, map, refl, pos, negsuc, codes}
use Rattle.std.specs.Prelude.{◌*◌}
use Prim.Native.String.{String}
use Rattle.nl_words.specs.Rows.{rows}
use Rattle.nl_fixed.specs.Numbers.{rounded_quotient, as_number, sum_of, difference_of, product_of}
use Rattle.nl_value.specs.Plain.{Plain, PlainNumber, PlainTruth, PlainItems, PlainNobody, plains}
use Rattle.nl_tree.specs.Tree.{Node, node, nodes}
use Rattle.nl_tree.specs.declared.tree.Label.TheVariants as label
use Rattle.nl_agents_layout.specs.Layouts.{layout_of}
use Rattle.nl_birth.specs.Births.{ordered_births}
use Rattle.nl_birth.specs.Looks.{looks_in_order, heading_in_order}
use Rattle.nl_exec_acts.specs.declared.fail.ErrorKind.TheVariants.{WrongType, NoReport, OutOfList, TooFew, Domain}
use Rattle.nl_exec_meaning.specs.State.{Exit, Gives, Stopped, Reported, Budget, Error}
use Rattle.nl_exec_meaning.specs.Blocks.{unending}
use Rattle.nl_exec_meaning.specs.Meaning.{cases, evaluator}
use Rattle.nl_exec_meaning.proofs.Samples.{model, empty_model, procedure, at, word_at, word, one, number, block, expression, literal, runs, exit_of, living, x_after, value_of}

-- [ names -> t ]
abbrev arrow : List String → Node → Node
arrow names t = node (label.Arrow (map codes names)) (at 7) (nodes (t ∷ []))

abbrev numbers : List ℕ → Node
numbers ns = literal (map number ns)

abbrev listing : List ℕ → Exit
listing ns = Gives (PlainItems (plains (map (λ n. PlainNumber (pos (n * 1_000_000))) ns)))

-- map [ v -> v * 2 ] [ 1 2 3 ]
pub each_item_is_mapped : value_of empty_model (word "map" (arrow ("v" ∷ []) (word "*" (one "v" ∷ number 2 ∷ [])) ∷ numbers (1 ∷ 2 ∷ 3 ∷ []) ∷ [])) ≡ listing (2 ∷ 4 ∷ 6 ∷ [])
unfolding cases evaluator rows layout_of product_of rounded_quotient as_number
each_item_is_mapped = refl

-- ( map [ [ a b ] -> a - b ] [ 5 6 ] [ 1 2 ] ), and with a list that is shorter
pub lists_are_gone_through_side_by_side :
    (value_of empty_model (word "map" (arrow ("a" ∷ "b" ∷ []) (word "-" (one "a" ∷ one "b" ∷ [])) ∷ numbers (5 ∷ 6 ∷ []) ∷ numbers (1 ∷ 2 ∷ []) ∷ [])) ≡ listing (4 ∷ 4 ∷ []))
    × (value_of empty_model (word_at 1 "map" (arrow ("a" ∷ "b" ∷ []) (word "-" (one "a" ∷ one "b" ∷ [])) ∷ numbers (5 ∷ 6 ∷ []) ∷ numbers (1 ∷ []) ∷ [])) ≡ Error OutOfList (at 1) 0)
unfolding cases evaluator rows layout_of difference_of as_number
lists_are_gone_through_side_by_side = (refl, refl)

-- map [ 7 ] [ 1 2 ]: a block without a head; map [ v -> v ] 1
pub values_need_no_names :
    (value_of empty_model (word "map" (arrow [] (number 7) ∷ numbers (1 ∷ 2 ∷ []) ∷ [])) ≡ listing (7 ∷ 7 ∷ []))
    × (value_of empty_model (word_at 1 "map" (arrow ("v" ∷ []) (one "v") ∷ number 1 ∷ [])) ≡ Error WrongType (at 1) 0)
unfolding cases evaluator rows layout_of
values_need_no_names = (refl, refl)

-- filter [ v -> v > 1 ] [ 1 2 3 ], and a turn whose value is no truth
pub items_are_filtered :
    (value_of empty_model (word "filter" (arrow ("v" ∷ []) (word ">" (one "v" ∷ number 1 ∷ [])) ∷ numbers (1 ∷ 2 ∷ 3 ∷ []) ∷ [])) ≡ listing (2 ∷ 3 ∷ []))
    × (value_of empty_model (word_at 1 "filter" (arrow ("v" ∷ []) (one "v") ∷ numbers (1 ∷ []) ∷ [])) ≡ Error WrongType (at 1) 0)
unfolding cases evaluator rows layout_of
items_are_filtered = (refl, refl)

-- reduce [ [ a b ] -> a - b ] [ 9 2 3 ], and of no item
pub items_are_reduced :
    (value_of empty_model (word "reduce" (arrow ("a" ∷ "b" ∷ []) (word "-" (one "a" ∷ one "b" ∷ [])) ∷ numbers (9 ∷ 2 ∷ 3 ∷ []) ∷ [])) ≡ Gives (PlainNumber (pos 4_000_000)))
    × (value_of empty_model (word_at 1 "reduce" (arrow ("a" ∷ "b" ∷ []) (one "a") ∷ numbers [] ∷ [])) ≡ Error TooFew (at 1) 0)
unfolding cases evaluator rows layout_of difference_of as_number
items_are_reduced = (refl, refl)

-- sort-by [ [ a b ] -> a > b ] [ 2 3 1 ]; by what is always true, the order stays; one item has no turn
pub items_are_sorted :
    (value_of empty_model (word "sort-by" (arrow ("a" ∷ "b" ∷ []) (word ">" (one "a" ∷ one "b" ∷ [])) ∷ numbers (2 ∷ 3 ∷ 1 ∷ []) ∷ [])) ≡ listing (3 ∷ 2 ∷ 1 ∷ []))
    × (value_of empty_model (word "sort-by" (arrow [] (one "true") ∷ numbers (2 ∷ 3 ∷ 1 ∷ []) ∷ [])) ≡ listing (2 ∷ 3 ∷ 1 ∷ []))
    × (value_of empty_model (word "sort-by" (arrow [] (number 7) ∷ numbers (1 ∷ []) ∷ [])) ≡ listing (1 ∷ []))
unfolding cases evaluator rows layout_of
items_are_sorted = (refl, refl, refl)

-- n-values 3 [ i -> i * i ], and of -0.5
pub numbers_count_up :
    (value_of empty_model (word "n-values" (number 3 ∷ arrow ("i" ∷ []) (word "*" (one "i" ∷ one "i" ∷ [])) ∷ [])) ≡ listing (0 ∷ 1 ∷ 4 ∷ []))
    × (value_of empty_model (word_at 1 "n-values" (node (label.Number (negsuc 499_999)) (at 0) (nodes []) ∷ arrow ("i" ∷ []) (one "i") ∷ [])) ≡ Error Domain (at 1) 0)
unfolding cases evaluator rows layout_of product_of rounded_quotient as_number
numbers_count_up = (refl, refl)

-- foreach [ 1 2 ] [ v -> cro v ] costs a unit itself, and for each turn one and one for its statement
abbrev births_in_turns : Node
births_in_turns = block (word "foreach" (numbers (1 ∷ 2 ∷ []) ∷ arrow ("v" ∷ []) (block (word "cro" (one "v" ∷ []) ∷ [])) ∷ []) ∷ [])

pub turns_cost_units : (living empty_model births_in_turns 5 ≡ 3) × (exit_of empty_model births_in_turns 4 ≡ Budget)
unfolding cases evaluator rows layout_of ordered_births looks_in_order heading_in_order
turns_cost_units = (refl, refl)

-- foreach [ 1 2 ] [ v -> set x v if v = 1 [ stop ] ]: the turn ends the text, and its name is forgotten
abbrev stops_in_a_turn : Node
stops_in_a_turn =
    block (word "foreach" (numbers (1 ∷ 2 ∷ []) ∷ arrow ("v" ∷ []) (block (word "set" (one "x" ∷ one "v" ∷ []) ∷ word "if" (word "=" (one "v" ∷ number 1 ∷ []) ∷ block (one "stop" ∷ []) ∷ []) ∷ [])) ∷ []) ∷ [])

pub stop_ends_all_turns :
    (x_after stops_in_a_turn 9 ≡ Some (PlainNumber (pos 1_000_000))) × (exit_of empty_model stops_in_a_turn 9 ≡ Stopped)
    × ((runs empty_model stops_in_a_turn 9).state.locals ≡ [])
unfolding cases evaluator rows layout_of
stop_ends_all_turns = (refl, refl, refl)

-- ( ifelse-value false [ 1 ] true [ 2 ] [ 3 ] ), ( ifelse-value false [ 1 ] ), ( ifelse-value true [ 1 ] 7 [ 2 ] ), ( ifelse-value false [ 1 ] 7 [ 2 ] )
pub the_first_true_condition_chooses :
    (value_of empty_model (word "ifelse-value" (one "false" ∷ expression (number 1) ∷ one "true" ∷ expression (number 2) ∷ expression (number 3) ∷ [])) ≡ Gives (PlainNumber (pos 2_000_000)))
    × (value_of empty_model (word_at 1 "ifelse-value" (one "false" ∷ expression (number 1) ∷ [])) ≡ Error NoReport (at 1) 0)
    × (value_of empty_model (word "ifelse-value" (one "true" ∷ expression (number 1) ∷ number 7 ∷ expression (number 2) ∷ [])) ≡ Gives (PlainNumber (pos 1_000_000)))
    × (value_of empty_model (word_at 1 "ifelse-value" (one "false" ∷ expression (number 1) ∷ number 7 ∷ expression (number 2) ∷ [])) ≡ Error WrongType (at 1) 0)
unfolding cases evaluator rows layout_of
the_first_true_condition_chooses = (refl, refl, refl, refl)

-- ( ifelse false [ set x 1 ] ) goes on
pub no_block_is_chosen : exit_of empty_model (block (word "ifelse" (one "false" ∷ block (word "set" (one "x" ∷ number 1 ∷ []) ∷ []) ∷ []) ∷ [])) 9 ≡ Gives PlainNobody
unfolding cases evaluator rows layout_of
no_block_is_chosen = refl
