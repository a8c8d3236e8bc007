-- What a reading leaves of the tokens is a rest of them.
use Rattle.std.proofs.Common.{ℕ, List, ◌∷◌, length, ◌≤◌, arith}
use Rattle.nl_tree.specs.Tree.{Nodes}
use Rattle.nl_tree.specs.Tokens.{Tok}
use Rattle.nl_tree.specs.Grammar.{Part, Reads, closed_number, closed_text, closed_constant, closed_plain, closed_variable, closed_local, closed_list, closed_block, paren, paren_many, paren_minus, chain_closed, chain_with, chain_near, one_side, more_sides, call_prefix, call_many, one_item, more_items, no_item, any_item, last_call, more_last, item_chain, item_call, item_near, item_of, level_up, level_binary, literal_end, literal_number, literal_text, literal_constant, literal_list, arg_item, arg_whole, arg_commands, arg_reporter, arg_arrow_commands, arg_arrow_reporter, arg_variable, arg_local, no_head, head_arrow, head_name, head_names, names_end, next_name, no_arg, arg, maybe_there, maybe_missing, command, make, statement_paren, at_bracket, at_end, statements}

-- What is left of tokens.
pub data Suffix (c : List Tok) : List Tok → Type 0 where
  same : Suffix c c
  longer : {t : Tok} {a : List Tok} → Suffix c a → Suffix c (t ∷ a)

pub beyond : {b a c : List Tok} → Suffix b a → Suffix c b → Suffix c a
beyond same s = s
beyond (longer r) s = longer (beyond r s)

pub shorter : {c a : List Tok} → Suffix c a → length c ≤ length a
shorter same = omega arith
shorter (longer s) = omega (arith, shorter s)

pub suffix : {p : Part} {e : List (List ℕ)} {a c : List Tok} {ts : Nodes} → Reads p e a c ts → Suffix c a
suffix closed_number = longer same
suffix closed_text = longer same
suffix closed_constant = longer same
suffix closed_plain = longer same
suffix closed_variable = longer same
suffix (closed_local m) = longer same
suffix (closed_list d) = longer (suffix d)
suffix (closed_block d f) = longer (beyond (suffix d) (suffix f))
suffix (paren d) = longer (beyond (suffix d) (longer same))
suffix (paren_many d) = longer (longer (beyond (suffix d) (longer same)))
suffix (paren_minus d) = longer (longer (beyond (suffix d) (longer same)))
suffix (chain_closed d) = suffix d
suffix (chain_with d f) = beyond (suffix d) (longer (suffix f))
suffix (chain_near d f) = beyond (suffix d) (longer (suffix f))
suffix (one_side d) = suffix d
suffix (more_sides d f) = beyond (suffix d) (suffix f)
suffix (call_prefix d f) = longer (beyond (suffix d) (suffix f))
suffix (call_many d) = longer (suffix d)
suffix (one_item d) = suffix d
suffix (more_items d f) = beyond (suffix d) (suffix f)
suffix no_item = same
suffix (any_item d f) = beyond (suffix d) (suffix f)
suffix (last_call d) = suffix d
suffix (more_last d f) = beyond (suffix d) (suffix f)
suffix (item_chain d) = suffix d
suffix (item_call d) = suffix d
suffix (item_near d f) = beyond (suffix d) (longer (suffix f))
suffix (item_of d f) = beyond (suffix d) (longer (suffix f))
suffix (level_up d) = suffix d
suffix (level_binary d f) = beyond (suffix d) (longer (suffix f))
suffix literal_end = longer same
suffix (literal_number d) = longer (suffix d)
suffix (literal_text d) = longer (suffix d)
suffix (literal_constant d) = longer (suffix d)
suffix (literal_list d f) = longer (beyond (suffix d) (suffix f))
suffix (arg_item d) = suffix d
suffix (arg_whole d) = suffix d
suffix (arg_commands d) = longer (suffix d)
suffix (arg_reporter d) = longer (beyond (suffix d) (longer same))
suffix (arg_arrow_commands d f) = longer (beyond (suffix d) (suffix f))
suffix (arg_arrow_reporter d f) = longer (beyond (beyond (suffix d) (suffix f)) (longer same))
suffix arg_variable = longer same
suffix (arg_local m) = longer same
suffix no_head = same
suffix head_arrow = longer same
suffix (head_name m) = longer (longer same)
suffix (head_names d) = longer (beyond (suffix d) (longer same))
suffix names_end = longer same
suffix (next_name m d) = longer (suffix d)
suffix no_arg = same
suffix (arg d f) = beyond (suffix d) (suffix f)
suffix (maybe_there d f) = beyond (suffix d) (suffix f)
suffix (maybe_missing m d) = suffix d
suffix (command d) = longer (suffix d)
suffix (make m d) = longer (longer (suffix d))
suffix (statement_paren d) = longer (beyond (suffix d) (longer same))
suffix at_bracket = longer same
suffix at_end = longer same
suffix (statements d f) = beyond (suffix d) (suffix f)
