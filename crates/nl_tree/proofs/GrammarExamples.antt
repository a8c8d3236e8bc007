-- Trees of some texts, with the tokens marked by the whole word table of a model that declares nothing.
use Rattle.std.proofs.Common.{◌≡◌, ℕ, zero, suc, true, false, List, [], ◌∷◌, refl, pos, codes}
use Prim.Native.String.{String}
use Rattle.nl_fixed.specs.declared.span.Span.{Span}
use Rattle.nl_words.specs.Rows.{rows}
use Rattle.nl_tree.specs.declared.tree.Label.{Label}
use Rattle.nl_tree.specs.declared.tree.Label.TheVariants as label
use Rattle.nl_tree.specs.declared.declared.Declared.{Declared}
use Rattle.nl_tree.specs.declared.declared.Form.TheVariants as form
use Rattle.nl_tree.specs.Tree.{Node, node, Nodes, none, more, depth}
use Rattle.nl_tree.specs.Vocabulary.{terms}
use Rattle.nl_tree.specs.Tokens.{Lexeme, Number, Text, Word, Open, Close, OpenParen, CloseParen, End, Token, Tok, marked}
use Rattle.nl_tree.specs.Grammar.{one, two, leaf, Reads, Level, Closed, Statements, knows, closed_number, closed_text, closed_constant, closed_plain, closed_variable, closed_local, closed_list, closed_block, paren, paren_many, paren_minus, chain_closed, chain_with, chain_near, one_side, more_sides, call_prefix, call_many, one_item, more_items, last_call, more_last, no_item, any_item, item_chain, item_call, item_near, item_of, level_up, level_binary, literal_end, literal_number, literal_text, literal_constant, literal_list, arg_item, arg_whole, arg_commands, arg_reporter, arg_variable, arg_local, no_arg, arg, maybe_there, maybe_missing, command, make, statement_paren, at_bracket, at_end, statements, IsText}
use Rattle.nl_tree.specs.declared.needs.Ending.TheVariants.{AtEnd}

-- a model that declares nothing
abbrev pub bare : Declared
bare = record { widgets = []; globals = []; turtles_own = []; patches_own = []; links_own = []; breeds = []; procedures = []; index = [] }

-- tokens that are one byte long, at places counted from 0
abbrev pub at : ℕ → Span
at i = record { start = i; len = 1 }

abbrev pub token : Lexeme → ℕ → Token
token l i = record { lexeme = l; span = at i }

abbrev pub w : String → ℕ → Token
w s i = token (Word (codes s)) i

abbrev pub n : ℕ → ℕ → Token
n v i = token (Number (pos v)) i

abbrev pub num : ℕ → ℕ → Node
num v i = leaf (label.Number (pos v)) (at i)

abbrev pub quoted : String → ℕ → Node
quoted s i = leaf (label.Text (codes s)) (at i)

abbrev pub named : String → ℕ → Nodes → Node
named s i ts = node (label.Named (codes s)) (at i) ts

abbrev pub IsTextOf : Label → List Token → Node → Type 0
IsTextOf (label.Commands) ts t = IsText form.Commands [] (marked (terms bare) ts) t
IsTextOf l ts t = IsText form.Reporter [] (marked (terms bare) ts) t

abbrev pub item : {e : List (List ℕ)} {a c : List Tok} {t : Node} → Reads Closed e a c (one t) → Reads (Level zero) e a c (one t)
item d = item_chain (chain_closed d)

abbrev pub lifted : {e : List (List ℕ)} {a c : List Tok} {t : Node} (k : ℕ) → Reads (Level zero) e a c (one t) → Reads (Level k) e a c (one t)
lifted zero d = d
lifted (suc k) d = level_up (lifted k d)

-- 2 - 1 - 1
minus_twice : IsTextOf label.Reporter (n 2 0 ∷ w "-" 1 ∷ n 1 2 ∷ w "-" 3 ∷ n 1 4 ∷ token End 5 ∷ [])
    (named "-" 3 (two (named "-" 1 (two (num 2 0) (num 1 2))) (num 1 4)))
unfolding rows
minus_twice = (at 5, level_up (level_up (level_up (level_binary (level_binary (lifted 3 (item closed_number)) (lifted 2 (item closed_number))) (lifted 2 (item closed_number))))))

-- [ who ] of turtles with [ color = red ]
of_with : IsTextOf label.Reporter
    (token Open 0 ∷ w "who" 1 ∷ token Close 2 ∷ w "of" 3 ∷ w "turtles" 4 ∷ w "with" 5 ∷ token Open 6 ∷ w "color" 7 ∷ w "=" 8 ∷ w "red" 9 ∷ token Close 10 ∷ token End 11 ∷ [])
    (named "of" 3 (two (node label.Reporter (at 0) (one (named "who" 1 none)))
    (named "with" 5 (two (named "turtles" 4 none) (node label.Reporter (at 6) (one (named "=" 8 (two (named "color" 7 none) (named "red" 9 none)))))))))
unfolding rows
of_with =
    let equal = level_up (level_binary (lifted 5 (item closed_variable)) (lifted 4 (item closed_constant))) in
    (at 11, lifted 6 (item_of (arg_reporter (lifted 6 (item closed_variable))) (item_chain (chain_with (chain_closed closed_plain) (arg_reporter equal)))))

-- [ red ] is a list, and [ red ] of turtles has a block
bracket_is_a_list : IsTextOf label.Reporter (token Open 0 ∷ w "red" 1 ∷ token Close 2 ∷ token End 3 ∷ []) (node label.List (at 0) (one (named "red" 1 none)))
unfolding rows
bracket_is_a_list = (at 3, lifted 6 (item (closed_list (literal_constant literal_end))))

bracket_is_a_block : IsTextOf label.Reporter (token Open 0 ∷ w "red" 1 ∷ token Close 2 ∷ w "of" 3 ∷ w "turtles" 4 ∷ token End 5 ∷ [])
    (named "of" 3 (two (node label.Reporter (at 0) (one (named "red" 1 none))) (named "turtles" 4 none)))
unfolding rows
bracket_is_a_block = (at 5, lifted 6 (item_of (arg_reporter (lifted 6 (item closed_constant))) (item closed_plain)))

-- "a" is a text, and [1 "a" [2]] a list of a number, a text and a list
text_is_a_value : IsTextOf label.Reporter (token (Text (codes "a")) 0 ∷ token End 1 ∷ []) (quoted "a" 0)
unfolding rows
text_is_a_value = (at 1, lifted 6 (item closed_text))

list_of_literals : IsTextOf label.Reporter (token Open 0 ∷ n 1 1 ∷ token (Text (codes "a")) 2 ∷ token Open 3 ∷ n 2 4 ∷ token Close 5 ∷ token Close 6 ∷ token End 7 ∷ [])
    (node label.List (at 0) (more (num 1 1) (two (quoted "a" 2) (node label.List (at 3) (one (num 2 4))))))
unfolding rows
list_of_literals = (at 7, lifted 6 (item (closed_list (literal_number (literal_text (literal_list (literal_number literal_end) literal_end))))))

-- count turtles = 3 compares a count: an input of a reporter is an item
inputs_are_items : IsTextOf label.Reporter (w "count" 0 ∷ w "turtles" 1 ∷ w "=" 2 ∷ n 3 3 ∷ token End 4 ∷ [])
    (named "=" 2 (two (named "count" 0 (one (named "turtles" 1 none))) (num 3 3)))
unfolding rows
inputs_are_items = (at 4, level_up (level_binary (lifted 5 (item_call (call_prefix no_arg (item closed_plain)))) (lifted 4 (item closed_number))))

-- turtles in-radius abs 3: the last right side may be a call
last_side_is_a_call : IsTextOf label.Reporter (w "turtles" 0 ∷ w "in-radius" 1 ∷ w "abs" 2 ∷ n 3 3 ∷ token End 4 ∷ [])
    (named "in-radius" 1 (two (named "turtles" 0 none) (named "abs" 2 (one (num 3 3)))))
unfolding rows
last_side_is_a_call = (at 4, lifted 6 (item_near (chain_closed closed_plain) (last_call (call_prefix no_arg (item closed_number)))))

-- turtles in-cone 3 60 has two right sides, of which the last may be a call, as in turtles in-cone 3 random 60
two_sides : IsTextOf label.Reporter (w "turtles" 0 ∷ w "in-cone" 1 ∷ n 3 2 ∷ n 60 3 ∷ token End 4 ∷ [])
    (named "in-cone" 1 (more (named "turtles" 0 none) (two (num 3 2) (num 60 3))))
unfolding rows
two_sides = (at 4, lifted 6 (item_chain (chain_near (chain_closed closed_plain) (more_sides closed_number (one_side closed_number)))))

last_of_two_sides_is_a_call : IsTextOf label.Reporter (w "turtles" 0 ∷ w "in-cone" 1 ∷ n 3 2 ∷ w "random" 3 ∷ n 60 4 ∷ token End 5 ∷ [])
    (named "in-cone" 1 (more (named "turtles" 0 none) (two (num 3 2) (named "random" 3 (one (num 60 4))))))
unfolding rows
last_of_two_sides_is_a_call = (at 5, lifted 6 (item_near (chain_closed closed_plain) (more_last closed_number (last_call (call_prefix no_arg (item closed_number))))))

-- max-n-of 2 turtles [who] ends with its block
call_ends_with_its_block : IsTextOf label.Reporter (w "max-n-of" 0 ∷ n 2 1 ∷ w "turtles" 2 ∷ token Open 3 ∷ w "who" 4 ∷ token Close 5 ∷ token End 6 ∷ [])
    (named "max-n-of" 0 (more (num 2 1) (two (named "turtles" 2 none) (node label.Reporter (at 3) (one (named "who" 4 none))))))
unfolding rows
call_ends_with_its_block =
    let inputs = arg (arg_item (item closed_number)) (arg (arg_item (item closed_plain)) no_arg) in
    (at 6, lifted 6 (item (closed_block inputs (arg_reporter (lifted 6 (item closed_variable))))))

-- list 1 2: without parentheses such a word takes its usual number of items
usual_items : IsTextOf label.Reporter (w "list" 0 ∷ n 1 1 ∷ n 2 2 ∷ token End 3 ∷ []) (named "list" 0 (two (num 1 1) (num 2 2)))
unfolding rows
usual_items = (at 3, lifted 6 (item_call (call_many (more_items (item closed_number) (one_item (item closed_number))))))

-- Parentheses: an expression, a word with any number of items, a negation, a statement.
around_an_expression : IsTextOf label.Reporter (token OpenParen 0 ∷ n 1 1 ∷ w "+" 2 ∷ n 2 3 ∷ token CloseParen 4 ∷ token End 5 ∷ [])
    (node label.Paren (at 0) (one (named "+" 2 (two (num 1 1) (num 2 3)))))
unfolding rows
around_an_expression = (at 5, lifted 6 (item (paren (level_up (level_up (level_up (level_binary (lifted 3 (item closed_number)) (lifted 2 (item closed_number)))))))))

around_many : IsTextOf label.Reporter (token OpenParen 0 ∷ w "list" 1 ∷ n 1 2 ∷ n 2 3 ∷ n 3 4 ∷ token CloseParen 5 ∷ token End 6 ∷ [])
    (node label.Paren (at 0) (one (named "list" 1 (more (num 1 2) (two (num 2 3) (num 3 4))))))
unfolding rows
around_many = (at 6, lifted 6 (item (paren_many (any_item (item closed_number) (any_item (item closed_number) (any_item (item closed_number) no_item))))))

around_none : IsTextOf label.Reporter (token OpenParen 0 ∷ w "list" 1 ∷ token CloseParen 2 ∷ token End 3 ∷ []) (node label.Paren (at 0) (one (named "list" 1 none)))
unfolding rows
around_none = (at 3, lifted 6 (item (paren_many no_item)))

around_a_negation : IsTextOf label.Reporter (token OpenParen 0 ∷ w "-" 1 ∷ n 1 2 ∷ token CloseParen 3 ∷ token End 4 ∷ [])
    (node label.Paren (at 0) (one (node label.Negate (at 1) (one (num 1 2)))))
unfolding rows
around_a_negation = (at 4, lifted 6 (item (paren_minus (item closed_number))))

around_a_statement : IsTextOf label.Commands (token OpenParen 0 ∷ w "stop" 1 ∷ token CloseParen 2 ∷ token End 3 ∷ [])
    (node label.Commands (at 0) (one (node label.Paren (at 0) (one (named "stop" 1 none)))))
unfolding rows
around_a_statement = (one (node label.Paren (at 0) (one (named "stop" 1 none))), refl, statements (statement_paren (command no_arg)) at_end)

-- An empty text of commands has the place of what ends it.
nothing_at_all : IsTextOf label.Commands (token End 7 ∷ []) (node label.Commands (at 7) none)
unfolding rows
nothing_at_all = (none, refl, at_end)

-- let x 5 print x, also with the first statement in parentheses
made_is_known : IsTextOf label.Commands (w "let" 0 ∷ w "x" 1 ∷ n 5 2 ∷ w "print" 3 ∷ w "x" 4 ∷ token End 5 ∷ [])
    (node label.Commands (at 0) (two (named "let" 0 (two (named "x" 1 none) (num 5 2))) (named "print" 3 (one (named "x" 4 none)))))
unfolding rows
made_is_known = (
  two (named "let" 0 (two (named "x" 1 none) (num 5 2))) (named "print" 3 (one (named "x" 4 none))),
  refl,
  statements (make refl (lifted 6 (item closed_number))) (statements (command (arg (arg_whole (lifted 6 (item (closed_local refl)))) no_arg)) at_end),
)

made_in_parentheses_is_known : IsTextOf label.Commands (token OpenParen 0 ∷ w "let" 1 ∷ w "x" 2 ∷ n 5 3 ∷ token CloseParen 4 ∷ w "print" 5 ∷ w "x" 6 ∷ token End 7 ∷ [])
    (node label.Commands (at 0) (two (node label.Paren (at 0) (one (named "let" 1 (two (named "x" 2 none) (num 5 3))))) (named "print" 5 (one (named "x" 6 none)))))
unfolding rows
made_in_parentheses_is_known = (
  two (node label.Paren (at 0) (one (named "let" 1 (two (named "x" 2 none) (num 5 3))))) (named "print" 5 (one (named "x" 6 none))),
  refl,
  statements (statement_paren (make refl (lifted 6 (item closed_number)))) (statements (command (arg (arg_whole (lifted 6 (item (closed_local refl)))) no_arg)) at_end),
)

-- x is known at the parenthesis that closes its statement, and isn't at the number before it
made_in_parentheses_reads : Reads (Statements AtEnd) [] (marked (terms bare) (token OpenParen 0 ∷ w "let" 1 ∷ w "x" 2 ∷ n 5 3 ∷ token CloseParen 4 ∷ token End 5 ∷ [])) [] (one (node label.Paren (at 0) (one (named "let" 1 (two (named "x" 2 none) (num 5 3))))))
unfolding rows
made_in_parentheses_reads = statements (statement_paren (make refl (lifted 6 (item closed_number)))) at_end

known_at_the_parenthesis : knows (codes "x") 2 made_in_parentheses_reads ≡ true
unfolding rows made_in_parentheses_reads
known_at_the_parenthesis = refl

not_known_at_the_number : knows (codes "x") 3 made_in_parentheses_reads ≡ false
unfolding rows made_in_parentheses_reads
not_known_at_the_number = refl

-- loop [ let x 5 ] let x 6: a block ends what it makes, and the name may be made again
made_in_a_block_ends_with_it : IsTextOf label.Commands (w "loop" 0 ∷ token Open 1 ∷ w "let" 2 ∷ w "x" 3 ∷ n 5 4 ∷ token Close 5 ∷ w "let" 6 ∷ w "x" 7 ∷ n 6 8 ∷ token End 9 ∷ [])
    (node label.Commands (at 0) (two (named "loop" 0 (one (node label.Commands (at 1) (one (named "let" 2 (two (named "x" 3 none) (num 5 4))))))) (named "let" 6 (two (named "x" 7 none) (num 6 8)))))
unfolding rows
made_in_a_block_ends_with_it =
    let block = arg_commands (statements (make refl (lifted 6 (item closed_number))) at_bracket) in (
      two (named "loop" 0 (one (node label.Commands (at 1) (one (named "let" 2 (two (named "x" 3 none) (num 5 4))))))) (named "let" 6 (two (named "x" 7 none) (num 6 8))),
      refl,
      statements (command (arg block no_arg)) (statements (make refl (lifted 6 (item closed_number))) at_end),
    )

-- crt 1 and crt 1 [ die ]
block_is_missing : IsTextOf label.Commands (w "crt" 0 ∷ n 1 1 ∷ token End 2 ∷ []) (node label.Commands (at 0) (one (named "crt" 0 (one (num 1 1)))))
unfolding rows
block_is_missing = (one (named "crt" 0 (one (num 1 1))), refl, statements (command (arg (arg_whole (lifted 6 (item closed_number))) (maybe_missing refl no_arg))) at_end)

block_is_there : IsTextOf label.Commands (w "crt" 0 ∷ n 1 1 ∷ token Open 2 ∷ w "die" 3 ∷ token Close 4 ∷ token End 5 ∷ [])
    (node label.Commands (at 0) (one (named "crt" 0 (two (num 1 1) (node label.Commands (at 2) (one (named "die" 3 none)))))))
unfolding rows
block_is_there = (
  one (named "crt" 0 (two (num 1 1) (node label.Commands (at 2) (one (named "die" 3 none))))),
  refl,
  statements (command (arg (arg_whole (lifted 6 (item closed_number))) (maybe_there (arg_commands (statements (command no_arg) at_bracket)) no_arg))) at_end,
)

-- set color red, and ask turtles [ fd 1 ]
variable_is_set : IsTextOf label.Commands (w "set" 0 ∷ w "color" 1 ∷ w "red" 2 ∷ token End 3 ∷ [])
    (node label.Commands (at 0) (one (named "set" 0 (two (named "color" 1 none) (named "red" 2 none)))))
unfolding rows
variable_is_set = (
  one (named "set" 0 (two (named "color" 1 none) (named "red" 2 none))),
  refl,
  statements (command (arg arg_variable (arg (arg_whole (lifted 6 (item closed_constant))) no_arg))) at_end,
)

-- let x 1 set x 2: a local is set
local_is_set : IsTextOf label.Commands (w "let" 0 ∷ w "x" 1 ∷ n 1 2 ∷ w "set" 3 ∷ w "x" 4 ∷ n 2 5 ∷ token End 6 ∷ [])
    (node label.Commands (at 0) (two (named "let" 0 (two (named "x" 1 none) (num 1 2))) (named "set" 3 (two (named "x" 4 none) (num 2 5)))))
unfolding rows
local_is_set = (
  two (named "let" 0 (two (named "x" 1 none) (num 1 2))) (named "set" 3 (two (named "x" 4 none) (num 2 5))),
  refl,
  statements (make refl (lifted 6 (item closed_number))) (statements (command (arg (arg_local refl) (arg (arg_whole (lifted 6 (item closed_number))) no_arg))) at_end),
)

-- Depth is 1 plus the greatest depth of the parts.
depth_counts : depth (named "-" 3 (two (named "-" 1 (two (num 2 0) (num 1 2))) (num 1 4))) ≡ 3
depth_counts = refl
