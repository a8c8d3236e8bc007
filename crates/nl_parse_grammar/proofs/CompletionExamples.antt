-- What some tokens leave open, the least depth that they allow, and the kinds of some faults.
use Rattle.std.proofs.Common.{◌≡◌, ℕ, zero, suc, false, List, [], ◌∷◌, ◌++◌, refl, codes}
use Rattle.nl_tree.specs.declared.declared.Form.TheVariants as form
use Rattle.nl_tree.specs.Tokens.{Unknown, Plain, Named, Many, Command, Let, Near, Binary, Tok, open_bracket, close_bracket, open_paren}
use Rattle.nl_tree.specs.declared.needs.Block.TheVariants as blocks
use Rattle.nl_tree.specs.declared.needs.Need.TheVariants.{Whole, Within, Maybe, Variable}
use Rattle.nl_tree.specs.declared.faults.BodyKind.{BodyKind}
use Rattle.nl_tree.specs.declared.faults.BodyKind.TheVariants.{UnknownName, Unexpected}
use Rattle.nl_parse_grammar.specs.Machine.{Step, go, stop, run, start}
use Rattle.nl_parse_grammar.specs.Depth.{least_depth}
use Rattle.nl_parse_grammar.specs.Completion.{Piece, AValue, AVariable, AStatement, AnOf, AnArrow, AName, ABracket, ItsBracket, ItsParen, ItsEnd, pieces}
use Rattle.nl_parse_grammar.specs.Fault.{kind_at}
use Rattle.nl_parse_grammar.proofs.MachineExamples.{at, w, n, mapping, reducing, counting, each, local, variable, arrow, left, right}

abbrev pieces_of : Step → List Piece
pieces_of (go s) = pieces s
pieces_of stop = []

abbrev depth_of : Step → ℕ
depth_of (go s) = least_depth s
depth_of stop = 0

abbrev expression : List Tok → Step
expression toks = run (start form.Reporter [] (at 0)) toks

abbrev commands : List Tok → Step
commands toks = run (start form.Commands [] (at 0)) toks

-- a value
nothing_yet : pieces_of (expression []) ≡ AValue ∷ ItsEnd ∷ []
nothing_yet = refl

after_an_operator : pieces_of (expression (n 1 0 ∷ w "+" (Binary 2 false) 1 ∷ [])) ≡ AValue ∷ ItsEnd ∷ []
after_an_operator = refl

second_side : pieces_of (expression (w "turtles" Plain 0 ∷ w "in-cone" (Near 1) 1 ∷ [])) ≡ AValue ∷ AValue ∷ ItsEnd ∷ []
second_side = refl

-- an open bracket: a list where it may be one, else the block of an `of`
bracket_alone : pieces_of (expression (open_bracket (at 0) ∷ [])) ≡ ItsBracket ∷ ItsEnd ∷ []
bracket_alone = refl

bracket_and_literals : pieces_of (expression (open_bracket (at 0) ∷ n 1 1 ∷ open_bracket (at 2) ∷ [])) ≡ ItsBracket ∷ ItsBracket ∷ ItsEnd ∷ []
bracket_and_literals = refl

bracket_and_variable : pieces_of (expression (open_bracket (at 0) ∷ w "who" Named 1 ∷ [])) ≡ ItsBracket ∷ AnOf ∷ AValue ∷ ItsEnd ∷ []
bracket_and_variable = refl

bracket_and_sum : pieces_of (expression (open_bracket (at 0) ∷ n 1 1 ∷ w "+" (Binary 2 false) 2 ∷ [])) ≡ AValue ∷ ItsBracket ∷ AnOf ∷ AValue ∷ ItsEnd ∷ []
bracket_and_sum = refl

-- items
items_without : pieces_of (expression (w "list" (Many 1) 0 ∷ n 1 1 ∷ [])) ≡ AValue ∷ ItsEnd ∷ []
items_without = refl

items_in_parentheses : pieces_of (expression (open_paren (at 0) ∷ w "list" (Many 1) 1 ∷ [])) ≡ ItsParen ∷ ItsEnd ∷ []
items_in_parentheses = refl

one_item_in_parentheses : pieces_of (expression (open_paren (at 0) ∷ w "list" (Many 1) 1 ∷ n 1 2 ∷ [])) ≡ ItsParen ∷ ItsEnd ∷ []
one_item_in_parentheses = refl

-- blocks, a variable, a name, a statement
both_blocks : pieces_of (commands (w "while" (Command (Within blocks.Reporter ∷ Within blocks.Commands ∷ [])) 0 ∷ [])) ≡ ABracket ∷ AValue ∷ ItsBracket ∷ ABracket ∷ ItsBracket ∷ ItsEnd ∷ []
both_blocks = refl

block_may_be_missing : pieces_of (commands (w "crt" (Command (Whole ∷ Maybe ∷ [])) 0 ∷ [])) ≡ AValue ∷ ItsEnd ∷ []
block_may_be_missing = refl

first_bracket_is_its_own : pieces_of (commands (w "foo" (Command (Maybe ∷ Within blocks.Commands ∷ [])) 0 ∷ [])) ≡ ABracket ∷ ItsBracket ∷ ABracket ∷ ItsBracket ∷ ItsEnd ∷ []
first_bracket_is_its_own = refl

variable_and_value : pieces_of (commands (w "set" (Command (Variable ∷ Whole ∷ [])) 0 ∷ [])) ≡ AVariable ∷ AValue ∷ ItsEnd ∷ []
variable_and_value = refl

name_and_value : pieces_of (commands (w "let" Let 0 ∷ w "x" Unknown 1 ∷ n 1 2 ∷ w "let" Let 3 ∷ [])) ≡ AName (codes "x" ∷ []) ∷ AValue ∷ ItsEnd ∷ []
name_and_value = refl

statement_in_parentheses : pieces_of (commands (open_paren (at 0) ∷ [])) ≡ AStatement ∷ ItsParen ∷ ItsEnd ∷ []
statement_in_parentheses = refl

-- an arrow block needs no head, and a head that has begun needs its bracket and the arrow
block_without_a_head : pieces_of (expression (mapping 0 ∷ [])) ≡ ABracket ∷ AValue ∷ ItsBracket ∷ AValue ∷ ItsEnd ∷ []
block_without_a_head = refl

block_of_commands_without : pieces_of (commands (each 0 ∷ variable 1 ∷ [])) ≡ ABracket ∷ ItsBracket ∷ ItsEnd ∷ []
block_of_commands_without = refl

no_head_yet : pieces_of (expression (mapping 0 ∷ left 1 ∷ [])) ≡ AValue ∷ ItsBracket ∷ AValue ∷ ItsEnd ∷ []
no_head_yet = refl

list_or_head : pieces_of (expression (mapping 0 ∷ left 1 ∷ left 2 ∷ [])) ≡ ItsBracket ∷ ItsBracket ∷ AValue ∷ ItsEnd ∷ []
list_or_head = refl

head_of_one_name : pieces_of (expression (reducing 0 ∷ left 1 ∷ left 2 ∷ local "a" 3 ∷ [])) ≡ ItsBracket ∷ AnArrow ∷ AValue ∷ ItsBracket ∷ AValue ∷ ItsEnd ∷ []
head_of_one_name = refl

arrow_is_missing : pieces_of (expression (counting 0 ∷ n 2 1 ∷ left 2 ∷ local "i" 3 ∷ [])) ≡ AnArrow ∷ AValue ∷ ItsBracket ∷ ItsEnd ∷ []
arrow_is_missing = refl

behind_an_arrow : pieces_of (expression (mapping 0 ∷ left 1 ∷ local "x" 2 ∷ arrow 3 ∷ [])) ≡ AValue ∷ ItsBracket ∷ AValue ∷ ItsEnd ∷ []
behind_an_arrow = refl

no_head_of_commands_yet : pieces_of (commands (each 0 ∷ variable 1 ∷ left 2 ∷ [])) ≡ ItsBracket ∷ ItsEnd ∷ []
no_head_of_commands_yet = refl

head_of_commands : pieces_of (commands (each 0 ∷ variable 1 ∷ left 2 ∷ left 3 ∷ [])) ≡ ItsBracket ∷ AnArrow ∷ ItsBracket ∷ ItsEnd ∷ []
head_of_commands = refl

-- Depth.

abbrev opening : ℕ → List Tok
opening zero = []
opening (suc k) = open_paren (at 0) ∷ opening k

depth_of_a_missing_block : depth_of (commands (w "while" (Command (Within blocks.Reporter ∷ Within blocks.Commands ∷ [])) 0 ∷ [])) ≡ 4
depth_of_a_missing_block = refl

depth_of_an_arrow_block : depth_of (expression (mapping 0 ∷ [])) ≡ 3
depth_of_an_arrow_block = refl

depth_of_a_block_of_commands : depth_of (commands (each 0 ∷ variable 1 ∷ left 2 ∷ local "a" 3 ∷ arrow 4 ∷ [])) ≡ 4
depth_of_a_block_of_commands = refl

list_is_allowed : depth_of (expression (opening 198 ++ open_bracket (at 1) ∷ [])) ≡ 199
list_is_allowed = refl

block_is_too_deep : depth_of (expression (opening 198 ++ open_bracket (at 1) ∷ w "who" Named 2 ∷ [])) ≡ 201
block_is_too_deep = refl

looser_operator_is_above : depth_of (expression (n 1 0 ∷ w "*" (Binary 1 false) 1 ∷ n 2 2 ∷ w "+" (Binary 2 false) 3 ∷ [])) ≡ 3
looser_operator_is_above = refl

-- Kinds.

abbrev kind_of : Step → Tok → BodyKind
kind_of (go s) tok = kind_at s tok
kind_of stop tok = Unexpected

no_such_name : kind_of (expression (n 1 0 ∷ w "+" (Binary 2 false) 1 ∷ [])) (w "foo" Unknown 2) ≡ UnknownName
no_such_name = refl

value_of_a_let : kind_of (commands (w "let" Let 0 ∷ w "x" Unknown 1 ∷ [])) (w "x" Unknown 2) ≡ UnknownName
value_of_a_let = refl

behind_a_let : kind_of (commands (w "let" Let 0 ∷ w "x" Unknown 1 ∷ n 5 2 ∷ [])) (w "x" Unknown 3) ≡ Unexpected
behind_a_let = refl

behind_a_let_in_parentheses : kind_of (commands (open_paren (at 0) ∷ w "let" Let 1 ∷ w "x" Unknown 2 ∷ n 5 3 ∷ [])) (w "x" Unknown 4) ≡ Unexpected
behind_a_let_in_parentheses = refl

in_the_sum_of_a_let : kind_of (commands (w "let" Let 0 ∷ w "x" Unknown 1 ∷ n 5 2 ∷ w "+" (Binary 2 false) 3 ∷ [])) (w "x" Unknown 4) ≡ UnknownName
in_the_sum_of_a_let = refl

behind_its_block : kind_of (commands (w "loop" (Command (Within blocks.Commands ∷ [])) 0 ∷ open_bracket (at 1) ∷ w "let" Let 2 ∷ w "x" Unknown 3 ∷ n 5 4 ∷ close_bracket (at 5) ∷ [])) (w "x" Unknown 6) ≡ UnknownName
behind_its_block = refl

number_is_unexpected : kind_of (expression (n 1 0 ∷ [])) (n 2 1) ≡ Unexpected
number_is_unexpected = refl

name_of_a_head : kind_of (expression (mapping 0 ∷ left 1 ∷ local "x" 2 ∷ arrow 3 ∷ [])) (local "y" 4) ≡ UnknownName
name_of_a_head = refl

behind_a_head : kind_of (expression (mapping 0 ∷ left 1 ∷ local "x" 2 ∷ arrow 3 ∷ local "x" 4 ∷ [])) (local "x" 5) ≡ Unexpected
behind_a_head = refl

behind_its_arrow_block : kind_of (expression (mapping 0 ∷ left 1 ∷ local "x" 2 ∷ arrow 3 ∷ local "x" 4 ∷ right 5 ∷ [])) (local "x" 6) ≡ UnknownName
behind_its_arrow_block = refl

name_that_is_too_many : kind_of (expression (mapping 0 ∷ left 1 ∷ left 2 ∷ local "x" 3 ∷ [])) (local "y" 4) ≡ UnknownName
name_that_is_too_many = refl

same_name_in_a_head : kind_of (expression (reducing 0 ∷ left 1 ∷ left 2 ∷ local "x" 3 ∷ [])) (local "x" 4) ≡ Unexpected
same_name_in_a_head = refl
