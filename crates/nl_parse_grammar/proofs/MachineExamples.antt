-- The machine on some texts, with the tokens marked by hand.
use Rattle.std.proofs.Common.{◌≡◌, ℕ, true, false, List, [], ◌∷◌, refl, pos, codes}
use Prim.Native.String.{String}
use Rattle.nl_fixed.specs.Nouns.{Names}
use Rattle.nl_fixed.specs.declared.span.Span.{Span}
use Rattle.nl_tree.specs.declared.tree.Label.TheVariants as label
use Rattle.nl_tree.specs.declared.declared.Form.TheVariants as form
use Rattle.nl_tree.specs.Tree.{Node, node, Nodes, none, more}
use Rattle.nl_tree.specs.Tokens.{Class, Unknown, Constant, Plain, Named, Prefix, Many, Closing, Command, Let, With, Near, Of, Binary, Arrow, Tok, number, text, word, open_bracket, close_bracket, open_paren, close_paren, end}
use Rattle.nl_tree.specs.declared.needs.Block.TheVariants as blocks
use Rattle.nl_tree.specs.declared.needs.Content.TheVariants as contents
use Rattle.nl_tree.specs.declared.needs.Need.TheVariants.{Item, Whole, Within, Maybe, Variable}
use Rattle.nl_tree.specs.Grammar.{one, two, leaf}
use Rattle.nl_parse_grammar.specs.Machine.{st, Over, go, stop, run, start}

-- tokens that are one byte long, at places counted from 0
abbrev pub at : ℕ → Span
at i = record { start = i; len = 1 }

abbrev pub w : String → Class → ℕ → Tok
w s c i = word (codes s) c (at i)

abbrev pub n : ℕ → ℕ → Tok
n v i = number (pos v) (at i)

abbrev pub num : ℕ → ℕ → Node
num v i = leaf (label.Number (pos v)) (at i)

abbrev pub named : String → ℕ → Nodes → Node
named s i ts = node (label.Named (codes s)) (at i) ts

abbrev reads : List Tok → Node → Type 0
reads toks t = run (start form.Reporter [] (at 0)) toks ≡ go (st (Over t) [] [])

abbrev refuses : List Tok → Type 0
refuses toks = run (start form.Reporter [] (at 0)) toks ≡ stop

abbrev states : List Tok → Nodes → Type 0
states toks ts = run (start form.Commands [] (at 0)) toks ≡ go (st (Over (node label.Commands (at 0) ts)) [] [])

abbrev misstates : List Tok → Type 0
misstates toks = run (start form.Commands [] (at 0)) toks ≡ stop

-- Operators go by their levels and to the left.

minus_twice : reads (n 2 0 ∷ w "-" (Binary 2 true) 1 ∷ n 1 2 ∷ w "-" (Binary 2 true) 3 ∷ n 1 4 ∷ end (at 5) ∷ [])
    (named "-" 3 (two (named "-" 1 (two (num 2 0) (num 1 2))) (num 1 4)))
minus_twice = refl

times_first : reads (n 2 0 ∷ w "+" (Binary 2 false) 1 ∷ n 3 2 ∷ w "*" (Binary 1 false) 3 ∷ n 4 4 ∷ w "=" (Binary 4 false) 5 ∷ n 1 6 ∷ end (at 7) ∷ [])
    (named "=" 5 (two (named "+" 1 (two (num 2 0) (named "*" 3 (two (num 3 2) (num 4 4))))) (num 1 6)))
times_first = refl

of_with : reads (open_bracket (at 0) ∷ w "who" Named 1 ∷ close_bracket (at 2) ∷ w "of" Of 3 ∷ w "turtles" Plain 4 ∷ w "with" With 5 ∷ open_bracket (at 6) ∷ w "color" Named 7 ∷ w "=" (Binary 4 false) 8 ∷ w "red" Constant 9 ∷ close_bracket (at 10) ∷ end (at 11) ∷ [])
    (named "of" 3 (two (node label.Reporter (at 0) (one (named "who" 1 none)))
    (named "with" 5 (two (named "turtles" 4 none) (node label.Reporter (at 6) (one (named "=" 8 (two (named "color" 7 none) (named "red" 9 none)))))))))
of_with = refl

inputs_are_items : reads (w "count" (Prefix []) 0 ∷ w "turtles" Plain 1 ∷ w "=" (Binary 4 false) 2 ∷ n 3 3 ∷ end (at 4) ∷ [])
    (named "=" 2 (two (named "count" 0 (one (named "turtles" 1 none))) (num 3 3)))
inputs_are_items = refl

last_side_is_a_call : reads (w "turtles" Plain 0 ∷ w "in-radius" (Near 0) 1 ∷ w "abs" (Prefix []) 2 ∷ n 3 3 ∷ end (at 4) ∷ [])
    (named "in-radius" 1 (two (named "turtles" 0 none) (named "abs" 2 (one (num 3 3)))))
last_side_is_a_call = refl

first_side_is_no_call : refuses (w "turtles" Plain 0 ∷ w "in-cone" (Near 1) 1 ∷ w "abs" (Prefix []) 2 ∷ [])
first_side_is_no_call = refl

side_is_a_list : reads (w "turtles" Plain 0 ∷ w "at-points" (Near 0) 1 ∷ open_bracket (at 2) ∷ open_bracket (at 3) ∷ n 1 4 ∷ n 2 5 ∷ close_bracket (at 6) ∷ close_bracket (at 7) ∷ end (at 8) ∷ [])
    (named "at-points" 1 (two (named "turtles" 0 none) (node label.List (at 2) (one (node label.List (at 3) (two (num 1 4) (num 2 5)))))))
side_is_a_list = refl

side_is_no_block : refuses (w "turtles" Plain 0 ∷ w "at-points" (Near 0) 1 ∷ open_bracket (at 2) ∷ w "who" Named 3 ∷ [])
side_is_no_block = refl

-- A bracket opens a list or the block of an `of`.

nothing_listed : reads (open_bracket (at 0) ∷ close_bracket (at 1) ∷ end (at 2) ∷ []) (node label.List (at 0) none)
nothing_listed = refl

all_literals : reads (open_bracket (at 0) ∷ n 1 1 ∷ text (codes "a") (at 2) ∷ w "red" Constant 3 ∷ open_bracket (at 4) ∷ open_bracket (at 5) ∷ close_bracket (at 6) ∷ n 2 7 ∷ close_bracket (at 8) ∷ close_bracket (at 9) ∷ end (at 10) ∷ [])
    (node label.List (at 0) (more (num 1 1) (more (leaf (label.Text (codes "a")) (at 2)) (two (named "red" 3 none) (node label.List (at 4) (two (node label.List (at 5) none) (num 2 7)))))))
all_literals = refl

list_in_list : reads (open_bracket (at 0) ∷ open_bracket (at 1) ∷ n 1 2 ∷ close_bracket (at 3) ∷ close_bracket (at 4) ∷ end (at 5) ∷ [])
    (node label.List (at 0) (one (node label.List (at 1) (one (num 1 2)))))
list_in_list = refl

list_in_block : reads (open_bracket (at 0) ∷ open_bracket (at 1) ∷ n 1 2 ∷ close_bracket (at 3) ∷ close_bracket (at 4) ∷ w "of" Of 5 ∷ w "turtles" Plain 6 ∷ end (at 7) ∷ [])
    (named "of" 5 (two (node label.Reporter (at 0) (one (node label.List (at 1) (one (num 1 2))))) (named "turtles" 6 none)))
list_in_block = refl

constant_in_block : reads (open_bracket (at 0) ∷ w "red" Constant 1 ∷ close_bracket (at 2) ∷ w "of" Of 3 ∷ w "turtles" Plain 4 ∷ end (at 5) ∷ [])
    (named "of" 3 (two (node label.Reporter (at 0) (one (named "red" 1 none))) (named "turtles" 4 none)))
constant_in_block = refl

constant_in_list : reads (open_bracket (at 0) ∷ w "red" Constant 1 ∷ close_bracket (at 2) ∷ w "+" (Binary 2 false) 3 ∷ n 1 4 ∷ end (at 5) ∷ [])
    (named "+" 3 (two (node label.List (at 0) (one (named "red" 1 none))) (num 1 4)))
constant_in_list = refl

two_are_no_block : refuses (open_bracket (at 0) ∷ n 1 1 ∷ n 2 2 ∷ close_bracket (at 3) ∷ w "of" Of 4 ∷ [])
two_are_no_block = refl

variable_in_no_list : refuses (open_bracket (at 0) ∷ w "who" Named 1 ∷ close_bracket (at 2) ∷ end (at 3) ∷ [])
variable_in_no_list = refl

variable_before_no_item : refuses (open_bracket (at 0) ∷ w "who" Named 1 ∷ n 1 2 ∷ [])
variable_before_no_item = refl

-- A word of any number of items, in parentheses and without.

many_without : reads (w "list" (Many 1) 0 ∷ n 1 1 ∷ w "list" (Many 1) 2 ∷ n 2 3 ∷ n 3 4 ∷ end (at 5) ∷ []) (named "list" 0 (two (num 1 1) (named "list" 2 (two (num 2 3) (num 3 4)))))
many_without = refl

no_items : reads (open_paren (at 0) ∷ w "list" (Many 1) 1 ∷ close_paren (at 2) ∷ end (at 3) ∷ []) (node label.Paren (at 0) (one (named "list" 1 none)))
no_items = refl

fewer_items : reads (open_paren (at 0) ∷ w "list" (Many 1) 1 ∷ n 1 2 ∷ close_paren (at 3) ∷ end (at 4) ∷ []) (node label.Paren (at 0) (one (named "list" 1 (one (num 1 2)))))
fewer_items = refl

usual_items : reads (open_paren (at 0) ∷ w "list" (Many 1) 1 ∷ n 1 2 ∷ n 2 3 ∷ close_paren (at 4) ∷ end (at 5) ∷ []) (node label.Paren (at 0) (one (named "list" 1 (two (num 1 2) (num 2 3)))))
usual_items = refl

more_items : reads (open_paren (at 0) ∷ w "list" (Many 1) 1 ∷ n 1 2 ∷ w "list" (Many 1) 3 ∷ n 2 4 ∷ n 3 5 ∷ n 4 6 ∷ close_paren (at 7) ∷ end (at 8) ∷ [])
    (node label.Paren (at 0) (one (named "list" 1 (more (num 1 2) (two (named "list" 3 (two (num 2 4) (num 3 5))) (num 4 6))))))
more_items = refl

usual_items_in_a_sum : reads (open_paren (at 0) ∷ w "list" (Many 1) 1 ∷ n 1 2 ∷ n 2 3 ∷ w "+" (Binary 2 false) 4 ∷ n 3 5 ∷ close_paren (at 6) ∷ end (at 7) ∷ [])
    (node label.Paren (at 0) (one (named "+" 4 (two (named "list" 1 (two (num 1 2) (num 2 3))) (num 3 5)))))
usual_items_in_a_sum = refl

more_items_in_no_sum : refuses (open_paren (at 0) ∷ w "list" (Many 1) 1 ∷ n 1 2 ∷ n 2 3 ∷ n 3 4 ∷ w "+" (Binary 2 false) 5 ∷ [])
more_items_in_no_sum = refl

fewer_items_in_no_sum : refuses (open_paren (at 0) ∷ w "list" (Many 1) 1 ∷ n 1 2 ∷ w "+" (Binary 2 false) 3 ∷ [])
fewer_items_in_no_sum = refl

side_does_not_grow : refuses (open_paren (at 0) ∷ w "turtles" Plain 1 ∷ w "in-radius" (Near 0) 2 ∷ w "list" (Many 1) 3 ∷ n 1 4 ∷ n 2 5 ∷ n 3 6 ∷ [])
side_does_not_grow = refl

-- A negation holds one item.

negation : reads (open_paren (at 0) ∷ w "-" (Binary 2 true) 1 ∷ w "abs" (Prefix []) 2 ∷ n 1 3 ∷ close_paren (at 4) ∷ end (at 5) ∷ [])
    (node label.Paren (at 0) (one (node label.Negate (at 1) (one (named "abs" 2 (one (num 1 3)))))))
negation = refl

negation_of_no_sum : refuses (open_paren (at 0) ∷ w "-" (Binary 2 true) 1 ∷ n 1 2 ∷ w "+" (Binary 2 false) 3 ∷ [])
negation_of_no_sum = refl

no_negation_without : refuses (n 1 0 ∷ w "+" (Binary 2 false) 1 ∷ w "-" (Binary 2 true) 2 ∷ [])
no_negation_without = refl

no_other_sign : refuses (open_paren (at 0) ∷ w "+" (Binary 2 false) 1 ∷ [])
no_other_sign = refl

-- Statements, and the names that they make.

nothing_stated : states (end (at 0) ∷ []) none
nothing_stated = refl

made_is_known : states (w "let" Let 0 ∷ w "x" Unknown 1 ∷ n 5 2 ∷ w "print" (Command (Whole ∷ [])) 3 ∷ w "x" Unknown 4 ∷ end (at 5) ∷ [])
    (two (named "let" 0 (two (named "x" 1 none) (num 5 2))) (named "print" 3 (one (named "x" 4 none))))
made_is_known = refl

made_in_parentheses_is_known : states (open_paren (at 0) ∷ open_paren (at 1) ∷ w "let" Let 2 ∷ w "x" Unknown 3 ∷ n 5 4 ∷ close_paren (at 5) ∷ close_paren (at 6) ∷ w "print" (Command (Whole ∷ [])) 7 ∷ w "x" Unknown 8 ∷ end (at 9) ∷ [])
    (two (node label.Paren (at 0) (one (node label.Paren (at 1) (one (named "let" 2 (two (named "x" 3 none) (num 5 4))))))) (named "print" 7 (one (named "x" 8 none))))
made_in_parentheses_is_known = refl

made_in_a_block_ends_with_it : states (w "loop" (Command (Within blocks.Commands ∷ [])) 0 ∷ open_bracket (at 1) ∷ w "let" Let 2 ∷ w "x" Unknown 3 ∷ n 5 4 ∷ close_bracket (at 5) ∷ w "let" Let 6 ∷ w "x" Unknown 7 ∷ n 6 8 ∷ end (at 9) ∷ [])
    (two (named "loop" 0 (one (node label.Commands (at 1) (one (named "let" 2 (two (named "x" 3 none) (num 5 4))))))) (named "let" 6 (two (named "x" 7 none) (num 6 8))))
made_in_a_block_ends_with_it = refl

made_only_once : misstates (w "let" Let 0 ∷ w "x" Unknown 1 ∷ n 5 2 ∷ w "let" Let 3 ∷ w "x" Unknown 4 ∷ [])
made_only_once = refl

one_statement_in_parentheses : misstates (open_paren (at 0) ∷ w "stop" (Command []) 1 ∷ w "stop" (Command []) 2 ∷ [])
one_statement_in_parentheses = refl

no_statement_in_parentheses : misstates (open_paren (at 0) ∷ close_paren (at 1) ∷ [])
no_statement_in_parentheses = refl

-- Blocks that may be missing, and variables.

block_is_missing : states (w "crt" (Command (Whole ∷ Maybe ∷ [])) 0 ∷ n 1 1 ∷ w "stop" (Command []) 2 ∷ end (at 3) ∷ []) (two (named "crt" 0 (one (num 1 1))) (named "stop" 2 none))
block_is_missing = refl

block_is_there : states (w "crt" (Command (Whole ∷ Maybe ∷ [])) 0 ∷ n 1 1 ∷ open_bracket (at 2) ∷ w "die" (Command []) 3 ∷ close_bracket (at 4) ∷ end (at 5) ∷ [])
    (one (named "crt" 0 (two (num 1 1) (node label.Commands (at 2) (one (named "die" 3 none))))))
block_is_there = refl

block_is_missing_before_an_item : reads (w "foo" (Prefix (Maybe ∷ Maybe ∷ [])) 0 ∷ n 1 1 ∷ end (at 2) ∷ []) (named "foo" 0 (one (num 1 1)))
block_is_missing_before_an_item = refl

bracket_is_the_block : reads (w "foo" (Prefix (Maybe ∷ Maybe ∷ [])) 0 ∷ open_bracket (at 1) ∷ close_bracket (at 2) ∷ n 1 3 ∷ end (at 4) ∷ []) (named "foo" 0 (two (node label.Commands (at 1) none) (num 1 3)))
bracket_is_the_block = refl

last_block_ends_the_call : reads (w "foo" (Closing (Whole ∷ []) blocks.Reporter) 0 ∷ n 1 1 ∷ w "+" (Binary 2 false) 2 ∷ n 1 3 ∷ open_bracket (at 4) ∷ n 2 5 ∷ close_bracket (at 6) ∷ w "*" (Binary 1 false) 7 ∷ n 3 8 ∷ end (at 9) ∷ [])
    (named "*" 7 (two (named "foo" 0 (two (named "+" 2 (two (num 1 1) (num 1 3))) (node label.Reporter (at 4) (one (num 2 5))))) (num 3 8)))
last_block_ends_the_call = refl

variable_is_set : states (w "set" (Command (Variable ∷ Whole ∷ [])) 0 ∷ w "color" Named 1 ∷ w "red" Constant 2 ∷ end (at 3) ∷ []) (one (named "set" 0 (two (named "color" 1 none) (named "red" 2 none))))
variable_is_set = refl

number_is_no_variable : misstates (w "set" (Command (Variable ∷ Whole ∷ [])) 0 ∷ n 1 1 ∷ [])
number_is_no_variable = refl

unknown_is_no_variable : misstates (w "set" (Command (Variable ∷ Whole ∷ [])) 0 ∷ w "x" Unknown 1 ∷ [])
unknown_is_no_variable = refl

-- Arrow blocks: the words below have heads of so many names at most, and `xs` is a variable that has a row.

abbrev pub mapping : ℕ → Tok
mapping i = w "map" (Prefix (Within (blocks.Arrow contents.Reporter 1) ∷ [])) i

abbrev pub reducing : ℕ → Tok
reducing i = w "reduce" (Prefix (Within (blocks.Arrow contents.Reporter 2) ∷ [])) i

abbrev pub counting : ℕ → Tok
counting i = w "n-values" (Closing (Item ∷ []) (blocks.Arrow contents.Reporter 1)) i

abbrev pub each : ℕ → Tok
each i = w "foreach" (Command (Whole ∷ Within (blocks.Arrow contents.Commands 1) ∷ [])) i

abbrev pub local : String → ℕ → Tok
local s i = w s Unknown i

abbrev pub variable : ℕ → Tok
variable i = w "xs" Named i

abbrev pub arrow : ℕ → Tok
arrow i = w "->" Arrow i

abbrev pub left : ℕ → Tok
left i = open_bracket (at i)

abbrev pub right : ℕ → Tok
right i = close_bracket (at i)

abbrev stopping : ℕ → Tok
stopping i = w "stop" (Command []) i

abbrev headed : Names → ℕ → Node → Node
headed ns i t = node (label.Arrow ns) (at i) (one t)

abbrev mapped : Node → ℕ → Node
mapped t i = named "map" 0 (two t (named "xs" i none))

abbrev done : Names → ℕ → Nodes → Node
done ns i ts = headed ns i (node label.Commands (at i) ts)

abbrev looped : Node → Nodes
looped t = one (named "foreach" 0 (two (named "xs" 1 none) t))

-- Four heads: none, the arrow alone, one name, and names in brackets.

value_alone : reads (mapping 0 ∷ left 1 ∷ n 7 2 ∷ right 3 ∷ variable 4 ∷ end (at 5) ∷ []) (mapped (headed [] 1 (num 7 2)) 4)
value_alone = refl

arrow_alone : reads (mapping 0 ∷ left 1 ∷ arrow 2 ∷ n 7 3 ∷ right 4 ∷ variable 5 ∷ end (at 6) ∷ []) (mapped (headed [] 1 (num 7 3)) 5)
arrow_alone = refl

one_name : reads (mapping 0 ∷ left 1 ∷ local "x" 2 ∷ arrow 3 ∷ local "x" 4 ∷ right 5 ∷ variable 6 ∷ end (at 7) ∷ []) (mapped (headed (codes "x" ∷ []) 1 (named "x" 4 none)) 6)
one_name = refl

name_in_brackets : reads (mapping 0 ∷ left 1 ∷ left 2 ∷ local "x" 3 ∷ right 4 ∷ arrow 5 ∷ local "x" 6 ∷ right 7 ∷ variable 8 ∷ end (at 9) ∷ []) (mapped (headed (codes "x" ∷ []) 1 (named "x" 6 none)) 8)
name_in_brackets = refl

no_name_in_brackets : reads (mapping 0 ∷ left 1 ∷ left 2 ∷ right 3 ∷ arrow 4 ∷ n 7 5 ∷ right 6 ∷ variable 7 ∷ end (at 8) ∷ []) (mapped (headed [] 1 (num 7 5)) 7)
no_name_in_brackets = refl

two_names : reads (reducing 0 ∷ left 1 ∷ left 2 ∷ local "a" 3 ∷ local "b" 4 ∷ right 5 ∷ arrow 6 ∷ local "b" 7 ∷ w "-" (Binary 2 true) 8 ∷ local "a" 9 ∷ right 10 ∷ variable 11 ∷ end (at 12) ∷ [])
    (named "reduce" 0 (two (headed (codes "a" ∷ codes "b" ∷ []) 1 (named "-" 8 (two (named "b" 7 none) (named "a" 9 none)))) (named "xs" 11 none)))
two_names = refl

-- A bracket where a head may stand opens a list or the block of an `of` too.

sum_alone : reads (mapping 0 ∷ left 1 ∷ n 1 2 ∷ w "+" (Binary 2 false) 3 ∷ n 2 4 ∷ right 5 ∷ variable 6 ∷ end (at 7) ∷ []) (mapped (headed [] 1 (named "+" 3 (two (num 1 2) (num 2 4)))) 6)
sum_alone = refl

list_alone : reads (mapping 0 ∷ left 1 ∷ left 2 ∷ n 1 3 ∷ n 2 4 ∷ right 5 ∷ right 6 ∷ variable 7 ∷ end (at 8) ∷ []) (mapped (headed [] 1 (node label.List (at 2) (two (num 1 3) (num 2 4)))) 7)
list_alone = refl

empty_list_alone : reads (mapping 0 ∷ left 1 ∷ left 2 ∷ right 3 ∷ right 4 ∷ variable 5 ∷ end (at 6) ∷ []) (mapped (headed [] 1 (node label.List (at 2) none)) 5)
empty_list_alone = refl

empty_list_in_a_sum : reads (mapping 0 ∷ left 1 ∷ left 2 ∷ right 3 ∷ w "=" (Binary 4 false) 4 ∷ variable 5 ∷ right 6 ∷ variable 7 ∷ end (at 8) ∷ []) (mapped (headed [] 1 (named "=" 4 (two (node label.List (at 2) none) (named "xs" 5 none)))) 7)
empty_list_in_a_sum = refl

of_alone : reads (mapping 0 ∷ left 1 ∷ left 2 ∷ variable 3 ∷ right 4 ∷ w "of" Of 5 ∷ w "turtles" Plain 6 ∷ right 7 ∷ variable 8 ∷ end (at 9) ∷ [])
    (mapped (headed [] 1 (named "of" 5 (two (node label.Reporter (at 2) (one (named "xs" 3 none))) (named "turtles" 6 none)))) 8)
of_alone = refl

known_in_a_block : reads (mapping 0 ∷ left 1 ∷ local "x" 2 ∷ arrow 3 ∷ mapping 4 ∷ left 5 ∷ left 6 ∷ local "x" 7 ∷ right 8 ∷ w "of" Of 9 ∷ w "turtles" Plain 10 ∷ right 11 ∷ variable 12 ∷ right 13 ∷ variable 14 ∷ end (at 15) ∷ [])
    (mapped (headed (codes "x" ∷ []) 1 (named "map" 4 (two (headed [] 5 (named "of" 9 (two (node label.Reporter (at 6) (one (named "x" 7 none))) (named "turtles" 10 none)))) (named "xs" 12 none)))) 14)
known_in_a_block = refl

list_is_no_head : refuses (mapping 0 ∷ left 1 ∷ left 2 ∷ n 1 3 ∷ right 4 ∷ arrow 5 ∷ [])
list_is_no_head = refl

value_is_no_head : refuses (mapping 0 ∷ left 1 ∷ n 7 2 ∷ arrow 3 ∷ [])
value_is_no_head = refl

head_is_no_list : refuses (mapping 0 ∷ left 1 ∷ left 2 ∷ local "x" 3 ∷ right 4 ∷ w "of" Of 5 ∷ [])
head_is_no_list = refl

-- Names are new ones, at most so many, and known up to the block's end.

too_many_names : refuses (mapping 0 ∷ left 1 ∷ left 2 ∷ local "a" 3 ∷ local "b" 4 ∷ [])
too_many_names = refl

one_name_too_many : refuses (reducing 0 ∷ left 1 ∷ left 2 ∷ local "a" 3 ∷ local "b" 4 ∷ local "c" 5 ∷ [])
one_name_too_many = refl

fewer_names : reads (reducing 0 ∷ left 1 ∷ local "a" 2 ∷ arrow 3 ∷ local "a" 4 ∷ right 5 ∷ variable 6 ∷ end (at 7) ∷ []) (named "reduce" 0 (two (headed (codes "a" ∷ []) 1 (named "a" 4 none)) (named "xs" 6 none)))
fewer_names = refl

same_name_twice : refuses (reducing 0 ∷ left 1 ∷ left 2 ∷ local "a" 3 ∷ local "a" 4 ∷ [])
same_name_twice = refl

known_is_no_name : refuses (mapping 0 ∷ left 1 ∷ local "x" 2 ∷ arrow 3 ∷ mapping 4 ∷ left 5 ∷ local "x" 6 ∷ arrow 7 ∷ [])
known_is_no_name = refl

known_is_no_name_in_brackets : refuses (mapping 0 ∷ left 1 ∷ local "x" 2 ∷ arrow 3 ∷ mapping 4 ∷ left 5 ∷ left 6 ∷ local "x" 7 ∷ right 8 ∷ arrow 9 ∷ [])
known_is_no_name_in_brackets = refl

name_ends_with_its_block : refuses (mapping 0 ∷ left 1 ∷ local "x" 2 ∷ arrow 3 ∷ local "x" 4 ∷ right 5 ∷ local "x" 6 ∷ [])
name_ends_with_its_block = refl

name_made_again : reads (mapping 0 ∷ left 1 ∷ local "x" 2 ∷ arrow 3 ∷ local "x" 4 ∷ right 5 ∷ counting 6 ∷ n 2 7 ∷ left 8 ∷ local "x" 9 ∷ arrow 10 ∷ local "x" 11 ∷ right 12 ∷ end (at 13) ∷ [])
    (named "map" 0 (two (headed (codes "x" ∷ []) 1 (named "x" 4 none)) (named "n-values" 6 (two (num 2 7) (headed (codes "x" ∷ []) 8 (named "x" 11 none))))))
name_made_again = refl

last_arrow_block_ends_the_call : reads (counting 0 ∷ n 2 1 ∷ left 2 ∷ local "i" 3 ∷ arrow 4 ∷ local "i" 5 ∷ right 6 ∷ w "=" (Binary 4 false) 7 ∷ variable 8 ∷ end (at 9) ∷ [])
    (named "=" 7 (two (named "n-values" 0 (two (num 2 1) (headed (codes "i" ∷ []) 2 (named "i" 5 none)))) (named "xs" 8 none)))
last_arrow_block_ends_the_call = refl

no_content : refuses (mapping 0 ∷ left 1 ∷ local "x" 2 ∷ arrow 3 ∷ right 4 ∷ [])
no_content = refl

no_arrow : refuses (mapping 0 ∷ left 1 ∷ local "x" 2 ∷ right 3 ∷ [])
no_arrow = refl

two_arrows : refuses (mapping 0 ∷ left 1 ∷ arrow 2 ∷ arrow 3 ∷ [])
two_arrows = refl

no_arrow_in_another_block : refuses (w "turtles" Plain 0 ∷ w "with" With 1 ∷ left 2 ∷ arrow 3 ∷ [])
no_arrow_in_another_block = refl

no_arrow_in_a_list : refuses (left 0 ∷ right 1 ∷ arrow 2 ∷ [])
no_arrow_in_a_list = refl

-- Blocks of commands.

commands_alone : states (each 0 ∷ variable 1 ∷ left 2 ∷ stopping 3 ∷ stopping 4 ∷ right 5 ∷ end (at 6) ∷ []) (looped (done [] 2 (two (named "stop" 3 none) (named "stop" 4 none))))
commands_alone = refl

no_commands : states (each 0 ∷ variable 1 ∷ left 2 ∷ right 3 ∷ end (at 4) ∷ []) (looped (done [] 2 none))
no_commands = refl

arrow_before_commands : states (each 0 ∷ variable 1 ∷ left 2 ∷ arrow 3 ∷ stopping 4 ∷ right 5 ∷ end (at 6) ∷ []) (looped (done [] 2 (one (named "stop" 4 none))))
arrow_before_commands = refl

name_before_commands : states (each 0 ∷ variable 1 ∷ left 2 ∷ local "a" 3 ∷ arrow 4 ∷ w "print" (Command (Whole ∷ [])) 5 ∷ local "a" 6 ∷ right 7 ∷ stopping 8 ∷ end (at 9) ∷ [])
    (two (named "foreach" 0 (two (named "xs" 1 none) (done (codes "a" ∷ []) 2 (one (named "print" 5 (one (named "a" 6 none))))))) (named "stop" 8 none))
name_before_commands = refl

name_in_brackets_before_commands : states (each 0 ∷ variable 1 ∷ left 2 ∷ left 3 ∷ local "a" 4 ∷ right 5 ∷ arrow 6 ∷ w "print" (Command (Whole ∷ [])) 7 ∷ local "a" 8 ∷ right 9 ∷ end (at 10) ∷ [])
    (looped (done (codes "a" ∷ []) 2 (one (named "print" 7 (one (named "a" 8 none))))))
name_in_brackets_before_commands = refl

name_before_no_commands : states (each 0 ∷ variable 1 ∷ left 2 ∷ local "a" 3 ∷ arrow 4 ∷ right 5 ∷ end (at 6) ∷ []) (looped (done (codes "a" ∷ []) 2 none))
name_before_no_commands = refl

made_behind_a_head : states (each 0 ∷ variable 1 ∷ left 2 ∷ local "a" 3 ∷ arrow 4 ∷ w "let" Let 5 ∷ local "b" 6 ∷ local "a" 7 ∷ right 8 ∷ w "let" Let 9 ∷ local "a" 10 ∷ n 1 11 ∷ w "let" Let 12 ∷ local "b" 13 ∷ local "a" 14 ∷ end (at 15) ∷ [])
    (more (named "foreach" 0 (two (named "xs" 1 none) (done (codes "a" ∷ []) 2 (one (named "let" 5 (two (named "b" 6 none) (named "a" 7 none)))))))
    (two (named "let" 9 (two (named "a" 10 none) (num 1 11))) (named "let" 12 (two (named "b" 13 none) (named "a" 14 none)))))
made_behind_a_head = refl

name_is_not_made_again : misstates (each 0 ∷ variable 1 ∷ left 2 ∷ local "a" 3 ∷ arrow 4 ∷ w "let" Let 5 ∷ local "a" 6 ∷ [])
name_is_not_made_again = refl

made_is_no_name : misstates (w "let" Let 0 ∷ local "a" 1 ∷ n 1 2 ∷ each 3 ∷ variable 4 ∷ left 5 ∷ local "a" 6 ∷ [])
made_is_no_name = refl

no_value_for_commands : misstates (each 0 ∷ variable 1 ∷ left 2 ∷ n 7 3 ∷ [])
no_value_for_commands = refl

no_list_for_commands : misstates (each 0 ∷ variable 1 ∷ left 2 ∷ left 3 ∷ n 1 4 ∷ [])
no_list_for_commands = refl

brackets_are_a_head : misstates (each 0 ∷ variable 1 ∷ left 2 ∷ left 3 ∷ right 4 ∷ right 5 ∷ [])
brackets_are_a_head = refl

-- Some faults.

two_numbers : refuses (n 1 0 ∷ n 2 1 ∷ [])
two_numbers = refl

no_right_side : refuses (n 1 0 ∷ w "+" (Binary 2 false) 1 ∷ end (at 2) ∷ [])
no_right_side = refl

no_such_name : refuses (n 1 0 ∷ w "+" (Binary 2 false) 1 ∷ w "foo" Unknown 2 ∷ [])
no_such_name = refl

end_is_last : refuses (n 1 0 ∷ end (at 1) ∷ end (at 2) ∷ [])
end_is_last = refl
