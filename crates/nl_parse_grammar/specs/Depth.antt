-- The least depth that a tree can still have when the machine is in a state: that of the tree to which what is open is completed with the
-- least parts.
use Rattle.std.specs.Prelude.{ℕ, zero, suc, max, Bool, true, false, List, [], ◌∷◌}
use Rattle.nl_tree.specs.Tree.{depth, depths}
use Rattle.nl_tree.specs.declared.needs.Block.{Block}
use Rattle.nl_tree.specs.declared.needs.Block.TheVariants as blocks
use Rattle.nl_tree.specs.declared.needs.Need.{Need}
use Rattle.nl_tree.specs.declared.needs.Need.TheVariants.{Item, Whole, Within, Maybe, Variable}
use Rattle.nl_parse_grammar.specs.Machine.{Frame, InBinary, InWith, InNear, InOf, InCall, InLastItem, InLastBlock, InMany, InItems, InParen, InMinus, InReporter, InNoHead, InArrowReporter, InArrowCommands, InBracket, InList, InLet, InStatementParen, InStatements, Begin, Opening, Heading, InHead, Behind, Optional, Choosing, Have, Blocked, Shut, Listing, Stating, Naming, Ended, Over, Dead, State, st}
use Rattle.nl_parse_grammar.specs.declared.pending.Last.{Last}
use Rattle.nl_parse_grammar.specs.declared.pending.Last.TheVariants as lasts
use Rattle.nl_parse_grammar.specs.declared.pending.Shape.{Shape}
use Rattle.nl_parse_grammar.specs.declared.pending.Shape.TheVariants.{Literal, Growing, Fixed}

-- a block with nothing in it, or with a value; in an arrow block stands a node of commands, or an expression
abbrev pub least_block : Block → ℕ
least_block blocks.Commands = 1
least_block blocks.Reporter = 2
least_block (blocks.Arrow k n) = 2

abbrev pub least_input : Need → ℕ
least_input Item = 1
least_input Whole = 1
least_input (Within b) = least_block b
least_input Maybe = 0
least_input Variable = 1

-- inputs and what follows them
abbrev pub least_inputs : List Need → Last → ℕ
least_inputs (i ∷ is) last = max (least_input i) (least_inputs is last)
least_inputs [] lasts.Item = 1
least_inputs [] (lasts.Block b) = least_block b
least_inputs [] lasts.Nothing = 0

-- so many values
abbrev pub least_values : ℕ → ℕ
least_values zero = 0
least_values (suc n) = 1

abbrev pub is_literal : Shape → Bool
is_literal Literal = true
is_literal Growing = false
is_literal Fixed = false

-- the depth of what a frame becomes with a part of depth `d`, which may be a literal
abbrev pub frame_depth : Frame → Bool → ℕ → ℕ
frame_depth (InBinary l w s t) b d = suc (max (depth t) d)
frame_depth (InWith w s t) b d = suc (max (depth t) d)
frame_depth (InNear w s ts n) b d = suc (max (max (depths ts) d) (least_values n))
frame_depth (InOf w s t) b d = suc (max (depth t) d)
frame_depth (InCall w s ts i is last) b d = suc (max (max (depths ts) d) (least_inputs is last))
frame_depth (InLastItem w s ts) b d = suc (max (depths ts) d)
frame_depth (InLastBlock w s ts k) b d = suc (max (depths ts) d)
frame_depth (InMany w s ts n) b d = suc (max (max (depths ts) d) (least_values n))
frame_depth (InItems p l s ts) b d = suc (suc (max (depths ts) d))
frame_depth (InParen s) b d = suc d
frame_depth (InMinus p s) b d = suc (suc d)
frame_depth (InReporter s) b d = suc d
frame_depth (InNoHead s n) b d = suc d
frame_depth (InArrowReporter s before ns) b d = suc d
frame_depth (InArrowCommands s before ns ts) b d = suc (suc (max (depths ts) d))
frame_depth (InBracket s) true d = suc d
frame_depth (InBracket s) false d = suc (max (suc d) 1)
frame_depth (InList s ts) b d = suc (max (depths ts) d)
frame_depth (InLet w s n r) b d = suc (max 1 d)
frame_depth (InStatementParen s) b d = suc d
frame_depth (InStatements s k before ts) b d = suc (max (depths ts) d)

-- whether it becomes a literal
abbrev pub stays_literal : Frame → Bool → Bool
stays_literal (InBracket s) b = b
stays_literal (InList s ts) b = true
stays_literal f b = false

-- the depth of the whole tree
abbrev pub whole_depth : Bool → ℕ → List Frame → ℕ
whole_depth b d [] = d
whole_depth b d (f ∷ K) = whole_depth (stays_literal f b) (frame_depth f b d) K

-- where an expression begins: a bracket may be closed as an empty list, and a call in parentheses with the items that it has
abbrev pub begin_depth : List Frame → ℕ
begin_depth (InBracket s ∷ K) = whole_depth true 1 K
begin_depth (InItems p l s ts ∷ K) = whole_depth false (suc (suc (depths ts))) K
begin_depth (InMany w s ts n ∷ InParen p ∷ K) = whole_depth false (suc (suc (depths ts))) K
begin_depth K = whole_depth true 1 K

-- where a block may be missing
abbrev pub optional_depth : List Frame → ℕ
optional_depth (InCall w s ts i is last ∷ K) = whole_depth false (suc (max (depths ts) (least_inputs is last))) K
optional_depth K = 0

-- where a statement begins: in parentheses there must be one
abbrev pub statement_depth : List Frame → ℕ
statement_depth (InStatementParen s ∷ K) = whole_depth false 1 (InStatementParen s ∷ K)
statement_depth K = whole_depth false 0 K

abbrev pub least_depth : State → ℕ
least_depth (st Begin e K) = begin_depth K
least_depth (st (Opening b) e K) = whole_depth false (least_block b) K
least_depth (st (Heading k n s) e K) = whole_depth false 2 K
least_depth (st (InHead k n s before ns) e K) = whole_depth false 2 K
least_depth (st (Behind k s before ns) e K) = whole_depth false 2 K
least_depth (st Optional e K) = optional_depth K
least_depth (st Choosing e K) = whole_depth false 1 K
least_depth (st (Have x t) e K) = whole_depth (is_literal x) (depth t) K
least_depth (st (Blocked b) e K) = whole_depth false (suc (max (depth b) 1)) K
least_depth (st (Shut x t) e K) = whole_depth (is_literal x) (depth t) K
least_depth (st Listing e K) = whole_depth true 0 K
least_depth (st Stating e K) = statement_depth K
least_depth (st (Naming w s) e K) = whole_depth false 2 K
least_depth (st (Ended t) e K) = whole_depth false (depth t) K
least_depth (st (Over t) e K) = depth t
least_depth (st Dead e K) = 0
