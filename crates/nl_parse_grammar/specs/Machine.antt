-- The reading of a text as a machine: it takes one token after the other, and keeps on a stack what is still open.
-- Where two readings of the tokens are possible it follows the one that says less, and turns it into the other at the first token that only
-- the other one has: a bracket where an expression begins is both a list and a block until a token decides, one right behind the bracket of an
-- arrow block is that of an expression until a name or an arrow makes it the bracket of a head, and a call in parentheses takes its usual
-- number of items until another one comes.
use Rattle.std.specs.Prelude.{ℕ, zero, suc, Bool, true, false, not, List, [], ◌∷◌, ◌++◌, nat_lt, nat_le}
use Rattle.nl_fixed.specs.Nouns.{Name, Names}
use Rattle.nl_fixed.specs.declared.span.Span.{Span}
use Rattle.nl_tree.specs.declared.tree.Label.{Label}
use Rattle.nl_tree.specs.declared.tree.Label.TheVariants as label
use Rattle.nl_tree.specs.declared.declared.Form.{Form}
use Rattle.nl_tree.specs.declared.declared.Form.TheVariants as form
use Rattle.nl_tree.specs.Tree.{Node, node, Nodes, none, more}
use Rattle.nl_tree.specs.Vocabulary.{among}
use Rattle.nl_parse_grammar.specs.declared.pending.Last.{Last}
use Rattle.nl_parse_grammar.specs.declared.pending.Last.TheVariants as lasts
use Rattle.nl_parse_grammar.specs.declared.pending.Shape.{Shape}
use Rattle.nl_parse_grammar.specs.declared.pending.Shape.TheVariants.{Literal, Growing, Fixed}
use Rattle.nl_tree.specs.Tokens.{Unknown, Constant, Plain, Named, Prefix, Many, Closing, Command, Let, With, Near, Of, Binary, Arrow, Tok, number, text, word, open_bracket, close_bracket, open_paren, close_paren, end}
use Rattle.nl_tree.specs.declared.needs.Block.{Block}
use Rattle.nl_tree.specs.declared.needs.Block.TheVariants as blocks
use Rattle.nl_tree.specs.declared.needs.Content.{Content}
use Rattle.nl_tree.specs.declared.needs.Content.TheVariants as contents
use Rattle.nl_tree.specs.declared.needs.Need.{Need}
use Rattle.nl_tree.specs.declared.needs.Need.TheVariants.{Item, Whole, Within, Maybe, Variable}
use Rattle.nl_tree.specs.Grammar.{one, two, leaf, and_last, top}
use Rattle.nl_tree.specs.declared.needs.Ending.{Ending}
use Rattle.nl_tree.specs.declared.needs.Ending.TheVariants.{AtBracket, AtEnd}

-- Something that is open, with what is read of it. A word comes with its place.
pub data Frame : Type 0 where
  InBinary : (level : ℕ) (word : Name) (place : Span) (left : Node) → Frame
  InWith : (word : Name) (place : Span) (left : Node) → Frame
  InNear : (word : Name) (place : Span) (sides : Nodes) (others : ℕ) → Frame  -- how many sides follow the one that is being read
  InOf : (word : Name) (place : Span) (block : Node) → Frame
  InCall : (word : Name) (place : Span) (inputs : Nodes) (now : Need) (others : List Need) (last : Last) → Frame
  InLastItem : (word : Name) (place : Span) (inputs : Nodes) → Frame
  InLastBlock : (word : Name) (place : Span) (inputs : Nodes) (block : Block) → Frame
  InMany : (word : Name) (place : Span) (items : Nodes) (others : ℕ) → Frame  -- how many items follow the one that is being read
  InItems : (bracket : Span) (label : Label) (place : Span) (items : Nodes) → Frame  -- in parentheses, past that number
  InParen : (bracket : Span) → Frame
  InMinus : (bracket : Span) (place : Span) → Frame  -- in parentheses, after the minus sign
  InReporter : (bracket : Span) → Frame
  InNoHead : (bracket : Span) (limit : ℕ) → Frame  -- in an arrow block, an expression that may still become a head of so many names
  InArrowReporter : (bracket : Span) (before : Names) (names : Names) → Frame  -- behind the head; with the names that are known outside
  InArrowCommands : (bracket : Span) (before : Names) (names : Names) (statements : Nodes) → Frame
  InBracket : (bracket : Span) → Frame  -- may become a list or a block
  InList : (bracket : Span) (items : Nodes) → Frame
  InLet : (word : Name) (place : Span) (name : Name) (there : Span) → Frame
  InStatementParen : (bracket : Span) → Frame
  InStatements : (bracket : Span) (ending : Ending) (before : Names) (statements : Nodes) → Frame  -- with the names that are known outside

-- what may come next
pub data Mode : Type 0 where
  Begin : Mode  -- an expression
  Opening : Block → Mode  -- a block
  Heading : (content : Content) (limit : ℕ) (bracket : Span) → Mode  -- a head, or the content of an arrow block without one
  InHead : (content : Content) (limit : ℕ) (bracket : Span) (before : Names) (names : Names) → Mode  -- a name in brackets, or their end
  Behind : (content : Content) (bracket : Span) (before : Names) (names : Names) → Mode  -- the arrow, behind names
  Optional : Mode  -- a block of commands, or what follows where it is missing
  Choosing : Mode  -- the name of a variable
  Have : Shape → Node → Mode  -- there is a chain, which may go on
  Blocked : Node → Mode  -- there is a block, and `of` must follow
  Shut : Shape → Node → Mode  -- there is an expression, which must be closed
  Listing : Mode  -- an item of a literal list
  Stating : Mode  -- a statement
  Naming : (word : Name) (place : Span) → Mode  -- a new name
  Ended : Node → Mode  -- there is a statement in parentheses, which must be closed
  Over : Node → Mode  -- there is the whole text
  Dead : Mode  -- never reached

-- the names are those that are known
pub data State : Type 0 where
  st : (mode : Mode) (names : Names) (stack : List Frame) → State

pub data Step : Type 0 where
  go : State → Step
  stop : Step

-- a tree, and what is open around it
pub data Got : Type 0 where
  got : Shape → Node → List Frame → Got

abbrev pub begin_mode : Need → Mode
begin_mode Item = Begin
begin_mode Whole = Begin
begin_mode (Within b) = Opening b
begin_mode Maybe = Optional
begin_mode Variable = Choosing

-- The functions below hand a tree to what waits for it.

-- a statement, after which these names are known
abbrev pub end_statement : Node → Names → List Frame → State
end_statement t e (InStatements s k before ts ∷ K) = st Stating e (InStatements s k before (and_last ts t) ∷ K)
end_statement t e (InArrowCommands s before ns ts ∷ K) = st Stating e (InArrowCommands s before ns (and_last ts t) ∷ K)
end_statement t e (InStatementParen s ∷ K) = st (Ended t) e (InStatementParen s ∷ K)
end_statement t e (f ∷ K) = st Dead e K
end_statement t e [] = st Dead e []

-- nothing: a call goes on with its next input, or with what follows the inputs
abbrev pub next : Name → Span → Nodes → List Need → Last → Names → List Frame → State
next w s ts (i ∷ is) last e K = st (begin_mode i) e (InCall w s ts i is last ∷ K)
next w s ts [] lasts.Item e K = st Begin e (InLastItem w s ts ∷ K)
next w s ts [] (lasts.Block b) e K = st (Opening b) e (InLastBlock w s ts b ∷ K)
next w s ts [] lasts.Nothing e K = end_statement (node (label.Named w) s ts) e K

-- a closed
abbrev pub closed : Shape → Node → Names → List Frame → State
closed x t e (InNear w s ts zero ∷ K) = st (Have Fixed (node (label.Named w) s (and_last ts t))) e K
closed x t e (InNear w s ts (suc n) ∷ K) = st Begin e (InNear w s (and_last ts t) n ∷ K)
closed x t e K = st (Have x t) e K

-- a block, or a variable
abbrev pub supply : Node → Names → List Frame → State
supply t e (InCall w s ts i is last ∷ K) = next w s (and_last ts t) is last e K
supply t e (InLastBlock w s ts b ∷ K) = closed Fixed (node (label.Named w) s (and_last ts t)) e K
supply t e (InWith w s l ∷ K) = st (Have Fixed (node (label.Named w) s (two l t))) e K
supply t e (f ∷ K) = st Dead e K
supply t e [] = st Dead e []

-- an expression, or an item, which no operator follows
abbrev pub accept : Shape → Node → Names → List Frame → State
accept x t e (InCall w s ts i is last ∷ K) = next w s (and_last ts t) is last e K
accept x t e (InMany w s ts (suc n) ∷ K) = st Begin e (InMany w s (and_last ts t) n ∷ K)
accept x t e (InItems p l s ts ∷ K) = st Begin e (InItems p l s (and_last ts t) ∷ K)
accept x t e (InLet w s n r ∷ K) = end_statement (node (label.Named w) s (two (leaf (label.Named n) r) t)) (n ∷ e) K
accept x t e K = st (Shut x t) e K

-- a literal list
abbrev pub end_list : Node → Names → List Frame → State
end_list t e (InList s ts ∷ K) = st Listing e (InList s (and_last ts t) ∷ K)
end_list t e K = closed Literal t e K

-- What an operator ends that follows a tree.

-- an operator of this level binds no tighter than what is open, and so comes behind it
abbrev pub closes : ℕ → Frame → Bool
closes l (InBinary m w s t) = nat_le m l
closes l (InOf w s t) = true
closes l (InLastItem w s ts) = true
closes l (InMany w s ts zero) = true
closes l (InNear w s ts zero) = true
closes l f = false

-- what a frame becomes with the part that it waited for
abbrev pub build : Frame → Node → Node
build (InBinary m w s l) t = node (label.Named w) s (two l t)
build (InOf w s b) t = node (label.Named w) s (two b t)
build (InLastItem w s ts) t = node (label.Named w) s (and_last ts t)
build (InMany w s ts n) t = node (label.Named w) s (and_last ts t)
build (InNear w s ts n) t = node (label.Named w) s (and_last ts t)
build f t = t

abbrev pub built_shape : Frame → Shape
built_shape (InMany w s ts n) = Growing
built_shape f = Fixed

-- frame by frame, all that such an operator comes behind
abbrev pub settle : ℕ → Shape → Node → List Frame → Got
settle l x t [] = got x t []
settle l x t (f ∷ K) = elim (closes l f) [ true ↦ settle l (built_shape f) (build f t) K | false ↦ got x t (f ∷ K) ]

-- an operator is read only where a whole expression is, and not in an item
abbrev pub takes_operator : List Frame → Bool
takes_operator [] = true
takes_operator (InBinary l w s t ∷ K) = true
takes_operator (InCall w s ts Whole is last ∷ K) = true
takes_operator (InParen s ∷ K) = true
takes_operator (InReporter s ∷ K) = true
takes_operator (InNoHead s n ∷ K) = true
takes_operator (InArrowReporter s before ns ∷ K) = true
takes_operator (InBracket s ∷ K) = true
takes_operator (InLet w s n r ∷ K) = true
takes_operator K = false

-- Steps in an arrow block up to its content.

-- the content, behind its head
abbrev pub begin_content : Content → Span → Names → Names → Names → List Frame → State
begin_content contents.Commands s before ns e K = st Stating e (InArrowCommands s before ns none ∷ K)
begin_content contents.Reporter s before ns e K = st Begin e (InArrowReporter s before ns ∷ K)

-- a name in brackets: one that has no row may be made where it isn't known
abbrev pub feed_head_name : Bool → Content → ℕ → Span → Names → Names → Name → Names → List Frame → Step
feed_head_name true k (suc n) s before ns w e K = go (st (InHead k n s before (ns ++ w ∷ [])) (w ∷ e) K)
feed_head_name b k n s before ns w e K = stop

-- a name without brackets
abbrev pub feed_lone_name : Bool → Content → ℕ → Span → Name → Names → List Frame → Step
feed_lone_name true k (suc n) s w e K = go (st (Behind k s e (w ∷ [])) (w ∷ e) K)
feed_lone_name b k n s w e K = stop

-- Steps where an expression begins.

-- A word that has no row: a local that is known, or else the first name of a head where a bracket may still become one.
abbrev pub feed_local : Bool → Name → Span → Names → List Frame → Step
feed_local true w s e K = go (closed Fixed (leaf (label.Named w) s) e K)
feed_local false w s e (InBracket r ∷ InNoHead p n ∷ K) = feed_head_name true contents.Reporter n p e [] w e K
feed_local false w s e K = stop

-- of several right sides only the last may be a call with inputs
abbrev pub begin_call : Name → Span → List Need → Names → List Frame → Step
begin_call w s is e (InNear v r ts (suc n) ∷ K) = stop
begin_call w s is e K = go (next w s none is lasts.Item e K)

abbrev pub begin_many : Name → Span → ℕ → Names → List Frame → Step
begin_many w s n e (InNear v r ts (suc m) ∷ K) = stop
begin_many w s n e K = go (st Begin e (InMany w s none n ∷ K))

-- right after an opening parenthesis the minus sign is a negation
abbrev pub begin_minus : Bool → Span → Names → List Frame → Step
begin_minus true r e (InParen s ∷ K) = go (st Begin e (InMinus s r ∷ K))
begin_minus m r e K = stop

-- among right sides a bracket is always a list
abbrev pub begin_bracket : Span → Names → List Frame → Step
begin_bracket s e (InNear w r ts n ∷ K) = go (st Listing e (InList s none ∷ InNear w r ts n ∷ K))
begin_bracket s e K = go (st Begin e (InBracket s ∷ K))

-- a closing bracket ends a list in which nothing is
abbrev pub end_bracket : Names → List Frame → Step
end_bracket e (InBracket s ∷ K) = go (closed Literal (node label.List s none) e K)
end_bracket e K = stop

-- a closing parenthesis ends a call that has any number of items
abbrev pub end_many : Names → List Frame → Step
end_many e (InItems p l s ts ∷ K) = go (closed Fixed (node label.Paren p (one (node l s ts))) e K)
end_many e (InMany w s ts n ∷ InParen p ∷ K) = go (closed Fixed (node label.Paren p (one (node (label.Named w) s ts))) e K)
end_many e K = stop

abbrev pub feed_begin : Names → List Frame → Tok → Step
feed_begin e K (number n s) = go (closed Literal (leaf (label.Number n) s) e K)
feed_begin e K (text bytes s) = go (closed Literal (leaf (label.Text bytes) s) e K)
feed_begin e K (word w Unknown s) = feed_local (among w e) w s e K
feed_begin e K (word w Constant s) = go (closed Literal (leaf (label.Named w) s) e K)
feed_begin e K (word w Plain s) = go (closed Fixed (leaf (label.Named w) s) e K)
feed_begin e K (word w Named s) = go (closed Fixed (leaf (label.Named w) s) e K)
feed_begin e K (word w (Prefix is) s) = begin_call w s is e K
feed_begin e K (word w (Many n) s) = begin_many w s n e K
feed_begin e K (word w (Closing is b) s) = go (next w s none is (lasts.Block b) e K)
feed_begin e K (word w (Binary l m) s) = begin_minus m s e K
feed_begin e K (open_bracket s) = begin_bracket s e K
feed_begin e K (close_bracket s) = end_bracket e K
feed_begin e K (open_paren s) = go (st Begin e (InParen s ∷ K))
feed_begin e K (close_paren s) = end_many e K
feed_begin e K tok = stop

-- Steps in the other modes.

abbrev pub feed_opening : Block → Names → List Frame → Tok → Step
feed_opening blocks.Commands e K (open_bracket s) = go (st Stating e (InStatements s AtBracket e none ∷ K))
feed_opening blocks.Reporter e K (open_bracket s) = go (st Begin e (InReporter s ∷ K))
feed_opening (blocks.Arrow k n) e K (open_bracket s) = go (st (Heading k n s) e K)
feed_opening b e K tok = stop

abbrev pub feed_variable : Bool → Name → Span → Names → List Frame → Step
feed_variable true w s e K = go (supply (leaf (label.Named w) s) e K)
feed_variable false w s e K = stop

abbrev pub feed_choosing : Names → List Frame → Tok → Step
feed_choosing e K (word w Named s) = go (supply (leaf (label.Named w) s) e K)
feed_choosing e K (word w Unknown s) = feed_variable (among w e) w s e K
feed_choosing e K tok = stop

abbrev pub feed_blocked : Node → Names → List Frame → Tok → Step
feed_blocked b e K (word w Of s) = go (st Begin e (InOf w s b ∷ K))
feed_blocked b e K tok = stop

-- after the items of a literal list
abbrev pub feed_items : Span → Nodes → Names → List Frame → Tok → Step
feed_items s ts e K (number n r) = go (st Listing e (InList s (and_last ts (leaf (label.Number n) r)) ∷ K))
feed_items s ts e K (text bytes r) = go (st Listing e (InList s (and_last ts (leaf (label.Text bytes) r)) ∷ K))
feed_items s ts e K (word w Constant r) = go (st Listing e (InList s (and_last ts (leaf (label.Named w) r)) ∷ K))
feed_items s ts e K (open_bracket r) = go (st Listing e (InList r none ∷ InList s ts ∷ K))
feed_items s ts e K (close_bracket r) = go (end_list (node label.List s ts) e K)
feed_items s ts e K tok = stop

abbrev pub feed_listing : Names → List Frame → Tok → Step
feed_listing e (InList s ts ∷ K) tok = feed_items s ts e K tok
feed_listing e K tok = stop

-- after an expression in a bracket: a literal is an item of a list, and anything else makes it a block
abbrev pub feed_bracket : Shape → Node → Span → Names → List Frame → Tok → Step
feed_bracket Literal t s e K tok = feed_items s (one t) e K tok
feed_bracket x t s e K (close_bracket r) = go (st (Blocked (node label.Reporter s (one t))) e K)
feed_bracket x t s e K tok = stop

-- after an expression in parentheses: a call may have more items than its usual number
abbrev pub feed_paren : Shape → Node → Span → Names → List Frame → Tok → Step
feed_paren x t p e K (close_paren r) = go (closed Fixed (node label.Paren p (one t)) e K)
feed_paren Growing (node l s ts) p e K tok = feed_begin e (InItems p l s ts ∷ K) tok
feed_paren x t p e K tok = stop

-- after the item of a negation
abbrev pub feed_minus : Node → Span → Span → Names → List Frame → Tok → Step
feed_minus t p s e K (close_paren r) = go (closed Fixed (node label.Paren p (one (node label.Negate s (one t)))) e K)
feed_minus t p s e K tok = stop

-- after the expression of a block
abbrev pub feed_reporter : Node → Span → Names → List Frame → Tok → Step
feed_reporter t s e K (close_bracket r) = go (supply (node label.Reporter s (one t)) e K)
feed_reporter t s e K tok = stop

-- after the expression of a whole text
abbrev pub feed_whole : Node → Names → Tok → Step
feed_whole t e (end s) = go (st (Over t) e [])
feed_whole t e tok = stop

-- after the expression of an arrow block without a head; the arrow makes an empty list a head without names
abbrev pub feed_no_head : Node → Span → Names → List Frame → Tok → Step
feed_no_head (node label.List r none) s e K (word w Arrow q) = go (begin_content contents.Reporter s e [] e K)
feed_no_head t s e K (close_bracket r) = go (supply (node (label.Arrow []) s (one t)) e K)
feed_no_head t s e K tok = stop

-- after the expression behind a head; the names are those known outside
abbrev pub feed_arrow_reporter : Node → Span → Names → Names → List Frame → Tok → Step
feed_arrow_reporter t s before ns K (close_bracket r) = go (supply (node (label.Arrow ns) s (one t)) before K)
feed_arrow_reporter t s before ns K tok = stop

abbrev pub feed_shut : Shape → Node → Names → List Frame → Tok → Step
feed_shut x t e (InParen p ∷ K) tok = feed_paren x t p e K tok
feed_shut x t e (InMinus p s ∷ K) tok = feed_minus t p s e K tok
feed_shut x t e (InReporter s ∷ K) tok = feed_reporter t s e K tok
feed_shut x t e (InNoHead s n ∷ K) tok = feed_no_head t s e K tok
feed_shut x t e (InArrowReporter s before ns ∷ K) tok = feed_arrow_reporter t s before ns K tok
feed_shut x t e (InBracket s ∷ K) tok = feed_bracket x t s e K tok
feed_shut x t e [] tok = feed_whole t e tok
feed_shut x t e K tok = stop

-- the token ends the statements
abbrev pub feed_ending : Ending → Span → Nodes → Names → List Frame → Tok → Step
feed_ending AtBracket s ts before K (close_bracket r) = go (supply (node label.Commands s ts) before K)
feed_ending AtEnd s ts before K (end r) = go (st (Over (node label.Commands s ts)) before K)
feed_ending k s ts before K tok = stop

-- the token ends the statements of an arrow block
abbrev pub feed_arrow_ending : Span → Names → Names → Nodes → List Frame → Tok → Step
feed_arrow_ending s before ns ts K (close_bracket r) = go (supply (node (label.Arrow ns) s (one (node label.Commands s ts))) before K)
feed_arrow_ending s before ns ts K tok = stop

-- The token begins a statement, on what it is part of.
abbrev pub feed_statement : Names → List Frame → Tok → Step
feed_statement e K (word w (Command is) s) = go (next w s none is lasts.Nothing e K)
feed_statement e K (word w Let s) = go (st (Naming w s) e K)
feed_statement e K (open_paren s) = go (st Stating e (InStatementParen s ∷ K))
feed_statement e K tok = stop

-- whether the token begins a statement
abbrev pub begins_statement : Tok → Bool
begins_statement (word w c s) = true
begins_statement (open_paren s) = true
begins_statement tok = false

abbrev pub feed_stating : Names → List Frame → Tok → Step
feed_stating e (InStatements s k before ts ∷ K) tok = elim (begins_statement tok) [ true ↦ feed_statement e (InStatements s k before ts ∷ K) tok | false ↦ feed_ending k s ts before K tok ]
feed_stating e (InArrowCommands s before ns ts ∷ K) tok = elim (begins_statement tok) [ true ↦ feed_statement e (InArrowCommands s before ns ts ∷ K) tok | false ↦ feed_arrow_ending s before ns ts K tok ]
feed_stating e (InStatementParen s ∷ K) tok = feed_statement e (InStatementParen s ∷ K) tok
feed_stating e K tok = stop

-- a name that has no row may be made where it isn't known
abbrev pub feed_fresh : Bool → Name → Span → Name → Span → Names → List Frame → Step
feed_fresh true w s n r e K = go (st Begin e (InLet w s n r ∷ K))
feed_fresh false w s n r e K = stop

abbrev pub feed_naming : Name → Span → Names → List Frame → Tok → Step
feed_naming w s e K (word n Unknown r) = feed_fresh (not (among n e)) w s n r e K
feed_naming w s e K tok = stop

-- after a statement in parentheses
abbrev pub feed_ended : Node → Names → List Frame → Tok → Step
feed_ended t e (InStatementParen s ∷ K) (close_paren r) = go (end_statement (node label.Paren s (one t)) e K)
feed_ended t e K tok = stop

-- Right behind the bracket of an arrow block: its head, or else its content begins.
abbrev pub feed_heading_commands : ℕ → Span → Names → List Frame → Tok → Step
feed_heading_commands n s e K (word w Arrow r) = go (begin_content contents.Commands s e [] e K)
feed_heading_commands n s e K (word w Unknown r) = feed_lone_name (not (among w e)) contents.Commands n s w e K
feed_heading_commands n s e K (open_bracket r) = go (st (InHead contents.Commands n s e []) e K)
feed_heading_commands n s e K tok = feed_stating e (InArrowCommands s e [] none ∷ K) tok

-- a word that has no row: a local that is known, or else a name
abbrev pub feed_first : Bool → ℕ → Span → Name → Span → Names → List Frame → Step
feed_first true n s w r e K = feed_local true w r e (InNoHead s n ∷ K)
feed_first false n s w r e K = feed_lone_name true contents.Reporter n s w e K

abbrev pub feed_heading_reporter : ℕ → Span → Names → List Frame → Tok → Step
feed_heading_reporter n s e K (word w Arrow r) = go (begin_content contents.Reporter s e [] e K)
feed_heading_reporter n s e K (word w Unknown r) = feed_first (among w e) n s w r e K
feed_heading_reporter n s e K tok = feed_begin e (InNoHead s n ∷ K) tok

abbrev pub feed_heading : Content → ℕ → Span → Names → List Frame → Tok → Step
feed_heading contents.Commands n s e K tok = feed_heading_commands n s e K tok
feed_heading contents.Reporter n s e K tok = feed_heading_reporter n s e K tok

-- in the brackets of a head
abbrev pub feed_in_head : Content → ℕ → Span → Names → Names → Names → List Frame → Tok → Step
feed_in_head k n s before ns e K (word w Unknown r) = feed_head_name (not (among w e)) k n s before ns w e K
feed_in_head k n s before ns e K (close_bracket r) = go (st (Behind k s before ns) e K)
feed_in_head k n s before ns e K tok = stop

-- behind the names of a head
abbrev pub feed_behind : Content → Span → Names → Names → Names → List Frame → Tok → Step
feed_behind k s before ns e K (word w Arrow r) = go (begin_content k s before ns e K)
feed_behind k s before ns e K tok = stop

-- Any token in any mode but those of a chain and of a block that may be missing.
abbrev pub feed_plain : State → Tok → Step
feed_plain (st Begin e K) tok = feed_begin e K tok
feed_plain (st (Opening b) e K) tok = feed_opening b e K tok
feed_plain (st (Heading k n s) e K) tok = feed_heading k n s e K tok
feed_plain (st (InHead k n s before ns) e K) tok = feed_in_head k n s before ns e K tok
feed_plain (st (Behind k s before ns) e K) tok = feed_behind k s before ns e K tok
feed_plain (st Optional e K) tok = stop
feed_plain (st Choosing e K) tok = feed_choosing e K tok
feed_plain (st (Have x t) e K) tok = stop
feed_plain (st (Blocked b) e K) tok = feed_blocked b e K tok
feed_plain (st (Shut x t) e K) tok = feed_shut x t e K tok
feed_plain (st Listing e K) tok = feed_listing e K tok
feed_plain (st Stating e K) tok = feed_stating e K tok
feed_plain (st (Naming w s) e K) tok = feed_naming w s e K tok
feed_plain (st (Ended t) e K) tok = feed_ended t e K tok
feed_plain (st (Over t) e K) tok = stop
feed_plain (st Dead e K) tok = stop

-- the inputs behind blocks that are missing
abbrev pub without_maybes : List Need → List Need
without_maybes (Maybe ∷ is) = without_maybes is
without_maybes is = is

-- where a block may be missing
abbrev pub feed_optional : Names → List Frame → Tok → Step
feed_optional e (InCall w s ts i is last ∷ K) (open_bracket r) = go (st Stating e (InStatements r AtBracket e none ∷ InCall w s ts i is last ∷ K))
feed_optional e (InCall w s ts i is last ∷ K) tok = feed_plain (next w s ts (without_maybes is) last e K) tok
feed_optional e K tok = stop

-- any token in any mode but that of a chain
abbrev pub feed_ready : State → Tok → Step
feed_ready (st Optional e K) tok = feed_optional e K tok
feed_ready s tok = feed_plain s tok

-- Steps where a chain is at hand.

-- a token that is no operator: the chain is over, and all that waits for its end
abbrev pub feed_broken : Names → Got → Tok → Step
feed_broken e (got x t K) tok = feed_ready (accept x t e K) tok

-- a token that is an operator, after its left side
abbrev pub feed_operator : Bool → ℕ → Name → Span → Names → Got → Step
feed_operator true l w s e (got x t K) = go (st Begin e (InBinary (suc l) w s t ∷ K))
feed_operator false l w s e g = stop

abbrev pub got_takes : Got → Bool
got_takes (got x t K) = takes_operator K

abbrev pub feed_binary : Bool → ℕ → Name → Span → Names → Got → Step
feed_binary true l w s e g = feed_operator (got_takes g) l w s e g
feed_binary false l w s e g = stop

-- `of` makes a list of one literal a block
abbrev pub feed_of : Name → Span → Node → Names → List Frame → Step
feed_of w s (node label.List r (more t none)) e K = go (st Begin e (InOf w s (node label.Reporter r (one t)) ∷ K))
feed_of w s t e K = stop

abbrev pub feed_have : Shape → Node → Names → List Frame → Tok → Step
feed_have x t e K (word w With s) = go (st (Opening blocks.Reporter) e (InWith w s t ∷ K))
feed_have x t e K (word w (Near n) s) = go (st Begin e (InNear w s (one t) n ∷ K))
feed_have x t e K (word w Of s) = feed_of w s t e K
feed_have x t e K (word w (Binary l m) s) = feed_binary (nat_lt l top) l w s e (settle (suc l) x t K)
feed_have x t e K tok = feed_broken e (settle top x t K) tok

-- the next token
abbrev pub feed : State → Tok → Step
feed (st (Have x t) e K) tok = feed_have x t e K tok
feed s tok = feed_ready s tok

abbrev pub run_from : Step → List Tok → Step
run_from a [] = a
run_from (go s) (tok ∷ toks) = run_from (feed s tok) toks
run_from stop (tok ∷ toks) = stop

abbrev pub run : State → List Tok → Step
run s toks = run_from (go s) toks

-- before the first token; the span is that token's
abbrev pub start : Form → Names → Span → State
start form.Commands e s = st Stating e (InStatements s AtEnd e none ∷ [])
start form.Reporter e s = st Begin e []
