-- What completes the tokens that begin a text: for each thing that is open, what it still misses, in its least form.
use Rattle.std.specs.Prelude.{◌≡◌, ℕ, zero, suc, ◌+◌, Bool, true, false, List, [], ◌∷◌, ◌++◌, map, length, codes}
use Rattle.nl_fixed.specs.Nouns.{Name, Names}
use Rattle.nl_fixed.specs.declared.span.Span.{Span}
use Rattle.nl_tree.specs.declared.declared.Form.{Form}
use Rattle.nl_tree.specs.Term.{Term}
use Rattle.nl_tree.specs.Vocabulary.{term_named}
use Rattle.nl_tree.specs.Tokens.{Lexeme, Word, Open, Close, CloseParen, End, Token, Constant, Named, Command, Of, Arrow, class_of, marked}
use Rattle.nl_tree.specs.declared.needs.Block.{Block}
use Rattle.nl_tree.specs.declared.needs.Block.TheVariants as blocks
use Rattle.nl_tree.specs.declared.needs.Content.{Content}
use Rattle.nl_tree.specs.declared.needs.Content.TheVariants as contents
use Rattle.nl_tree.specs.declared.needs.Need.{Need}
use Rattle.nl_tree.specs.declared.needs.Need.TheVariants.{Item, Whole, Within, Maybe, Variable}
use Rattle.nl_tree.specs.Grammar.{span_of_first}
use Rattle.nl_tree.specs.declared.needs.Ending.TheVariants.{AtBracket, AtEnd}
use Rattle.nl_parse_grammar.specs.Machine.{Frame, InBinary, InWith, InNear, InOf, InCall, InLastItem, InLastBlock, InMany, InItems, InParen, InMinus, InReporter, InNoHead, InArrowReporter, InArrowCommands, InBracket, InList, InLet, InStatementParen, InStatements, Begin, Opening, Heading, InHead, Behind, Optional, Choosing, Have, Blocked, Shut, Listing, Stating, Naming, Ended, Over, Dead, State, st, Step, go, stop, run, start}
use Rattle.nl_parse_grammar.specs.declared.pending.Last.{Last}
use Rattle.nl_parse_grammar.specs.declared.pending.Last.TheVariants as lasts
use Rattle.nl_parse_grammar.specs.Depth.{is_literal}

-- What may be missing.
pub data Piece : Type 0 where
  AValue : Piece  -- `true`
  AVariable : Piece  -- `color`
  AStatement : Piece  -- `stop`
  AnOf : Piece  -- `of`
  AnArrow : Piece  -- `->`
  AName : Names → Piece  -- a new name, where these are known
  ABracket : Piece
  ItsBracket : Piece  -- the bracket that closes
  ItsParen : Piece
  ItsEnd : Piece

-- the content of an arrow block and its bracket: nothing, or a value
abbrev pub content_pieces : Content → List Piece
content_pieces contents.Commands = ItsBracket ∷ []
content_pieces contents.Reporter = AValue ∷ ItsBracket ∷ []

-- a block with nothing in it, or with a value; it needs no head
abbrev pub block_pieces : Block → List Piece
block_pieces blocks.Commands = ABracket ∷ ItsBracket ∷ []
block_pieces blocks.Reporter = ABracket ∷ AValue ∷ ItsBracket ∷ []
block_pieces (blocks.Arrow k n) = ABracket ∷ content_pieces k

abbrev pub last_pieces : Last → List Piece
last_pieces lasts.Item = AValue ∷ []
last_pieces (lasts.Block b) = block_pieces b
last_pieces lasts.Nothing = []

-- whether a block must come, perhaps behind some that may be missing
abbrev pub needs_bracket : List Need → Last → Bool
needs_bracket (Item ∷ is) last = false
needs_bracket (Whole ∷ is) last = false
needs_bracket (Within b ∷ is) last = true
needs_bracket (Maybe ∷ is) last = needs_bracket is last
needs_bracket (Variable ∷ is) last = false
needs_bracket [] lasts.Item = false
needs_bracket [] (lasts.Block b) = true
needs_bracket [] lasts.Nothing = false

-- A block that may be missing is missing, but not before one that must come: the first bracket is its own.
abbrev pub maybe_pieces : Bool → List Piece
maybe_pieces true = block_pieces blocks.Commands
maybe_pieces false = []

-- inputs and what follows them
abbrev pub input_pieces : List Need → Last → List Piece
input_pieces (Item ∷ is) last = AValue ∷ input_pieces is last
input_pieces (Whole ∷ is) last = AValue ∷ input_pieces is last
input_pieces (Within b ∷ is) last = block_pieces b ++ input_pieces is last
input_pieces (Maybe ∷ is) last = maybe_pieces (needs_bracket is last) ++ input_pieces is last
input_pieces (Variable ∷ is) last = AVariable ∷ input_pieces is last
input_pieces [] last = last_pieces last

-- so many values
abbrev pub values : ℕ → List Piece
values zero = []
values (suc n) = AValue ∷ values n

-- A bracket is closed as a list where it may be one, else as a block, and then `of` and a value follow.
abbrev pub bracket_pieces : Bool → List Piece
bracket_pieces true = ItsBracket ∷ []
bracket_pieces false = ItsBracket ∷ AnOf ∷ AValue ∷ []

-- whether a call in parentheses still waits for items of its usual number; it may be closed without them
abbrev pub items_pieces : ℕ → List Frame → List Piece
items_pieces zero K = []
items_pieces (suc n) (InParen p ∷ K) = []
items_pieces (suc n) K = values (suc n)

-- What completes the things that are open, once the part is there that is being read; and whether that part may be a literal.
abbrev pub rest_pieces : Bool → List Frame → List Piece
rest_pieces b [] = ItsEnd ∷ []
rest_pieces b (InBinary l w s t ∷ K) = rest_pieces false K
rest_pieces b (InWith w s t ∷ K) = rest_pieces false K
rest_pieces b (InNear w s ts n ∷ K) = values n ++ rest_pieces false K
rest_pieces b (InOf w s t ∷ K) = rest_pieces false K
rest_pieces b (InCall w s ts i is last ∷ K) = input_pieces is last ++ rest_pieces false K
rest_pieces b (InLastItem w s ts ∷ K) = rest_pieces false K
rest_pieces b (InLastBlock w s ts k ∷ K) = rest_pieces false K
rest_pieces b (InMany w s ts n ∷ K) = items_pieces n K ++ rest_pieces false K
rest_pieces b (InItems p l s ts ∷ K) = ItsParen ∷ rest_pieces false K
rest_pieces b (InParen s ∷ K) = ItsParen ∷ rest_pieces false K
rest_pieces b (InMinus p s ∷ K) = ItsParen ∷ rest_pieces false K
rest_pieces b (InReporter s ∷ K) = ItsBracket ∷ rest_pieces false K
rest_pieces b (InNoHead s n ∷ K) = ItsBracket ∷ rest_pieces false K
rest_pieces b (InArrowReporter s before ns ∷ K) = ItsBracket ∷ rest_pieces false K
rest_pieces b (InArrowCommands s before ns ts ∷ K) = ItsBracket ∷ rest_pieces false K
rest_pieces b (InBracket s ∷ K) = bracket_pieces b ++ rest_pieces b K
rest_pieces b (InList s ts ∷ K) = ItsBracket ∷ rest_pieces true K
rest_pieces b (InLet w s n r ∷ K) = rest_pieces false K
rest_pieces b (InStatementParen s ∷ K) = ItsParen ∷ rest_pieces false K
rest_pieces b (InStatements s AtBracket before ts ∷ K) = ItsBracket ∷ rest_pieces false K
rest_pieces b (InStatements s AtEnd before ts ∷ K) = ItsEnd ∷ []

-- where an expression begins: a bracket may be closed as an empty list, and a call in parentheses with the items that it has
abbrev pub begin_pieces : List Frame → List Piece
begin_pieces (InBracket s ∷ K) = ItsBracket ∷ rest_pieces true K
begin_pieces (InItems p l s ts ∷ K) = ItsParen ∷ rest_pieces false K
begin_pieces (InMany w s ts n ∷ InParen p ∷ K) = ItsParen ∷ rest_pieces false K
begin_pieces K = AValue ∷ rest_pieces true K

-- where a block may be missing
abbrev pub optional_pieces : List Frame → List Piece
optional_pieces (InCall w s ts i is last ∷ K) = input_pieces (Maybe ∷ is) last ++ rest_pieces false K
optional_pieces K = []

-- where a statement begins: in parentheses there must be one
abbrev pub statement_pieces : List Frame → List Piece
statement_pieces (InStatementParen s ∷ K) = AStatement ∷ rest_pieces false (InStatementParen s ∷ K)
statement_pieces K = rest_pieces false K

abbrev pub pieces : State → List Piece
pieces (st Begin e K) = begin_pieces K
pieces (st (Opening b) e K) = block_pieces b ++ rest_pieces false K
pieces (st (Heading k n s) e K) = content_pieces k ++ rest_pieces false K
pieces (st (InHead k n s before ns) e K) = ItsBracket ∷ AnArrow ∷ content_pieces k ++ rest_pieces false K
pieces (st (Behind k s before ns) e K) = AnArrow ∷ content_pieces k ++ rest_pieces false K
pieces (st Optional e K) = optional_pieces K
pieces (st Choosing e K) = AVariable ∷ rest_pieces false K
pieces (st (Have x t) e K) = rest_pieces (is_literal x) K
pieces (st (Blocked b) e K) = AnOf ∷ AValue ∷ rest_pieces false K
pieces (st (Shut x t) e K) = rest_pieces (is_literal x) K
pieces (st Listing e K) = rest_pieces true K
pieces (st Stating e K) = statement_pieces K
pieces (st (Naming w s) e K) = AName e ∷ AValue ∷ rest_pieces false K
pieces (st (Ended t) e K) = rest_pieces false K
pieces (st (Over t) e K) = []
pieces (st Dead e K) = []

-- A name that is longer than all of these, and than all that have a row: so many times the letter `a`.
abbrev pub lengths : Names → ℕ
lengths [] = 0
lengths (name ∷ names) = length name + lengths names

abbrev pub letters : ℕ → Name
letters zero = []
letters (suc n) = 97 ∷ letters n

abbrev pub unused : List Term → Names → Name
unused table names = letters (suc (lengths names + lengths (map (λ (t : Term). t.name) table)))

abbrev pub lexeme_of : List Term → Piece → Lexeme
lexeme_of table AValue = Word (codes "true")
lexeme_of table AVariable = Word (codes "color")
lexeme_of table AStatement = Word (codes "stop")
lexeme_of table AnOf = Word (codes "of")
lexeme_of table AnArrow = Word (codes "->")
lexeme_of table (AName names) = Word (unused table names)
lexeme_of table ABracket = Open
lexeme_of table ItsBracket = Close
lexeme_of table ItsParen = CloseParen
lexeme_of table ItsEnd = End

-- a span, where any will do
abbrev pub nowhere : Span
nowhere = record { start = 0; len = 0 }

abbrev pub token_of : List Term → Piece → Token
token_of table p = record { lexeme = lexeme_of table p; span = nowhere }

-- the step to which these tokens lead
abbrev pub reading : Form → Names → List Term → List Token → Step
reading form names table ts = run (start form names (span_of_first (marked table ts))) (marked table ts)

abbrev pub completion_of : List Term → Step → List Token
completion_of table (go s) = map (token_of table) (pieces s)
completion_of table stop = []

-- what completes these tokens, by what they leave open
abbrev pub completion : Form → Names → List Term → List Token → List Token
completion form names table ts = completion_of table (reading form names table ts)

-- the table has the words of which completions are made
pub record HasWords (table : List Term) : Type 0 where
  pub value : class_of (term_named table (codes "true")) ≡ Constant
  pub variable : class_of (term_named table (codes "color")) ≡ Named
  pub statement : class_of (term_named table (codes "stop")) ≡ Command []
  pub of : class_of (term_named table (codes "of")) ≡ Of
  pub arrow : class_of (term_named table (codes "->")) ≡ Arrow
