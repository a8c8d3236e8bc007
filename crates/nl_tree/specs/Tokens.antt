-- The tokens of a text as plain data, and what a word's row makes of it for the grammar.
use Rattle.std.specs.Prelude.{ℕ, zero, suc, ◌+◌, ◌-◌, ◌==◌, Bool, true, false, ◌&&◌, if◌then◌else◌, nat_le, ℤ, IsTrue, List, [], ◌∷◌, ◌++◌, Option, Some, None, map, bytes_eq, codes}
use Rattle.std.specs.List.{list_any}
use Rattle.std.specs.Str.{IsUtf8}
use Rattle.nl_fixed.specs.Nouns.{Bytes, Name}
use Rattle.nl_words.specs.Table.{is_name}
use Rattle.nl_words.specs.declared.entry.Role.{Role}
use Rattle.nl_words.specs.declared.entry.Role.TheVariants as role
use Rattle.nl_words.specs.declared.entry.Input.{Input}
use Rattle.nl_words.specs.declared.entry.Input.TheVariants as input
use Rattle.nl_words.specs.declared.entry.Turns.{Turns}
use Rattle.nl_words.specs.declared.entry.Turns.TheVariants as turns
use Rattle.nl_fixed.specs.declared.span.Span.{Span}
use Rattle.nl_tree.specs.declared.needs.Block.{Block}
use Rattle.nl_tree.specs.declared.needs.Block.TheVariants as blocks
use Rattle.nl_tree.specs.declared.needs.Content.TheVariants as contents
use Rattle.nl_tree.specs.declared.needs.Need.{Need}
use Rattle.nl_tree.specs.declared.needs.Need.TheVariants.{Item, Whole, Within, Maybe, Variable}
use Rattle.nl_tree.specs.Term.{Term}
use Rattle.nl_tree.specs.Vocabulary.{term_named}

-- A token. A word is in lower case, a text has its escapes resolved, and `End` is what follows a text: the word `end` of a body, or the end
-- of a lone text.
pub data Lexeme : Type 0 where
  Number : (value : ℤ) → Lexeme
  Text : (bytes : Bytes) → Lexeme
  Word : (name : Name) → Lexeme
  Open : Lexeme
  Close : Lexeme
  OpenParen : Lexeme
  CloseParen : Lexeme
  End : Lexeme

pub record Token : Type 0 where
  pub lexeme : Lexeme
  pub span : Span

-- what a text can have: a word has a name's form, and the content of a text is UTF-8
abbrev pub IsLexeme : Lexeme → Type 0
IsLexeme (Number n) = Unit {0}
IsLexeme (Text bytes) = IsUtf8 bytes
IsLexeme (Word name) = IsTrue (is_name name)
IsLexeme Open = Unit {0}
IsLexeme Close = Unit {0}
IsLexeme OpenParen = Unit {0}
IsLexeme CloseParen = Unit {0}
IsLexeme End = Unit {0}

abbrev pub IsToken : Token → Type 0
IsToken t = IsLexeme t.lexeme

-- What a word is to the grammar. A reporter's last input is told apart from those before it: with an item last it is a call that goes on as
-- far as the item does, and with a block last it ends with the block.
pub data Class : Type 0 where
  Unknown : Class  -- no row: perhaps a local
  Constant : Class  -- may stand in a literal list
  Plain : Class  -- a reporter without inputs
  Named : Class  -- a variable that has a row
  Prefix : List Need → Class  -- a reporter: these inputs, then an item
  Many : ℕ → Class  -- a reporter of n + 1 items, or in parentheses of any number
  Closing : List Need → Block → Class  -- a reporter: these inputs, then a block
  Command : List Need → Class
  Let : Class  -- a command: a new name, then a whole expression
  With : Class  -- level 1, with a reporter block on the right
  Near : ℕ → Class  -- level 1, with n + 1 closed right sides
  Of : Class
  Binary : ℕ → Bool → Class  -- an operator of level n + 4; whether it is the minus sign
  Arrow : Class  -- ends the head of an arrow block
  Nowhere : Class  -- may stand nowhere in a body

-- An input for a new name. Only `let` has one.
abbrev pub is_new : Input → Bool
is_new input.Fresh = true
is_new i = false

-- How many names the head of an arrow block has at most: as many as a turn has values. Without parentheses there is one list.
abbrev pub names_of : Turns → ℕ
names_of turns.NoTurn = 0
names_of turns.OneValue = 1
names_of turns.TwoValues = 2
names_of turns.ValueOfEachList = 1

-- An input of a command, where a value is a whole expression and an arrow block has so many names at most. A new name and cases are asked for
-- by no row that comes to this.
abbrev pub need_of_command : ℕ → Input → Need
need_of_command n input.Value = Whole
need_of_command n input.Expression = Whole
need_of_command n input.Commands = Within blocks.Commands
need_of_command n input.MaybeCommands = Maybe
need_of_command n input.Reporter = Within blocks.Reporter
need_of_command n input.Variable = Variable
need_of_command n input.Fresh = Whole
need_of_command n input.ArrowCommands = Within (blocks.Arrow contents.Commands n)
need_of_command n input.ArrowReporter = Within (blocks.Arrow contents.Reporter n)
need_of_command n input.Cases = Whole

-- and of a reporter, where it is an item
abbrev pub need_of_reporter : ℕ → Input → Need
need_of_reporter n input.Value = Item
need_of_reporter n input.Expression = Whole
need_of_reporter n input.Commands = Within blocks.Commands
need_of_reporter n input.MaybeCommands = Maybe
need_of_reporter n input.Reporter = Within blocks.Reporter
need_of_reporter n input.Variable = Variable
need_of_reporter n input.Fresh = Whole
need_of_reporter n input.ArrowCommands = Within (blocks.Arrow contents.Commands n)
need_of_reporter n input.ArrowReporter = Within (blocks.Arrow contents.Reporter n)
need_of_reporter n input.Cases = Whole

-- the inputs of a term: those of its row, or so many values
abbrev pub repeated : ℕ → List Input
repeated zero = []
repeated (suc n) = input.Value ∷ repeated n

abbrev pub inputs_of : Term → List Input
inputs_of t = t.inputs ++ repeated t.values

-- one input among those of a reporter, before what follows it
abbrev pub before : Need → Class → Class
before i (Prefix is) = Prefix (i ∷ is)
before i (Closing is b) = Closing (i ∷ is) b
before i c = Nowhere

abbrev pub last_need : Need → Class
last_need Item = Prefix []
last_need (Within b) = Closing [] b
last_need i = Nowhere

-- a reporter with inputs, the last one told apart
abbrev pub reporter_of : ℕ → List Input → Class
reporter_of n [] = Plain
reporter_of n (i ∷ []) = last_need (need_of_reporter n i)
reporter_of n (i ∷ j ∷ is) = before (need_of_reporter n i) (reporter_of n (j ∷ is))

abbrev pub reporter_class : ℕ → List Input → Class
reporter_class n is = if list_any is_new is then Nowhere else reporter_of n is

abbrev pub one_more : Class → Class
one_more (Many n) = Many (n + 1)
one_more c = Nowhere

-- a reporter of any number of values
abbrev pub many_class : List Input → Class
many_class (input.Value ∷ []) = Many 0
many_class (input.Value ∷ is) = one_more (many_class is)
many_class is = Nowhere

abbrev pub command_class : ℕ → List Input → Class
command_class n (input.Fresh ∷ input.Value ∷ []) = Let
command_class n is = if list_any is_new is then Nowhere else Command (map (need_of_command n) is)

-- level 1: a chain on the left, and on the right a block, or closed values
abbrev pub near_class : List Input → Class
near_class (input.Value ∷ input.Reporter ∷ []) = With
near_class (input.Value ∷ input.Value ∷ []) = Near 0
near_class (input.Value ∷ input.Value ∷ input.Value ∷ []) = Near 1
near_class is = Nowhere

-- an operator of a level
abbrev pub operator_class : ℕ → Bool → List Input → Class
operator_class level minus is =
    if level == 1 then near_class is
    else (if level == 2 then Of
    else (if nat_le 4 level && nat_le level 9 then Binary (level - 4) minus
    else Nowhere))

-- of the words that are reserved only the arrow may stand in a body
abbrev pub reserved_class : Bool → Class
reserved_class true = Arrow
reserved_class false = Nowhere

-- A row of a word of this name, in whose turns there are so many values. A word that has turns and may have more lists in parentheses has one
-- without them.
abbrev pub class_by : Name → Role → Bool → ℕ → List Input → Class
class_by name role.Command many n is = command_class n is
class_by name role.Reporter true zero is = many_class is
class_by name role.Reporter true (suc n) is = reporter_class (suc n) is
class_by name role.Reporter false n is = reporter_class n is
class_by name (role.Operator level) many n is = operator_class level (bytes_eq name (codes "-")) is
class_by name role.Constant many n is = Constant
class_by name role.Variable many n is = Named
class_by name role.Reserved many n is = reserved_class (bytes_eq name (codes "->"))

abbrev pub class_of_term : Term → Class
class_of_term t = class_by t.name t.role t.many (names_of t.turns) (inputs_of t)

abbrev pub class_of : Option Term → Class
class_of None = Unknown
class_of (Some t) = class_of_term t

-- A token with what its row makes of it.
pub data Tok : Type 0 where
  number : ℤ → Span → Tok
  text : Bytes → Span → Tok
  word : Name → Class → Span → Tok
  open_bracket : Span → Tok
  close_bracket : Span → Tok
  open_paren : Span → Tok
  close_paren : Span → Tok
  end : Span → Tok

abbrev pub marked_as : List Term → Span → Lexeme → Tok
marked_as table s (Number n) = number n s
marked_as table s (Text bytes) = text bytes s
marked_as table s (Word name) = word name (class_of (term_named table name)) s
marked_as table s Open = open_bracket s
marked_as table s Close = close_bracket s
marked_as table s OpenParen = open_paren s
marked_as table s CloseParen = close_paren s
marked_as table s End = end s

abbrev pub mark : List Term → Token → Tok
mark table t = marked_as table t.span t.lexeme

abbrev pub marked : List Term → List Token → List Tok
marked table ts = map (mark table) ts

abbrev pub span_of : Tok → Span
span_of (number n s) = s
span_of (text bytes s) = s
span_of (word w c s) = s
span_of (open_bracket s) = s
span_of (close_bracket s) = s
span_of (open_paren s) = s
span_of (close_paren s) = s
span_of (end s) = s
