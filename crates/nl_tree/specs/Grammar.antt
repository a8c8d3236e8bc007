-- The grammar: which trees a run of tokens has.
-- Statements, expressions, blocks, `let` and the words' inputs are those of the NetLogo Programming Guide; the levels of operators, how much
-- of a text one input takes, and what stands in parentheses are this project's own choice.
use Rattle.std.specs.Prelude.{◌≡◌, ℕ, zero, suc, ◌+◌, ◌==◌, Bool, true, false, not, ◌||◌, ◌&&◌, ℤ, IsTrue, List, [], ◌∷◌, length, nat_lt, nat_le}
use Rattle.nl_fixed.specs.Nouns.{Bytes, Name, Names}
use Rattle.nl_fixed.specs.declared.span.Span.{Span}
use Rattle.nl_tree.specs.declared.tree.Label.{Label}
use Rattle.nl_tree.specs.declared.tree.Label.TheVariants as label
use Rattle.nl_tree.specs.declared.declared.Form.{Form}
use Rattle.nl_tree.specs.declared.declared.Form.TheVariants as form
use Rattle.nl_tree.specs.Tree.{Node, node, Nodes, none, more}
use Rattle.nl_tree.specs.Vocabulary.{among}
use Rattle.nl_tree.specs.Tokens.{Unknown, Constant, Plain, Named, Prefix, Many, Closing, Command, Let, With, Near, Of, Binary, Arrow, Tok, number, text, word, open_bracket, close_bracket, open_paren, close_paren, end, span_of}
use Rattle.nl_tree.specs.declared.needs.Block.{Block}
use Rattle.nl_tree.specs.declared.needs.Block.TheVariants as blocks
use Rattle.nl_tree.specs.declared.needs.Content.TheVariants as contents
use Rattle.nl_tree.specs.declared.needs.Need.{Need}
use Rattle.nl_tree.specs.declared.needs.Ending.{Ending}
use Rattle.nl_tree.specs.declared.needs.Ending.TheVariants.{AtBracket, AtEnd}
use Rattle.nl_tree.specs.declared.needs.Need.TheVariants.{Item, Whole, Within, Maybe, Variable}

abbrev pub one : Node → Nodes
one t = more t none

abbrev pub two : Node → Node → Nodes
two t u = more t (one u)

abbrev pub leaf : Label → Span → Node
leaf l s = node l s none

-- these and those, in order
abbrev pub join : Nodes → Nodes → Nodes
join none us = us
join (more t ts) us = more t (join ts us)

abbrev pub and_last : Nodes → Node → Nodes
and_last ts t = join ts (one t)

-- the next token opens a bracket
abbrev pub opens : List Tok → Bool
opens (open_bracket s ∷ c) = true
opens c = false

-- how many levels of operators stand over items: 4 to 9
abbrev pub top : ℕ
top = 6

-- What a run of tokens may be. Names are the locals and inputs that are known.
pub data Part : Type 0 where
  Closed : Part
  Chain : Part
  Sides : ℕ → Part  -- n + 1 closed
  Call : Part  -- a call with inputs, whose last one is an item
  LastCall : ℕ → Part  -- n closed and such a call
  Items : ℕ → Part  -- n + 1 items
  AnyItems : Part  -- any number of items
  Level : ℕ → Part  -- 0: an item; n + 1: an expression of operators up to level n + 4
  Literals : Part  -- what a literal list holds, and its closing bracket
  Arg : Need → Part  -- one input
  Args : List Need → Part  -- inputs in order
  Head : ℕ → Names → Names → Part  -- the head of an arrow block, or none: so many names at most; its names, and those that are known after it
  HeadNames : ℕ → Names → Names → Part  -- names, which are as many, and their closing bracket
  Statement : Names → Part  -- one statement, after which these names are known
  Statements : Ending → Part  -- statements and what ends them

-- `Reads p e a c ts`: where the names `e` are known, the tokens of `a` up to its rest `c` are a `p`, with the trees `ts`.
pub data Reads : Part → Names → List Tok → List Tok → Nodes → Type 0 where
  -- Closed: a constant, a variable, a call of a word without inputs, a literal list, a parenthesis, a call whose last input is a block.
  closed_number : {e : Names} {n : ℤ} {s : Span} {c : List Tok} → Reads Closed e (number n s ∷ c) c (one (leaf (label.Number n) s))
  closed_text : {e : Names} {bytes : Bytes} {s : Span} {c : List Tok} → Reads Closed e (text bytes s ∷ c) c (one (leaf (label.Text bytes) s))
  closed_constant : {e : Names} {w : Name} {s : Span} {c : List Tok} → Reads Closed e (word w Constant s ∷ c) c (one (leaf (label.Named w) s))
  closed_plain : {e : Names} {w : Name} {s : Span} {c : List Tok} → Reads Closed e (word w Plain s ∷ c) c (one (leaf (label.Named w) s))
  closed_variable : {e : Names} {w : Name} {s : Span} {c : List Tok} → Reads Closed e (word w Named s ∷ c) c (one (leaf (label.Named w) s))
  closed_local : {e : Names} {w : Name} {s : Span} {c : List Tok} → IsTrue (among w e) → Reads Closed e (word w Unknown s ∷ c) c (one (leaf (label.Named w) s))
  closed_list : {e : Names} {s : Span} {b c : List Tok} {ts : Nodes} → Reads Literals e b c ts → Reads Closed e (open_bracket s ∷ b) c (one (node label.List s ts))
  closed_block : {e : Names} {w : Name} {is : List Need} {k : Block} {s : Span} {a b c : List Tok} {ts : Nodes} {t : Node} → Reads (Args is) e a b ts → Reads (Arg (Within k)) e b c (one t) → Reads Closed e (word w (Closing is k) s ∷ a) c (one (node (label.Named w) s (and_last ts t)))
  -- A parenthesis holds an expression, a word and any number of items, or the minus sign and one item.
  paren : {e : Names} {s r : Span} {b c : List Tok} {t : Node} → Reads (Level top) e b (close_paren r ∷ c) (one t) → Reads Closed e (open_paren s ∷ b) c (one (node label.Paren s (one t)))
  paren_many : {e : Names} {w : Name} {n : ℕ} {s r q : Span} {b c : List Tok} {ts : Nodes} → Reads AnyItems e b (close_paren q ∷ c) ts → Reads Closed e (open_paren s ∷ word w (Many n) r ∷ b) c (one (node label.Paren s (one (node (label.Named w) r ts))))
  paren_minus : {e : Names} {w : Name} {l : ℕ} {s r q : Span} {b c : List Tok} {t : Node} → Reads (Level zero) e b (close_paren q ∷ c) (one t) → Reads Closed e (open_paren s ∷ word w (Binary l true) r ∷ b) c (one (node label.Paren s (one (node label.Negate r (one t)))))
  -- Chain: a closed, or a chain, an operator of level 1 and its right side.
  chain_closed : {e : Names} {a c : List Tok} {t : Node} → Reads Closed e a c (one t) → Reads Chain e a c (one t)
  chain_with : {e : Names} {w : Name} {s : Span} {a b c : List Tok} {t u : Node} → Reads Chain e a (word w With s ∷ b) (one t) → Reads (Arg (Within blocks.Reporter)) e b c (one u) → Reads Chain e a c (one (node (label.Named w) s (two t u)))
  chain_near : {e : Names} {w : Name} {n : ℕ} {s : Span} {a b c : List Tok} {t : Node} {us : Nodes} → Reads Chain e a (word w (Near n) s ∷ b) (one t) → Reads (Sides n) e b c us → Reads Chain e a c (one (node (label.Named w) s (more t us)))
  one_side : {e : Names} {a c : List Tok} {t : Node} → Reads Closed e a c (one t) → Reads (Sides zero) e a c (one t)
  more_sides : {e : Names} {n : ℕ} {a b c : List Tok} {t : Node} {us : Nodes} → Reads Closed e a b (one t) → Reads (Sides n) e b c us → Reads (Sides (suc n)) e a c (more t us)
  -- Call with inputs.
  call_prefix : {e : Names} {w : Name} {is : List Need} {s : Span} {a b c : List Tok} {ts : Nodes} {t : Node} → Reads (Args is) e a b ts → Reads (Level zero) e b c (one t) → Reads Call e (word w (Prefix is) s ∷ a) c (one (node (label.Named w) s (and_last ts t)))
  call_many : {e : Names} {w : Name} {n : ℕ} {s : Span} {a c : List Tok} {ts : Nodes} → Reads (Items n) e a c ts → Reads Call e (word w (Many n) s ∷ a) c (one (node (label.Named w) s ts))
  one_item : {e : Names} {a c : List Tok} {t : Node} → Reads (Level zero) e a c (one t) → Reads (Items zero) e a c (one t)
  more_items : {e : Names} {n : ℕ} {a b c : List Tok} {t : Node} {us : Nodes} → Reads (Level zero) e a b (one t) → Reads (Items n) e b c us → Reads (Items (suc n)) e a c (more t us)
  no_item : {e : Names} {c : List Tok} → Reads AnyItems e c c none
  any_item : {e : Names} {a b c : List Tok} {t : Node} {us : Nodes} → Reads (Level zero) e a b (one t) → Reads AnyItems e b c us → Reads AnyItems e a c (more t us)
  last_call : {e : Names} {a c : List Tok} {t : Node} → Reads Call e a c (one t) → Reads (LastCall zero) e a c (one t)
  more_last : {e : Names} {n : ℕ} {a b c : List Tok} {t : Node} {us : Nodes} → Reads Closed e a b (one t) → Reads (LastCall n) e b c us → Reads (LastCall (suc n)) e a c (more t us)
  -- Item: a chain, a call with inputs, a chain and an operator of level 1 with such a call as its last right side, or a block, `of` and an item.
  item_chain : {e : Names} {a c : List Tok} {t : Node} → Reads Chain e a c (one t) → Reads (Level zero) e a c (one t)
  item_call : {e : Names} {a c : List Tok} {t : Node} → Reads Call e a c (one t) → Reads (Level zero) e a c (one t)
  item_near : {e : Names} {w : Name} {n : ℕ} {s : Span} {a b c : List Tok} {t : Node} {us : Nodes} → Reads Chain e a (word w (Near n) s ∷ b) (one t) → Reads (LastCall n) e b c us → Reads (Level zero) e a c (one (node (label.Named w) s (more t us)))
  item_of : {e : Names} {w : Name} {s : Span} {a b c : List Tok} {t u : Node} → Reads (Arg (Within blocks.Reporter)) e a (word w Of s ∷ b) (one t) → Reads (Level zero) e b c (one u) → Reads (Level zero) e a c (one (node (label.Named w) s (two t u)))
  -- Levels 4 to 9 stand over items, and are left associative.
  level_up : {e : Names} {l : ℕ} {a c : List Tok} {t : Node} → Reads (Level l) e a c (one t) → Reads (Level (suc l)) e a c (one t)
  level_binary : {e : Names} {w : Name} {l : ℕ} {m : Bool} {s : Span} {a b c : List Tok} {t u : Node} → Reads (Level (suc l)) e a (word w (Binary l m) s ∷ b) (one t) → Reads (Level l) e b c (one u) → Reads (Level (suc l)) e a c (one (node (label.Named w) s (two t u)))
  -- Literal list: numbers, texts, constants and lists.
  literal_end : {e : Names} {s : Span} {c : List Tok} → Reads Literals e (close_bracket s ∷ c) c none
  literal_number : {e : Names} {n : ℤ} {s : Span} {b c : List Tok} {ts : Nodes} → Reads Literals e b c ts → Reads Literals e (number n s ∷ b) c (more (leaf (label.Number n) s) ts)
  literal_text : {e : Names} {bytes : Bytes} {s : Span} {b c : List Tok} {ts : Nodes} → Reads Literals e b c ts → Reads Literals e (text bytes s ∷ b) c (more (leaf (label.Text bytes) s) ts)
  literal_constant : {e : Names} {w : Name} {s : Span} {b c : List Tok} {ts : Nodes} → Reads Literals e b c ts → Reads Literals e (word w Constant s ∷ b) c (more (leaf (label.Named w) s) ts)
  literal_list : {e : Names} {s : Span} {b c d : List Tok} {ts us : Nodes} → Reads Literals e b c ts → Reads Literals e c d us → Reads Literals e (open_bracket s ∷ b) d (more (node label.List s ts) us)
  -- Inputs: an item, a whole expression, a block, the name of a variable.
  arg_item : {e : Names} {a c : List Tok} {t : Node} → Reads (Level zero) e a c (one t) → Reads (Arg Item) e a c (one t)
  arg_whole : {e : Names} {a c : List Tok} {t : Node} → Reads (Level top) e a c (one t) → Reads (Arg Whole) e a c (one t)
  arg_commands : {e : Names} {s : Span} {b c : List Tok} {ts : Nodes} → Reads (Statements AtBracket) e b c ts → Reads (Arg (Within blocks.Commands)) e (open_bracket s ∷ b) c (one (node label.Commands s ts))
  arg_reporter : {e : Names} {s r : Span} {b c : List Tok} {t : Node} → Reads (Level top) e b (close_bracket r ∷ c) (one t) → Reads (Arg (Within blocks.Reporter)) e (open_bracket s ∷ b) c (one (node label.Reporter s (one t)))
  arg_arrow_commands : {e f ns : Names} {n : ℕ} {s : Span} {b c d : List Tok} {ts : Nodes} → Reads (Head n ns f) e b c none → Reads (Statements AtBracket) f c d ts → Reads (Arg (Within (blocks.Arrow contents.Commands n))) e (open_bracket s ∷ b) d (one (node (label.Arrow ns) s (one (node label.Commands s ts))))
  arg_arrow_reporter : {e f ns : Names} {n : ℕ} {s r : Span} {b c d : List Tok} {t : Node} → Reads (Head n ns f) e b c none → Reads (Level top) f c (close_bracket r ∷ d) (one t) → Reads (Arg (Within (blocks.Arrow contents.Reporter n))) e (open_bracket s ∷ b) d (one (node (label.Arrow ns) s (one t)))
  arg_variable : {e : Names} {w : Name} {s : Span} {c : List Tok} → Reads (Arg Variable) e (word w Named s ∷ c) c (one (leaf (label.Named w) s))
  arg_local : {e : Names} {w : Name} {s : Span} {c : List Tok} → IsTrue (among w e) → Reads (Arg Variable) e (word w Unknown s ∷ c) c (one (leaf (label.Named w) s))
  no_arg : {e : Names} {c : List Tok} → Reads (Args []) e c c none
  arg : {e : Names} {i : Need} {is : List Need} {a b c : List Tok} {t : Node} {ts : Nodes} → Reads (Arg i) e a b (one t) → Reads (Args is) e b c ts → Reads (Args (i ∷ is)) e a c (more t ts)
  -- Head of an arrow block: nothing, an arrow, a name and an arrow, or names in brackets and an arrow. A name has no row and isn't known.
  no_head : {e : Names} {n : ℕ} {c : List Tok} → Reads (Head n [] e) e c c none
  head_arrow : {e : Names} {n : ℕ} {w : Name} {s : Span} {c : List Tok} → Reads (Head n [] e) e (word w Arrow s ∷ c) c none
  head_name : {e : Names} {n : ℕ} {w v : Name} {s r : Span} {c : List Tok} → IsTrue (not (among w e)) → Reads (Head (suc n) (w ∷ []) (w ∷ e)) e (word w Unknown s ∷ word v Arrow r ∷ c) c none
  head_names : {e f ns : Names} {n : ℕ} {v : Name} {s r : Span} {b c : List Tok} → Reads (HeadNames n ns f) e b (word v Arrow r ∷ c) none → Reads (Head n ns f) e (open_bracket s ∷ b) c none
  names_end : {e : Names} {n : ℕ} {s : Span} {c : List Tok} → Reads (HeadNames n [] e) e (close_bracket s ∷ c) c none
  next_name : {e f ns : Names} {n : ℕ} {w : Name} {s : Span} {b c : List Tok} → IsTrue (not (among w e)) → Reads (HeadNames n ns f) (w ∷ e) b c none → Reads (HeadNames (suc n) (w ∷ ns) f) e (word w Unknown s ∷ b) c none
  -- A block that may be missing is there exactly where a bracket opens next.
  maybe_there : {e : Names} {is : List Need} {a b c : List Tok} {t : Node} {ts : Nodes} → Reads (Arg (Within blocks.Commands)) e a b (one t) → Reads (Args is) e b c ts → Reads (Args (Maybe ∷ is)) e a c (more t ts)
  maybe_missing : {e : Names} {is : List Need} {a c : List Tok} {ts : Nodes} → IsTrue (not (opens a)) → Reads (Args is) e a c ts → Reads (Args (Maybe ∷ is)) e a c ts
  -- Statement: a command and its inputs, or a statement in parentheses. A name made by `let` has no row and isn't known.
  command : {e : Names} {w : Name} {is : List Need} {s : Span} {b c : List Tok} {ts : Nodes} → Reads (Args is) e b c ts → Reads (Statement e) e (word w (Command is) s ∷ b) c (one (node (label.Named w) s ts))
  make : {e : Names} {w n : Name} {s r : Span} {b c : List Tok} {t : Node} → IsTrue (not (among n e)) → Reads (Level top) e b c (one t) → Reads (Statement (n ∷ e)) e (word w Let s ∷ word n Unknown r ∷ b) c (one (node (label.Named w) s (two (leaf (label.Named n) r) t)))
  statement_paren : {e f : Names} {s r : Span} {b c : List Tok} {t : Node} → Reads (Statement f) e b (close_paren r ∷ c) (one t) → Reads (Statement f) e (open_paren s ∷ b) c (one (node label.Paren s (one t)))
  -- Statements: what a statement makes is known to those after it, up to the end of the block or the text.
  at_bracket : {e : Names} {s : Span} {c : List Tok} → Reads (Statements AtBracket) e (close_bracket s ∷ c) c none
  at_end : {e : Names} {s : Span} → Reads (Statements AtEnd) e (end s ∷ []) [] none
  statements : {k : Ending} {e f : Names} {a b c : List Tok} {t : Node} {ts : Nodes} → Reads (Statement f) e a b (one t) → Reads (Statements k) f b c ts → Reads (Statements k) e a c (more t ts)

-- The tokens, the last of which is what ends them, are a text of this form with this tree, where the names are known.
-- The commands of a whole text are one node, with the span of the first token, be it the one that ends the text.
abbrev pub span_of_first : List Tok → Span
span_of_first [] = record { start = 0; len = 0 }
span_of_first (t ∷ ts) = span_of t

abbrev pub IsText : Form → Names → List Tok → Node → Type 0
IsText form.Commands e a t = (ts : Nodes) × (t ≡ node label.Commands (span_of_first a) ts) × Reads (Statements AtEnd) e a [] ts
IsText form.Reporter e a t = (s : Span) × Reads (Level top) e a (end s ∷ []) (one t)

-- Which names are known where `left` tokens are left, in a reading: those known to the statements in which that place lies, and those of the
-- head of an arrow block, from behind each one's own token to the bracket that closes the block. At a closing parenthesis the statement inside
-- of it is over, so what it makes is known there. A reading knows what those inside of it know.
abbrev lies_in : List Tok → List Tok → ℕ → Bool
lies_in a c left = nat_lt (length c) left && nat_le left (length a)

abbrev pub knows : {p : Part} {e : Names} {a c : List Tok} {ts : Nodes} → Name → ℕ → Reads p e a c ts → Bool
knows n left closed_number = false
knows n left closed_text = false
knows n left closed_constant = false
knows n left closed_plain = false
knows n left closed_variable = false
knows n left (closed_local h) = false
knows n left (closed_list d) = knows n left d
knows n left (closed_block ds d) = knows n left ds || knows n left d
knows n left (paren d) = knows n left d
knows n left (paren_many ds) = knows n left ds
knows n left (paren_minus d) = knows n left d
knows n left (chain_closed d) = knows n left d
knows n left (chain_with d f) = knows n left d || knows n left f
knows n left (chain_near d fs) = knows n left d || knows n left fs
knows n left (one_side d) = knows n left d
knows n left (more_sides d ds) = knows n left d || knows n left ds
knows n left (call_prefix ds d) = knows n left ds || knows n left d
knows n left (call_many ds) = knows n left ds
knows n left (one_item d) = knows n left d
knows n left (more_items d ds) = knows n left d || knows n left ds
knows n left no_item = false
knows n left (any_item d ds) = knows n left d || knows n left ds
knows n left (last_call d) = knows n left d
knows n left (more_last d ds) = knows n left d || knows n left ds
knows n left (item_chain d) = knows n left d
knows n left (item_call d) = knows n left d
knows n left (item_near d fs) = knows n left d || knows n left fs
knows n left (item_of d f) = knows n left d || knows n left f
knows n left (level_up d) = knows n left d
knows n left (level_binary d f) = knows n left d || knows n left f
knows n left literal_end = false
knows n left (literal_number ds) = knows n left ds
knows n left (literal_text ds) = knows n left ds
knows n left (literal_constant ds) = knows n left ds
knows n left (literal_list d ds) = knows n left d || knows n left ds
knows n left (arg_item d) = knows n left d
knows n left (arg_whole d) = knows n left d
knows n left (arg_commands d) = knows n left d
knows n left (arg_reporter d) = knows n left d
knows n left (arg_arrow_commands ds fs) = knows n left ds || knows n left fs
knows n left (arg_arrow_reporter {f = f} {c = c} {d = d} ds g) = knows n left ds || lies_in c d left && among n f || knows n left g
knows n left arg_variable = false
knows n left (arg_local h) = false
knows n left no_head = false
knows n left head_arrow = false
knows n left (head_name {e = e} {w = w} {c = c} h) = (left == length c + 1) && among n (w ∷ e)
knows n left (head_names {f = f} {c = c} ds) = (left == length c + 1) && among n f || knows n left ds
knows n left (names_end {e = e} {c = c}) = (left == length c + 1) && among n e
knows n left (next_name {e = e} {b = b} h ds) = (left == length b + 1) && among n e || knows n left ds
knows n left no_arg = false
knows n left (arg d ds) = knows n left d || knows n left ds
knows n left (maybe_there d ds) = knows n left d || knows n left ds
knows n left (maybe_missing h ds) = knows n left ds
knows n left (command ds) = knows n left ds
knows n left (make h d) = knows n left d
knows n left (statement_paren {f = f} {c = c} d) = (left == length c + 1) && among n f || knows n left d
knows n left (at_bracket {e = e} {c = c}) = (left == length c + 1) && among n e
knows n left (at_end {e = e}) = (left == 1) && among n e
knows n left (statements {e = e} {a = a} {b = b} d ds) = lies_in a b left && among n e || knows n left d || knows n left ds

abbrev pub knows_in : (f : Form) (e : Names) (a : List Tok) (t : Node) → Name → ℕ → IsText f e a t → Bool
knows_in form.Commands e a t n left d = among n e || knows n left d.2
knows_in form.Reporter e a t n left d = among n e || knows n left d.1
