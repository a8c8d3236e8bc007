-- The machine takes each reading of the grammar, and builds its tree.
use Rattle.std.proofs.Common.{◌≡◌, ℕ, zero, suc, Bool, true, false, not, List, [], ◌∷◌, ◌++◌, append_assoc, append-nil, refl, sym, ◌∙◌, ap, subst, IsTrue, ◌≤◌, arith}
use Rattle.std.proofs.lemmas.Bool.{leb-true, leb-false, le-leb, lt-leb, lt-ltb}
use Rattle.nl_fixed.specs.declared.span.Span.{Span}
use Rattle.nl_tree.specs.declared.tree.Label.{Label}
use Rattle.nl_tree.specs.declared.tree.Label.TheVariants as label
use Rattle.nl_tree.specs.Tree.{Node, node, Nodes, none, more}
use Rattle.nl_tree.specs.Tokens.{Unknown, Command, Let, With, Near, Of, Binary, Arrow, Tok, word, open_bracket, close_bracket, open_paren, close_paren}
use Rattle.nl_tree.specs.declared.needs.Block.TheVariants as blocks
use Rattle.nl_tree.specs.declared.needs.Content.{Content}
use Rattle.nl_tree.specs.declared.needs.Content.TheVariants as contents
use Rattle.nl_tree.specs.declared.needs.Need.{Need}
use Rattle.nl_tree.specs.declared.needs.Need.TheVariants.{Item, Whole, Within, Maybe, Variable}
use Rattle.nl_tree.specs.Grammar.{one, two, leaf, join, and_last, opens, top, Part, Closed, Chain, Sides, Call, LastCall, Items, AnyItems, Level, Literals, Arg, Args, Head, HeadNames, Statement, Statements, Reads, closed_number, closed_text, closed_constant, closed_plain, closed_variable, closed_local, closed_list, closed_block, paren, paren_many, paren_minus, chain_closed, chain_with, chain_near, one_side, more_sides, call_prefix, call_many, one_item, more_items, no_item, any_item, last_call, more_last, item_chain, item_call, item_near, item_of, level_up, level_binary, literal_end, literal_number, literal_text, literal_constant, literal_list, arg_item, arg_whole, arg_commands, arg_reporter, arg_arrow_commands, arg_arrow_reporter, arg_variable, arg_local, no_arg, arg, no_head, head_arrow, head_name, head_names, names_end, next_name, maybe_there, maybe_missing, command, make, statement_paren, at_bracket, at_end, statements}
use Rattle.nl_tree.specs.declared.needs.Ending.TheVariants.{AtBracket, AtEnd}
use Rattle.nl_parse_grammar.specs.Machine.{Frame, InBinary, InWith, InNear, InOf, InCall, InLastItem, InLastBlock, InMany, InItems, InParen, InMinus, InReporter, InNoHead, InArrowReporter, InArrowCommands, InBracket, InList, InLet, InStatementParen, InStatements, Begin, Opening, Heading, InHead, Behind, Optional, Choosing, Have, Shut, Listing, Stating, Over, st, go, Got, got, end_statement, next, closed, supply, accept, end_list, closes, build, built_shape, settle, takes_operator, feed_local, begin_call, begin_many, begin_bracket, feed_begin, feed_variable, feed_paren, feed_statement, begins_statement, feed_stating, feed_fresh, feed_plain, without_maybes, feed_ready, feed_broken, feed_operator, feed_binary, feed, run_from, run}
use Rattle.nl_parse_grammar.specs.declared.pending.Last.{Last}
use Rattle.nl_parse_grammar.specs.declared.pending.Last.TheVariants as lasts
use Rattle.nl_parse_grammar.specs.declared.pending.Shape.{Shape}
use Rattle.nl_parse_grammar.specs.declared.pending.Shape.TheVariants.{Literal, Growing, Fixed}
use Rattle.nl_parse_grammar.proofs.Heads.{Starts, starts, begins_content, states_content, lone_name, first_name, next_one, shut_no_head}

-- a token with which no chain goes on, as it is no operator
abbrev pub breaks : Tok → Bool
breaks (word w With s) = false
breaks (word w (Near n) s) = false
breaks (word w Of s) = false
breaks (word w (Binary l m) s) = false
breaks tok = true

abbrev pub Breaking : List Tok → Type 0
Breaking [] = ⊥
Breaking (tok ∷ toks) = IsTrue (breaks tok)

-- a part that isn't empty begins with one
abbrev pub Heads : Part → List Tok → List Tok → Type 0
Heads (Args is) a c = Breaking c → Breaking a
Heads AnyItems a c = Breaking c → Breaking a
Heads (Head n ns f) a c = Breaking c → Breaking a
Heads p a c = Breaking a

pub heads : {p : Part} {e : List (List ℕ)} {a c : List Tok} {ts : Nodes} → Reads p e a c ts → Heads p a c
heads closed_number = refl
heads closed_text = refl
heads closed_constant = refl
heads closed_plain = refl
heads closed_variable = refl
heads (closed_local m) = refl
heads (closed_list d) = refl
heads (closed_block d f) = refl
heads (paren d) = refl
heads (paren_many d) = refl
heads (paren_minus d) = refl
heads (chain_closed d) = heads d
heads (chain_with d f) = heads d
heads (chain_near d f) = heads d
heads (one_side d) = heads d
heads (more_sides d f) = heads d
heads (call_prefix d f) = refl
heads (call_many d) = refl
heads (one_item d) = heads d
heads (more_items d f) = heads d
heads no_item = λ h. h
heads (any_item d f) = λ h. heads d
heads (last_call d) = heads d
heads (more_last d f) = heads d
heads (item_chain d) = heads d
heads (item_call d) = heads d
heads (item_near d f) = heads d
heads (item_of d f) = heads d
heads (level_up d) = heads d
heads (level_binary d f) = heads d
heads literal_end = refl
heads (literal_number d) = refl
heads (literal_text d) = refl
heads (literal_constant d) = refl
heads (literal_list d f) = refl
heads (arg_item d) = heads d
heads (arg_whole d) = heads d
heads (arg_commands d) = refl
heads (arg_reporter d) = refl
heads (arg_arrow_commands d f) = refl
heads (arg_arrow_reporter d f) = refl
heads arg_variable = refl
heads (arg_local m) = refl
heads no_arg = λ h. h
heads (arg d f) = λ h. heads d
heads no_head = λ h. h
heads head_arrow = λ h. refl
heads (head_name m) = λ h. refl
heads (head_names d) = λ h. refl
heads names_end = refl
heads (next_name m d) = refl
heads (maybe_there d f) = λ h. heads d
heads (maybe_missing m d) = heads d
heads (command d) = refl
heads (make m d) = refl
heads (statement_paren d) = refl
heads at_bracket = refl
heads at_end = refl
heads (statements d f) = heads d

-- a span, where any will do
abbrev pub nowhere : Span
nowhere = record { start = 0; len = 0 }

abbrev pub first : Nodes → Node
first none = leaf label.List nowhere
first (more t ts) = t

pub join_none : (ts : Nodes) → join ts none ≡ ts
join_none none = refl
join_none (more t ts) = ap (more t) (join_none ts)

pub join_last : (ts : Nodes) (t : Node) (us : Nodes) → join (and_last ts t) us ≡ join ts (more t us)
join_last none t us = refl
join_last (more u ts) t us = ap (more u) (join_last ts t us)

-- What is below a part on the stack.

-- An expression of this level may be read on the stack: nothing on top of it waits for a literal or a right side, or is over before such an
-- operator.
abbrev pub Stays : ℕ → List Frame → Type 0
Stays l [] = Unit {0}
Stays l (InList s ts ∷ K) = ⊥
Stays l (InNear w s ts n ∷ K) = ⊥
Stays zero (f ∷ K) = Unit {0}
Stays (suc l) (f ∷ K) = (closes (suc l) f ≡ false) × (takes_operator (f ∷ K) ≡ true)

abbrev pub NoList : List Frame → Type 0
NoList (InList s ts ∷ K) = ⊥
NoList K = Unit {0}

-- and a call with inputs
abbrev pub TakesCall : List Frame → Type 0
TakesCall (InList s ts ∷ K) = ⊥
TakesCall (InNear w s ts (suc n) ∷ K) = ⊥
TakesCall K = Unit {0}

-- where a statement may begin
abbrev pub TakesStatement : List Frame → Type 0
TakesStatement (InStatements s k before ts ∷ K) = Unit {0}
TakesStatement (InStatementParen s ∷ K) = Unit {0}
TakesStatement (InArrowCommands s before ns ts ∷ K) = Unit {0}
TakesStatement K = ⊥

-- From the stack `S` the tokens of `a` lead to a chain before `c`. For an operator of level `l` it is as if `t` had been read on `K`.
pub record Comes (l : ℕ) (e : List (List ℕ)) (S K : List Frame) (t : Node) (a c : List Tok) : Type 0 where
  pub held : Shape
  pub tree : Node
  pub rest : List Frame
  pub shape : Shape
  pub runs : run (st Begin e S) a ≡ run (st (Have held tree) e rest) c
  pub settles : settle l held tree rest ≡ settle l shape t K

-- Behind the bracket of an arrow block the head's tokens in `a` lead to an expression before `c`, on a frame that the bracket at its end makes
-- the block.
pub record Enters (n : ℕ) (s : Span) (e ns f : List (List ℕ)) (K : List Frame) (a c : List Tok) : Type 0 where
  pub frame : Frame
  pub runs : run (st (Heading contents.Reporter n s) e K) a ≡ run (st Begin f (frame ∷ K)) c
  pub stays : Stays top (frame ∷ K)
  pub waits : (m : ℕ) → closes m frame ≡ false
  pub shuts : (x : Shape) (t : Node) (r : Span) (d : List Tok) → run (accept x t f (frame ∷ K)) (close_bracket r ∷ d) ≡ run (supply (node (label.Arrow ns) s (one t)) e K) d

abbrev pub Completes : Part → List (List ℕ) → List Tok → List Tok → Nodes → Type 0
Completes Closed e a c ts = (K : List Frame) → NoList K → (x : Shape) × (run (st Begin e K) a ≡ run (closed x (first ts) e K) c)
Completes Chain e a c ts = (K : List Frame) → Stays zero K → (x : Shape) × (run (st Begin e K) a ≡ run (st (Have x (first ts)) e K) c)
Completes (Sides n) e a c ts = (w : List ℕ) (s : Span) (had : Nodes) (K : List Frame) → run (st Begin e (InNear w s had n ∷ K)) a ≡ run (st (Have Fixed (node (label.Named w) s (join had ts))) e K) c
Completes Call e a c ts = (K : List Frame) → TakesCall K → Comes zero e K K (first ts) a c
Completes (LastCall n) e a c ts = (w : List ℕ) (s : Span) (had : Nodes) (K : List Frame) → Comes zero e (InNear w s had n ∷ K) K (node (label.Named w) s (join had ts)) a c
Completes (Items n) e a c ts = (w : List ℕ) (s : Span) (had : Nodes) (K : List Frame) → Comes zero e (InMany w s had n ∷ K) K (node (label.Named w) s (join had ts)) a c
Completes AnyItems e a c ts =
    ((p : Span) (l : Label) (s : Span) (had : Nodes) (K : List Frame) → Breaking c → run (st Begin e (InItems p l s had ∷ K)) a ≡ run (st Begin e (InItems p l s (join had ts) ∷ K)) c)
    × ((w : List ℕ) (s : Span) (had : Nodes) (n : ℕ) (p : Span) (K : List Frame) (q : Span) (d : List Tok) → c ≡ close_paren q ∷ d → run (st Begin e (InMany w s had n ∷ InParen p ∷ K)) a ≡ run (closed Fixed (node label.Paren p (one (node (label.Named w) s (join had ts)))) e K) d)
Completes (Level l) e a c ts = (K : List Frame) → l ≤ top → Stays l K → Comes l e K K (first ts) a c
Completes Literals e a c ts =
    ((s : Span) (had : Nodes) (K : List Frame) → run (st Listing e (InList s had ∷ K)) a ≡ run (end_list (node label.List s (join had ts)) e K) c)
    × ((s : Span) (K : List Frame) → NoList K → run (st Begin e (InBracket s ∷ K)) a ≡ run (closed Literal (node label.List s ts) e K) c)
Completes (Arg (Within b)) e a c ts = (K : List Frame) → run (st (Opening b) e K) a ≡ run (supply (first ts) e K) c
Completes (Arg Variable) e a c ts = (K : List Frame) → run (st Choosing e K) a ≡ run (supply (first ts) e K) c
Completes (Arg Maybe) e a c ts = Unit {0}
Completes (Arg i) e a c ts = (w : List ℕ) (s : Span) (had : Nodes) (is : List Need) (last : Last) (K : List Frame) → Breaking c → run (st Begin e (InCall w s had i is last ∷ K)) a ≡ run (next w s (and_last had (first ts)) is last e K) c
Completes (Head n ns f) e a c ts =
    ((s : Span) (K : List Frame) (d : List Tok) (us : Nodes) → Reads (Statements AtBracket) f c d us → run (st (Heading contents.Commands n s) e K) a ≡ run (st Stating f (InArrowCommands s e ns none ∷ K)) c)
    × ((s : Span) (K : List Frame) → Starts f c → Enters n s e ns f K a c)
Completes (HeadNames n ns f) e a c ts =
    ((k : Content) (s : Span) (before had : List (List ℕ)) (K : List Frame) → run (st (InHead k n s before had) e K) a ≡ run (st (Behind k s before (had ++ ns)) f K) c)
    × ((q s : Span) (v : List ℕ) (r : Span) (K : List Frame) (d : List Tok) → c ≡ word v Arrow r ∷ d → run (st Begin e (InBracket q ∷ InNoHead s n ∷ K)) a ≡ run (st Begin f (InArrowReporter s e ns ∷ K)) d)
Completes (Args is) e a c ts = (w : List ℕ) (s : Span) (had : Nodes) (last : Last) (K : List Frame) → Breaking c → run (next w s had is last e K) a ≡ run (next w s (join had ts) [] last e K) c
Completes (Statement f) e a c ts = (K : List Frame) → TakesStatement K → Breaking c → run (st Stating e K) a ≡ run (end_statement (first ts) f K) c
Completes (Statements AtBracket) e a c ts =
    ((s : Span) (before : List (List ℕ)) (had : Nodes) (K : List Frame) → run (st Stating e (InStatements s AtBracket before had ∷ K)) a ≡ run (supply (node label.Commands s (join had ts)) before K) c)
    × ((s : Span) (before ns : List (List ℕ)) (had : Nodes) (K : List Frame) → run (st Stating e (InArrowCommands s before ns had ∷ K)) a ≡ run (supply (node (label.Arrow ns) s (one (node label.Commands s (join had ts)))) before K) c)
Completes (Statements AtEnd) e a c ts = (s : Span) (before : List (List ℕ)) (had : Nodes) (K : List Frame) → run (st Stating e (InStatements s AtEnd before had ∷ K)) a ≡ run (st (Over (node label.Commands s (join had ts))) before K) c

-- What a tree was handed to is no chain.

ready_end : (t : Node) (e : List (List ℕ)) (K : List Frame) (tok : Tok) → feed_ready (end_statement t e K) tok ≡ feed (end_statement t e K) tok
ready_end t e [] tok = refl
ready_end t e (InStatements s k before ts ∷ K) tok = refl
ready_end t e (InStatementParen s ∷ K) tok = refl
ready_end t e (f ∷ K) tok = refl

ready_next : (w : List ℕ) (s : Span) (had : Nodes) (is : List Need) (last : Last) (e : List (List ℕ)) (K : List Frame) (tok : Tok) → feed_ready (next w s had is last e K) tok ≡ feed (next w s had is last e K) tok
ready_next w s had (Item ∷ is) last e K tok = refl
ready_next w s had (Whole ∷ is) last e K tok = refl
ready_next w s had (Within b ∷ is) last e K tok = refl
ready_next w s had (Maybe ∷ is) last e K tok = refl
ready_next w s had (Variable ∷ is) last e K tok = refl
ready_next w s had [] lasts.Item e K tok = refl
ready_next w s had [] (lasts.Block b) e K tok = refl
ready_next w s had [] lasts.Nothing e K tok = ready_end (node (label.Named w) s had) e K tok

pub ready : (x : Shape) (t : Node) (e : List (List ℕ)) (K : List Frame) (tok : Tok) → feed_ready (accept x t e K) tok ≡ feed (accept x t e K) tok
ready x t e [] tok = refl
ready x t e (InCall w s ts i is last ∷ K) tok = ready_next w s (and_last ts t) is last e K tok
ready x t e (InMany w s ts zero ∷ K) tok = refl
ready x t e (InMany w s ts (suc n) ∷ K) tok = refl
ready x t e (InItems p l s ts ∷ K) tok = refl
ready x t e (InLet w s n r ∷ K) tok = ready_end (node (label.Named w) s (two (leaf (label.Named n) r) t)) (n ∷ e) K tok
ready x t e (f ∷ K) tok = refl

-- such a token finds the tree that is complete before it
pub break : (x' x : Shape) (t' t : Node) (K' K : List Frame) (e : List (List ℕ)) (c : List Tok) → Breaking c → settle top x' t' K' ≡ got x t K → run (st (Have x' t') e K') c ≡ run (accept x t e K) c
break x' x t' t K' K e [] h q = absurd h
break x' x t' t K' K e (word w With s ∷ c) h q = cc
break x' x t' t K' K e (word w (Near n) s ∷ c) h q = cc
break x' x t' t K' K e (word w Of s ∷ c) h q = cc
break x' x t' t K' K e (word w (Binary l m) s ∷ c) h q = cc
break x' x t' t K' K e (tok ∷ c) h q = ap (λ g. run_from (feed_broken e g tok) c) q ∙ ap (λ s. run_from s c) (ready x t e K tok)

-- What operators end.

closes_more : (l m : ℕ) → l ≤ m → (f : Frame) → closes l f ≡ true → closes m f ≡ true
closes_more l m low (InBinary k w s t) h = le-leb k m (omega (arith, low, leb-true k l h))
closes_more l m low (InOf w s t) h = refl
closes_more l m low (InLastItem w s ts) h = refl
closes_more l m low (InMany w s ts zero) h = refl
closes_more l m low (InMany w s ts (suc n)) h = h
closes_more l m low (InNear w s ts zero) h = refl
closes_more l m low (InNear w s ts (suc n)) h = h
closes_more l m low f h = h

closes_up : (l : ℕ) (f : Frame) → closes l f ≡ true → closes (suc l) f ≡ true
closes_up l f h = closes_more l (suc l) (omega arith) f h

closes_down : (l : ℕ) (f : Frame) → closes (suc l) f ≡ false → closes l f ≡ false
closes_down l (InBinary m w s t) h = lt-leb m l (omega (arith, leb-false m (suc l) h))
closes_down l (InMany w s ts zero) h = h
closes_down l (InMany w s ts (suc n)) h = h
closes_down l (InNear w s ts zero) h = h
closes_down l (InNear w s ts (suc n)) h = h
closes_down l f h = h

pub settle_stop : (l : ℕ) (x : Shape) (t : Node) (f : Frame) (K : List Frame) → closes l f ≡ false → settle l x t (f ∷ K) ≡ got x t (f ∷ K)
settle_stop l x t f K h = rw (h, settle)

pub settle_on : (l : ℕ) (x : Shape) (t : Node) (f : Frame) (K : List Frame) → closes l f ≡ true → settle l x t (f ∷ K) ≡ settle l (built_shape f) (build f t) K
settle_on l x t f K h = rw (h, settle)

abbrev pub settle_got : ℕ → Got → Got
settle_got l (got x t K) = settle l x t K

-- what a level has ended, a looser one goes on from
pub settle_more : (l m : ℕ) → l ≤ m → (x : Shape) (t : Node) (K : List Frame) → settle_got m (settle l x t K) ≡ settle m x t K
settle_more l m low x t [] = refl
settle_more l m low x t (f ∷ K) = at (closes l f) refl (settle_more l m low (built_shape f) (build f t) K)
  where
    at : (b : Bool) → closes l f ≡ b → settle_got m (settle l (built_shape f) (build f t) K) ≡ settle m (built_shape f) (build f t) K → settle_got m (settle l x t (f ∷ K)) ≡ settle m x t (f ∷ K)
    at true h ih = ap (settle_got m) (settle_on l x t f K h) ∙ ih ∙ sym (settle_on m x t f K (closes_more l m low f h))
    at false h ih = ap (settle_got m) (settle_stop l x t f K h)

pub stays_settle : (l : ℕ) (x : Shape) (t : Node) (K : List Frame) → Stays (suc l) K → settle (suc l) x t K ≡ got x t K
stays_settle l x t [] h = refl
stays_settle l x t (InList s ts ∷ K) h = absurd h
stays_settle l x t (InNear w s ts n ∷ K) h = absurd h
stays_settle l x t (f ∷ K) h = settle_stop (suc l) x t f K h.0

pub stays_down : (l : ℕ) (K : List Frame) → Stays (suc l) K → Stays l K
stays_down l [] h = tt
stays_down l (InList s ts ∷ K) h = absurd h
stays_down l (InNear w s ts n ∷ K) h = absurd h
stays_down zero (f ∷ K) h = tt
stays_down (suc l) (f ∷ K) h = (closes_down (suc l) f h.0, h.1)

pub stays_binary : (l : ℕ) (w : List ℕ) (s : Span) (t : Node) (K : List Frame) → Stays l (InBinary (suc l) w s t ∷ K)
stays_binary zero w s t K = tt
stays_binary (suc l) w s t K = (lt-leb (suc (suc l)) (suc l) (omega arith), refl)

pub takes : (l : ℕ) (K : List Frame) → Stays (suc l) K → takes_operator K ≡ true
takes l [] h = refl
takes l (InList s ts ∷ K) h = absurd h
takes l (InNear w s ts n ∷ K) h = absurd h
takes l (f ∷ K) h = h.1

-- what serves a level serves those above it
lift : (l m : ℕ) → l ≤ m → (e : List (List ℕ)) (S K : List Frame) (t : Node) (a c : List Tok) → Comes l e S K t a c → Comes m e S K t a c
lift l m low e S K t a c g = record { held = g.held; tree = g.tree; rest = g.rest; shape = g.shape; runs = g.runs; settles = sym (settle_more l m low g.held g.tree g.rest) ∙ ap (settle_got m) g.settles ∙ settle_more l m low g.shape t K }

-- from the left side of an operator to its right side
operator : (l : ℕ) (w : List ℕ) (m : Bool) (s : Span) (e : List (List ℕ)) (K : List Frame) (t : Node) (a b : List Tok) → suc l ≤ top → Stays (suc l) K → Comes (suc l) e K K t a (word w (Binary l m) s ∷ b) → run (st Begin e K) a ≡ run (st Begin e (InBinary (suc l) w s t ∷ K)) b
operator l w m s e K t a b low h g =
    g.runs
    ∙ ap (λ x. run_from (feed_binary x l w s e (settle (suc l) g.held g.tree g.rest)) b) (lt-ltb l top (omega (arith, low)))
    ∙ ap (λ y. run_from (feed_binary true l w s e y) b) (g.settles ∙ stays_settle l g.shape t K h)
    ∙ ap (λ x. run_from (feed_operator x l w s e (got g.shape t K)) b) (takes l K h)

right_side : (l : ℕ) (w : List ℕ) (s : Span) (e : List (List ℕ)) (K : List Frame) (t u : Node) (b c : List Tok) → Comes l e (InBinary (suc l) w s t ∷ K) (InBinary (suc l) w s t ∷ K) u b c → Comes (suc l) e (InBinary (suc l) w s t ∷ K) K (node (label.Named w) s (two t u)) b c
right_side l w s e K t u b c m =
    let n : Comes (suc l) e (InBinary (suc l) w s t ∷ K) (InBinary (suc l) w s t ∷ K) u b c = lift l (suc l) (omega arith) e (InBinary (suc l) w s t ∷ K) (InBinary (suc l) w s t ∷ K) u b c m in
    record { held = n.held; tree = n.tree; rest = n.rest; shape = Fixed; runs = n.runs; settles = n.settles ∙ settle_on (suc l) n.shape u (InBinary (suc l) w s t) K (le-leb (suc l) (suc l) (omega arith)) }

-- Brackets.

pub end_list_closed : (t : Node) (e : List (List ℕ)) (K : List Frame) → NoList K → end_list t e K ≡ closed Literal t e K
end_list_closed t e [] h = refl
end_list_closed t e (InList s ts ∷ K) h = absurd h
end_list_closed t e (f ∷ K) h = refl

pub closed_have : (x : Shape) (t : Node) (e : List (List ℕ)) (K : List Frame) → Stays zero K → closed x t e K ≡ st (Have x t) e K
closed_have x t e [] h = refl
closed_have x t e (InNear w s ts n ∷ K) h = absurd h
closed_have x t e (f ∷ K) h = refl

pub stays_no_list : (K : List Frame) → Stays zero K → NoList K
stays_no_list [] h = tt
stays_no_list (InList s ts ∷ K) h = absurd h
stays_no_list (f ∷ K) h = tt

-- a bracket with one expression, and then `of`
bracket_of : (x : Shape) (t : Node) (s : Span) (e : List (List ℕ)) (K : List Frame) (q : Span) (w : List ℕ) (r : Span) (b : List Tok) → Stays zero K → run (st (Shut x t) e (InBracket s ∷ K)) (close_bracket q ∷ word w Of r ∷ b) ≡ run (st Begin e (InOf w r (node label.Reporter s (one t)) ∷ K)) b
bracket_of Literal t s e K q w r b h = ap (λ z. run z (word w Of r ∷ b)) (end_list_closed (node label.List s (one t)) e K (stays_no_list K h) ∙ closed_have Literal (node label.List s (one t)) e K h)
bracket_of Growing t s e K q w r b h = refl
bracket_of Fixed t s e K q w r b h = refl

pub stays_takes_call : (K : List Frame) → Stays zero K → TakesCall K
stays_takes_call [] h = tt
stays_takes_call (InList s ts ∷ K) h = absurd h
stays_takes_call (InNear w s ts n ∷ K) h = absurd h
stays_takes_call (f ∷ K) h = tt

pub begin_bracket_open : (s : Span) (e : List (List ℕ)) (K : List Frame) → Stays zero K → begin_bracket s e K ≡ go (st Begin e (InBracket s ∷ K))
begin_bracket_open s e [] h = refl
begin_bracket_open s e (InNear w r ts n ∷ K) h = absurd h
begin_bracket_open s e (f ∷ K) h = refl

pub begin_many_next : (w : List ℕ) (s : Span) (n : ℕ) (e : List (List ℕ)) (K : List Frame) → TakesCall K → begin_many w s n e K ≡ go (st Begin e (InMany w s none n ∷ K))
begin_many_next w s n e [] h = refl
begin_many_next w s n e (InNear v r ts zero ∷ K) h = refl
begin_many_next w s n e (InNear v r ts (suc m) ∷ K) h = absurd h
begin_many_next w s n e (f ∷ K) h = refl

pub begin_call_next : (w : List ℕ) (s : Span) (is : List Need) (e : List (List ℕ)) (K : List Frame) → TakesCall K → begin_call w s is e K ≡ go (next w s none is lasts.Item e K)
begin_call_next w s is e [] h = refl
begin_call_next w s is e (InNear v r ts zero ∷ K) h = refl
begin_call_next w s is e (InNear v r ts (suc n) ∷ K) h = absurd h
begin_call_next w s is e (f ∷ K) h = refl

-- after its first literal a bracket is read as a list, where the rest of a list follows
list_after : {e : List (List ℕ)} {b c : List Tok} {ts : Nodes} → Reads Literals e b c ts → (s : Span) (t : Node) (K : List Frame) → run (st (Have Literal t) e (InBracket s ∷ K)) b ≡ run (st Listing e (InList s (one t) ∷ K)) b
list_after literal_end s t K = refl
list_after (literal_number d) s t K = refl
list_after (literal_text d) s t K = refl
list_after (literal_constant d) s t K = refl
list_after (literal_list d f) s t K = refl

-- an expression or an item that is complete is handed to its frame
ended : (l : ℕ) (t : Node) (e : List (List ℕ)) (K : List Frame) (a c : List Tok) (f : Frame) → l ≤ top → ((m : ℕ) → closes m f ≡ false) → Breaking c → Comes l e (f ∷ K) (f ∷ K) t a c → (x : Shape) × (run (st Begin e (f ∷ K)) a ≡ run (accept x t e (f ∷ K)) c)
ended l t e K a c f low h b m = (m.shape, m.runs ∙ break m.held m.shape m.tree t m.rest (f ∷ K) e c b (sym (settle_more l top low m.held m.tree m.rest) ∙ ap (settle_got top) m.settles ∙ settle_more l top low m.shape t (f ∷ K) ∙ settle_stop top m.shape t f K (h top)))

-- Items in parentheses.

pub grow_paren : (l : Label) (s : Span) (ts : Nodes) (p : Span) (e : List (List ℕ)) (K : List Frame) (tok : Tok) → feed_paren Growing (node l s ts) p e K tok ≡ feed_begin e (InItems p l s ts ∷ K) tok
grow_paren l s ts p e K (close_paren r) = refl
grow_paren l s ts p e K tok = refl

run_items : (l : Label) (s : Span) (ts : Nodes) (p : Span) (e : List (List ℕ)) (K : List Frame) (b : List Tok) → Breaking b → run (st (Shut Growing (node l s ts)) e (InParen p ∷ K)) b ≡ run (st Begin e (InItems p l s ts ∷ K)) b
run_items l s ts p e K [] h = absurd h
run_items l s ts p e K (tok ∷ b) h = ap (λ x. run_from x b) (grow_paren l s ts p e K tok)

many_step : (n : ℕ) (w : List ℕ) (s : Span) (had : Nodes) (p : Span) (K : List Frame) (q : Span) (d : List Tok) (e : List (List ℕ)) (a b c : List Tok) (t : Node) (us : Nodes) → Breaking b → c ≡ close_paren q ∷ d → ((K : List Frame) → Stays zero K → Comes zero e K K t a b) → Completes AnyItems e b c us → run (st Begin e (InMany w s had n ∷ InParen p ∷ K)) a ≡ run (closed Fixed (node label.Paren p (one (node (label.Named w) s (join had (more t us))))) e K) d
many_step (suc n) w s had p K q d e a b c t us h eq f g =
    (ended zero t e (InParen p ∷ K) a b (InMany w s had (suc n)) (omega arith) (λ l. refl) h (f (InMany w s had (suc n) ∷ InParen p ∷ K) tt)).1
    ∙ g.1 w s (and_last had t) n p K q d eq
    ∙ ap (λ ts. run (closed Fixed (node label.Paren p (one (node (label.Named w) s ts))) e K) d) (join_last had t us)
many_step zero w s had p K q d e a b c t us h eq f g =
    let m : Comes zero e (InMany w s had zero ∷ InParen p ∷ K) (InMany w s had zero ∷ InParen p ∷ K) t a b = f (InMany w s had zero ∷ InParen p ∷ K) tt in
    m.runs
    ∙ break m.held Growing m.tree (node (label.Named w) s (and_last had t)) m.rest (InParen p ∷ K) e b h (sym (settle_more zero top (omega arith) m.held m.tree m.rest) ∙ ap (settle_got top) m.settles)
    ∙ run_items (label.Named w) s (and_last had t) p e K b h
    ∙ g.0 p (label.Named w) s (and_last had t) K (subst Breaking (sym eq) refl)
    ∙ ap (run (st Begin e (InItems p (label.Named w) s (join (and_last had t) us) ∷ K))) eq
    ∙ ap (λ ts. run (closed Fixed (node label.Paren p (one (node (label.Named w) s ts))) e K) d) (join_last had t us)

-- Blocks that may be missing.

there : {e : List (List ℕ)} {a c : List Tok} {ts : Nodes} → Reads (Arg (Within blocks.Commands)) e a c ts → (w : List ℕ) (s : Span) (had : Nodes) (is : List Need) (last : Last) (K : List Frame) → run (st Optional e (InCall w s had Maybe is last ∷ K)) a ≡ run (st (Opening blocks.Commands) e (InCall w s had Maybe is last ∷ K)) a
there (arg_commands d) w s had is last K = refl

plain_end : (t : Node) (e : List (List ℕ)) (K : List Frame) (tok : Tok) → feed_plain (end_statement t e K) tok ≡ feed (end_statement t e K) tok
plain_end t e [] tok = refl
plain_end t e (InStatements s k before ts ∷ K) tok = refl
plain_end t e (InStatementParen s ∷ K) tok = refl
plain_end t e (f ∷ K) tok = refl

pub missing_at : (w : List ℕ) (s : Span) (had : Nodes) (is : List Need) (last : Last) (e : List (List ℕ)) (K : List Frame) (tok : Tok) → opens (tok ∷ []) ≡ false → feed_plain (next w s had (without_maybes is) last e K) tok ≡ feed (next w s had is last e K) tok
missing_at w s had (Item ∷ is) last e K tok h = refl
missing_at w s had (Whole ∷ is) last e K tok h = refl
missing_at w s had (Within b ∷ is) last e K tok h = refl
missing_at w s had (Variable ∷ is) last e K tok h = refl
missing_at w s had (Maybe ∷ is) last e K (open_bracket r) h = cc
missing_at w s had (Maybe ∷ is) last e K tok h = refl
missing_at w s had [] lasts.Item e K tok h = refl
missing_at w s had [] (lasts.Block b) e K tok h = refl
missing_at w s had [] lasts.Nothing e K tok h = plain_end (node (label.Named w) s had) e K tok

pub missing : (w : List ℕ) (s : Span) (had : Nodes) (is : List Need) (last : Last) (e : List (List ℕ)) (K : List Frame) (a : List Tok) → Breaking a → IsTrue (not (opens a)) → run (st Optional e (InCall w s had Maybe is last ∷ K)) a ≡ run (next w s had is last e K) a
missing w s had is last e K [] b h = absurd b
missing w s had is last e K (open_bracket r ∷ a) b h = cc
missing w s had is last e K (tok ∷ a) b h = ap (λ x. run_from x a) (missing_at w s had is last e K tok refl)

-- Heads of arrow blocks. Where there is none, the content begins right behind the bracket; the arrow begins it behind any other.

states_head : (n : ℕ) (s : Span) (K : List Frame) {e : List (List ℕ)} {c d : List Tok} {us : Nodes} → Reads (Statements AtBracket) e c d us → run (st (Heading contents.Commands n s) e K) c ≡ run (st Stating e (InArrowCommands s e [] none ∷ K)) c
states_head n s K {c = []} r = absurd (heads r)
states_head n s K {c = tok ∷ c} r = ap (λ x. run_from x c) (states_content n s K r)

enters_content : (n : ℕ) (s : Span) (K : List Frame) {e : List (List ℕ)} {c : List Tok} → Starts e c → Enters n s e [] e K c c
enters_content n s K {c = []} h = absurd h
enters_content n s K {e = e} {c = tok ∷ c} h = record {
  frame = InNoHead s n;
  runs = ap (λ x. run_from x c) (begins_content n s e K tok c h);
  stays = (refl, refl);
  waits = λ m. refl;
  shuts = λ x t r d. ap (λ y. run_from y d) (shut_no_head t s e K r);
}

behind_head : (n : ℕ) (s : Span) (e ns f : List (List ℕ)) (K : List Frame) (a c : List Tok) → run (st (Heading contents.Reporter n s) e K) a ≡ run (st Begin f (InArrowReporter s e ns ∷ K)) c → Enters n s e ns f K a c
behind_head n s e ns f K a c q = record { frame = InArrowReporter s e ns; runs = q; stays = (refl, refl); waits = λ m. refl; shuts = λ x t r d. refl }

-- Statements.

pub stating : (e : List (List ℕ)) (K : List Frame) (tok : Tok) → TakesStatement K → begins_statement tok ≡ true → feed_stating e K tok ≡ feed_statement e K tok
stating e [] tok h b = absurd h
stating e (InStatements s k before ts ∷ K) tok h b = rw (b, feed_stating) refl
stating e (InStatementParen s ∷ K) tok h b = refl
stating e (InArrowCommands s before ns ts ∷ K) tok h b = rw (b, feed_stating) refl
stating e (f ∷ K) tok h b = absurd h

pub no_maybe : {e : List (List ℕ)} {a c : List Tok} {ts : Nodes} → Reads (Arg Maybe) e a c ts → ⊥
no_maybe d = elim d [ ]

pub completes : {p : Part} {e : List (List ℕ)} {a c : List Tok} {ts : Nodes} → Reads p e a c ts → Completes p e a c ts
completes closed_number = λ K h. (Literal, refl)
completes closed_text = λ K h. (Literal, refl)
completes closed_constant = λ K h. (Literal, refl)
completes closed_plain = λ K h. (Fixed, refl)
completes closed_variable = λ K h. (Fixed, refl)
completes {e} {c} (closed_local {w = w} {s = s} m) = λ K h. (Fixed, ap (λ x. run_from (feed_local x w s e K) c) m)
completes {e} {c} (closed_list {s = s} {b = b} {ts = ts} d) = λ K h. (Literal, at (completes d) K h)
  where
    at : Completes Literals e b c ts → (K : List Frame) → NoList K → run_from (begin_bracket s e K) b ≡ run (closed Literal (node label.List s ts) e K) c
    at m [] h = m.1 s [] h
    at m (InNear w r us n ∷ K) h = m.0 s none (InNear w r us n ∷ K)
    at m (f ∷ K) h = m.1 s (f ∷ K) h
completes (closed_block {w = w} {k = k} {s = s} {ts = ts} d f) = λ K h. (Fixed, completes d w s none (lasts.Block k) K (heads f) ∙ completes f (InLastBlock w s ts k ∷ K))
completes {e} (paren {s = s} {t = t} d) = λ K h. (Fixed, (ended top t e K _ _ (InParen s) (omega arith) (λ m. refl) refl (completes d (InParen s ∷ K) (omega arith) (refl, refl))).1)
completes (paren_many {w = w} {n = n} {s = s} {r = r} {q = q} {c = c} d) = λ K h. (Fixed, (completes d).1 w r none n s K q c refl)
completes {e} (paren_minus {s = s} {r = r} {t = t} d) = λ K h. (Fixed, (ended zero t e K _ _ (InMinus s r) (omega arith) (λ m. refl) refl (completes d (InMinus s r ∷ K) (omega arith) tt)).1)
completes {e} {a} {c} (chain_closed {t = t} d) = λ K h. let m : (x : Shape) × (run (st Begin e K) a ≡ run (closed x t e K) c) = completes d K (stays_no_list K h) in (m.0, m.1 ∙ ap (λ s. run s c) (closed_have m.0 t e K h))
completes (chain_with {w = w} {s = s} {t = t} d f) = λ K h. (Fixed, (completes d K h).1 ∙ completes f (InWith w s t ∷ K))
completes (chain_near {w = w} {s = s} {t = t} d f) = λ K h. (Fixed, (completes d K h).1 ∙ completes f w s (one t) K)
completes (one_side d) = λ w s had K. (completes d (InNear w s had zero ∷ K) tt).1
completes {e} {c} (more_sides {n = n} {t = t} {us = us} d f) = λ w s had K. (completes d (InNear w s had (suc n) ∷ K) tt).1 ∙ completes f w s (and_last had t) K ∙ ap (λ ts. run (st (Have Fixed (node (label.Named w) s ts)) e K) c) (join_last had t us)
completes {e} {c} (call_prefix {w = w} {is = is} {s = s} {a = a} {ts = ts} {t = t} d f) = λ K h.
    let m : Comes zero e (InLastItem w s ts ∷ K) (InLastItem w s ts ∷ K) t _ c = completes f (InLastItem w s ts ∷ K) (omega arith) tt in
    record { held = m.held; tree = m.tree; rest = m.rest; shape = Fixed; runs = ap (λ x. run_from x a) (begin_call_next w s is e K h) ∙ completes d w s none lasts.Item K (heads f) ∙ m.runs; settles = m.settles }
completes {e} {c} (call_many {w = w} {n = n} {s = s} {a = a} {ts = ts} d) = λ K h.
    let m : Comes zero e (InMany w s none n ∷ K) K (node (label.Named w) s ts) a c = completes d w s none K in
    record { held = m.held; tree = m.tree; rest = m.rest; shape = m.shape; runs = ap (λ x. run_from x a) (begin_many_next w s n e K h) ∙ m.runs; settles = m.settles }
completes {e} {a} {c} (one_item {t = t} d) = λ w s had K.
    let m : Comes zero e (InMany w s had zero ∷ K) (InMany w s had zero ∷ K) t a c = completes d (InMany w s had zero ∷ K) (omega arith) tt in
    record { held = m.held; tree = m.tree; rest = m.rest; shape = Growing; runs = m.runs; settles = m.settles }
completes {e} {a} {c} (more_items {n = n} {b = b} {t = t} {us = us} d f) = λ w s had K.
    let m : Comes zero e (InMany w s (and_last had t) n ∷ K) K (node (label.Named w) s (join (and_last had t) us)) b c = completes f w s (and_last had t) K in
    record { held = m.held; tree = m.tree; rest = m.rest; shape = m.shape; runs = (ended zero t e K a b (InMany w s had (suc n)) (omega arith) (λ l. refl) (heads f) (completes d (InMany w s had (suc n) ∷ K) (omega arith) tt)).1 ∙ m.runs; settles = m.settles ∙ ap (λ ts. settle zero m.shape (node (label.Named w) s ts) K) (join_last had t us) }
completes {e} {c} no_item = (
  λ p l s had K b. ap (λ ts. run (st Begin e (InItems p l s ts ∷ K)) c) (sym (join_none had)),
  λ w s had n p K q d eq. ap (λ x. run (st Begin e (InMany w s had n ∷ InParen p ∷ K)) x) eq ∙ ap (λ ts. run (closed Fixed (node label.Paren p (one (node (label.Named w) s ts))) e K) d) (sym (join_none had)),
)
completes {e} {a} {c} (any_item {b = b} {t = t} {us = us} d f) = (
  λ p l s had K h. (ended zero t e K a b (InItems p l s had) (omega arith) (λ m. refl) (heads f h) (completes d (InItems p l s had ∷ K) (omega arith) tt)).1 ∙ (completes f).0 p l s (and_last had t) K h ∙ ap (λ ts. run (st Begin e (InItems p l s ts ∷ K)) c) (join_last had t us),
  λ w s had n p K q z eq. many_step n w s had p K q z e a b c t us (heads f (subst Breaking (sym eq) refl)) eq (λ K h. completes d K (omega arith) h) (completes f),
)
completes {e} {a} {c} (last_call {t = t} d) = λ w s had K.
    let m : Comes zero e (InNear w s had zero ∷ K) (InNear w s had zero ∷ K) t a c = completes d (InNear w s had zero ∷ K) tt in
    record { held = m.held; tree = m.tree; rest = m.rest; shape = Fixed; runs = m.runs; settles = m.settles }
completes {e} {a} {c} (more_last {n = n} {b = b} {t = t} {us = us} d f) = λ w s had K.
    let m : Comes zero e (InNear w s (and_last had t) n ∷ K) K (node (label.Named w) s (join (and_last had t) us)) b c = completes f w s (and_last had t) K in
    record { held = m.held; tree = m.tree; rest = m.rest; shape = m.shape; runs = (completes d (InNear w s had (suc n) ∷ K) tt).1 ∙ m.runs; settles = m.settles ∙ ap (λ ts. settle zero m.shape (node (label.Named w) s ts) K) (join_last had t us) }
completes {e} {a} {c} (item_chain {t = t} d) = λ K low h. let m : (x : Shape) × (run (st Begin e K) a ≡ run (st (Have x t) e K) c) = completes d K h in record { held = m.0; tree = t; rest = K; shape = m.0; runs = m.1; settles = refl }
completes (item_call d) = λ K low h. completes d K (stays_takes_call K h)
completes {e} {a} {c} (item_near {w = w} {n = n} {s = s} {b = b} {t = t} {us = us} d f) = λ K low h.
    let m : Comes zero e (InNear w s (one t) n ∷ K) K (node (label.Named w) s (more t us)) b c = completes f w s (one t) K in
    record { held = m.held; tree = m.tree; rest = m.rest; shape = m.shape; runs = (completes d K h).1 ∙ m.runs; settles = m.settles }
completes {e} {c} (item_of {w = w} {s = r} {b = b} {u = u} (arg_reporter {s = s} {r = q} {b = a} {t = t} d) f) = λ K low h.
    let m : Comes zero e (InOf w r (node label.Reporter s (one t)) ∷ K) (InOf w r (node label.Reporter s (one t)) ∷ K) u b c = completes f (InOf w r (node label.Reporter s (one t)) ∷ K) low tt in
    let g : (x : Shape) × (run (st Begin e (InBracket s ∷ K)) a ≡ run (accept x t e (InBracket s ∷ K)) (close_bracket q ∷ word w Of r ∷ b)) = ended top t e K a (close_bracket q ∷ word w Of r ∷ b) (InBracket s) (omega arith) (λ m. refl) refl (completes d (InBracket s ∷ K) (omega arith) (refl, refl)) in
    record { held = m.held; tree = m.tree; rest = m.rest; shape = Fixed; runs = ap (λ x. run_from x a) (begin_bracket_open s e K h) ∙ g.1 ∙ bracket_of g.0 t s e K q w r b h ∙ m.runs; settles = m.settles }
completes {e} {a} {c} (level_up {l = l} {t = t} d) = λ K low h. lift l (suc l) (omega arith) e K K t a c (completes d K (omega (arith, low)) (stays_down l K h))
completes {e} {a} {c} (level_binary {w = w} {l = l} {m = n} {s = s} {b = b} {t = t} {u = u} d f) = λ K low h.
    let m : Comes (suc l) e (InBinary (suc l) w s t ∷ K) K (node (label.Named w) s (two t u)) b c = right_side l w s e K t u b c (completes f (InBinary (suc l) w s t ∷ K) (omega (arith, low)) (stays_binary l w s t K)) in
    record { held = m.held; tree = m.tree; rest = m.rest; shape = m.shape; runs = operator l w n s e K t a b low h (completes d K low h) ∙ m.runs; settles = m.settles }
completes {e} {c} literal_end = (λ s ts K. ap (λ us. run (end_list (node label.List s us) e K) c) (sym (join_none ts)), λ s K h. refl)
completes {e} {c} (literal_number {n = n} {s = r} {ts = us} d) = (
  λ s ts K. (completes d).0 s (and_last ts (leaf (label.Number n) r)) K ∙ ap (λ us. run (end_list (node label.List s us) e K) c) (join_last ts (leaf (label.Number n) r) us),
  λ s K h. list_after d s (leaf (label.Number n) r) K ∙ (completes d).0 s (one (leaf (label.Number n) r)) K ∙ ap (λ z. run z c) (end_list_closed (node label.List s (more (leaf (label.Number n) r) us)) e K h),
)
completes {e} {c} (literal_text {bytes = n} {s = r} {ts = us} d) = (
  λ s ts K. (completes d).0 s (and_last ts (leaf (label.Text n) r)) K ∙ ap (λ us. run (end_list (node label.List s us) e K) c) (join_last ts (leaf (label.Text n) r) us),
  λ s K h. list_after d s (leaf (label.Text n) r) K ∙ (completes d).0 s (one (leaf (label.Text n) r)) K ∙ ap (λ z. run z c) (end_list_closed (node label.List s (more (leaf (label.Text n) r) us)) e K h),
)
completes {e} {c} (literal_constant {w = w} {s = r} {ts = us} d) = (
  λ s ts K. (completes d).0 s (and_last ts (leaf (label.Named w) r)) K ∙ ap (λ us. run (end_list (node label.List s us) e K) c) (join_last ts (leaf (label.Named w) r) us),
  λ s K h. list_after d s (leaf (label.Named w) r) K ∙ (completes d).0 s (one (leaf (label.Named w) r)) K ∙ ap (λ z. run z c) (end_list_closed (node label.List s (more (leaf (label.Named w) r) us)) e K h),
)
completes {e} (literal_list {s = r} {d = z} {ts = xs} {us = us} d f) = (
  λ s ts K. (completes d).0 r none (InList s ts ∷ K) ∙ (completes f).0 s (and_last ts (node label.List r xs)) K ∙ ap (λ us. run (end_list (node label.List s us) e K) z) (join_last ts (node label.List r xs) us),
  λ s K h. (completes d).1 r (InBracket s ∷ K) tt ∙ list_after f s (node label.List r xs) K ∙ (completes f).0 s (one (node label.List r xs)) K ∙ ap (λ y. run y z) (end_list_closed (node label.List s (more (node label.List r xs) us)) e K h),
)
completes {e} {a} {c} (arg_item {t = t} d) = λ w s ts is last K b. (ended zero t e K a c (InCall w s ts Item is last) (omega arith) (λ m. refl) b (completes d (InCall w s ts Item is last ∷ K) (omega arith) tt)).1
completes {e} {a} {c} (arg_whole {t = t} d) = λ w s ts is last K b. (ended top t e K a c (InCall w s ts Whole is last) (omega arith) (λ m. refl) b (completes d (InCall w s ts Whole is last ∷ K) (omega arith) (refl, refl))).1
completes {e} (arg_commands {s = s} d) = λ K. (completes d).0 s e none K
completes {e} (arg_reporter {s = s} {t = t} d) = λ K. (ended top t e K _ _ (InReporter s) (omega arith) (λ m. refl) refl (completes d (InReporter s ∷ K) (omega arith) (refl, refl))).1
completes {e} (arg_arrow_commands {ns = ns} {s = s} d f) = λ K. (completes d).0 s K _ _ f ∙ (completes f).1 s e ns none K
completes {e} (arg_arrow_reporter {f = f} {ns = ns} {n = n} {s = s} {r = r} {b = b} {c = c} {d = d} {t = t} g h) = λ K.
    let m : Enters n s e ns f K b c = (completes g).1 s K (starts h) in
    let u : (x : Shape) × (run (st Begin f (m.frame ∷ K)) c ≡ run (accept x t f (m.frame ∷ K)) (close_bracket r ∷ d)) = ended top t f K c (close_bracket r ∷ d) m.frame (omega arith) m.waits refl (completes h (m.frame ∷ K) (omega arith) m.stays) in
    m.runs ∙ u.1 ∙ m.shuts u.0 t r d
completes arg_variable = λ K. refl
completes {e} {c} (arg_local {w = w} {s = s} m) = λ K. ap (λ x. run_from (feed_variable x w s e K) c) m
completes {e} {c} no_arg = λ w s ts last K b. ap (λ us. run (next w s us [] last e K) c) (sym (join_none ts))
completes {e} {c} (arg {i = Item} {is = is} {t = t} {ts = us} d f) = λ w s ts last K b. completes d w s ts is last K (heads f b) ∙ completes f w s (and_last ts t) last K b ∙ ap (λ us. run (next w s us [] last e K) c) (join_last ts t us)
completes {e} {c} (arg {i = Whole} {is = is} {t = t} {ts = us} d f) = λ w s ts last K b. completes d w s ts is last K (heads f b) ∙ completes f w s (and_last ts t) last K b ∙ ap (λ us. run (next w s us [] last e K) c) (join_last ts t us)
completes {e} {c} (arg {i = Within k} {is = is} {t = t} {ts = us} d f) = λ w s ts last K b. completes d (InCall w s ts (Within k) is last ∷ K) ∙ completes f w s (and_last ts t) last K b ∙ ap (λ us. run (next w s us [] last e K) c) (join_last ts t us)
completes {e} {c} (arg {i = Variable} {is = is} {t = t} {ts = us} d f) = λ w s ts last K b. completes d (InCall w s ts Variable is last ∷ K) ∙ completes f w s (and_last ts t) last K b ∙ ap (λ us. run (next w s us [] last e K) c) (join_last ts t us)
completes (arg {i = Maybe} d f) = λ w s ts last K b. absurd (no_maybe d)
completes (no_head {n = n}) = (λ s K d us r. states_head n s K r, λ s K h. enters_content n s K h)
completes {e} (head_arrow {n = n}) = (λ s K d us r. refl, λ s K h. behind_head n s e [] e K _ _ refl)
completes {e} (head_name {n = n} {w = w} {v = v} {s = q} {r = r} {c = c} m) = (
  λ s K d us z. ap (λ x. run_from x (word v Arrow r ∷ c)) (lone_name contents.Commands n s w q e K m),
  λ s K h. behind_head (suc n) s e (w ∷ []) (w ∷ e) K _ c (ap (λ x. run_from x (word v Arrow r ∷ c)) (lone_name contents.Reporter n s w q e K m)),
)
completes {e} (head_names {f = f} {ns = ns} {n = n} {v = v} {s = q} {r = r} {c = c} d) = (
  λ s K z us y. (completes d).0 contents.Commands s e [] K,
  λ s K h. behind_head n s e ns f K _ c ((completes d).1 q s v r K c refl),
)
completes {e} {c} (names_end {n = n}) = (
  λ k s before had K. ap (λ ns. run (st (Behind k s before ns) e K) c) (sym (append-nil had)),
  λ q s v r K d eq. ap (λ x. run (st (Have Literal (node label.List q none)) e (InNoHead s n ∷ K)) x) eq,
)
completes {e} {c} (next_name {f = f} {ns = ns} {n = n} {w = w} {s = r} {b = b} m d) = (
  λ k s before had K. ap (λ x. run_from x b) (next_one k n s before had w r e K m) ∙ (completes d).0 k s before (had ++ w ∷ []) K ∙ ap (λ us. run (st (Behind k s before us) f K) c) (append_assoc had (w ∷ []) ns),
  λ q s v p K z eq. ap (λ x. run_from x b) (first_name n s q w r e K m) ∙ (completes d).0 contents.Reporter s e (w ∷ []) K ∙ ap (run (st (Behind contents.Reporter s e (w ∷ ns)) f K)) eq,
)
completes {e} {c} (maybe_there {is = is} {t = t} {ts = us} d f) = λ w s ts last K b. there d w s ts is last K ∙ completes d (InCall w s ts Maybe is last ∷ K) ∙ completes f w s (and_last ts t) last K b ∙ ap (λ us. run (next w s us [] last e K) c) (join_last ts t us)
completes {e} {a} (maybe_missing {is = is} m d) = λ w s ts last K b. missing w s ts is last e K a (heads d b) m ∙ completes d w s ts last K b
completes {e} (command {w = w} {is = is} {s = s} {b = b} d) = λ K h m. ap (λ x. run_from x b) (stating e K (word w (Command is) s) h refl) ∙ completes d w s none lasts.Nothing K m
completes {e} {c} (make {w = w} {n = n} {s = s} {r = r} {b = b} {t = t} q d) = λ K h m. ap (λ x. run_from x (word n Unknown r ∷ b)) (stating e K (word w Let s) h refl) ∙ ap (λ x. run_from (feed_fresh x w s n r e K) b) q ∙ (ended top t e K b c (InLet w s n r) (omega arith) (λ l. refl) m (completes d (InLet w s n r ∷ K) (omega arith) (refl, refl))).1
completes {e} (statement_paren {s = s} {b = b} d) = λ K h m. ap (λ x. run_from x b) (stating e K (open_paren s) h refl) ∙ completes d (InStatementParen s ∷ K) tt refl
completes {c} at_bracket = (
  λ s before ts K. ap (λ us. run (supply (node label.Commands s us) before K) c) (sym (join_none ts)),
  λ s before ns ts K. ap (λ us. run (supply (node (label.Arrow ns) s (one (node label.Commands s us))) before K) c) (sym (join_none ts)),
)
completes at_end = λ s before ts K. ap (λ us. run (st (Over (node label.Commands s us)) before K) []) (sym (join_none ts))
completes (statements {k = AtBracket} {c = c} {t = t} {ts = us} d f) = (
  λ s before ts K. completes d (InStatements s AtBracket before ts ∷ K) tt (heads f) ∙ (completes f).0 s before (and_last ts t) K ∙ ap (λ us. run (supply (node label.Commands s us) before K) c) (join_last ts t us),
  λ s before ns ts K. completes d (InArrowCommands s before ns ts ∷ K) tt (heads f) ∙ (completes f).1 s before ns (and_last ts t) K ∙ ap (λ us. run (supply (node (label.Arrow ns) s (one (node label.Commands s us))) before K) c) (join_last ts t us),
)
completes (statements {k = AtEnd} {c = c} {t = t} {ts = us} d f) = λ s before ts K. completes d (InStatements s AtEnd before ts ∷ K) tt (heads f) ∙ completes f s before (and_last ts t) K ∙ ap (λ us. run (st (Over (node label.Commands s us)) before K) c) (join_last ts t us)
