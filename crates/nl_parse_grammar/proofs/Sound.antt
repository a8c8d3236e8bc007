-- What the machine takes is a reading of the grammar.
use Rattle.std.proofs.Common.{◌≡◌, ℕ, zero, suc, Bool, true, false, not, List, [], ◌∷◌, ◌++◌, refl, sym, ap, subst, append_assoc, append-nil, IsTrue, nat_lt, nat_le, ◌≤◌, arith}
use Rattle.std.proofs.lemmas.Bool.{leb-true, leb-false, ltb-true}
use Rattle.nl_fixed.specs.declared.span.Span.{Span}
use Rattle.nl_tree.specs.declared.tree.Label.TheVariants as label
use Rattle.nl_tree.specs.declared.declared.Form.{Form}
use Rattle.nl_tree.specs.declared.declared.Form.TheVariants as form
use Rattle.nl_tree.specs.Tree.{Node, node, Nodes, none, more}
use Rattle.nl_tree.specs.Vocabulary.{among}
use Rattle.nl_tree.specs.Tokens.{Class, Unknown, Constant, Plain, Named, Prefix, Many, Closing, Command, Let, With, Near, Of, Binary, Arrow, Tok, number, text, word, open_bracket, close_bracket, open_paren, close_paren, end}
use Rattle.nl_tree.specs.declared.needs.Block.{Block}
use Rattle.nl_tree.specs.declared.needs.Block.TheVariants as blocks
use Rattle.nl_tree.specs.declared.needs.Content.{Content}
use Rattle.nl_tree.specs.declared.needs.Content.TheVariants as contents
use Rattle.nl_tree.specs.declared.needs.Need.{Need}
use Rattle.nl_tree.specs.declared.needs.Need.TheVariants.{Item, Whole, Within, Maybe, Variable}
use Rattle.nl_tree.specs.Grammar.{one, two, leaf, join, and_last, opens, top, Part, Closed, Chain, Sides, LastCall, Items, AnyItems, Level, Literals, Arg, Args, Head, HeadNames, Statement, Statements, Reads, closed_number, closed_text, closed_constant, closed_plain, closed_variable, closed_local, closed_list, closed_block, paren, paren_many, paren_minus, chain_closed, chain_with, chain_near, one_side, more_sides, call_prefix, call_many, one_item, more_items, no_item, any_item, last_call, more_last, item_chain, item_call, item_near, item_of, level_up, level_binary, literal_end, literal_number, literal_text, literal_constant, literal_list, arg_item, arg_whole, arg_commands, arg_reporter, arg_arrow_commands, arg_arrow_reporter, arg_variable, arg_local, no_arg, arg, no_head, head_arrow, head_name, head_names, names_end, next_name, maybe_there, maybe_missing, command, make, statement_paren, at_bracket, at_end, statements, span_of_first, IsText}
use Rattle.nl_tree.specs.declared.needs.Ending.{Ending}
use Rattle.nl_tree.specs.declared.needs.Ending.TheVariants.{AtBracket, AtEnd}
use Rattle.nl_parse_grammar.specs.Machine.{Frame, InBinary, InWith, InNear, InOf, InCall, InLastItem, InLastBlock, InMany, InItems, InParen, InMinus, InReporter, InNoHead, InArrowReporter, InArrowCommands, InBracket, InList, InLet, InStatementParen, InStatements, Begin, Opening, Heading, InHead, Behind, Optional, Choosing, Have, Blocked, Shut, Listing, Stating, Naming, Ended, Over, Dead, State, st, Step, go, stop, Got, got, end_statement, next, closed, supply, accept, closes, settle, takes_operator, begin_content, feed_head_name, feed_lone_name, feed_local, begin_call, begin_many, begin_minus, begin_bracket, end_bracket, end_many, feed_begin, feed_opening, feed_variable, feed_choosing, feed_blocked, feed_items, feed_listing, feed_bracket, feed_paren, feed_minus, feed_reporter, feed_whole, feed_no_head, feed_arrow_reporter, feed_shut, feed_ending, feed_arrow_ending, feed_statement, feed_stating, feed_fresh, feed_naming, feed_ended, feed_heading_commands, feed_first, feed_heading_reporter, feed_heading, feed_in_head, feed_behind, feed_plain, without_maybes, feed_optional, feed_ready, feed_broken, feed_operator, got_takes, feed_binary, feed_of, feed_have, feed, run_from}
use Rattle.nl_parse_grammar.specs.declared.pending.Last.{Last}
use Rattle.nl_parse_grammar.specs.declared.pending.Last.TheVariants as lasts
use Rattle.nl_parse_grammar.specs.declared.pending.Shape.{Shape}
use Rattle.nl_parse_grammar.specs.declared.pending.Shape.TheVariants.{Literal, Growing, Fixed}
use Rattle.nl_parse_grammar.proofs.Complete.{Stays, settle_on, settle_stop, join_none, join_last}

-- What may be read on top of a stack.

-- an expression
abbrev pub Expr : List Frame → Type 0
Expr [] = Unit {0}
Expr (InBinary l w s t ∷ K) = Unit {0}
Expr (InOf w s b ∷ K) = Unit {0}
Expr (InCall w s ts Item is last ∷ K) = Unit {0}
Expr (InCall w s ts Whole is last ∷ K) = Unit {0}
Expr (InLastItem w s ts ∷ K) = Unit {0}
Expr (InMany w s ts n ∷ K) = Unit {0}
Expr (InItems p l s ts ∷ K) = Unit {0}
Expr (InParen s ∷ K) = Unit {0}
Expr (InMinus p s ∷ K) = Unit {0}
Expr (InReporter s ∷ K) = Unit {0}
Expr (InNoHead s n ∷ K) = Unit {0}
Expr (InArrowReporter s before ns ∷ K) = Unit {0}
Expr (InBracket s ∷ K) = Unit {0}
Expr (InLet w s n r ∷ K) = Unit {0}
Expr K = ⊥

-- an expression or a right side
abbrev pub Begins : List Frame → Type 0
Begins (InNear w s ts n ∷ K) = Unit {0}
Begins K = Expr K

-- or the beginning of a call with inputs
abbrev pub Callable : List Frame → Type 0
Callable (InNear w s ts zero ∷ K) = Unit {0}
Callable K = Expr K

-- a block
abbrev pub BlockTop : Block → List Frame → Type 0
BlockTop b (InCall w s ts (Within k) is last ∷ K) = b ≡ k
BlockTop b (InCall w s ts Maybe is last ∷ K) = b ≡ blocks.Commands
BlockTop b (InLastBlock w s ts k ∷ K) = b ≡ k
BlockTop b (InWith w s t ∷ K) = b ≡ blocks.Reporter
BlockTop b K = ⊥

-- a block that may be missing
abbrev pub MaybeTop : List Frame → Type 0
MaybeTop (InCall w s ts Maybe is last ∷ K) = Unit {0}
MaybeTop K = ⊥

-- the name of a variable
abbrev pub VariableTop : List Frame → Type 0
VariableTop (InCall w s ts Variable is last ∷ K) = Unit {0}
VariableTop K = ⊥

-- the token that closes an expression
abbrev pub ShutTop : List Frame → Type 0
ShutTop [] = Unit {0}
ShutTop (InParen s ∷ K) = Unit {0}
ShutTop (InMinus p s ∷ K) = Unit {0}
ShutTop (InReporter s ∷ K) = Unit {0}
ShutTop (InNoHead s n ∷ K) = Unit {0}
ShutTop (InArrowReporter s before ns ∷ K) = Unit {0}
ShutTop (InBracket s ∷ K) = Unit {0}
ShutTop K = ⊥

-- and how much it holds
abbrev pub shut_level : List Frame → ℕ
shut_level (InMinus p s ∷ K) = zero
shut_level K = top

-- an item of a literal list
abbrev pub ListTop : List Frame → Type 0
ListTop (InList s ts ∷ K) = Unit {0}
ListTop K = ⊥

-- a statement
abbrev pub StatementTop : List Frame → Type 0
StatementTop (InStatements s k before ts ∷ K) = Unit {0}
StatementTop (InArrowCommands s before ns ts ∷ K) = Unit {0}
StatementTop (InStatementParen s ∷ K) = Unit {0}
StatementTop K = ⊥

-- the parenthesis that closes a statement
abbrev pub EndedTop : List Frame → Type 0
EndedTop (InStatementParen s ∷ K) = Unit {0}
EndedTop K = ⊥

-- a literal list
abbrev pub ListUnder : List Frame → Type 0
ListUnder (InList s ts ∷ K) = Unit {0}
ListUnder K = Begins K

abbrev pub class_with : Last → List Need → Class
class_with lasts.Item is = Prefix is
class_with (lasts.Block b) is = Closing is b
class_with lasts.Nothing is = Command is

abbrev pub Under : Last → List Frame → Type 0
Under lasts.Item K = Callable K
Under (lasts.Block b) K = Begins K
Under lasts.Nothing K = StatementTop K

-- Whatever is read from `x` on completes what began at `y`, and has these trees before its own.
abbrev pub Extends : Part → List (List ℕ) → List Tok → Part → List (List ℕ) → List Tok → Nodes → Type 0
Extends p e x q f y ts = (d : List Tok) (us : Nodes) → Reads p e x d us → Reads q f y d (join ts us)

-- what the shape of a tree says of the tokens from `a` to `c` that it was made of
abbrev pub Fits : Shape → List (List ℕ) → List Tok → List Tok → Node → Type 0
Fits Literal e a c t = Extends Literals e c Literals e a (one t)
Fits Growing e a c (node l s ts) = (y : List Tok) × (w : List ℕ) × (n : ℕ) × (a ≡ word w (Many n) s ∷ y) × (l ≡ label.Named w) × Extends AnyItems e c AnyItems e y ts
Fits Fixed e a c t = Unit {0}

raise : (m j : ℕ) {e : List (List ℕ)} {a c : List Tok} {t : Node} → j ≤ m → Reads (Level j) e a c (one t) → Reads (Level m) e a c (one t)
raise zero j {e} {a} {c} {t} h d = subst (λ k. Reads (Level k) e a c (one t)) (omega (arith, h)) d
raise (suc m) j {e} {a} {c} {t} h d = at (nat_le j m) refl (λ k. raise m j k d)
  where
    at : (b : Bool) → nat_le j m ≡ b → (j ≤ m → Reads (Level m) e a c (one t)) → Reads (Level (suc m)) e a c (one t)
    at true q f = level_up (f (leb-true j m q))
    at false q f = subst (λ k. Reads (Level k) e a c (one t)) (omega (arith, h, leb-false j m q)) d

-- What is a list of one literal may be read as a block too.

literals_none : {e : List (List ℕ)} {b c : List Tok} → Reads Literals e b c none → (q : Span) × (b ≡ close_bracket q ∷ c)
literals_none (literal_end {s = s}) = (s, refl)

literals_closed : {e : List (List ℕ)} {b c : List Tok} {t : Node} → Reads Literals e b c (one t) → (q : Span) × Reads Closed e b (close_bracket q ∷ c) (one t)
literals_closed {e} {c = c} (literal_number {n = n} {s = s} d) = let (q, same) = literals_none d in (q, subst (λ b. Reads Closed e (number n s ∷ b) (close_bracket q ∷ c) (one (leaf (label.Number n) s))) (sym same) closed_number)
literals_closed {e} {c = c} (literal_text {bytes = n} {s = s} d) = let (q, same) = literals_none d in (q, subst (λ b. Reads Closed e (text n s ∷ b) (close_bracket q ∷ c) (one (leaf (label.Text n) s))) (sym same) closed_text)
literals_closed {e} {c = c} (literal_constant {w = w} {s = s} d) = let (q, same) = literals_none d in (q, subst (λ b. Reads Closed e (word w Constant s ∷ b) (close_bracket q ∷ c) (one (leaf (label.Named w) s))) (sym same) closed_constant)
literals_closed {e} {c = c} (literal_list {b = b} {ts = ts} d f) = let (q, same) = literals_none f in (q, closed_list (subst (λ x. Reads Literals e b x ts) same d))

block_of : {e : List (List ℕ)} {a c : List Tok} {s : Span} {t : Node} → Reads Chain e a c (one (node label.List s (one t))) → Reads (Arg (Within blocks.Reporter)) e a c (one (node label.Reporter s (one t)))
block_of (chain_closed d) = inside d
  where
    inside : {e : List (List ℕ)} {a c : List Tok} {s : Span} {t : Node} → Reads Closed e a c (one (node label.List s (one t))) → Reads (Arg (Within blocks.Reporter)) e a c (one (node label.Reporter s (one t)))
    inside (closed_list d) = let (q, f) = literals_closed d in arg_reporter (raise top zero (omega arith) (item_chain (chain_closed f)))

-- a literal list in which nothing is
list_none : {m : ℕ} {e : List (List ℕ)} {a c : List Tok} {r : Span} → Reads (Level m) e a c (one (node label.List r none)) → (q : Span) × (a ≡ open_bracket r ∷ close_bracket q ∷ c)
list_none (level_up d) = list_none d
list_none (item_call d) = elim d [ ]
list_none (item_chain d) = chain d
  where
    inside : {e : List (List ℕ)} {a c : List Tok} {r : Span} → Reads Closed e a c (one (node label.List r none)) → (q : Span) × (a ≡ open_bracket r ∷ close_bracket q ∷ c)
    inside (closed_list {s = s} d) = let (q, same) = literals_none d in (q, ap (λ b. open_bracket s ∷ b) same)

    chain : {e : List (List ℕ)} {a c : List Tok} {r : Span} → Reads Chain e a c (one (node label.List r none)) → (q : Span) × (a ≡ open_bracket r ∷ close_bracket q ∷ c)
    chain (chain_closed d) = inside d

abbrev IsList : Frame → Type 0
IsList (InList s ts) = Unit {0}
IsList f = ⊥

pub expr_under : (K : List Frame) → Expr K → ListUnder K
expr_under [] u = u
expr_under (InList s ts ∷ K) u = absurd u
expr_under (InNear w s ts n ∷ K) u = absurd u
expr_under (f ∷ K) u = u

pub expr_begins : (K : List Frame) → Expr K → Begins K
expr_begins [] u = u
expr_begins (InNear w s ts n ∷ K) u = absurd u
expr_begins (f ∷ K) u = u

module _ (kind : Form) (e0 : List (List ℕ)) (w : List Tok) where
  -- `K` holds what is begun in `w` and not complete at its rest `x`, where the names `e` are known.
  abbrev pub Opens : List (List ℕ) → List Frame → List Tok → Type 0
  Opens e [] x = (x ≡ w) × (e ≡ e0) × (kind ≡ form.Reporter)
  Opens e (InBinary zero v s t ∷ K) x = ⊥
  Opens e (InBinary (suc l) v s t ∷ K) x = (y : List Tok) × (m : Bool) × Reads (Level (suc l)) e y (word v (Binary l m) s ∷ x) (one t) × (suc l ≤ top) × Stays (suc l) K × Expr K × Opens e K y
  Opens e (InWith v s t ∷ K) x = (y : List Tok) × Reads Chain e y (word v With s ∷ x) (one t) × Expr K × Opens e K y
  Opens e (InNear v s ts n ∷ K) x = (y : List Tok) × ((d : List Tok) (us : Nodes) → Reads (Sides n) e x d us → Reads Chain e y d (one (node (label.Named v) s (join ts us)))) × ((d : List Tok) (us : Nodes) → Reads (LastCall n) e x d us → Reads (Level zero) e y d (one (node (label.Named v) s (join ts us)))) × Expr K × Opens e K y
  Opens e (InOf v s b ∷ K) x = (y : List Tok) × Reads (Arg (Within blocks.Reporter)) e y (word v Of s ∷ x) (one b) × Expr K × Opens e K y
  Opens e (InCall v s ts i is last ∷ K) x = (y : List Tok) × (js : List Need) × Extends (Args (i ∷ is)) e x (Args js) e y ts × Under last K × Opens e K (word v (class_with last js) s ∷ y)
  Opens e (InLastItem v s ts ∷ K) x = (y : List Tok) × (js : List Need) × Reads (Args js) e y x ts × Callable K × Opens e K (word v (Prefix js) s ∷ y)
  Opens e (InLastBlock v s ts k ∷ K) x = (y : List Tok) × (js : List Need) × Reads (Args js) e y x ts × Begins K × Opens e K (word v (Closing js k) s ∷ y)
  Opens e (InMany v s ts n ∷ K) x = (y : List Tok) × (m : ℕ) × Extends (Items n) e x (Items m) e y ts × Extends AnyItems e x AnyItems e y ts × Callable K × Opens e K (word v (Many m) s ∷ y)
  Opens e (InItems p l s ts ∷ K) x = (y : List Tok) × (v : List ℕ) × (m : ℕ) × (l ≡ label.Named v) × Extends AnyItems e x AnyItems e y ts × Begins K × Opens e K (open_paren p ∷ word v (Many m) s ∷ y)
  Opens e (InParen s ∷ K) x = Begins K × Opens e K (open_paren s ∷ x)
  Opens e (InMinus p s ∷ K) x = (v : List ℕ) × (l : ℕ) × Begins K × Opens e K (open_paren p ∷ word v (Binary l true) s ∷ x)
  Opens e (InReporter s ∷ K) x = BlockTop blocks.Reporter K × Opens e K (open_bracket s ∷ x)
  Opens e (InNoHead s n ∷ K) x = BlockTop (blocks.Arrow contents.Reporter n) K × Opens e K (open_bracket s ∷ x)
  Opens e (InArrowReporter s before ns ∷ K) x = (y : List Tok) × (n : ℕ) × Reads (Head n ns e) before y x none × BlockTop (blocks.Arrow contents.Reporter n) K × Opens before K (open_bracket s ∷ y)
  Opens e (InArrowCommands s before ns ts ∷ K) x = (y : List Tok) × (n : ℕ) × (z : List Tok) × (f : List (List ℕ)) × Reads (Head n ns f) before y z none × Extends (Statements AtBracket) e x (Statements AtBracket) f z ts × BlockTop (blocks.Arrow contents.Commands n) K × Opens before K (open_bracket s ∷ y)
  Opens e (InBracket s ∷ K) x = Expr K × Opens e K (open_bracket s ∷ x)
  Opens e (InList s ts ∷ K) x = (y : List Tok) × Extends Literals e x Literals e y ts × ListUnder K × Opens e K (open_bracket s ∷ y)
  Opens e (InLet v s n r ∷ K) x = StatementTop K × IsTrue (not (among n e)) × Opens e K (word v Let s ∷ word n Unknown r ∷ x)
  Opens e (InStatementParen s ∷ K) x = StatementTop K × Opens e K (open_paren s ∷ x)
  Opens e (InStatements s AtBracket before ts ∷ K) x = (y : List Tok) × Extends (Statements AtBracket) e x (Statements AtBracket) before y ts × BlockTop blocks.Commands K × Opens before K (open_bracket s ∷ y)
  Opens e (InStatements s AtEnd before ts ∷ []) x = Extends (Statements AtEnd) e x (Statements AtEnd) e0 w ts × (kind ≡ form.Commands) × (s ≡ span_of_first w)
  Opens e (InStatements s AtEnd before ts ∷ f ∷ K) x = ⊥

  -- The machine may be in this state at the rest `c` of `w`.
  abbrev pub Reached : State → List Tok → Type 0
  Reached (st Begin e K) c = Begins K × Opens e K c
  Reached (st (Opening b) e K) c = BlockTop b K × Opens e K c
  Reached (st (Heading k n s) e K) c = BlockTop (blocks.Arrow k n) K × Opens e K (open_bracket s ∷ c)
  Reached (st (InHead k m s before ns) e K) c = (y : List Tok) × (n : ℕ) × (r : Span) × ((d : List Tok) (ms f : List (List ℕ)) → Reads (HeadNames m ms f) e c d none → Reads (HeadNames n (ns ++ ms) f) before y d none) × BlockTop (blocks.Arrow k n) K × Opens before K (open_bracket s ∷ open_bracket r ∷ y)
  Reached (st (Behind k s before ns) e K) c = (y : List Tok) × (n : ℕ) × ((v : List ℕ) (r : Span) (d : List Tok) → c ≡ word v Arrow r ∷ d → Reads (Head n ns e) before y d none) × BlockTop (blocks.Arrow k n) K × Opens before K (open_bracket s ∷ y)
  Reached (st Optional e K) c = MaybeTop K × Opens e K c
  Reached (st Choosing e K) c = VariableTop K × Opens e K c
  Reached (st (Have x t) e K) c = (a : List Tok) × Reads Chain e a c (one t) × Fits x e a c t × Expr K × Opens e K a
  Reached (st (Blocked b) e K) c = (a : List Tok) × Reads (Arg (Within blocks.Reporter)) e a c (one b) × Expr K × Opens e K a
  Reached (st (Shut x t) e K) c = (a : List Tok) × Reads (Level (shut_level K)) e a c (one t) × Fits x e a c t × ShutTop K × Opens e K a
  Reached (st Listing e K) c = ListTop K × Opens e K c
  Reached (st Stating e K) c = StatementTop K × Opens e K c
  Reached (st (Naming v s) e K) c = StatementTop K × Opens e K (word v Let s ∷ c)
  Reached (st (Ended t) f K) c = (e : List (List ℕ)) × (a : List Tok) × Reads (Statement f) e a c (one t) × EndedTop K × Opens e K a
  Reached (st (Over t) e K) c = c ≡ [] → IsText kind e0 w t
  Reached (st Dead e K) c = ⊥

  abbrev pub ReachedStep : Step → List Tok → Type 0
  ReachedStep (go s) c = Reached s c
  ReachedStep stop c = Unit {0}

  pub reached_end : (t : Node) (e f : List (List ℕ)) (K : List Frame) (a c : List Tok) → Reads (Statement f) e a c (one t) → StatementTop K → Opens e K a → Reached (end_statement t f K) c
  reached_end t e f [] a c d u o = absurd u
  reached_end t e f (InStatementParen s ∷ K) a c d u o = (e, a, d, tt, o)
  reached_end t e f (InArrowCommands s before ns ts ∷ K) a c d u o = (tt, (o.0, o.1, o.2, o.3, o.4, (λ z us g. subst (λ vs. Reads (Statements AtBracket) o.3 o.2 z vs) (sym (join_last ts t us)) (o.5 z (more t us) (statements d g))), o.6, o.7))
  reached_end t e f (InStatements s AtBracket before ts ∷ K) a c d u o = (tt, (o.0, (λ z us g. subst (λ vs. Reads (Statements AtBracket) before o.0 z vs) (sym (join_last ts t us)) (o.1 z (more t us) (statements d g))), o.2, o.3))
  reached_end t e f (InStatements s AtEnd before ts ∷ []) a c d u o = (tt, ((λ z us g. subst (λ vs. Reads (Statements AtEnd) e0 w z vs) (sym (join_last ts t us)) (o.0 z (more t us) (statements d g))), o.1, o.2))
  reached_end t e f (InStatements s AtEnd before ts ∷ g ∷ K) a c d u o = absurd o
  reached_end t e f (g ∷ K) a c d u o = absurd u

  pub reached_next : (v : List ℕ) (s : Span) (ts : Nodes) (is : List Need) (last : Last) (e : List (List ℕ)) (K : List Frame) (c y : List Tok) (js : List Need) → Extends (Args is) e c (Args js) e y ts → Under last K → Opens e K (word v (class_with last js) s ∷ y) → Reached (next v s ts is last e K) c
  reached_next v s ts (Item ∷ is) last e K c y js f u o = (tt, (y, js, f, u, o))
  reached_next v s ts (Whole ∷ is) last e K c y js f u o = (tt, (y, js, f, u, o))
  reached_next v s ts (Within b ∷ is) last e K c y js f u o = (refl, (y, js, f, u, o))
  reached_next v s ts (Maybe ∷ is) last e K c y js f u o = (tt, (y, js, f, u, o))
  reached_next v s ts (Variable ∷ is) last e K c y js f u o = (tt, (y, js, f, u, o))
  reached_next v s ts [] lasts.Item e K c y js f u o = (tt, (y, js, subst (λ us. Reads (Args js) e y c us) (join_none ts) (f c none no_arg), u, o))
  reached_next v s ts [] (lasts.Block b) e K c y js f u o = (refl, (y, js, subst (λ us. Reads (Args js) e y c us) (join_none ts) (f c none no_arg), u, o))
  reached_next v s ts [] lasts.Nothing e K c y js f u o = reached_end (node (label.Named v) s ts) e e K (word v (Command js) s ∷ y) c (command (subst (λ us. Reads (Args js) e y c us) (join_none ts) (f c none no_arg))) u o

  pub reached_closed : (x : Shape) (t : Node) (e : List (List ℕ)) (K : List Frame) (a c : List Tok) → Reads Closed e a c (one t) → Fits x e a c t → Begins K → Opens e K a → Reached (closed x t e K) c
  reached_closed x t e [] a c d fit u o = (a, chain_closed d, fit, u, o)
  reached_closed x t e (InNear v s ts zero ∷ K) a c d fit u o = (o.0, o.1 c (one t) (one_side d), tt, o.3, o.4)
  reached_closed x t e (InNear v s ts (suc n) ∷ K) a c d fit u o = (
    tt,
    (
      o.0,
      (λ z us g. subst (λ vs. Reads Chain e o.0 z (one (node (label.Named v) s vs))) (sym (join_last ts t us)) (o.1 z (more t us) (more_sides d g))),
      (λ z us g. subst (λ vs. Reads (Level zero) e o.0 z (one (node (label.Named v) s vs))) (sym (join_last ts t us)) (o.2 z (more t us) (more_last d g))),
      o.3,
      o.4,
    ),
  )
  reached_closed x t e (f ∷ K) a c d fit u o = (a, chain_closed d, fit, u, o)

  -- one more input is read
  one_more : {e : List (List ℕ)} {c y : List Tok} (ts : Nodes) (t : Node) (is js : List Need) → ((z : List Tok) (us : Nodes) → Reads (Args is) e c z us → Reads (Args js) e y z (join ts (more t us))) → Extends (Args is) e c (Args js) e y (and_last ts t)
  one_more {e} {c} {y} ts t is js f z us g = subst (λ vs. Reads (Args js) e y z vs) (sym (join_last ts t us)) (f z us g)

  pub reached_supply : (t : Node) (e : List (List ℕ)) (K : List Frame) (b : Block) (a c : List Tok) → Reads (Arg (Within b)) e a c (one t) → BlockTop b K → Opens e K a → Reached (supply t e K) c
  reached_supply t e (InCall v s ts (Within k) is last ∷ K) b a c d h o = let g = subst (λ i. Reads (Arg (Within i)) e a c (one t)) h d in reached_next v s (and_last ts t) is last e K c o.0 o.1 (one_more ts t is o.1 (λ z us q. o.2 z (more t us) (arg g q))) o.3 o.4
  reached_supply t e (InCall v s ts Maybe is last ∷ K) b a c d h o = let g = subst (λ i. Reads (Arg (Within i)) e a c (one t)) h d in reached_next v s (and_last ts t) is last e K c o.0 o.1 (one_more ts t is o.1 (λ z us q. o.2 z (more t us) (maybe_there g q))) o.3 o.4
  reached_supply t e (InLastBlock v s ts k ∷ K) b a c d h o = reached_closed Fixed (node (label.Named v) s (and_last ts t)) e K (word v (Closing o.1 k) s ∷ o.0) c (closed_block o.2 (subst (λ i. Reads (Arg (Within i)) e a c (one t)) h d)) tt o.3 o.4
  reached_supply t e (InWith v s l ∷ K) b a c d h o = (o.0, chain_with o.1 (subst (λ i. Reads (Arg (Within i)) e a c (one t)) h d), tt, o.2, o.3)
  reached_supply t e K b a c d h o = absurd h

  pub reached_variable : (t : Node) (e : List (List ℕ)) (K : List Frame) (a c : List Tok) → Reads (Arg Variable) e a c (one t) → VariableTop K → Opens e K a → Reached (supply t e K) c
  reached_variable t e (InCall v s ts Variable is last ∷ K) a c d h o = reached_next v s (and_last ts t) is last e K c o.0 o.1 (one_more ts t is o.1 (λ z us g. o.2 z (more t us) (arg d g))) o.3 o.4
  reached_variable t e K a c d h o = absurd h

  -- A stack on which nothing comes before an operator of this level.

  abbrev pub Above : ℕ → List Frame → Type 0
  Above zero K = Unit {0}
  Above (suc j) K = Stays (suc j) K

  abbrev pub Unmoved : ℕ → List Frame → Type 0
  Unmoved l [] = Unit {0}
  Unmoved l (f ∷ K) = closes l f ≡ false

  abbrev pub Settled : ℕ → List (List ℕ) → List Tok → Got → Type 0
  Settled l e c (got x t K) = (a : List Tok) × (j : ℕ) × Reads (Level j) e a c (one t) × Fits x e a c t × (j ≤ l) × Above j K × Unmoved l K × Expr K × Opens e K a

  pub reached_settle : (l : ℕ) (e : List (List ℕ)) (c : List Tok) (x : Shape) (t : Node) (K : List Frame) (a : List Tok) (j : ℕ) → l ≤ top → Reads (Level j) e a c (one t) → Fits x e a c t → j ≤ l → Above j K → Expr K → Opens e K a → Settled l e c (settle l x t K)
  reached_settle l e c x t [] a j low d fit h b u o = (a, j, d, fit, h, b, tt, u, o)
  reached_settle l e c x t (InBinary zero v s r ∷ K) a j low d fit h b u o = absurd o
  reached_settle l e c x t (InBinary (suc m) v s r ∷ K) a j low d fit h b u o = at (nat_le (suc m) l) refl (λ k. reached_settle l e c Fixed (node (label.Named v) s (two r t)) K o.0 (suc m) low (level_binary o.2 (below j b d)) tt k o.4 o.5 o.6)
    where
      below : (j : ℕ) → Above j (InBinary (suc m) v s r ∷ K) → Reads (Level j) e a c (one t) → Reads (Level m) e a c (one t)
      below zero b d = raise m zero (omega arith) d
      below (suc j) b d = raise m (suc j) (omega (arith, leb-false (suc m) (suc j) b.0)) d

      at : (y : Bool) → nat_le (suc m) l ≡ y → (suc m ≤ l → Settled l e c (settle l Fixed (node (label.Named v) s (two r t)) K)) → Settled l e c (settle l x t (InBinary (suc m) v s r ∷ K))
      at true q f = subst (Settled l e c) (sym (settle_on l x t (InBinary (suc m) v s r) K q)) (f (leb-true (suc m) l q))
      at false q f = subst (Settled l e c) (sym (settle_stop l x t (InBinary (suc m) v s r) K q)) (a, j, d, fit, h, b, q, u, o)
  reached_settle l e c x t (InOf v s r ∷ K) a zero low d fit h b u o = reached_settle l e c Fixed (node (label.Named v) s (two r t)) K o.0 zero low (item_of o.1 d) tt (omega arith) tt o.2 o.3
  reached_settle l e c x t (InOf v s r ∷ K) a (suc j) low d fit h b u o = cc (b.0)
  reached_settle l e c x t (InMany v s ts zero ∷ []) a zero low d fit h b u o = reached_settle l e c Growing (node (label.Named v) s (and_last ts t)) [] (word v (Many o.1) s ∷ o.0) zero low (item_call (call_many (o.2 c (one t) (one_item d)))) (o.0, v, o.1, refl, refl, (λ z us g. subst (λ vs. Reads AnyItems e o.0 z vs) (sym (join_last ts t us)) (o.3 z (more t us) (any_item d g)))) (omega arith) tt o.4 o.5
  reached_settle l e c x t (InMany v s ts zero ∷ InNear n r us zero ∷ K) a zero low d fit h b q o = reached_settle l e c Fixed (node (label.Named n) r (and_last us (node (label.Named v) s (and_last ts t)))) K o.5.0 zero low (o.5.2 c (one (node (label.Named v) s (and_last ts t))) (last_call (call_many (o.2 c (one t) (one_item d))))) tt (omega arith) tt o.5.3 o.5.4
  reached_settle l e c x t (InMany v s ts zero ∷ InNear n r us (suc m) ∷ K) a zero low d fit h b q o = absurd o.4
  reached_settle l e c x t (InMany v s ts zero ∷ f ∷ K) a zero low d fit h b u o = reached_settle l e c Growing (node (label.Named v) s (and_last ts t)) (f ∷ K) (word v (Many o.1) s ∷ o.0) zero low (item_call (call_many (o.2 c (one t) (one_item d)))) (o.0, v, o.1, refl, refl, (λ z us g. subst (λ vs. Reads AnyItems e o.0 z vs) (sym (join_last ts t us)) (o.3 z (more t us) (any_item d g)))) (omega arith) tt o.4 o.5
  reached_settle l e c x t (InMany v s ts zero ∷ K) a (suc j) low d fit h b u o = cc (b.0)
  reached_settle l e c x t (InLastItem v s ts ∷ []) a zero low d fit h b u o = reached_settle l e c Fixed (node (label.Named v) s (and_last ts t)) [] (word v (Prefix o.1) s ∷ o.0) zero low (item_call (call_prefix o.2 d)) tt (omega arith) tt o.3 o.4
  reached_settle l e c x t (InLastItem v s ts ∷ InNear n r us zero ∷ K) a zero low d fit h b q o = reached_settle l e c Fixed (node (label.Named n) r (and_last us (node (label.Named v) s (and_last ts t)))) K o.4.0 zero low (o.4.2 c (one (node (label.Named v) s (and_last ts t))) (last_call (call_prefix o.2 d))) tt (omega arith) tt o.4.3 o.4.4
  reached_settle l e c x t (InLastItem v s ts ∷ InNear n r us (suc m) ∷ K) a zero low d fit h b q o = absurd o.3
  reached_settle l e c x t (InLastItem v s ts ∷ f ∷ K) a zero low d fit h b u o = reached_settle l e c Fixed (node (label.Named v) s (and_last ts t)) (f ∷ K) (word v (Prefix o.1) s ∷ o.0) zero low (item_call (call_prefix o.2 d)) tt (omega arith) tt o.3 o.4
  reached_settle l e c x t (InLastItem v s ts ∷ K) a (suc j) low d fit h b u o = cc (b.0)
  reached_settle l e c x t (InNear n r us m ∷ K) a j low d fit h b q o = absurd q
  reached_settle l e c x t (f ∷ K) a j low d fit h b u o = (a, j, d, fit, h, b, refl, u, o)

  abbrev pub ReachedGot : List (List ℕ) → List Tok → Got → Type 0
  ReachedGot e c (got x t K) = Reached (accept x t e K) c

  -- where no operator may follow, the tree is an item
  as_item : (j : ℕ) (f : Frame) (K : List Frame) {e : List (List ℕ)} {a c : List Tok} {t : Node} → takes_operator (f ∷ K) ≡ false → Above j (f ∷ K) → Reads (Level j) e a c (one t) → Reads (Level zero) e a c (one t)
  as_item zero f K h b d = d
  as_item (suc j) (InList s ts) K h b d = absurd b
  as_item (suc j) (InNear v s ts n) K h b d = absurd b
  as_item (suc j) f K h b d = cc (h, b.1)

  pub reached_accept : (e : List (List ℕ)) (c : List Tok) (g : Got) → Settled top e c g → ReachedGot e c g
  reached_accept e c (got x t []) g = (g.0, raise top g.1 g.4 g.2, g.3, tt, g.8)
  reached_accept e c (got x t (InBinary zero v s l ∷ K)) g = absurd g.8
  reached_accept e c (got x t (InBinary (suc m) v s l ∷ K)) g = absurd (omega (arith, g.8.3, leb-false (suc m) top g.6))
  reached_accept e c (got x t (InOf v s b ∷ K)) g = cc (g.6)
  reached_accept e c (got x t (InLastItem v s ts ∷ K)) g = cc (g.6)
  reached_accept e c (got x t (InCall v s ts Item is last ∷ K)) g = reached_next v s (and_last ts t) is last e K c g.8.0 g.8.1 (one_more ts t is g.8.1 (λ z us q. g.8.2 z (more t us) (arg (arg_item (as_item g.1 (InCall v s ts Item is last) K refl g.5 g.2)) q))) g.8.3 g.8.4
  reached_accept e c (got x t (InCall v s ts Whole is last ∷ K)) g = reached_next v s (and_last ts t) is last e K c g.8.0 g.8.1 (one_more ts t is g.8.1 (λ z us q. g.8.2 z (more t us) (arg (arg_whole (raise top g.1 g.4 g.2)) q))) g.8.3 g.8.4
  reached_accept e c (got x t (InMany v s ts zero ∷ K)) g = cc (g.6)
  reached_accept e c (got x t (InMany v s ts (suc n) ∷ K)) g = (
    tt,
    (
      g.8.0,
      g.8.1,
      (λ z us q. subst (λ vs. Reads (Items g.8.1) e g.8.0 z vs) (sym (join_last ts t us)) (g.8.2 z (more t us) (more_items (as_item g.1 (InMany v s ts (suc n)) K refl g.5 g.2) q))),
      (λ z us q. subst (λ vs. Reads AnyItems e g.8.0 z vs) (sym (join_last ts t us)) (g.8.3 z (more t us) (any_item (as_item g.1 (InMany v s ts (suc n)) K refl g.5 g.2) q))),
      g.8.4,
      g.8.5,
    ),
  )
  reached_accept e c (got x t (InItems p l s ts ∷ K)) g = (
    tt,
    (
      g.8.0,
      g.8.1,
      g.8.2,
      g.8.3,
      (λ z us q. subst (λ vs. Reads AnyItems e g.8.0 z vs) (sym (join_last ts t us)) (g.8.4 z (more t us) (any_item (as_item g.1 (InItems p l s ts) K refl g.5 g.2) q))),
      g.8.5,
      g.8.6,
    ),
  )
  reached_accept e c (got x t (InParen s ∷ K)) g = (g.0, raise top g.1 g.4 g.2, g.3, tt, g.8)
  reached_accept e c (got x t (InMinus p s ∷ K)) g = (g.0, as_item g.1 (InMinus p s) K refl g.5 g.2, g.3, tt, g.8)
  reached_accept e c (got x t (InReporter s ∷ K)) g = (g.0, raise top g.1 g.4 g.2, g.3, tt, g.8)
  reached_accept e c (got x t (InNoHead s n ∷ K)) g = (g.0, raise top g.1 g.4 g.2, g.3, tt, g.8)
  reached_accept e c (got x t (InArrowReporter s before ns ∷ K)) g = (g.0, raise top g.1 g.4 g.2, g.3, tt, g.8)
  reached_accept e c (got x t (InBracket s ∷ K)) g = (g.0, raise top g.1 g.4 g.2, g.3, tt, g.8)
  reached_accept e c (got x t (InLet v s n r ∷ K)) g = reached_end (node (label.Named v) s (two (leaf (label.Named n) r) t)) e (n ∷ e) K (word v Let s ∷ word n Unknown r ∷ g.0) c (make g.8.1 (raise top g.1 g.4 g.2)) g.8.0 g.8.2
  reached_accept e c (got x t (f ∷ K)) g = absurd g.7

  -- Literal lists.

  one_item_more : {e : List (List ℕ)} {c y : List Tok} (ts : Nodes) (t : Node) → ((z : List Tok) (us : Nodes) → Reads Literals e c z us → Reads Literals e y z (join ts (more t us))) → Extends Literals e c Literals e y (and_last ts t)
  one_item_more {e} {c} {y} ts t f z us g = subst (λ vs. Reads Literals e y z vs) (sym (join_last ts t us)) (f z us g)

  pub reached_items : (s : Span) (ts : Nodes) (e : List (List ℕ)) (K : List Frame) (tok : Tok) (c y : List Tok) → Extends Literals e (tok ∷ c) Literals e y ts → ListUnder K → Opens e K (open_bracket s ∷ y) → ReachedStep (feed_items s ts e K tok) c
  reached_items s ts e K (number n r) c y f u o = (tt, (y, one_item_more ts (leaf (label.Number n) r) (λ z us d. f z (more (leaf (label.Number n) r) us) (literal_number d)), u, o))
  reached_items s ts e K (text n r) c y f u o = (tt, (y, one_item_more ts (leaf (label.Text n) r) (λ z us d. f z (more (leaf (label.Text n) r) us) (literal_text d)), u, o))
  reached_items s ts e K (word v Constant r) c y f u o = (tt, (y, one_item_more ts (leaf (label.Named v) r) (λ z us d. f z (more (leaf (label.Named v) r) us) (literal_constant d)), u, o))
  reached_items s ts e K (open_bracket r) c y f u o = (tt, (c, (λ z us d. d), tt, (y, f, u, o)))
  reached_items s ts e (InList r us ∷ K) (close_bracket q) c y f u o = (tt, (o.0, one_item_more us (node label.List s ts) (λ z vs d. o.1 z (more (node label.List s ts) vs) (literal_list (subst (λ vs. Reads Literals e y c vs) (join_none ts) (f c none literal_end)) d)), o.2, o.3))
  reached_items s ts e [] (close_bracket q) c y f u o = let d = subst (λ vs. Reads Literals e y c vs) (join_none ts) (f c none literal_end) in reached_closed Literal (node label.List s ts) e [] (open_bracket s ∷ y) c (closed_list d) (λ z us g. literal_list d g) u o
  reached_items s ts e (g ∷ K) (close_bracket q) c y f u o = let d = subst (λ vs. Reads Literals e y c vs) (join_none ts) (f c none literal_end) in reached_closed Literal (node label.List s ts) e (g ∷ K) (open_bracket s ∷ y) c (closed_list d) (λ z us g. literal_list d g) u o
  reached_items s ts e K tok c y f u o = tt

  pub reached_listing : (e : List (List ℕ)) (K : List Frame) (tok : Tok) (c : List Tok) → ListTop K → Opens e K (tok ∷ c) → ReachedStep (feed_listing e K tok) c
  reached_listing e [] tok c u o = absurd u
  reached_listing e (InList s ts ∷ K) tok c u o = reached_items s ts e K tok c o.0 o.1 o.2 o.3
  reached_listing e (f ∷ K) tok c u o = absurd u

  pub reached_bracket_end : (e : List (List ℕ)) (K : List Frame) (q : Span) (c : List Tok) → Opens e K (close_bracket q ∷ c) → ReachedStep (end_bracket e K) c
  reached_bracket_end e (InBracket s ∷ K) q c o = reached_closed Literal (node label.List s none) e K (open_bracket s ∷ close_bracket q ∷ c) c (closed_list literal_end) (λ z us d. literal_list literal_end d) (expr_begins K o.0) o.1
  reached_bracket_end e [] q c o = tt
  reached_bracket_end e (f ∷ K) q c o = tt

  -- Where an expression begins.

  pub reached_begin_call : (v : List ℕ) (s : Span) (is : List Need) (e : List (List ℕ)) (K : List Frame) (c : List Tok) → Begins K → Opens e K (word v (Prefix is) s ∷ c) → ReachedStep (begin_call v s is e K) c
  reached_begin_call v s is e [] c u o = reached_next v s none is lasts.Item e [] c c is (λ z us d. d) u o
  reached_begin_call v s is e (InNear n r us zero ∷ K) c u o = reached_next v s none is lasts.Item e (InNear n r us zero ∷ K) c c is (λ z us d. d) u o
  reached_begin_call v s is e (InNear n r us (suc m) ∷ K) c u o = tt
  reached_begin_call v s is e (f ∷ K) c u o = reached_next v s none is lasts.Item e (f ∷ K) c c is (λ z us d. d) u o

  pub reached_begin_many : (v : List ℕ) (s : Span) (n : ℕ) (e : List (List ℕ)) (K : List Frame) (c : List Tok) → Begins K → Opens e K (word v (Many n) s ∷ c) → ReachedStep (begin_many v s n e K) c
  reached_begin_many v s n e [] c u o = (tt, (c, n, (λ z us d. d), (λ z us d. d), u, o))
  reached_begin_many v s n e (InNear t r us zero ∷ K) c u o = (tt, (c, n, (λ z us d. d), (λ z us d. d), u, o))
  reached_begin_many v s n e (InNear t r us (suc m) ∷ K) c u o = tt
  reached_begin_many v s n e (f ∷ K) c u o = (tt, (c, n, (λ z us d. d), (λ z us d. d), u, o))

  pub reached_begin_minus : (v : List ℕ) (l : ℕ) (m : Bool) (s : Span) (e : List (List ℕ)) (K : List Frame) (c : List Tok) → Opens e K (word v (Binary l m) s ∷ c) → ReachedStep (begin_minus m s e K) c
  reached_begin_minus v l true s e [] c o = tt
  reached_begin_minus v l true s e (InParen p ∷ K) c o = (tt, (v, l, o.0, o.1))
  reached_begin_minus v l true s e (f ∷ K) c o = tt
  reached_begin_minus v l false s e K c o = tt

  pub reached_begin_bracket : (s : Span) (e : List (List ℕ)) (K : List Frame) (c : List Tok) → Begins K → Opens e K (open_bracket s ∷ c) → ReachedStep (begin_bracket s e K) c
  reached_begin_bracket s e [] c u o = (tt, (u, o))
  reached_begin_bracket s e (InNear t r us n ∷ K) c u o = (tt, (c, (λ z us d. d), tt, o))
  reached_begin_bracket s e (f ∷ K) c u o = (tt, (u, o))

  pub reached_end_many : (e : List (List ℕ)) (K : List Frame) (q : Span) (c : List Tok) → Opens e K (close_paren q ∷ c) → ReachedStep (end_many e K) c
  reached_end_many e [] q c o = tt
  reached_end_many e (InItems p l s ts ∷ K) q c o = reached_closed Fixed (node label.Paren p (one (node l s ts))) e K (open_paren p ∷ word o.1 (Many o.2) s ∷ o.0) c (subst (λ k. Reads Closed e (open_paren p ∷ word o.1 (Many o.2) s ∷ o.0) c (one (node label.Paren p (one (node k s ts))))) (sym o.3) (paren_many (subst (λ vs. Reads AnyItems e o.0 (close_paren q ∷ c) vs) (join_none ts) (o.4 (close_paren q ∷ c) none no_item)))) tt o.5 o.6
  reached_end_many e (InMany v s ts n ∷ InParen p ∷ K) q c o = reached_closed Fixed (node label.Paren p (one (node (label.Named v) s ts))) e K (open_paren p ∷ word v (Many o.1) s ∷ o.0) c (paren_many (subst (λ vs. Reads AnyItems e o.0 (close_paren q ∷ c) vs) (join_none ts) (o.3 (close_paren q ∷ c) none no_item))) tt o.5.0 o.5.1
  reached_end_many e (f ∷ K) q c o = tt

  -- Heads of arrow blocks.

  -- the content, behind its head
  pub reached_content : (k : Content) (s : Span) (before ns e : List (List ℕ)) (K : List Frame) (y c : List Tok) (n : ℕ) → Reads (Head n ns e) before y c none → BlockTop (blocks.Arrow k n) K → Opens before K (open_bracket s ∷ y) → Reached (begin_content k s before ns e K) c
  reached_content contents.Commands s before ns e K y c n d u o = (tt, (y, n, c, e, d, (λ z us g. g), u, o))
  reached_content contents.Reporter s before ns e K y c n d u o = (tt, (y, n, d, u, o))

  -- a name in brackets
  pub reached_head_name : (k : Content) (m : ℕ) (s : Span) (before ns : List (List ℕ)) (v : List ℕ) (q : Span) (e : List (List ℕ)) (K : List Frame) (c : List Tok) (b : Bool) → not (among v e) ≡ b → Reached (st (InHead k m s before ns) e K) (word v Unknown q ∷ c) → ReachedStep (feed_head_name b k m s before ns v e K) c
  reached_head_name k zero s before ns v q e K c true new h = tt
  reached_head_name k (suc m) s before ns v q e K c true new h = (
    h.0,
    h.1,
    h.2,
    (λ d ms f g. subst (λ all. Reads (HeadNames h.1 all f) before h.0 d none) (sym (append_assoc ns (v ∷ []) ms)) (h.3 d (v ∷ ms) f (next_name new g))),
    h.4,
    h.5,
  )
  reached_head_name k m s before ns v q e K c false new h = tt

  -- a name without brackets
  pub reached_lone_name : (k : Content) (n : ℕ) (s : Span) (v : List ℕ) (q : Span) (e : List (List ℕ)) (K : List Frame) (c : List Tok) (b : Bool) → not (among v e) ≡ b → BlockTop (blocks.Arrow k n) K → Opens e K (open_bracket s ∷ word v Unknown q ∷ c) → ReachedStep (feed_lone_name b k n s v e K) c
  reached_lone_name k zero s v q e K c true new u o = tt
  reached_lone_name k (suc n) s v q e K c true new u o = (
    word v Unknown q ∷ c,
    suc n,
    (λ w r d same. subst (λ z. Reads (Head (suc n) (v ∷ []) (v ∷ e)) e (word v Unknown q ∷ z) d none) (sym same) (head_name new)),
    u,
    o,
  )
  reached_lone_name k n s v q e K c false new u o = tt

  -- a word that has no row and isn't known
  pub reached_new : (v : List ℕ) (s : Span) (e : List (List ℕ)) (K : List Frame) (c : List Tok) → IsTrue (not (among v e)) → Opens e K (word v Unknown s ∷ c) → ReachedStep (feed_local false v s e K) c
  reached_new v s e (InBracket r ∷ InNoHead p n ∷ K) c new o = reached_head_name contents.Reporter n p e [] v s e K c true new (word v Unknown s ∷ c, n, r, (λ d ms f g. g), o.1.0, o.1.1)
  reached_new v s e K c new o = tt

  pub reached_begin : (e : List (List ℕ)) (K : List Frame) (tok : Tok) (c : List Tok) → Begins K → Opens e K (tok ∷ c) → ReachedStep (feed_begin e K tok) c
  reached_begin e K (number n s) c u o = reached_closed Literal (leaf (label.Number n) s) e K (number n s ∷ c) c closed_number (λ z us d. literal_number d) u o
  reached_begin e K (text n s) c u o = reached_closed Literal (leaf (label.Text n) s) e K (text n s ∷ c) c closed_text (λ z us d. literal_text d) u o
  reached_begin e K (word v Unknown s) c u o = at (among v e) refl
    where
      at : (b : Bool) → among v e ≡ b → ReachedStep (feed_local b v s e K) c
      at true q = reached_closed Fixed (leaf (label.Named v) s) e K (word v Unknown s ∷ c) c (closed_local q) tt u o
      at false q = reached_new v s e K c (ap not q) o
  reached_begin e K (word v Constant s) c u o = reached_closed Literal (leaf (label.Named v) s) e K (word v Constant s ∷ c) c closed_constant (λ z us d. literal_constant d) u o
  reached_begin e K (word v Plain s) c u o = reached_closed Fixed (leaf (label.Named v) s) e K (word v Plain s ∷ c) c closed_plain tt u o
  reached_begin e K (word v Named s) c u o = reached_closed Fixed (leaf (label.Named v) s) e K (word v Named s ∷ c) c closed_variable tt u o
  reached_begin e K (word v (Prefix is) s) c u o = reached_begin_call v s is e K c u o
  reached_begin e K (word v (Many n) s) c u o = reached_begin_many v s n e K c u o
  reached_begin e K (word v (Closing is b) s) c u o = reached_next v s none is (lasts.Block b) e K c c is (λ z us d. d) u o
  reached_begin e K (word v (Binary l m) s) c u o = reached_begin_minus v l m s e K c o
  reached_begin e K (open_bracket s) c u o = reached_begin_bracket s e K c u o
  reached_begin e K (close_bracket s) c u o = reached_bracket_end e K s c o
  reached_begin e K (open_paren s) c u o = (tt, (u, o))
  reached_begin e K (close_paren s) c u o = reached_end_many e K s c o
  reached_begin e K tok c u o = tt

  -- In the other modes.

  pub reached_opening : (b : Block) (e : List (List ℕ)) (K : List Frame) (tok : Tok) (c : List Tok) → BlockTop b K → Opens e K (tok ∷ c) → ReachedStep (feed_opening b e K tok) c
  reached_opening blocks.Commands e K (open_bracket s) c u o = (tt, (c, (λ z us d. d), u, o))
  reached_opening blocks.Reporter e K (open_bracket s) c u o = (tt, (u, o))
  reached_opening (blocks.Arrow k n) e K (open_bracket s) c u o = (u, o)
  reached_opening blocks.Commands e K tok c u o = tt
  reached_opening blocks.Reporter e K tok c u o = tt
  reached_opening (blocks.Arrow k n) e K tok c u o = tt

  pub reached_choosing : (e : List (List ℕ)) (K : List Frame) (tok : Tok) (c : List Tok) → VariableTop K → Opens e K (tok ∷ c) → ReachedStep (feed_choosing e K tok) c
  reached_choosing e K (word v Named s) c u o = reached_variable (leaf (label.Named v) s) e K (word v Named s ∷ c) c arg_variable u o
  reached_choosing e K (word v Unknown s) c u o = at (among v e) refl
    where
      at : (b : Bool) → among v e ≡ b → ReachedStep (feed_variable b v s e K) c
      at true q = reached_variable (leaf (label.Named v) s) e K (word v Unknown s ∷ c) c (arg_local q) u o
      at false q = tt
  reached_choosing e K tok c u o = tt

  pub reached_blocked : (b : Node) (e : List (List ℕ)) (K : List Frame) (tok : Tok) (a c : List Tok) → Reads (Arg (Within blocks.Reporter)) e a (tok ∷ c) (one b) → Expr K → Opens e K a → ReachedStep (feed_blocked b e K tok) c
  reached_blocked b e K (word v Of s) a c d u o = (tt, (a, d, u, o))
  reached_blocked b e K tok a c d u o = tt

  pub reached_bracket : (x : Shape) (t : Node) (s : Span) (e : List (List ℕ)) (K : List Frame) (tok : Tok) (a c : List Tok) → Reads (Level top) e a (tok ∷ c) (one t) → Fits x e a (tok ∷ c) t → Expr K → Opens e K (open_bracket s ∷ a) → ReachedStep (feed_bracket x t s e K tok) c
  reached_bracket Literal t s e K tok a c d fit u o = reached_items s (one t) e K tok c a fit (expr_under K u) o
  reached_bracket Growing t s e K (close_bracket r) a c d fit u o = (open_bracket s ∷ a, arg_reporter d, u, o)
  reached_bracket Growing t s e K tok a c d fit u o = tt
  reached_bracket Fixed t s e K (close_bracket r) a c d fit u o = (open_bracket s ∷ a, arg_reporter d, u, o)
  reached_bracket Fixed t s e K tok a c d fit u o = tt

  pub reached_paren : (x : Shape) (t : Node) (p : Span) (e : List (List ℕ)) (K : List Frame) (tok : Tok) (a c : List Tok) → Reads (Level top) e a (tok ∷ c) (one t) → Fits x e a (tok ∷ c) t → Begins K → Opens e K (open_paren p ∷ a) → ReachedStep (feed_paren x t p e K tok) c
  reached_paren x t p e K (close_paren r) a c d fit u o = reached_closed Fixed (node label.Paren p (one t)) e K (open_paren p ∷ a) c (paren d) tt u o
  reached_paren Growing (node l s ts) p e K tok a c d fit u o = reached_begin e (InItems p l s ts ∷ K) tok c tt (fit.0, fit.1, fit.2, fit.4, fit.5, u, subst (λ z. Opens e K (open_paren p ∷ z)) fit.3 o)
  reached_paren Literal t p e K tok a c d fit u o = tt
  reached_paren Fixed t p e K tok a c d fit u o = tt

  pub reached_minus : (t : Node) (p s : Span) (e : List (List ℕ)) (K : List Frame) (tok : Tok) (a c : List Tok) → Reads (Level zero) e a (tok ∷ c) (one t) → Opens e (InMinus p s ∷ K) a → ReachedStep (feed_minus t p s e K tok) c
  reached_minus t p s e K (close_paren r) a c d o = reached_closed Fixed (node label.Paren p (one (node label.Negate s (one t)))) e K (open_paren p ∷ word o.0 (Binary o.1 true) s ∷ a) c (paren_minus d) tt o.2 o.3
  reached_minus t p s e K tok a c d o = tt

  pub reached_reporter : (t : Node) (s : Span) (e : List (List ℕ)) (K : List Frame) (tok : Tok) (a c : List Tok) → Reads (Level top) e a (tok ∷ c) (one t) → BlockTop blocks.Reporter K → Opens e K (open_bracket s ∷ a) → ReachedStep (feed_reporter t s e K tok) c
  reached_reporter t s e K (close_bracket r) a c d u o = reached_supply (node label.Reporter s (one t)) e K blocks.Reporter (open_bracket s ∷ a) c (arg_reporter d) u o
  reached_reporter t s e K tok a c d u o = tt

  pub reached_whole : (t : Node) (e : List (List ℕ)) (tok : Tok) (a c : List Tok) → Reads (Level top) e a (tok ∷ c) (one t) → Opens e [] a → ReachedStep (feed_whole t e tok) c
  reached_whole t e (end s) a c d o = λ q. subst (λ f. IsText f e0 w t) (sym o.2) (s, subst (λ y. Reads (Level top) e0 y (end s ∷ []) (one t)) o.0 (subst (λ n. Reads (Level top) n a (end s ∷ []) (one t)) o.1 (subst (λ z. Reads (Level top) e a (end s ∷ z) (one t)) q d)))
  reached_whole t e tok a c d o = tt

  pub reached_no_head : (t : Node) (s : Span) (n : ℕ) (e : List (List ℕ)) (K : List Frame) (tok : Tok) (a c : List Tok) → Reads (Level top) e a (tok ∷ c) (one t) → Opens e (InNoHead s n ∷ K) a → ReachedStep (feed_no_head t s e K tok) c
  reached_no_head (node label.List r none) s n e K (word v Arrow q) a c d o = let (p, same) = list_none d in reached_content contents.Reporter s e [] e K a c n (subst (λ b. Reads (Head n [] e) e b c none) (sym same) (head_names names_end)) o.0 o.1
  reached_no_head t s n e K (close_bracket r) a c d o = reached_supply (node (label.Arrow []) s (one t)) e K (blocks.Arrow contents.Reporter n) (open_bracket s ∷ a) c (arg_arrow_reporter no_head d) o.0 o.1
  reached_no_head t s n e K tok a c d o = tt

  pub reached_arrow_reporter : (t : Node) (s : Span) (e before ns : List (List ℕ)) (K : List Frame) (tok : Tok) (a c : List Tok) → Reads (Level top) e a (tok ∷ c) (one t) → Opens e (InArrowReporter s before ns ∷ K) a → ReachedStep (feed_arrow_reporter t s before ns K tok) c
  reached_arrow_reporter t s e before ns K (close_bracket r) a c d o = reached_supply (node (label.Arrow ns) s (one t)) before K (blocks.Arrow contents.Reporter o.1) (open_bracket s ∷ o.0) c (arg_arrow_reporter o.2 d) o.3 o.4
  reached_arrow_reporter t s e before ns K tok a c d o = tt

  pub reached_shut : (x : Shape) (t : Node) (e : List (List ℕ)) (K : List Frame) (tok : Tok) (a c : List Tok) → Reads (Level (shut_level K)) e a (tok ∷ c) (one t) → Fits x e a (tok ∷ c) t → ShutTop K → Opens e K a → ReachedStep (feed_shut x t e K tok) c
  reached_shut x t e (InParen p ∷ K) tok a c d fit u o = reached_paren x t p e K tok a c d fit o.0 o.1
  reached_shut x t e (InMinus p s ∷ K) tok a c d fit u o = reached_minus t p s e K tok a c d o
  reached_shut x t e (InReporter s ∷ K) tok a c d fit u o = reached_reporter t s e K tok a c d o.0 o.1
  reached_shut x t e (InNoHead s n ∷ K) tok a c d fit u o = reached_no_head t s n e K tok a c d o
  reached_shut x t e (InArrowReporter s before ns ∷ K) tok a c d fit u o = reached_arrow_reporter t s e before ns K tok a c d o
  reached_shut x t e (InBracket s ∷ K) tok a c d fit u o = reached_bracket x t s e K tok a c d fit o.0 o.1
  reached_shut x t e [] tok a c d fit u o = reached_whole t e tok a c d o
  reached_shut x t e (f ∷ K) tok a c d fit u o = absurd u

  -- Statements.

  pub reached_ending : (k : Ending) (s : Span) (ts : Nodes) (e before : List (List ℕ)) (K : List Frame) (tok : Tok) (c : List Tok) → Opens e (InStatements s k before ts ∷ K) (tok ∷ c) → ReachedStep (feed_ending k s ts before K tok) c
  reached_ending AtBracket s ts e before K (close_bracket r) c o = reached_supply (node label.Commands s ts) before K blocks.Commands (open_bracket s ∷ o.0) c (arg_commands (subst (λ vs. Reads (Statements AtBracket) before o.0 c vs) (join_none ts) (o.1 c none at_bracket))) o.2 o.3
  reached_ending AtEnd s ts e before [] (end r) c o = λ q. subst (λ f. IsText f e0 w (node label.Commands s ts)) (sym o.1) (ts, ap (λ z. node label.Commands z ts) o.2, subst (λ vs. Reads (Statements AtEnd) e0 w [] vs) (join_none ts) (o.0 [] none (subst (λ z. Reads (Statements AtEnd) e (end r ∷ z) [] none) (sym q) at_end)))
  reached_ending AtEnd s ts e before (f ∷ K) (end r) c o = absurd o
  reached_ending AtBracket s ts e before K tok c o = tt
  reached_ending AtEnd s ts e before K tok c o = tt

  pub reached_arrow_ending : (s : Span) (ts : Nodes) (e before ns : List (List ℕ)) (K : List Frame) (tok : Tok) (c : List Tok) → Opens e (InArrowCommands s before ns ts ∷ K) (tok ∷ c) → ReachedStep (feed_arrow_ending s before ns ts K tok) c
  reached_arrow_ending s ts e before ns K (close_bracket r) c o = reached_supply (node (label.Arrow ns) s (one (node label.Commands s ts))) before K (blocks.Arrow contents.Commands o.1) (open_bracket s ∷ o.0) c (arg_arrow_commands o.4 (subst (λ vs. Reads (Statements AtBracket) o.3 o.2 c vs) (join_none ts) (o.5 c none at_bracket))) o.6 o.7
  reached_arrow_ending s ts e before ns K tok c o = tt

  pub reached_statement : (e : List (List ℕ)) (K : List Frame) (tok : Tok) (c : List Tok) → StatementTop K → Opens e K (tok ∷ c) → ReachedStep (feed_statement e K tok) c
  reached_statement e K (word v (Command is) s) c u o = reached_next v s none is lasts.Nothing e K c c is (λ z us d. d) u o
  reached_statement e K (word v Let s) c u o = (u, o)
  reached_statement e K (open_paren s) c u o = (tt, (u, o))
  reached_statement e K tok c u o = tt

  pub reached_stating : (e : List (List ℕ)) (K : List Frame) (tok : Tok) (c : List Tok) → StatementTop K → Opens e K (tok ∷ c) → ReachedStep (feed_stating e K tok) c
  reached_stating e [] tok c u o = absurd u
  reached_stating e (InStatementParen s ∷ K) tok c u o = reached_statement e (InStatementParen s ∷ K) tok c u o
  reached_stating e (InArrowCommands s before ns ts ∷ K) (word v b r) c u o = reached_statement e (InArrowCommands s before ns ts ∷ K) (word v b r) c u o
  reached_stating e (InArrowCommands s before ns ts ∷ K) (open_paren r) c u o = reached_statement e (InArrowCommands s before ns ts ∷ K) (open_paren r) c u o
  reached_stating e (InArrowCommands s before ns ts ∷ K) tok c u o = reached_arrow_ending s ts e before ns K tok c o
  reached_stating e (InStatements s k before ts ∷ K) (word v b r) c u o = reached_statement e (InStatements s k before ts ∷ K) (word v b r) c u o
  reached_stating e (InStatements s k before ts ∷ K) (open_paren r) c u o = reached_statement e (InStatements s k before ts ∷ K) (open_paren r) c u o
  reached_stating e (InStatements s k before ts ∷ K) tok c u o = reached_ending k s ts e before K tok c o
  reached_stating e (f ∷ K) tok c u o = absurd u

  pub reached_naming : (v : List ℕ) (s : Span) (e : List (List ℕ)) (K : List Frame) (tok : Tok) (c : List Tok) → StatementTop K → Opens e K (word v Let s ∷ tok ∷ c) → ReachedStep (feed_naming v s e K tok) c
  reached_naming v s e K (word n Unknown r) c u o = at (not (among n e)) refl
    where
      at : (b : Bool) → not (among n e) ≡ b → ReachedStep (feed_fresh b v s n r e K) c
      at true q = (tt, (u, q, o))
      at false q = tt
  reached_naming v s e K tok c u o = tt

  pub reached_ended : (t : Node) (e f : List (List ℕ)) (K : List Frame) (tok : Tok) (a c : List Tok) → Reads (Statement f) e a (tok ∷ c) (one t) → EndedTop K → Opens e K a → ReachedStep (feed_ended t f K tok) c
  reached_ended t e f [] tok a c d u o = absurd u
  reached_ended t e f (InStatementParen s ∷ K) (close_paren r) a c d u o = reached_end (node label.Paren s (one t)) e f K (open_paren s ∷ a) c (statement_paren d) o.0 o.1
  reached_ended t e f (InStatementParen s ∷ K) tok a c d u o = tt
  reached_ended t e f (g ∷ K) tok a c d u o = absurd u

  -- Right behind the bracket of an arrow block, and in its head.

  pub reached_heading_commands : (n : ℕ) (s : Span) (e : List (List ℕ)) (K : List Frame) (tok : Tok) (c : List Tok) → BlockTop (blocks.Arrow contents.Commands n) K → Opens e K (open_bracket s ∷ tok ∷ c) → ReachedStep (feed_heading_commands n s e K tok) c
  reached_heading_commands n s e K (word v Arrow r) c u o = reached_content contents.Commands s e [] e K (word v Arrow r ∷ c) c n head_arrow u o
  reached_heading_commands n s e K (word v Unknown r) c u o = reached_lone_name contents.Commands n s v r e K c (not (among v e)) refl u o
  reached_heading_commands n s e K (open_bracket r) c u o = (c, n, r, (λ d ms f g. g), u, o)
  reached_heading_commands n s e K tok c u o = reached_stating e (InArrowCommands s e [] none ∷ K) tok c tt (tok ∷ c, n, tok ∷ c, e, no_head, (λ z us d. d), u, o)

  pub reached_heading_reporter : (n : ℕ) (s : Span) (e : List (List ℕ)) (K : List Frame) (tok : Tok) (c : List Tok) → BlockTop (blocks.Arrow contents.Reporter n) K → Opens e K (open_bracket s ∷ tok ∷ c) → ReachedStep (feed_heading_reporter n s e K tok) c
  reached_heading_reporter n s e K (word v Arrow r) c u o = reached_content contents.Reporter s e [] e K (word v Arrow r ∷ c) c n head_arrow u o
  reached_heading_reporter n s e K (word v Unknown r) c u o = at (among v e) refl
    where
      at : (b : Bool) → among v e ≡ b → ReachedStep (feed_first b n s v r e K) c
      at true q = reached_closed Fixed (leaf (label.Named v) r) e (InNoHead s n ∷ K) (word v Unknown r ∷ c) c (closed_local q) tt tt (u, o)
      at false q = reached_lone_name contents.Reporter n s v r e K c true (ap not q) u o
  reached_heading_reporter n s e K tok c u o = reached_begin e (InNoHead s n ∷ K) tok c tt (u, o)

  pub reached_heading : (k : Content) (n : ℕ) (s : Span) (e : List (List ℕ)) (K : List Frame) (tok : Tok) (c : List Tok) → BlockTop (blocks.Arrow k n) K → Opens e K (open_bracket s ∷ tok ∷ c) → ReachedStep (feed_heading k n s e K tok) c
  reached_heading contents.Commands n s e K tok c u o = reached_heading_commands n s e K tok c u o
  reached_heading contents.Reporter n s e K tok c u o = reached_heading_reporter n s e K tok c u o

  pub reached_in_head : (k : Content) (m : ℕ) (s : Span) (before ns e : List (List ℕ)) (K : List Frame) (tok : Tok) (c : List Tok) → Reached (st (InHead k m s before ns) e K) (tok ∷ c) → ReachedStep (feed_in_head k m s before ns e K tok) c
  reached_in_head k m s before ns e K (word v Unknown q) c h = reached_head_name k m s before ns v q e K c (not (among v e)) refl h
  reached_in_head k m s before ns e K (close_bracket q) c h = (
    open_bracket h.2 ∷ h.0,
    h.1,
    (λ v r d same. head_names (subst (λ z. Reads (HeadNames h.1 ns e) before h.0 z none) same (subst (λ all. Reads (HeadNames h.1 all e) before h.0 c none) (append-nil ns) (h.3 c [] e names_end)))),
    h.4,
    h.5,
  )
  reached_in_head k m s before ns e K tok c h = tt

  pub reached_behind : (k : Content) (s : Span) (before ns e : List (List ℕ)) (K : List Frame) (tok : Tok) (c : List Tok) → Reached (st (Behind k s before ns) e K) (tok ∷ c) → ReachedStep (feed_behind k s before ns e K tok) c
  reached_behind k s before ns e K (word v Arrow r) c h = reached_content k s before ns e K h.0 c h.1 (h.2 v r c refl) h.3 h.4
  reached_behind k s before ns e K tok c h = tt

  pub reached_plain : (s : State) (tok : Tok) (c : List Tok) → Reached s (tok ∷ c) → ReachedStep (feed_plain s tok) c
  reached_plain (st Begin e K) tok c h = reached_begin e K tok c h.0 h.1
  reached_plain (st (Opening b) e K) tok c h = reached_opening b e K tok c h.0 h.1
  reached_plain (st (Heading k n s) e K) tok c h = reached_heading k n s e K tok c h.0 h.1
  reached_plain (st (InHead k n s before ns) e K) tok c h = reached_in_head k n s before ns e K tok c h
  reached_plain (st (Behind k s before ns) e K) tok c h = reached_behind k s before ns e K tok c h
  reached_plain (st Optional e K) tok c h = tt
  reached_plain (st Choosing e K) tok c h = reached_choosing e K tok c h.0 h.1
  reached_plain (st (Have x t) e K) tok c h = tt
  reached_plain (st (Blocked b) e K) tok c h = reached_blocked b e K tok h.0 c h.1 h.2 h.3
  reached_plain (st (Shut x t) e K) tok c h = reached_shut x t e K tok h.0 c h.1 h.2 h.3 h.4
  reached_plain (st Listing e K) tok c h = reached_listing e K tok c h.0 h.1
  reached_plain (st Stating e K) tok c h = reached_stating e K tok c h.0 h.1
  reached_plain (st (Naming v s) e K) tok c h = reached_naming v s e K tok c h.0 h.1
  reached_plain (st (Ended t) f K) tok c h = reached_ended t h.0 f K tok h.1 c h.2 h.3 h.4
  reached_plain (st (Over t) e K) tok c h = tt
  reached_plain (st Dead e K) tok c h = tt

  -- the blocks that may be missing are missing
  skipped : (is js : List Need) (e : List (List ℕ)) (c y : List Tok) (ts : Nodes) → IsTrue (not (opens c)) → Extends (Args is) e c (Args js) e y ts → Extends (Args (without_maybes is)) e c (Args js) e y ts
  skipped (Maybe ∷ is) js e c y ts h f = skipped is js e c y ts h (λ z us d. f z us (maybe_missing h d))
  skipped (Item ∷ is) js e c y ts h f = f
  skipped (Whole ∷ is) js e c y ts h f = f
  skipped (Within b ∷ is) js e c y ts h f = f
  skipped (Variable ∷ is) js e c y ts h f = f
  skipped [] js e c y ts h f = f

  pub reached_missing : (v : List ℕ) (s : Span) (ts : Nodes) (is : List Need) (last : Last) (e : List (List ℕ)) (K : List Frame) (c : List Tok) → IsTrue (not (opens c)) → Opens e (InCall v s ts Maybe is last ∷ K) c → Reached (next v s ts (without_maybes is) last e K) c
  reached_missing v s ts is last e K c h o = reached_next v s ts (without_maybes is) last e K c o.0 o.1 (skipped (Maybe ∷ is) o.1 e c o.0 ts h o.2) o.3 o.4

  pub reached_optional : (e : List (List ℕ)) (K : List Frame) (tok : Tok) (c : List Tok) → MaybeTop K → Opens e K (tok ∷ c) → ReachedStep (feed_optional e K tok) c
  reached_optional e (InCall v s ts Maybe is last ∷ K) (open_bracket r) c u o = (tt, (c, (λ z us d. d), refl, o))
  reached_optional e (InCall v s ts Maybe is last ∷ K) tok c u o = reached_plain (next v s ts (without_maybes is) last e K) tok c (reached_missing v s ts is last e K (tok ∷ c) refl o)
  reached_optional e K tok c u o = absurd u

  pub reached_ready : (s : State) (tok : Tok) (c : List Tok) → Reached s (tok ∷ c) → ReachedStep (feed_ready s tok) c
  reached_ready (st Optional e K) tok c h = reached_optional e K tok c h.0 h.1
  reached_ready s tok c h = reached_plain s tok c h

  -- Where a chain is at hand.

  pub reached_of : (v : List ℕ) (s : Span) (t : Node) (e : List (List ℕ)) (K : List Frame) (a c : List Tok) → Reads Chain e a (word v Of s ∷ c) (one t) → Expr K → Opens e K a → ReachedStep (feed_of v s t e K) c
  reached_of v s (node label.List r (more t none)) e K a c d u o = (tt, (a, block_of d, u, o))
  reached_of v s t e K a c d u o = tt

  pub reached_operator : (l : ℕ) (v : List ℕ) (m : Bool) (s : Span) (e : List (List ℕ)) (c : List Tok) (g : Got) → suc l ≤ top → Settled (suc l) e (word v (Binary l m) s ∷ c) g → ReachedStep (feed_operator (got_takes g) l v s e g) c
  reached_operator l v m s e c (got x t K) low g = at (takes_operator K) refl
    where
      stays : (K : List Frame) → takes_operator K ≡ true → Unmoved (suc l) K → Stays (suc l) K
      stays [] q u = tt
      stays (InList r ts ∷ K) q u = cc q
      stays (InNear n r ts k ∷ K) q u = cc q
      stays (f ∷ K) q u = (u, q)

      at : (b : Bool) → takes_operator K ≡ b → ReachedStep (feed_operator b l v s e (got x t K)) c
      at true q = (tt, (g.0, m, raise (suc l) g.1 g.4 g.2, low, stays K q g.6, g.7, g.8))
      at false q = tt

  pub reached_have : (x : Shape) (t : Node) (e : List (List ℕ)) (K : List Frame) (tok : Tok) (a c : List Tok) → Reads Chain e a (tok ∷ c) (one t) → Fits x e a (tok ∷ c) t → Expr K → Opens e K a → ReachedStep (feed_have x t e K tok) c
  reached_have x t e K (word v With s) a c d fit u o = (refl, (a, d, u, o))
  reached_have x t e K (word v (Near n) s) a c d fit u o = (tt, (a, (λ z us g. chain_near d g), (λ z us g. item_near d g), u, o))
  reached_have x t e K (word v Of s) a c d fit u o = reached_of v s t e K a c d u o
  reached_have x t e K (word v (Binary l m) s) a c d fit u o = at (nat_lt l top) refl
    where
      at : (b : Bool) → nat_lt l top ≡ b → ReachedStep (feed_binary b l v s e (settle (suc l) x t K)) c
      at true q = reached_operator l v m s e c (settle (suc l) x t K) (omega (arith, ltb-true l top q)) (reached_settle (suc l) e (word v (Binary l m) s ∷ c) x t K a zero (omega (arith, ltb-true l top q)) (item_chain d) fit (omega arith) tt u o)
      at false q = tt
  reached_have x t e K tok a c d fit u o = broken (settle top x t K) (reached_settle top e (tok ∷ c) x t K a zero (omega arith) (item_chain d) fit (omega arith) tt u o)
    where
      broken : (g : Got) → Settled top e (tok ∷ c) g → ReachedStep (feed_broken e g tok) c
      broken (got x t K) g = reached_ready (accept x t e K) tok c (reached_accept e (tok ∷ c) (got x t K) g)

  -- each step leads to what its token leads to
  pub reached_feed : (s : State) (tok : Tok) (c : List Tok) → Reached s (tok ∷ c) → ReachedStep (feed s tok) c
  reached_feed (st (Have x t) e K) tok c h = reached_have x t e K tok h.0 c h.1 h.2 h.3 h.4
  reached_feed s tok c h = reached_ready s tok c h

  pub reached_run : (s : Step) (a c : List Tok) → ReachedStep s (a ++ c) → ReachedStep (run_from s a) c
  reached_run s [] c h = h
  reached_run (go s) (tok ∷ a) c h = reached_run (feed s tok) a c (reached_feed s tok (a ++ c) h)
  reached_run stop (tok ∷ a) c h = tt
