-- Steps that turn on the top of the machine's stack.
use Rattle.std.proofs.Common.{◌≡◌, ℕ, zero, suc, ◌-◌, true, false, List, [], ◌∷◌, ◌++◌, refl, ap, arith}
use Rattle.nl_fixed.specs.declared.span.Span.{Span}
use Rattle.nl_tree.specs.Tree.{Node, Nodes, node, none, more}
use Rattle.nl_tree.specs.declared.tree.Label.TheVariants as label
use Rattle.nl_parse_reading.specs.inner.Limit.{is_none, is_one}
use Rattle.nl_tree.specs.Tokens.{Tok, Unknown, Constant, Plain, Named, Prefix, Many, Closing, Command, Let, Binary, Arrow, number, text, word, open_bracket, close_bracket, open_paren}
use Rattle.nl_tree.specs.declared.needs.Need.{Need}
use Rattle.nl_tree.specs.declared.needs.Content.{Content}
use Rattle.nl_tree.specs.declared.needs.Content.TheVariants as contents
use Rattle.nl_parse_grammar.specs.declared.pending.Last.TheVariants as lasts
use Rattle.nl_parse_grammar.specs.Machine.{Frame, InNear, InCall, InMany, InOf, InList, InBracket, Begin, Listing, st, go, stop, next, begin_call, begin_many, begin_bracket, feed_of, InStatements, InStatementParen, begins_statement, feed_statement, feed_stating, feed_optional, feed_items, Stating, InNoHead, InArrowCommands, InHead, Behind, feed_begin, feed_head_name, feed_lone_name, feed_no_head, feed_arrow_reporter, begin_content}
use Rattle.nl_parse_stack.specs.inner.Asked.{more_sides, is_at_side, is_in_call, is_stating}
use Rattle.nl_parse.specs.inner.Apart.{may_follow_item, feed_missing, feed_no_names, is_arrow, starts, states}
use Rattle.nl_tree.specs.declared.needs.Ending.TheVariants.{AtBracket}
use Rattle.nl_parse_reading.specs.inner.View.{mark_of}
use Rattle.nl_parse_reading.specs.declared.marks.Mark.{Mark}
use Rattle.nl_parse_reading.specs.declared.marks.Mark.TheVariants as marks

pub no_call : (w : List ℕ) (s : Span) (is : List Need) (e : List (List ℕ)) (K : List Frame) → more_sides K ≡ true → begin_call w s is e K ≡ stop
no_call w s is e (InNear v r ts (suc n) ∷ K) h = refl
no_call w s is e K h = cc h

pub a_call : (w : List ℕ) (s : Span) (is : List Need) (e : List (List ℕ)) (K : List Frame) → more_sides K ≡ false → begin_call w s is e K ≡ go (next w s none is lasts.Item e K)
a_call w s is e (InNear v r ts (suc n) ∷ K) h = cc h
a_call w s is e K h = refl

pub no_many : (w : List ℕ) (s : Span) (m : ℕ) (e : List (List ℕ)) (K : List Frame) → more_sides K ≡ true → begin_many w s m e K ≡ stop
no_many w s m e (InNear v r ts (suc n) ∷ K) h = refl
no_many w s m e K h = cc h

pub a_many : (w : List ℕ) (s : Span) (m : ℕ) (e : List (List ℕ)) (K : List Frame) → more_sides K ≡ false → begin_many w s m e K ≡ go (st Begin e (InMany w s none m ∷ K))
a_many w s m e (InNear v r ts (suc n) ∷ K) h = cc h
a_many w s m e K h = refl

pub a_list : (s : Span) (e : List (List ℕ)) (K : List Frame) → is_at_side K ≡ true → begin_bracket s e K ≡ go (st Listing e (InList s none ∷ K))
a_list s e (InNear v r ts n ∷ K) h = refl
a_list s e K h = cc h

pub a_bracket : (s : Span) (e : List (List ℕ)) (K : List Frame) → is_at_side K ≡ false → begin_bracket s e K ≡ go (st Begin e (InBracket s ∷ K))
a_bracket s e (InNear v r ts n ∷ K) h = cc h
a_bracket s e K h = refl

-- a list of one literal is also a block
pub a_block : (w : List ℕ) (s r : Span) (ts : Nodes) (e : List (List ℕ)) (K : List Frame) → is_one ts ≡ true → feed_of w s (node label.List r ts) e K ≡ go (st Begin e (InOf w s (node label.Reporter r ts) ∷ K))
a_block w s r none e K h = cc h
a_block w s r (more t none) e K h = refl
a_block w s r (more t (more u ts)) e K h = cc h

pub no_block : (w : List ℕ) (s r : Span) (ts : Nodes) (e : List (List ℕ)) (K : List Frame) → is_one ts ≡ false → feed_of w s (node label.List r ts) e K ≡ stop
no_block w s r none e K h = refl
no_block w s r (more t none) e K h = cc h
no_block w s r (more t (more u ts)) e K h = refl

-- Blocks that may be missing.

pub in_no_call : (r : Span) (e : List (List ℕ)) (K : List Frame) → is_in_call K ≡ false → feed_optional e K (open_bracket r) ≡ stop
in_no_call r e (InCall w s ts i is last ∷ K) h = cc h
in_no_call r e K h = refl

pub a_missing : (r : Span) (e : List (List ℕ)) (K : List Frame) → is_in_call K ≡ true → feed_optional e K (open_bracket r) ≡ go (st Stating e (InStatements r AtBracket e none ∷ K))
a_missing r e (InCall w s ts i is last ∷ K) h = refl
a_missing r e K h = cc h

pub missing : (e : List (List ℕ)) (K : List Frame) (m : Mark) → ((r : Span) → m ≡ marks.OpenBracket r → ⊥) → feed_optional e K (mark_of m) ≡ feed_missing e K (mark_of m)
missing e (InCall w s ts i is last ∷ K) (marks.OpenBracket r) h = absurd (h r refl)
missing e (InCall w s ts i is last ∷ K) m h = refl
missing e K m h = refl

-- Statements.

pub not_stating : (e : List (List ℕ)) (K : List Frame) (tok : Tok) → is_stating K ≡ false → feed_stating e K tok ≡ stop
not_stating e (InStatements s k before ts ∷ K) tok h = cc h
not_stating e (InArrowCommands s before ns ts ∷ K) tok h = cc h
not_stating e (InStatementParen s ∷ K) tok h = cc h
not_stating e K tok h = refl

pub a_statement : (e : List (List ℕ)) (K : List Frame) (tok : Tok) → is_stating K ≡ true → begins_statement tok ≡ true → feed_stating e K tok ≡ feed_statement e K tok
a_statement e (InStatements s k before ts ∷ K) (word w c r) h b = refl
a_statement e (InStatements s k before ts ∷ K) (open_paren r) h b = refl
a_statement e (InStatements s k before ts ∷ K) tok h b = cc b
a_statement e (InArrowCommands s before ns ts ∷ K) (word w c r) h b = refl
a_statement e (InArrowCommands s before ns ts ∷ K) (open_paren r) h b = refl
a_statement e (InArrowCommands s before ns ts ∷ K) tok h b = cc b
a_statement e (InStatementParen s ∷ K) tok h b = refl
a_statement e K tok h b = cc h

pub no_statement : (e : List (List ℕ)) (K : List Frame) (tok : Tok) → begins_statement tok ≡ false → feed_statement e K tok ≡ stop
no_statement e K (word w c r) h = cc h
no_statement e K (open_paren r) h = cc h
no_statement e K tok h = refl

-- Items of literal lists.

pub no_item : (s : Span) (ts : Nodes) (e : List (List ℕ)) (K : List Frame) (tok : Tok) → may_follow_item tok ≡ false → feed_items s ts e K tok ≡ stop
no_item s ts e K (number n r) h = cc h
no_item s ts e K (text bytes r) h = cc h
no_item s ts e K (word w Constant r) h = cc h
no_item s ts e K (open_bracket r) h = cc h
no_item s ts e K (close_bracket r) h = cc h
no_item s ts e K tok h = refl

pub an_item : (s : Span) (ts : Nodes) (e : List (List ℕ)) (K : List Frame) (tok : Tok) → may_follow_item tok ≡ true → feed_items s ts e K tok ≡ stop → ⊥
an_item s ts e K (number n r) h q = cc q
an_item s ts e K (text bytes r) h q = cc q
an_item s ts e K (word w Constant r) h q = cc q
an_item s ts e K (open_bracket r) h q = cc q
an_item s ts e K (close_bracket r) h q = cc q
an_item s ts e K tok h q = cc h

-- Arrow blocks.

pub no_content : (s : Span) (before ns : List (List ℕ)) (ts : Nodes) (e : List (List ℕ)) (K : List Frame) (tok : Tok) → states tok ≡ false → feed_stating e (InArrowCommands s before ns ts ∷ K) tok ≡ stop
no_content s before ns ts e K (word w (Command is) r) h = cc h
no_content s before ns ts e K (word w Let r) h = cc h
no_content s before ns ts e K (word w c r) h = refl
no_content s before ns ts e K (open_paren r) h = cc h
no_content s before ns ts e K (close_bracket r) h = cc h
no_content s before ns ts e K tok h = refl

pub some_content : (s : Span) (before ns : List (List ℕ)) (ts : Nodes) (e : List (List ℕ)) (K : List Frame) (tok : Tok) → states tok ≡ true → feed_stating e (InArrowCommands s before ns ts ∷ K) tok ≡ stop → ⊥
some_content s before ns ts e K (word w (Command is) r) h q = cc q
some_content s before ns ts e K (word w Let r) h q = cc q
some_content s before ns ts e K (open_paren r) h q = cc q
some_content s before ns ts e K (close_bracket r) h q = cc q
some_content s before ns ts e K tok h q = cc h

pub no_start : (s : Span) (n : ℕ) (e : List (List ℕ)) (K : List Frame) (tok : Tok) → starts e tok ≡ false → feed_begin e (InNoHead s n ∷ K) tok ≡ stop
no_start s n e K (number m r) h = cc h
no_start s n e K (text bytes r) h = cc h
no_start s n e K (word w Unknown r) h = rw h refl
no_start s n e K (word w Constant r) h = cc h
no_start s n e K (word w Plain r) h = cc h
no_start s n e K (word w Named r) h = cc h
no_start s n e K (word w (Prefix is) r) h = cc h
no_start s n e K (word w (Many m) r) h = cc h
no_start s n e K (word w (Closing is b) r) h = cc h
no_start s n e K (word w (Binary l true) r) h = refl
no_start s n e K (word w (Binary l false) r) h = refl
no_start s n e K (word w c r) h = refl
no_start s n e K (open_bracket r) h = cc h
no_start s n e K (open_paren r) h = cc h
no_start s n e K tok h = refl

pub a_start : (s : Span) (n : ℕ) (e : List (List ℕ)) (K : List Frame) (tok : Tok) → starts e tok ≡ true → feed_begin e (InNoHead s n ∷ K) tok ≡ stop → ⊥
a_start s n e K (number m r) h q = cc q
a_start s n e K (text bytes r) h q = cc q
a_start s n e K (word w Unknown r) h q = let p = rw h at q in cc p
a_start s n e K (word w Constant r) h q = cc q
a_start s n e K (word w Plain r) h q = cc q
a_start s n e K (word w Named r) h q = cc q
a_start s n e K (word w (Prefix is) r) h q = cc q
a_start s n e K (word w (Many m) r) h q = cc q
a_start s n e K (word w (Closing is b) r) h q = cc q
a_start s n e K (open_bracket r) h q = cc q
a_start s n e K (open_paren r) h q = cc q
a_start s n e K tok h q = cc h

pub no_name : (k : Content) (n : ℕ) (s : Span) (w : List ℕ) (e : List (List ℕ)) (K : List Frame) → n ≡ 0 → feed_lone_name true k n s w e K ≡ stop
no_name k zero s w e K h = refl
no_name k (suc n) s w e K h = cc h

pub a_name : (k : Content) (n : ℕ) (s : Span) (w : List ℕ) (e : List (List ℕ)) (K : List Frame) → (n ≡ 0 → ⊥) → feed_lone_name true k n s w e K ≡ go (st (Behind k s e (w ∷ [])) (w ∷ e) K)
a_name k zero s w e K h = absurd (h refl)
a_name k (suc n) s w e K h = refl

pub no_room : (k : Content) (n : ℕ) (s : Span) (before ns : List (List ℕ)) (w : List ℕ) (e : List (List ℕ)) (K : List Frame) → n ≡ 0 → feed_head_name true k n s before ns w e K ≡ stop
no_room k zero s before ns w e K h = refl
no_room k (suc n) s before ns w e K h = cc h

pub some_room : (k : Content) (n : ℕ) (s : Span) (before ns : List (List ℕ)) (w : List ℕ) (e : List (List ℕ)) (K : List Frame) → (n ≡ 0 → ⊥) → feed_head_name true k n s before ns w e K ≡ go (st (InHead k (n - 1) s before (ns ++ w ∷ [])) (w ∷ e) K)
some_room k zero s before ns w e K h = absurd (h refl)
some_room k (suc n) s before ns w e K h = ap (λ m. go (st (InHead k m s before (ns ++ w ∷ [])) (w ∷ e) K)) (omega arith)

pub at_arrow : (t : Node) (s : Span) (e : List (List ℕ)) (K : List Frame) (tok : Tok) → is_arrow tok ≡ true → feed_no_head t s e K tok ≡ feed_no_names t s e K
at_arrow (node label.List r none) s e K (word w Arrow q) h = refl
at_arrow t s e K (word w Arrow q) h = refl
at_arrow t s e K tok h = cc h

pub at_no_arrow : (t : Node) (s : Span) (e : List (List ℕ)) (K : List Frame) (tok : Tok) → is_arrow tok ≡ false → feed_no_head t s e K tok ≡ feed_arrow_reporter t s e [] K tok
at_no_arrow (node label.List r none) s e K (word w Arrow q) h = cc h
at_no_arrow (node label.List r none) s e K (close_bracket q) h = refl
at_no_arrow (node label.List r none) s e K tok h = refl
at_no_arrow t s e K (word w Arrow q) h = cc h
at_no_arrow t s e K (close_bracket q) h = refl
at_no_arrow t s e K tok h = refl

pub some_names : (r s : Span) (ts : Nodes) (e : List (List ℕ)) (K : List Frame) → is_none ts ≡ true → feed_no_names (node label.List r ts) s e K ≡ go (begin_content contents.Reporter s e [] e K)
some_names r s none e K h = refl
some_names r s (more t ts) e K h = cc h

pub no_names : (r s : Span) (ts : Nodes) (e : List (List ℕ)) (K : List Frame) → is_none ts ≡ false → feed_no_names (node label.List r ts) s e K ≡ stop
no_names r s none e K h = cc h
no_names r s (more t ts) e K h = refl
