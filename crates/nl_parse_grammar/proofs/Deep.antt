-- No token lowers the least depth.
use Rattle.std.proofs.Common.{◌≡◌, ℕ, zero, suc, max, Bool, true, false, not, List, [], ◌∷◌, refl, sym, ◌∙◌, ap, subst, IsTrue, nat_lt, ◌≤◌, arith}
use Rattle.nl_fixed.specs.declared.span.Span.{Span}
use Rattle.nl_tree.specs.declared.tree.Label.TheVariants as label
use Rattle.nl_tree.specs.declared.declared.Form.{Form}
use Rattle.nl_tree.specs.Tree.{Node, node, Nodes, none, more, depth, depths}
use Rattle.nl_tree.specs.Vocabulary.{among}
use Rattle.nl_tree.specs.Tokens.{Unknown, Constant, Plain, Named, Prefix, Many, Closing, Command, Let, With, Near, Of, Binary, Arrow, Tok, number, text, word, open_bracket, close_bracket, open_paren, close_paren, end}
use Rattle.nl_tree.specs.declared.needs.Block.{Block}
use Rattle.nl_tree.specs.declared.needs.Block.TheVariants as blocks
use Rattle.nl_tree.specs.declared.needs.Content.TheVariants as contents
use Rattle.nl_tree.specs.declared.needs.Content.{Content}
use Rattle.nl_tree.specs.declared.needs.Need.{Need}
use Rattle.nl_tree.specs.declared.needs.Need.TheVariants.{Item, Whole, Within, Maybe, Variable}
use Rattle.nl_tree.specs.Grammar.{one, two, leaf, and_last, opens, top, Reads}
use Rattle.nl_tree.specs.declared.needs.Ending.{Ending}
use Rattle.nl_tree.specs.declared.needs.Ending.TheVariants.{AtBracket, AtEnd}
use Rattle.nl_parse_grammar.specs.Machine.{Frame, InBinary, InWith, InNear, InOf, InCall, InLastItem, InLastBlock, InMany, InItems, InParen, InMinus, InReporter, InNoHead, InArrowReporter, InArrowCommands, InBracket, InList, InLet, InStatementParen, InStatements, Begin, Opening, Heading, InHead, Behind, Optional, Choosing, Have, Blocked, Shut, Listing, Stating, Naming, Ended, Over, Dead, State, st, Step, go, stop, Got, got, end_statement, next, closed, supply, accept, closes, build, built_shape, settle, begin_content, feed_head_name, feed_lone_name, feed_local, begin_call, begin_many, begin_minus, begin_bracket, end_many, feed_begin, feed_opening, feed_variable, feed_choosing, feed_blocked, feed_items, feed_listing, feed_bracket, feed_paren, feed_no_head, feed_shut, feed_ending, feed_arrow_ending, feed_statement, feed_stating, feed_fresh, feed_naming, feed_ended, feed_first, feed_heading, feed_in_head, feed_behind, feed_plain, without_maybes, feed_optional, feed_ready, feed_broken, feed_operator, got_takes, feed_binary, feed_have, feed}
use Rattle.nl_parse_grammar.specs.declared.pending.Last.{Last}
use Rattle.nl_parse_grammar.specs.declared.pending.Last.TheVariants as lasts
use Rattle.nl_parse_grammar.specs.declared.pending.Shape.{Shape}
use Rattle.nl_parse_grammar.specs.declared.pending.Shape.TheVariants.{Literal, Growing, Fixed}
use Rattle.nl_parse_grammar.specs.Depth.{least_block, least_inputs, least_values, is_literal, frame_depth, stays_literal, whole_depth, begin_depth, optional_depth, statement_depth, least_depth}
use Rattle.nl_tree.specs.Grammar.{Chain, item_chain}
use Rattle.nl_parse_grammar.proofs.Complete.{settle_on, settle_stop}
use Rattle.nl_parse_grammar.proofs.Sound.{Expr, Begins, BlockTop, MaybeTop, VariableTop, StatementTop, Under, Fits, Opens, Reached, Settled, reached_settle, reached_accept, reached_missing}
use Rattle.nl_parse_grammar.proofs.Stack.{Fine, FineState, fine, fine_state}
use Rattle.nl_parse_grammar.proofs.Live.{depths_join, Supplied, block_supplied, variable_supplied}

-- what may be a literal needs no more depth than what may not
abbrev Loosens : Bool → Bool → Type 0
Loosens false true = ⊥
Loosens b c = Unit {0}

loosens_true : (b : Bool) → Loosens true b
loosens_true true = tt
loosens_true false = tt

loosens_false : (b : Bool) → Loosens b false
loosens_false true = tt
loosens_false false = tt

frame_rises : (f : Frame) (b c : Bool) (d n : ℕ) → Loosens b c → d ≤ n → frame_depth f b d ≤ frame_depth f c n
frame_rises (InBracket s) true true d n l h = omega (arith, h)
frame_rises (InBracket s) true false d n l h = omega (arith, h)
frame_rises (InBracket s) false false d n l h = omega (arith, h)
frame_rises (InBracket s) false true d n l h = absurd l
frame_rises f b c d n l h = omega (arith, h)

literal_rises : (f : Frame) (b c : Bool) → Loosens b c → Loosens (stays_literal f b) (stays_literal f c)
literal_rises (InBracket s) b c l = l
literal_rises (InList s ts) b c l = tt
literal_rises f b c l = tt

rises : (K : List Frame) (b c : Bool) (d n : ℕ) → Loosens b c → d ≤ n → whole_depth b d K ≤ whole_depth c n K
rises [] b c d n l h = h
rises (f ∷ K) b c d n l h = rises K (stays_literal f b) (stays_literal f c) (frame_depth f b d) (frame_depth f c n) (literal_rises f b c l) (frame_rises f b c d n l h)

-- a part against what its frame becomes
over_frame : (f : Frame) (K : List Frame) (b c : Bool) (d n : ℕ) → Loosens b (stays_literal f c) → d ≤ frame_depth f c n → whole_depth b d K ≤ whole_depth c n (f ∷ K)
over_frame f K b c d n l h = rises K b (stays_literal f c) d (frame_depth f c n) l h

same : (K : List Frame) (b : Bool) (d n : ℕ) → d ≡ n → whole_depth b d K ≡ whole_depth b n K
same K b d n h = ap (λ x. whole_depth b x K) h

depth_low : (t : Node) → 1 ≤ depth t
depth_low (node l s ts) = omega arith

values_low : (n : ℕ) → least_values n ≤ 1
values_low zero = omega arith
values_low (suc n) = omega arith

-- What a tree is handed to keeps the least depth.

need_end : (t : Node) (e : List (List ℕ)) (K : List Frame) → StatementTop K → least_depth (end_statement t e K) ≡ whole_depth false (depth t) K
need_end t e [] u = absurd u
need_end t e (InStatements s k before ts ∷ K) u = same K false _ _ (omega (arith, depths_join ts (one t)))
need_end t e (InArrowCommands s before ns ts ∷ K) u = same K false _ _ (omega (arith, depths_join ts (one t)))
need_end t e (InStatementParen s ∷ K) u = refl
need_end t e (f ∷ K) u = absurd u

need_next : (w : List ℕ) (s : Span) (ts : Nodes) (is : List Need) (last : Last) (e : List (List ℕ)) (K : List Frame) → Under last K → least_depth (next w s ts is last e K) ≡ whole_depth false (suc (max (depths ts) (least_inputs is last))) K
need_next w s ts (Item ∷ is) last e K u = same K false _ _ (omega arith)
need_next w s ts (Whole ∷ is) last e K u = same K false _ _ (omega arith)
need_next w s ts (Within b ∷ is) last e K u = same K false _ _ (omega arith)
need_next w s ts (Maybe ∷ is) last e K u = same K false _ _ (omega arith)
need_next w s ts (Variable ∷ is) last e K u = same K false _ _ (omega arith)
need_next w s ts [] lasts.Item e K u = same K false _ _ (omega arith)
need_next w s ts [] (lasts.Block b) e K u = same K false _ _ (omega arith)
need_next w s ts [] lasts.Nothing e K u = need_end (node (label.Named w) s ts) e K u ∙ same K false _ _ (omega arith)

need_closed : (x : Shape) (t : Node) (e : List (List ℕ)) (K : List Frame) → least_depth (closed x t e K) ≡ whole_depth (is_literal x) (depth t) K
need_closed x t e [] = refl
need_closed x t e (InNear w s ts zero ∷ K) = same K false _ _ (omega (arith, depths_join ts (one t)))
need_closed x t e (InNear w s ts (suc zero) ∷ K) = same K false _ _ (omega (arith, depths_join ts (one t)))
need_closed x t e (InNear w s ts (suc (suc n)) ∷ K) = same K false _ _ (omega (arith, depths_join ts (one t)))
need_closed x t e (f ∷ K) = refl

begin_is : (w : List ℕ) (s : Span) (ts : Nodes) (n : ℕ) (K : List Frame) → 1 ≤ depths ts → begin_depth (InMany w s ts n ∷ K) ≡ whole_depth false (suc (max (max (depths ts) 1) (least_values n))) K
begin_is w s ts n [] h = refl
begin_is w s ts n (InParen p ∷ K) h = same K false _ _ (omega (arith, h, values_low n))
begin_is w s ts n (f ∷ K) h = refl

need_supply : (t : Node) (e : List (List ℕ)) (K : List Frame) → Supplied K → Fine K → least_depth (supply t e K) ≡ whole_depth false (depth t) K
need_supply t e [] u h = absurd u
need_supply t e (InCall w s ts i is last ∷ K) u h = need_next w s (and_last ts t) is last e K h.0 ∙ same K false _ _ (omega (arith, depths_join ts (one t)))
need_supply t e (InLastBlock w s ts b ∷ K) u h = need_closed Fixed (node (label.Named w) s (and_last ts t)) e K ∙ same K false _ _ (omega (arith, depths_join ts (one t)))
need_supply t e (InWith w s r ∷ K) u h = same K false _ _ (omega arith)
need_supply t e (f ∷ K) u h = absurd u

need_accept : (x : Shape) (t : Node) (e : List (List ℕ)) (K : List Frame) → Fine K → least_depth (accept x t e K) ≡ whole_depth (is_literal x) (depth t) K
need_accept x t e [] h = refl
need_accept x t e (InCall w s ts i is last ∷ K) h = need_next w s (and_last ts t) is last e K h.0 ∙ same K false _ _ (omega (arith, depths_join ts (one t)))
need_accept x t e (InLet w s n r ∷ K) h = need_end (node (label.Named w) s (two (leaf (label.Named n) r) t)) (n ∷ e) K h.0 ∙ same K false _ _ (omega arith)
need_accept x t e (InMany w s ts zero ∷ K) h = refl
need_accept x t e (InMany w s ts (suc n) ∷ K) h = begin_is w s (and_last ts t) n K (omega (arith, depths_join ts (one t), depth_low t)) ∙ same K false _ _ (omega (arith, depths_join ts (one t), depth_low t, values_low n))
need_accept x t e (InItems p l s ts ∷ K) h = same K false _ _ (omega (arith, depths_join ts (one t)))
need_accept x t e (f ∷ K) h = refl

abbrev got_need : Got → ℕ
got_need (got x t K) = whole_depth (is_literal x) (depth t) K

need_settle : (l : ℕ) (x : Shape) (t : Node) (K : List Frame) → got_need (settle l x t K) ≡ whole_depth (is_literal x) (depth t) K
need_settle l x t [] = refl
need_settle l x t (f ∷ K) = at (closes l f) refl (need_settle l (built_shape f) (build f t) K)
  where
    built : (f : Frame) → closes l f ≡ true → whole_depth (is_literal (built_shape f)) (depth (build f t)) K ≡ whole_depth (is_literal x) (depth t) (f ∷ K)
    built (InBinary m w s u) h = same K false _ _ (omega arith)
    built (InOf w s b) h = same K false _ _ (omega arith)
    built (InLastItem w s ts) h = same K false _ _ (omega (arith, depths_join ts (one t)))
    built (InMany w s ts zero) h = same K false _ _ (omega (arith, depths_join ts (one t), depth_low t))
    built (InMany w s ts (suc n)) h = cc h
    built (InNear w s ts zero) h = same K false _ _ (omega (arith, depths_join ts (one t)))
    built (InNear w s ts (suc n)) h = cc h
    built f h = cc h

    at : (b : Bool) → closes l f ≡ b → got_need (settle l (built_shape f) (build f t) K) ≡ whole_depth (is_literal (built_shape f)) (depth (build f t)) K → got_need (settle l x t (f ∷ K)) ≡ whole_depth (is_literal x) (depth t) (f ∷ K)
    at true q h = ap got_need (settle_on l x t f K q) ∙ h ∙ built f q
    at false q h = ap got_need (settle_stop l x t f K q)

abbrev pub Grows : ℕ → Step → Type 0
Grows n (go s) = n ≤ least_depth s
Grows n stop = Unit {0}

by : (m n k : ℕ) → m ≤ n → k ≡ n → m ≤ k
by m n k h q = subst (λ x. m ≤ x) (sym q) h

bracket_low : (s : Span) (b : Bool) (d : ℕ) → 1 ≤ frame_depth (InBracket s) b d
bracket_low s true d = omega arith
bracket_low s false d = omega arith

begin_low : (K : List Frame) (b : Bool) (d : ℕ) → 1 ≤ d → begin_depth K ≤ whole_depth b d K
begin_low [] b d h = h
begin_low (InBracket s ∷ K) b d h = over_frame (InBracket s) K true b 1 d (loosens_true (stays_literal (InBracket s) b)) (bracket_low s b d)
begin_low (InItems p l s ts ∷ K) b d h = rises K false false (suc (suc (depths ts))) (suc (suc (max (depths ts) d))) tt (omega arith)
begin_low (InMany w s ts n ∷ InParen p ∷ K) b d h = rises K false false (suc (suc (depths ts))) (suc (suc (max (max (depths ts) d) (least_values n)))) tt (omega arith)
begin_low (InMany w s ts n ∷ []) b d h = rises (InMany w s ts n ∷ []) true b 1 d (loosens_true b) h
begin_low (InMany w s ts n ∷ f ∷ K) b d h = rises (InMany w s ts n ∷ f ∷ K) true b 1 d (loosens_true b) h
begin_low (f ∷ K) b d h = rises (f ∷ K) true b 1 d (loosens_true b) h

-- Each step.

grows_items : (s : Span) (ts : Nodes) (e : List (List ℕ)) (K : List Frame) (tok : Tok) (n : ℕ) → n ≤ whole_depth true 0 (InList s ts ∷ K) → Grows n (feed_items s ts e K tok)
grows_items s ts e K (number m r) n h = omega (arith, h, rises K true true (suc (max (depths ts) 0)) (suc (max (depths (and_last ts (leaf (label.Number m) r))) 0)) tt (omega (arith, depths_join ts (one (leaf (label.Number m) r)))))
grows_items s ts e K (text m r) n h = omega (arith, h, rises K true true (suc (max (depths ts) 0)) (suc (max (depths (and_last ts (leaf (label.Text m) r))) 0)) tt (omega (arith, depths_join ts (one (leaf (label.Text m) r)))))
grows_items s ts e K (word v Constant r) n h = omega (arith, h, rises K true true (suc (max (depths ts) 0)) (suc (max (depths (and_last ts (leaf (label.Named v) r))) 0)) tt (omega (arith, depths_join ts (one (leaf (label.Named v) r)))))
grows_items s ts e K (open_bracket r) n h = omega (arith, h, over_frame (InList r none) (InList s ts ∷ K) true true 0 0 tt (omega arith))
grows_items s ts e (InList r us ∷ K) (close_bracket q) n h = omega (arith, h, rises K true true (suc (max (depths us) (suc (max (depths ts) 0)))) (suc (max (depths (and_last us (node label.List s ts))) 0)) tt (omega (arith, depths_join us (one (node label.List s ts)))))
grows_items s ts e [] (close_bracket q) n h = omega (arith, h)
grows_items s ts e (f ∷ K) (close_bracket q) n h = by _ _ _ (omega (arith, h, rises (f ∷ K) true true (suc (max (depths ts) 0)) (suc (depths ts)) tt (omega arith))) (need_closed Literal (node label.List s ts) e (f ∷ K))
grows_items s ts e K tok n h = tt

grows_call : (v : List ℕ) (s : Span) (is : List Need) (e : List (List ℕ)) (K : List Frame) → Begins K → Grows (begin_depth K) (begin_call v s is e K)
grows_call v s is e [] u = by _ _ _ (begin_low [] false (suc (max 0 (least_inputs is lasts.Item))) (omega arith)) (need_next v s none is lasts.Item e [] u)
grows_call v s is e (InNear t r us zero ∷ K) u = by _ _ _ (begin_low (InNear t r us zero ∷ K) false (suc (max 0 (least_inputs is lasts.Item))) (omega arith)) (need_next v s none is lasts.Item e (InNear t r us zero ∷ K) u)
grows_call v s is e (InNear t r us (suc n) ∷ K) u = tt
grows_call v s is e (f ∷ K) u = by _ _ _ (begin_low (f ∷ K) false (suc (max 0 (least_inputs is lasts.Item))) (omega arith)) (need_next v s none is lasts.Item e (f ∷ K) u)

grows_many : (v : List ℕ) (s : Span) (n : ℕ) (e : List (List ℕ)) (K : List Frame) → Grows (begin_depth K) (begin_many v s n e K)
grows_many v s n e [] = begin_low [] false (suc (max (max 0 1) (least_values n))) (omega arith)
grows_many v s n e (InParen p ∷ K) = omega arith
grows_many v s n e (InNear t r us zero ∷ K) = begin_low (InNear t r us zero ∷ K) false (suc (max (max 0 1) (least_values n))) (omega arith)
grows_many v s n e (InNear t r us (suc m) ∷ K) = tt
grows_many v s n e (f ∷ K) = begin_low (f ∷ K) false (suc (max (max 0 1) (least_values n))) (omega arith)

grows_minus : (m : Bool) (r : Span) (e : List (List ℕ)) (K : List Frame) → Grows (begin_depth K) (begin_minus m r e K)
grows_minus true r e [] = tt
grows_minus true r e (InParen s ∷ K) = rises K false false 2 3 tt (omega arith)
grows_minus true r e (f ∷ K) = tt
grows_minus false r e K = tt

grows_end_many : (e : List (List ℕ)) (K : List Frame) → Grows (begin_depth K) (end_many e K)
grows_end_many e [] = tt
grows_end_many e (InItems p l s ts ∷ K) = by _ _ _ (rises K false false (suc (suc (depths ts))) (suc (max (suc (depths ts)) 0)) tt (omega arith)) (need_closed Fixed (node label.Paren p (one (node l s ts))) e K)
grows_end_many e (InMany w s ts n ∷ InParen p ∷ K) = by _ _ _ (rises K false false (suc (suc (depths ts))) (suc (max (suc (depths ts)) 0)) tt (omega arith)) (need_closed Fixed (node label.Paren p (one (node (label.Named w) s ts))) e K)
grows_end_many e (f ∷ K) = tt

grows_open : (s : Span) (e : List (List ℕ)) (K : List Frame) → Grows (begin_depth K) (begin_bracket s e K)
grows_open s e [] = omega arith
grows_open s e (InNear t r us n ∷ K) = rises (InNear t r us n ∷ K) true true 1 (suc 0) tt (omega arith)
grows_open s e (f ∷ K) = begin_low (f ∷ K) true 1 (omega arith)

-- in an arrow block: in it stands a node of commands, or an expression
grows_content : (k : Content) (s : Span) (before ns e : List (List ℕ)) (K : List Frame) → whole_depth false 2 K ≤ least_depth (begin_content k s before ns e K)
grows_content contents.Commands s before ns e K = omega arith
grows_content contents.Reporter s before ns e K = omega arith

grows_head_name : (b : Bool) (k : Content) (n : ℕ) (s : Span) (before ns : List (List ℕ)) (v : List ℕ) (e : List (List ℕ)) (K : List Frame) → Grows (whole_depth false 2 K) (feed_head_name b k n s before ns v e K)
grows_head_name true k (suc n) s before ns v e K = omega arith
grows_head_name true k zero s before ns v e K = tt
grows_head_name false k n s before ns v e K = tt

grows_lone_name : (b : Bool) (k : Content) (n : ℕ) (s : Span) (v : List ℕ) (e : List (List ℕ)) (K : List Frame) → Grows (whole_depth false 2 K) (feed_lone_name b k n s v e K)
grows_lone_name true k (suc n) s v e K = omega arith
grows_lone_name true k zero s v e K = tt
grows_lone_name false k n s v e K = tt

-- a word that has no row and isn't known
grows_new : (v : List ℕ) (s : Span) (e : List (List ℕ)) (K : List Frame) → Grows (begin_depth K) (feed_local false v s e K)
grows_new v s e (InBracket r ∷ InNoHead p n ∷ K) = grows_head_name true contents.Reporter n p e [] v e K
grows_new v s e K = tt

grows_begin : (e : List (List ℕ)) (K : List Frame) (tok : Tok) → Begins K → Grows (begin_depth K) (feed_begin e K tok)
grows_begin e K (number n s) u = by (begin_depth K) _ _ (begin_low K true 1 (omega arith)) (need_closed Literal (leaf (label.Number n) s) e K)
grows_begin e K (text n s) u = by (begin_depth K) _ _ (begin_low K true 1 (omega arith)) (need_closed Literal (leaf (label.Text n) s) e K)
grows_begin e K (word v Unknown s) u = at (among v e)
  where
    at : (b : Bool) → Grows (begin_depth K) (feed_local b v s e K)
    at true = by (begin_depth K) _ _ (begin_low K false 1 (omega arith)) (need_closed Fixed (leaf (label.Named v) s) e K)
    at false = grows_new v s e K
grows_begin e K (word v Constant s) u = by (begin_depth K) _ _ (begin_low K true 1 (omega arith)) (need_closed Literal (leaf (label.Named v) s) e K)
grows_begin e K (word v Plain s) u = by (begin_depth K) _ _ (begin_low K false 1 (omega arith)) (need_closed Fixed (leaf (label.Named v) s) e K)
grows_begin e K (word v Named s) u = by (begin_depth K) _ _ (begin_low K false 1 (omega arith)) (need_closed Fixed (leaf (label.Named v) s) e K)
grows_begin e K (word v (Prefix is) s) u = grows_call v s is e K u
grows_begin e K (word v (Closing is b) s) u = by (begin_depth K) _ _ (begin_low K false (suc (max 0 (least_inputs is (lasts.Block b)))) (omega arith)) (need_next v s none is (lasts.Block b) e K u)
grows_begin e K (word v (Many n) s) u = grows_many v s n e K
grows_begin e K (word v (Binary l m) s) u = grows_minus m s e K
grows_begin e K (close_paren s) u = grows_end_many e K
grows_begin e K (open_bracket s) u = grows_open s e K
grows_begin e (InBracket s ∷ K) (close_bracket r) u = by _ _ _ (omega arith) (need_closed Literal (node label.List s none) e K)
grows_begin e [] (close_bracket r) u = tt
grows_begin e (f ∷ K) (close_bracket r) u = tt
grows_begin e K (open_paren s) u = begin_low K false (suc 1) (omega arith)
grows_begin e K tok u = tt

grows_opening : (b : Block) (e : List (List ℕ)) (K : List Frame) (tok : Tok) → Grows (whole_depth false (least_block b) K) (feed_opening b e K tok)
grows_opening blocks.Commands e K (open_bracket s) = rises K false false 1 (suc (max 0 0)) tt (omega arith)
grows_opening blocks.Reporter e K (open_bracket s) = rises K false false 2 (suc 1) tt (omega arith)
grows_opening (blocks.Arrow k n) e K (open_bracket s) = omega arith
grows_opening blocks.Commands e K tok = tt
grows_opening blocks.Reporter e K tok = tt
grows_opening (blocks.Arrow k n) e K tok = tt

grows_choosing : (e : List (List ℕ)) (K : List Frame) (tok : Tok) → VariableTop K → Fine K → Grows (whole_depth false 1 K) (feed_choosing e K tok)
grows_choosing e K (word v Named s) u h = by (whole_depth false 1 K) _ _ (rises K false false 1 (suc 0) tt (omega arith)) (need_supply (leaf (label.Named v) s) e K (variable_supplied K u) h)
grows_choosing e K (word v Unknown s) u h = at (among v e)
  where
    at : (b : Bool) → Grows (whole_depth false 1 K) (feed_variable b v s e K)
    at true = by (whole_depth false 1 K) _ _ (rises K false false 1 (suc 0) tt (omega arith)) (need_supply (leaf (label.Named v) s) e K (variable_supplied K u) h)
    at false = tt
grows_choosing e K tok u h = tt

grows_blocked : (b : Node) (e : List (List ℕ)) (K : List Frame) (tok : Tok) → Grows (whole_depth false (suc (max (depth b) 1)) K) (feed_blocked b e K tok)
grows_blocked b e K (word v Of s) = rises K false false (suc (max (depth b) 1)) (suc (max (depth b) 1)) tt (omega arith)
grows_blocked b e K tok = tt

grows_listing : (e : List (List ℕ)) (K : List Frame) (tok : Tok) → Grows (whole_depth true 0 K) (feed_listing e K tok)
grows_listing e [] tok = tt
grows_listing e (InList s ts ∷ K) tok = grows_items s ts e K tok (whole_depth true 0 (InList s ts ∷ K)) (omega arith)
grows_listing e (f ∷ K) tok = tt

grows_bracket : (x : Shape) (t : Node) (s : Span) (e : List (List ℕ)) (K : List Frame) (tok : Tok) → Grows (whole_depth (is_literal x) (depth t) (InBracket s ∷ K)) (feed_bracket x t s e K tok)
grows_bracket Literal t s e K tok = grows_items s (one t) e K tok (whole_depth true (depth t) (InBracket s ∷ K)) (rises K true true (suc (depth t)) (suc (max (max (depth t) 0) 0)) tt (omega arith))
grows_bracket Growing t s e K (close_bracket r) = rises K false false (suc (max (suc (depth t)) 1)) (suc (max (suc (max (depth t) 0)) 1)) tt (omega arith)
grows_bracket Growing t s e K tok = tt
grows_bracket Fixed t s e K (close_bracket r) = rises K false false (suc (max (suc (depth t)) 1)) (suc (max (suc (max (depth t) 0)) 1)) tt (omega arith)
grows_bracket Fixed t s e K tok = tt

grows_paren : (x : Shape) (t : Node) (p : Span) (e : List (List ℕ)) (K : List Frame) (tok : Tok) → Grows (whole_depth (is_literal x) (depth t) (InParen p ∷ K)) (feed_paren x t p e K tok)
grows_paren x t p e K (close_paren r) = by _ _ _ (rises K false false (suc (depth t)) (suc (max (depth t) 0)) tt (omega arith)) (need_closed Fixed (node label.Paren p (one t)) e K)
grows_paren Growing (node l s ts) p e K tok = grows_begin e (InItems p l s ts ∷ K) tok tt
grows_paren Literal t p e K tok = tt
grows_paren Fixed t p e K tok = tt

grows_no_head : (x : Shape) (t : Node) (s : Span) (n : ℕ) (e : List (List ℕ)) (K : List Frame) (tok : Tok) → Fine (InNoHead s n ∷ K) → Grows (whole_depth (is_literal x) (depth t) (InNoHead s n ∷ K)) (feed_no_head t s e K tok)
grows_no_head x (node label.List r none) s n e K (word v Arrow q) h = grows_content contents.Reporter s e [] e K
grows_no_head x t s n e K (close_bracket r) h = by _ _ _ (rises K false false (suc (depth t)) (suc (max (depth t) 0)) tt (omega arith)) (need_supply (node (label.Arrow []) s (one t)) e K (block_supplied (blocks.Arrow contents.Reporter n) K h.0) h.1)
grows_no_head x t s n e K tok h = tt

grows_shut : (x : Shape) (t : Node) (e : List (List ℕ)) (K : List Frame) (tok : Tok) → Fine K → Grows (whole_depth (is_literal x) (depth t) K) (feed_shut x t e K tok)
grows_shut x t e (InParen p ∷ K) tok h = grows_paren x t p e K tok
grows_shut x t e (InMinus p s ∷ K) (close_paren r) h = by _ _ _ (rises K false false (suc (suc (depth t))) (suc (max (suc (max (depth t) 0)) 0)) tt (omega arith)) (need_closed Fixed (node label.Paren p (one (node label.Negate s (one t)))) e K)
grows_shut x t e (InMinus p s ∷ K) tok h = tt
grows_shut x t e (InReporter s ∷ K) (close_bracket r) h = by _ _ _ (rises K false false (suc (depth t)) (suc (max (depth t) 0)) tt (omega arith)) (need_supply (node label.Reporter s (one t)) e K (block_supplied blocks.Reporter K h.0) h.1)
grows_shut x t e (InReporter s ∷ K) tok h = tt
grows_shut x t e (InNoHead s n ∷ K) tok h = grows_no_head x t s n e K tok h
grows_shut x t e (InArrowReporter s before ns ∷ K) (close_bracket r) h = by _ _ _ (rises K false false (suc (depth t)) (suc (max (depth t) 0)) tt (omega arith)) (need_supply (node (label.Arrow ns) s (one t)) before K (block_supplied (blocks.Arrow contents.Reporter h.0) K h.1) h.2)
grows_shut x t e (InArrowReporter s before ns ∷ K) tok h = tt
grows_shut x t e (InBracket s ∷ K) tok h = grows_bracket x t s e K tok
grows_shut x t e [] (end r) h = omega arith
grows_shut x t e [] tok h = tt
grows_shut x t e (f ∷ K) tok h = tt

grows_ending : (k : Ending) (s : Span) (ts : Nodes) (before : List (List ℕ)) (K : List Frame) (tok : Tok) → Fine (InStatements s k before ts ∷ K) → Grows (whole_depth false 0 (InStatements s k before ts ∷ K)) (feed_ending k s ts before K tok)
grows_ending AtBracket s ts before K (close_bracket r) h = by _ _ _ (rises K false false (suc (max (depths ts) 0)) (suc (depths ts)) tt (omega arith)) (need_supply (node label.Commands s ts) before K (block_supplied blocks.Commands K h.0) h.1)
grows_ending AtBracket s ts before K tok h = tt
grows_ending AtEnd s ts before [] (end r) h = omega arith
grows_ending AtEnd s ts before (f ∷ K) tok h = absurd h
grows_ending AtEnd s ts before [] tok h = tt

grows_arrow_ending : (s : Span) (before ns : List (List ℕ)) (ts : Nodes) (K : List Frame) (tok : Tok) → Fine (InArrowCommands s before ns ts ∷ K) → Grows (whole_depth false 0 (InArrowCommands s before ns ts ∷ K)) (feed_arrow_ending s before ns ts K tok)
grows_arrow_ending s before ns ts K (close_bracket r) h = by _ _ _ (rises K false false (suc (suc (max (depths ts) 0))) (suc (max (suc (depths ts)) 0)) tt (omega arith)) (need_supply (node (label.Arrow ns) s (one (node label.Commands s ts))) before K (block_supplied (blocks.Arrow contents.Commands h.0) K h.1) h.2)
grows_arrow_ending s before ns ts K tok h = tt

grows_statement : (e : List (List ℕ)) (K : List Frame) (tok : Tok) (n : ℕ) → StatementTop K → n ≤ whole_depth false 1 K → Grows n (feed_statement e K tok)
grows_statement e K (word v (Command is) s) n u h = by _ _ _ (omega (arith, h, rises K false false 1 (suc (max 0 (least_inputs is lasts.Nothing))) tt (omega arith))) (need_next v s none is lasts.Nothing e K u)
grows_statement e K (word v Let s) n u h = omega (arith, h, rises K false false 1 2 tt (omega arith))
grows_statement e K (open_paren s) n u h = omega (arith, h, rises K false false 1 2 tt (omega arith))
grows_statement e K tok n u h = tt

grows_stating : (e : List (List ℕ)) (K : List Frame) (tok : Tok) → StatementTop K → Fine K → Grows (statement_depth K) (feed_stating e K tok)
grows_stating e [] tok u h = absurd u
grows_stating e (InStatementParen s ∷ K) tok u h = grows_statement e (InStatementParen s ∷ K) tok (whole_depth false 1 (InStatementParen s ∷ K)) u (omega arith)
grows_stating e (InArrowCommands s before ns ts ∷ K) (word v c r) u h = grows_statement e (InArrowCommands s before ns ts ∷ K) (word v c r) (whole_depth false 0 (InArrowCommands s before ns ts ∷ K)) u (rises (InArrowCommands s before ns ts ∷ K) false false 0 1 tt (omega arith))
grows_stating e (InArrowCommands s before ns ts ∷ K) (open_paren r) u h = grows_statement e (InArrowCommands s before ns ts ∷ K) (open_paren r) (whole_depth false 0 (InArrowCommands s before ns ts ∷ K)) u (rises (InArrowCommands s before ns ts ∷ K) false false 0 1 tt (omega arith))
grows_stating e (InArrowCommands s before ns ts ∷ K) tok u h = grows_arrow_ending s before ns ts K tok h
grows_stating e (InStatements s k before ts ∷ K) (word v c r) u h = grows_statement e (InStatements s k before ts ∷ K) (word v c r) (whole_depth false 0 (InStatements s k before ts ∷ K)) u (rises (InStatements s k before ts ∷ K) false false 0 1 tt (omega arith))
grows_stating e (InStatements s k before ts ∷ K) (open_paren r) u h = grows_statement e (InStatements s k before ts ∷ K) (open_paren r) (whole_depth false 0 (InStatements s k before ts ∷ K)) u (rises (InStatements s k before ts ∷ K) false false 0 1 tt (omega arith))
grows_stating e (InStatements s k before ts ∷ K) tok u h = grows_ending k s ts before K tok h
grows_stating e (f ∷ K) tok u h = absurd u

grows_naming : (v : List ℕ) (s : Span) (e : List (List ℕ)) (K : List Frame) (tok : Tok) → Grows (whole_depth false 2 K) (feed_naming v s e K tok)
grows_naming v s e K (word n Unknown r) = at (not (among n e))
  where
    at : (b : Bool) → Grows (whole_depth false 2 K) (feed_fresh b v s n r e K)
    at true = rises K false false 2 (suc (max 1 1)) tt (omega arith)
    at false = tt
grows_naming v s e K tok = tt

grows_ended : (t : Node) (e : List (List ℕ)) (K : List Frame) (tok : Tok) → Fine K → Grows (whole_depth false (depth t) K) (feed_ended t e K tok)
grows_ended t e [] tok h = tt
grows_ended t e (InStatementParen s ∷ K) (close_paren r) h = by _ _ _ (rises K false false (suc (depth t)) (suc (max (depth t) 0)) tt (omega arith)) (need_end (node label.Paren s (one t)) e K h.0)
grows_ended t e (InStatementParen s ∷ K) tok h = tt
grows_ended t e (f ∷ K) tok h = tt

-- right behind the bracket of an arrow block, and in its head
grows_heading : (k : Content) (n : ℕ) (s : Span) (e : List (List ℕ)) (K : List Frame) (tok : Tok) → BlockTop (blocks.Arrow k n) K → Fine K → Grows (whole_depth false 2 K) (feed_heading k n s e K tok)
grows_heading contents.Commands n s e K (word v Arrow r) u h = grows_content contents.Commands s e [] e K
grows_heading contents.Commands n s e K (word v Unknown r) u h = grows_lone_name (not (among v e)) contents.Commands n s v e K
grows_heading contents.Commands n s e K (open_bracket r) u h = omega arith
grows_heading contents.Commands n s e K tok u h = grows_stating e (InArrowCommands s e [] none ∷ K) tok tt (n, u, h)
grows_heading contents.Reporter n s e K (word v Arrow r) u h = grows_content contents.Reporter s e [] e K
grows_heading contents.Reporter n s e K (word v Unknown r) u h = at (among v e)
  where
    at : (b : Bool) → Grows (whole_depth false 2 K) (feed_first b n s v r e K)
    at true = by _ _ _ (omega arith) (need_closed Fixed (leaf (label.Named v) r) e (InNoHead s n ∷ K))
    at false = grows_lone_name true contents.Reporter n s v e K
grows_heading contents.Reporter n s e K tok u h = grows_begin e (InNoHead s n ∷ K) tok tt

grows_in_head : (k : Content) (n : ℕ) (s : Span) (before ns e : List (List ℕ)) (K : List Frame) (tok : Tok) → Grows (whole_depth false 2 K) (feed_in_head k n s before ns e K tok)
grows_in_head k n s before ns e K (word v Unknown r) = grows_head_name (not (among v e)) k n s before ns v e K
grows_in_head k n s before ns e K (close_bracket r) = omega arith
grows_in_head k n s before ns e K tok = tt

grows_behind : (k : Content) (s : Span) (before ns e : List (List ℕ)) (K : List Frame) (tok : Tok) → Grows (whole_depth false 2 K) (feed_behind k s before ns e K tok)
grows_behind k s before ns e K (word v Arrow r) = grows_content k s before ns e K
grows_behind k s before ns e K tok = tt

grows_plain : (s : State) (tok : Tok) → FineState s → Grows (least_depth s) (feed_plain s tok)
grows_plain (st Begin e K) tok h = grows_begin e K tok h.0
grows_plain (st (Opening b) e K) tok h = grows_opening b e K tok
grows_plain (st (Heading k n s) e K) tok h = grows_heading k n s e K tok h.0 h.1
grows_plain (st (InHead k n s before ns) e K) tok h = grows_in_head k n s before ns e K tok
grows_plain (st (Behind k s before ns) e K) tok h = grows_behind k s before ns e K tok
grows_plain (st Optional e K) tok h = tt
grows_plain (st Choosing e K) tok h = grows_choosing e K tok h.0 h.1
grows_plain (st (Have x t) e K) tok h = tt
grows_plain (st (Blocked b) e K) tok h = grows_blocked b e K tok
grows_plain (st (Shut x t) e K) tok h = grows_shut x t e K tok h.1
grows_plain (st Listing e K) tok h = grows_listing e K tok
grows_plain (st Stating e K) tok h = grows_stating e K tok h.0 h.1
grows_plain (st (Naming w s) e K) tok h = grows_naming w s e K tok
grows_plain (st (Ended t) e K) tok h = grows_ended t e K tok h.1
grows_plain (st (Over t) e K) tok h = tt
grows_plain (st Dead e K) tok h = tt

missing_same : (is : List Need) (last : Last) → least_inputs (without_maybes is) last ≡ least_inputs is last
missing_same (Item ∷ is) last = refl
missing_same (Whole ∷ is) last = refl
missing_same (Within b ∷ is) last = refl
missing_same (Maybe ∷ is) last = omega (arith, missing_same is last)
missing_same (Variable ∷ is) last = refl
missing_same [] last = refl

module _ (kind : Form) (e0 : List (List ℕ)) (w : List Tok) where
  grows_missing : (v : List ℕ) (s : Span) (ts : Nodes) (is : List Need) (last : Last) (e : List (List ℕ)) (K : List Frame) (tok : Tok) (c : List Tok) → IsTrue (not (opens (tok ∷ c))) → Opens kind e0 w e (InCall v s ts Maybe is last ∷ K) (tok ∷ c) → Grows (whole_depth false (suc (max (depths ts) (least_inputs is last))) K) (feed_plain (next v s ts (without_maybes is) last e K) tok)
  grows_missing v s ts is last e K tok c q o = subst (λ n. Grows n (feed_plain (next v s ts (without_maybes is) last e K) tok)) (need_next v s ts (without_maybes is) last e K o.3 ∙ same K false _ _ (omega (arith, missing_same is last))) (grows_plain (next v s ts (without_maybes is) last e K) tok (fine_state kind e0 w (next v s ts (without_maybes is) last e K) (tok ∷ c) (reached_missing kind e0 w v s ts is last e K (tok ∷ c) q o)))

  grows_optional : (e : List (List ℕ)) (K : List Frame) (tok : Tok) (c : List Tok) → MaybeTop K → Opens kind e0 w e K (tok ∷ c) → Grows (optional_depth K) (feed_optional e K tok)
  grows_optional e (InCall v s ts Maybe is last ∷ K) (open_bracket r) c u o = rises K false false (suc (max (depths ts) (least_inputs is last))) (suc (max (max (depths ts) (suc (max 0 0))) (least_inputs is last))) tt (omega arith)
  grows_optional e (InCall v s ts Maybe is last ∷ K) tok c u o = grows_missing v s ts is last e K tok c refl o
  grows_optional e K tok c u o = absurd u

  grows_ready : (s : State) (tok : Tok) (c : List Tok) → Reached kind e0 w s (tok ∷ c) → Grows (least_depth s) (feed_ready s tok)
  grows_ready (st Optional e K) tok c h = grows_optional e K tok c h.0 h.1
  grows_ready s tok c h = grows_plain s tok (fine_state kind e0 w s (tok ∷ c) h)

  grows_have : (x : Shape) (t : Node) (e : List (List ℕ)) (K : List Frame) (tok : Tok) (a c : List Tok) → Reads Chain e a (tok ∷ c) (one t) → Fits x e a (tok ∷ c) t → Expr K → Opens kind e0 w e K a → Grows (whole_depth (is_literal x) (depth t) K) (feed_have x t e K tok)
  grows_have x t e K (word v With s) a c d fit u o = rises K (is_literal x) false (depth t) (suc (max (depth t) 2)) (loosens_false (is_literal x)) (omega arith)
  grows_have x t e K (word v (Near zero) s) a c d fit u o = rises K (is_literal x) false (depth t) (suc (max (max (max (depth t) 0) 1) 0)) (loosens_false (is_literal x)) (omega arith)
  grows_have x t e K (word v (Near (suc n)) s) a c d fit u o = rises K (is_literal x) false (depth t) (suc (max (max (max (depth t) 0) 1) 1)) (loosens_false (is_literal x)) (omega arith)
  grows_have x (node label.List r (more y none)) e K (word v Of s) a c d fit u o = rises K (is_literal x) false (suc (max (depth y) 0)) (suc (max (suc (max (depth y) 0)) 1)) (loosens_false (is_literal x)) (omega arith)
  grows_have x t e K (word v Of s) a c d fit u o = tt
  grows_have x t e K (word v (Binary l m) s) a c d fit u o = at (nat_lt l top)
    where
      push : (b : Bool) (g : Got) → got_need g ≡ whole_depth (is_literal x) (depth t) K → Grows (whole_depth (is_literal x) (depth t) K) (feed_operator b l v s e g)
      push true (got y r L) q = omega (arith, q, rises L (is_literal y) false (depth r) (suc (max (depth r) 1)) (loosens_false (is_literal y)) (omega arith))
      push false (got y r L) q = tt

      at : (b : Bool) → Grows (whole_depth (is_literal x) (depth t) K) (feed_binary b l v s e (settle (suc l) x t K))
      at true = push (got_takes (settle (suc l) x t K)) (settle (suc l) x t K) (need_settle (suc l) x t K)
      at false = tt
  grows_have x t e K tok a c d fit u o = at (settle top x t K) (need_settle top x t K) (reached_settle kind e0 w top e (tok ∷ c) x t K a zero (omega arith) (item_chain d) fit (omega arith) tt u o)
    where
      at : (g : Got) → got_need g ≡ whole_depth (is_literal x) (depth t) K → Settled kind e0 w top e (tok ∷ c) g → Grows (whole_depth (is_literal x) (depth t) K) (feed_broken e g tok)
      at (got y r L) q z =
          let h = reached_accept kind e0 w e (tok ∷ c) (got y r L) z in
          subst (λ n. Grows n (feed_ready (accept y r e L) tok)) (need_accept y r e L (fine kind e0 w e L z.0 z.8) ∙ q) (grows_ready (accept y r e L) tok c h)

  -- no token lowers the least depth
  pub grows : (s : State) (tok : Tok) (c : List Tok) → Reached kind e0 w s (tok ∷ c) → Grows (least_depth s) (feed s tok)
  grows (st (Have x t) e K) tok c h = grows_have x t e K tok h.0 c h.1 h.2 h.3 h.4
  grows s tok c h = grows_ready s tok c h
