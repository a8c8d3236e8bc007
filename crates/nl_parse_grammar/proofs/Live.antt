-- What is open can be completed.
use Rattle.std.proofs.Common.{◌≡◌, ℕ, zero, suc, max, Bool, true, false, not, List, [], ◌∷◌, ◌++◌, map, refl, sym, ◌∙◌, ap, subst, IsTrue, ◌≤◌, arith, codes}
use Rattle.std.proofs.lemmas.Bool.{le-leb}
use Rattle.nl_fixed.specs.declared.span.Span.{Span}
use Rattle.nl_tree.specs.declared.tree.Label.TheVariants as label
use Rattle.nl_tree.specs.Tree.{Node, node, Nodes, none, more, depth, depths}
use Rattle.nl_tree.specs.Vocabulary.{among}
use Rattle.nl_tree.specs.Tokens.{Unknown, Constant, Named, Command, With, Near, Of, Binary, Arrow, Tok, word, open_bracket, close_bracket, close_paren, end}
use Rattle.nl_tree.specs.declared.needs.Block.{Block}
use Rattle.nl_tree.specs.declared.needs.Block.TheVariants as blocks
use Rattle.nl_tree.specs.declared.needs.Content.TheVariants as contents
use Rattle.nl_tree.specs.declared.needs.Content.{Content}
use Rattle.nl_tree.specs.declared.needs.Need.{Need}
use Rattle.nl_tree.specs.declared.needs.Need.TheVariants.{Item, Whole, Within, Maybe, Variable}
use Rattle.nl_tree.specs.Grammar.{one, two, leaf, join, and_last, opens, top}
use Rattle.nl_tree.specs.declared.needs.Ending.TheVariants.{AtBracket, AtEnd}
use Rattle.nl_parse_grammar.specs.Machine.{Frame, InBinary, InWith, InNear, InOf, InCall, InLastItem, InLastBlock, InMany, InItems, InParen, InMinus, InReporter, InNoHead, InArrowReporter, InArrowCommands, InBracket, InList, InLet, InStatementParen, InStatements, Begin, Opening, Heading, InHead, Behind, Optional, Choosing, Have, Blocked, Shut, Listing, Stating, Naming, Ended, Over, Dead, State, st, Step, go, end_statement, next, closed, supply, accept, end_list, closes, build, built_shape, begin_content, feed_fresh, feed_broken, run_from, run}
use Rattle.nl_parse_grammar.specs.declared.pending.Last.{Last}
use Rattle.nl_parse_grammar.specs.declared.pending.Last.TheVariants as lasts
use Rattle.nl_parse_grammar.specs.declared.pending.Shape.{Shape}
use Rattle.nl_parse_grammar.specs.declared.pending.Shape.TheVariants.{Literal, Growing, Fixed}
use Rattle.nl_parse_grammar.specs.Depth.{least_block, least_inputs, least_values, is_literal, whole_depth, begin_depth, optional_depth, statement_depth, least_depth}
use Rattle.nl_parse_grammar.specs.Completion.{Piece, AValue, AVariable, AStatement, AnOf, AnArrow, AName, ABracket, ItsBracket, ItsParen, ItsEnd, content_pieces, block_pieces, needs_bracket, maybe_pieces, input_pieces, values, bracket_pieces, items_pieces, rest_pieces, begin_pieces, optional_pieces, statement_pieces, pieces, nowhere}
use Rattle.nl_parse_grammar.proofs.Heads.{shut_no_head}
use Rattle.nl_parse_grammar.proofs.Complete.{settle_on, settle_stop, Breaking, break, missing}
use Rattle.nl_parse_grammar.proofs.Sound.{Expr, Begins, Callable, BlockTop, MaybeTop, VariableTop, ShutTop, ListTop, StatementTop, EndedTop, ListUnder, Under, expr_under, expr_begins}
use Rattle.nl_parse_grammar.proofs.Stack.{Fine, FineState, expr_callable}

pub depths_join : (ts us : Nodes) → depths (join ts us) ≡ max (depths ts) (depths us)
depths_join none us = omega arith
depths_join (more t ts) us = omega (arith, depths_join ts us)

-- a call in whose inputs a block must come has at least its depth
pub bracket_deep : (is : List Need) (last : Last) → needs_bracket is last ≡ true → 1 ≤ least_inputs is last
bracket_deep (Item ∷ is) last h = cc
bracket_deep (Whole ∷ is) last h = cc
bracket_deep (Within blocks.Commands ∷ is) last h = omega arith
bracket_deep (Within blocks.Reporter ∷ is) last h = omega arith
bracket_deep (Within (blocks.Arrow k n) ∷ is) last h = omega arith
bracket_deep (Maybe ∷ is) last h = omega (arith, bracket_deep is last h)
bracket_deep (Variable ∷ is) last h = cc
bracket_deep [] lasts.Item h = cc
bracket_deep [] (lasts.Block blocks.Commands) h = omega arith
bracket_deep [] (lasts.Block blocks.Reporter) h = omega arith
bracket_deep [] (lasts.Block (blocks.Arrow k n)) h = omega arith
bracket_deep [] lasts.Nothing h = cc

-- what waits for a block or a variable
abbrev pub Supplied : List Frame → Type 0
Supplied (InCall w s ts i is last ∷ K) = Unit {0}
Supplied (InLastBlock w s ts b ∷ K) = Unit {0}
Supplied (InWith w s t ∷ K) = Unit {0}
Supplied K = ⊥

pub block_supplied : (b : Block) (K : List Frame) → BlockTop b K → Supplied K
block_supplied b (InCall w s ts i is last ∷ K) h = tt
block_supplied b (InLastBlock w s ts k ∷ K) h = tt
block_supplied b (InWith w s t ∷ K) h = tt
block_supplied b [] h = absurd h
block_supplied b (f ∷ K) h = absurd h

pub variable_supplied : (K : List Frame) → VariableTop K → Supplied K
variable_supplied (InCall w s ts i is last ∷ K) h = tt
variable_supplied [] h = absurd h
variable_supplied (f ∷ K) h = absurd h

-- the step is the end of a text whose tree has this depth
pub record EndsIn (a : Step) (n : ℕ) : Type 0 where
  pub tree : Node
  pub names : List (List ℕ)
  pub stack : List Frame
  pub over : a ≡ go (st (Over tree) names stack)
  pub deep : depth tree ≡ n

after : {a a' : Step} {n n' : ℕ} → EndsIn a' n' → a ≡ a' → n' ≡ n → EndsIn a n
after f q h = record { tree = f.tree; names = f.names; stack = f.stack; over = q ∙ f.over; deep = f.deep ∙ h }

-- a chain goes over to what a token ends that is no operator
passes : (x : Shape) (t : Node) (e : List (List ℕ)) (f : Frame) (K : List Frame) (c : List Tok) → closes top f ≡ true → Breaking c → run (st (Have x t) e (f ∷ K)) c ≡ run (st (Have (built_shape f) (build f t)) e K) c
passes x t e f K [] q h = absurd h
passes x t e f K (word w With s ∷ c) q h = cc
passes x t e f K (word w (Near n) s ∷ c) q h = cc
passes x t e f K (word w Of s ∷ c) q h = cc
passes x t e f K (word w (Binary l m) s ∷ c) q h = cc
passes x t e f K (tok ∷ c) q h = ap (λ g. run_from (feed_broken e g tok) c) (settle_on top x t f K q)

module _ (fresh : List (List ℕ) → List ℕ) (is_fresh : (e : List (List ℕ)) → among (fresh e) e ≡ false) where
  abbrev pub tok_of : Piece → Tok
  tok_of AValue = word (codes "true") Constant nowhere
  tok_of AVariable = word (codes "color") Named nowhere
  tok_of AStatement = word (codes "stop") (Command []) nowhere
  tok_of AnOf = word (codes "of") Of nowhere
  tok_of AnArrow = word (codes "->") Arrow nowhere
  tok_of (AName e) = word (fresh e) Unknown nowhere
  tok_of ABracket = open_bracket nowhere
  tok_of ItsBracket = close_bracket nowhere
  tok_of ItsParen = close_paren nowhere
  tok_of ItsEnd = end nowhere

  abbrev pub toks : List Piece → List Tok
  toks ps = map tok_of ps

  -- What completes begins with a token that ends a chain.

  input_breaks : (is : List Need) (last : Last) (ps : List Piece) → Breaking (toks ps) → Breaking (toks (input_pieces is last ++ ps))
  input_breaks (Item ∷ is) last ps h = refl
  input_breaks (Whole ∷ is) last ps h = refl
  input_breaks (Within blocks.Commands ∷ is) last ps h = refl
  input_breaks (Within blocks.Reporter ∷ is) last ps h = refl
  input_breaks (Within (blocks.Arrow k n) ∷ is) last ps h = refl
  input_breaks (Maybe ∷ is) last ps h = at (needs_bracket is last) (input_breaks is last ps h)
    where
      at : (b : Bool) → Breaking (toks (input_pieces is last ++ ps)) → Breaking (toks ((maybe_pieces b ++ input_pieces is last) ++ ps))
      at true g = refl
      at false g = g
  input_breaks (Variable ∷ is) last ps h = refl
  input_breaks [] lasts.Item ps h = refl
  input_breaks [] (lasts.Block blocks.Commands) ps h = refl
  input_breaks [] (lasts.Block blocks.Reporter) ps h = refl
  input_breaks [] (lasts.Block (blocks.Arrow k n)) ps h = refl
  input_breaks [] lasts.Nothing ps h = h

  values_break : (n : ℕ) (ps : List Piece) → Breaking (toks ps) → Breaking (toks (values n ++ ps))
  values_break zero ps h = h
  values_break (suc n) ps h = refl

  items_break : (n : ℕ) (K : List Frame) (ps : List Piece) → Breaking (toks ps) → Breaking (toks (items_pieces n K ++ ps))
  items_break zero K ps h = h
  items_break (suc n) [] ps h = refl
  items_break (suc n) (InParen p ∷ K) ps h = h
  items_break (suc n) (f ∷ K) ps h = refl

  pub rest_breaks : (b : Bool) (K : List Frame) → Breaking (toks (rest_pieces b K))
  rest_breaks b [] = refl
  rest_breaks b (InBinary l w s t ∷ K) = rest_breaks false K
  rest_breaks b (InWith w s t ∷ K) = rest_breaks false K
  rest_breaks b (InNear w s ts n ∷ K) = values_break n (rest_pieces false K) (rest_breaks false K)
  rest_breaks b (InOf w s t ∷ K) = rest_breaks false K
  rest_breaks b (InCall w s ts i is last ∷ K) = input_breaks is last (rest_pieces false K) (rest_breaks false K)
  rest_breaks b (InLastItem w s ts ∷ K) = rest_breaks false K
  rest_breaks b (InLastBlock w s ts k ∷ K) = rest_breaks false K
  rest_breaks b (InMany w s ts n ∷ K) = items_break n K (rest_pieces false K) (rest_breaks false K)
  rest_breaks b (InItems p l s ts ∷ K) = refl
  rest_breaks b (InParen s ∷ K) = refl
  rest_breaks b (InMinus p s ∷ K) = refl
  rest_breaks b (InReporter s ∷ K) = refl
  rest_breaks b (InNoHead s n ∷ K) = refl
  rest_breaks b (InArrowReporter s before ns ∷ K) = refl
  rest_breaks b (InArrowCommands s before ns ts ∷ K) = refl
  rest_breaks true (InBracket s ∷ K) = refl
  rest_breaks false (InBracket s ∷ K) = refl
  rest_breaks b (InList s ts ∷ K) = refl
  rest_breaks b (InLet w s n r ∷ K) = rest_breaks false K
  rest_breaks b (InStatementParen s ∷ K) = refl
  rest_breaks b (InStatements s AtBracket before ts ∷ K) = refl
  rest_breaks b (InStatements s AtEnd before ts ∷ K) = refl

  -- and with no bracket that opens, where no block must come
  opens_none : (is : List Need) (last : Last) (K : List Frame) → Under last K → needs_bracket is last ≡ false → IsTrue (not (opens (toks (input_pieces is last ++ rest_pieces false K))))
  opens_none (Item ∷ is) last K u h = refl
  opens_none (Whole ∷ is) last K u h = refl
  opens_none (Within b ∷ is) last K u h = cc
  opens_none (Maybe ∷ is) last K u h = subst (λ b. IsTrue (not (opens (toks ((maybe_pieces b ++ input_pieces is last) ++ rest_pieces false K))))) (sym h) (opens_none is last K u h)
  opens_none (Variable ∷ is) last K u h = refl
  opens_none [] lasts.Item K u h = refl
  opens_none [] (lasts.Block b) K u h = cc
  opens_none [] lasts.Nothing (InStatementParen s ∷ K) u h = refl
  opens_none [] lasts.Nothing (InArrowCommands s before ns ts ∷ K) u h = refl
  opens_none [] lasts.Nothing (InStatements s AtBracket before ts ∷ K) u h = refl
  opens_none [] lasts.Nothing (InStatements s AtEnd before ts ∷ K) u h = refl
  opens_none [] lasts.Nothing [] u h = absurd u
  opens_none [] lasts.Nothing (f ∷ K) u h = absurd u

  -- the tokens complete the state to a tree of this depth
  abbrev pub Finishes : State → List Tok → ℕ → Type 0
  Finishes s a n = EndsIn (run s a) n

  deeper : (b : Bool) (d d' : ℕ) (K : List Frame) → d ≡ d' → whole_depth b d K ≡ whole_depth b d' K
  deeper b d d' K q = ap (λ x. whole_depth b x K) q

  -- A stack can be completed, whatever is handed to it.
  record Hands (K : List Frame) : Type 0 where
    pub have : Callable K → (e : List (List ℕ)) (x : Shape) (t : Node) → Finishes (st (Have x t) e K) (toks (rest_pieces (is_literal x) K)) (whole_depth (is_literal x) (depth t) K)
    pub closing : Begins K → (e : List (List ℕ)) (x : Shape) (t : Node) → Finishes (closed x t e K) (toks (rest_pieces (is_literal x) K)) (whole_depth (is_literal x) (depth t) K)
    pub supplying : Supplied K → (e : List (List ℕ)) (t : Node) → Finishes (supply t e K) (toks (rest_pieces false K)) (whole_depth false (depth t) K)
    pub stated : StatementTop K → (e : List (List ℕ)) (t : Node) → Finishes (end_statement t e K) (toks (rest_pieces false K)) (whole_depth false (depth t) K)
    pub listing : ListUnder K → (e : List (List ℕ)) (t : Node) → Finishes (end_list t e K) (toks (rest_pieces true K)) (whole_depth true (depth t) K)

  abbrev true_leaf : Node
  true_leaf = leaf (label.Named (codes "true")) nowhere

  -- the least arrow blocks
  abbrev empty_arrow : Node
  empty_arrow = node (label.Arrow []) nowhere (one (node label.Commands nowhere none))

  abbrev true_arrow : Node
  true_arrow = node (label.Arrow []) nowhere (one true_leaf)

  -- where a token ends what is open
  through : (f : Frame) (K : List Frame) → Callable K → closes top f ≡ true → is_literal (built_shape f) ≡ false → Hands K → (e : List (List ℕ)) (x : Shape) (t : Node) → Finishes (st (Have x t) e (f ∷ K)) (toks (rest_pieces false K)) (whole_depth false (depth (build f t)) K)
  through f K u q z h e x t =
      let g = subst (λ b. Finishes (st (Have (built_shape f) (build f t)) e K) (toks (rest_pieces b K)) (whole_depth b (depth (build f t)) K)) z (h.have u e (built_shape f) (build f t)) in
      after g (passes x t e f K (toks (rest_pieces false K)) q (rest_breaks false K)) refl

  -- where what is open takes the tree
  onto : (f : Frame) (K : List Frame) (ps : List Piece) (n : ℕ) → closes top f ≡ false → Breaking (toks ps) → (e : List (List ℕ)) (x : Shape) (t : Node) → Finishes (accept x t e (f ∷ K)) (toks ps) n → Finishes (st (Have x t) e (f ∷ K)) (toks ps) n
  onto f K ps n q h e x t g = after g (break x x t t (f ∷ K) (f ∷ K) e (toks ps) h (settle_stop top x t f K q)) refl

  inputs : (is : List Need) (last : Last) (K : List Frame) → Under last K → Hands K → (w : List ℕ) (s : Span) (ts : Nodes) (e : List (List ℕ)) → Finishes (next w s ts is last e K) (toks (input_pieces is last ++ rest_pieces false K)) (whole_depth false (suc (max (depths ts) (least_inputs is last))) K)
  inputs (Item ∷ is) last K u h w s ts e =
      let g = after (inputs is last K u h w s (and_last ts true_leaf) e) refl (deeper false _ _ K (omega (arith, depths_join ts (one true_leaf)))) in
      onto (InCall w s ts Item is last) K (input_pieces is last ++ rest_pieces false K) _ refl (input_breaks is last (rest_pieces false K) (rest_breaks false K)) e Literal true_leaf g
  inputs (Whole ∷ is) last K u h w s ts e =
      let g = after (inputs is last K u h w s (and_last ts true_leaf) e) refl (deeper false _ _ K (omega (arith, depths_join ts (one true_leaf)))) in
      onto (InCall w s ts Whole is last) K (input_pieces is last ++ rest_pieces false K) _ refl (input_breaks is last (rest_pieces false K) (rest_breaks false K)) e Literal true_leaf g
  inputs (Within blocks.Commands ∷ is) last K u h w s ts e = after (inputs is last K u h w s (and_last ts (node label.Commands nowhere none)) e) refl (deeper false _ _ K (omega (arith, depths_join ts (one (node label.Commands nowhere none)))))
  inputs (Within blocks.Reporter ∷ is) last K u h w s ts e = after (inputs is last K u h w s (and_last ts (node label.Reporter nowhere (one true_leaf))) e) refl (deeper false _ _ K (omega (arith, depths_join ts (one (node label.Reporter nowhere (one true_leaf))))))
  inputs (Within (blocks.Arrow contents.Commands n) ∷ is) last K u h w s ts e = after (inputs is last K u h w s (and_last ts empty_arrow) e) refl (deeper false _ _ K (omega (arith, depths_join ts (one empty_arrow))))
  inputs (Within (blocks.Arrow contents.Reporter n) ∷ is) last K u h w s ts e = after (inputs is last K u h w s (and_last ts true_arrow) e) refl (deeper false _ _ K (omega (arith, depths_join ts (one true_arrow))))
  inputs (Maybe ∷ is) last K u h w s ts e = at (needs_bracket is last) refl (inputs is last K u h w s (and_last ts (node label.Commands nowhere none)) e) (inputs is last K u h w s ts e)
    where
      at : (b : Bool) → needs_bracket is last ≡ b → Finishes (next w s (and_last ts (node label.Commands nowhere none)) is last e K) (toks (input_pieces is last ++ rest_pieces false K)) (whole_depth false (suc (max (depths (and_last ts (node label.Commands nowhere none))) (least_inputs is last))) K) → Finishes (next w s ts is last e K) (toks (input_pieces is last ++ rest_pieces false K)) (whole_depth false (suc (max (depths ts) (least_inputs is last))) K) → Finishes (next w s ts (Maybe ∷ is) last e K) (toks ((maybe_pieces b ++ input_pieces is last) ++ rest_pieces false K)) (whole_depth false (suc (max (depths ts) (max 0 (least_inputs is last)))) K)
      at true q g k = after g refl (deeper false _ _ K (omega (arith, depths_join ts (one (node label.Commands nowhere none)), bracket_deep is last q)))
      at false q g k = after k (missing w s ts is last e K (toks (input_pieces is last ++ rest_pieces false K)) (input_breaks is last (rest_pieces false K) (rest_breaks false K)) (opens_none is last K u q)) (deeper false _ _ K (omega arith))
  inputs (Variable ∷ is) last K u h w s ts e = after (inputs is last K u h w s (and_last ts (leaf (label.Named (codes "color")) nowhere)) e) refl (deeper false _ _ K (omega (arith, depths_join ts (one (leaf (label.Named (codes "color")) nowhere)))))
  inputs [] lasts.Item K u h w s ts e = after (through (InLastItem w s ts) K u refl refl h e Literal true_leaf) refl (deeper false _ _ K (omega (arith, depths_join ts (one true_leaf))))
  inputs [] (lasts.Block blocks.Commands) K u h w s ts e = after (h.closing u e Fixed (node (label.Named w) s (and_last ts (node label.Commands nowhere none)))) refl (deeper false _ _ K (omega (arith, depths_join ts (one (node label.Commands nowhere none)))))
  inputs [] (lasts.Block blocks.Reporter) K u h w s ts e = after (h.closing u e Fixed (node (label.Named w) s (and_last ts (node label.Reporter nowhere (one true_leaf))))) refl (deeper false _ _ K (omega (arith, depths_join ts (one (node label.Reporter nowhere (one true_leaf))))))
  inputs [] (lasts.Block (blocks.Arrow contents.Commands n)) K u h w s ts e = after (h.closing u e Fixed (node (label.Named w) s (and_last ts empty_arrow))) refl (deeper false _ _ K (omega (arith, depths_join ts (one empty_arrow))))
  inputs [] (lasts.Block (blocks.Arrow contents.Reporter n)) K u h w s ts e = after (h.closing u e Fixed (node (label.Named w) s (and_last ts true_arrow))) refl (deeper false _ _ K (omega (arith, depths_join ts (one true_arrow))))
  inputs [] lasts.Nothing K u h w s ts e = after (h.stated u e (node (label.Named w) s ts)) refl (deeper false _ _ K (omega arith))

  -- right sides of level 1
  sides : (n : ℕ) (K : List Frame) → Expr K → Hands K → (w : List ℕ) (s : Span) (ts : Nodes) (e : List (List ℕ)) (x : Shape) (t : Node) → Finishes (closed x t e (InNear w s ts n ∷ K)) (toks (values n ++ rest_pieces false K)) (whole_depth false (suc (max (max (depths ts) (depth t)) (least_values n))) K)
  sides zero K u h w s ts e x t = after (h.have (expr_callable K u) e Fixed (node (label.Named w) s (and_last ts t))) refl (deeper false _ _ K (omega (arith, depths_join ts (one t))))
  sides (suc zero) K u h w s ts e x t = after (sides zero K u h w s (and_last ts t) e Literal true_leaf) refl (deeper false _ _ K (omega (arith, depths_join ts (one t))))
  sides (suc (suc n)) K u h w s ts e x t = after (sides (suc n) K u h w s (and_last ts t) e Literal true_leaf) refl (deeper false _ _ K (omega (arith, depths_join ts (one t))))

  -- items of a call
  items : (n : ℕ) (K : List Frame) → Callable K → Hands K → (w : List ℕ) (s : Span) (ts : Nodes) (e : List (List ℕ)) (x : Shape) (t : Node) → Finishes (st (Have x t) e (InMany w s ts n ∷ K)) (toks (values n ++ rest_pieces false K)) (whole_depth false (suc (max (max (depths ts) (depth t)) (least_values n))) K)
  items zero K u h w s ts e x t = after (through (InMany w s ts zero) K u refl refl h e x t) refl (deeper false _ _ K (omega (arith, depths_join ts (one t))))
  items (suc zero) K u h w s ts e x t = onto (InMany w s ts (suc zero)) K (values (suc zero) ++ rest_pieces false K) _ refl refl e x t (after (items zero K u h w s (and_last ts t) e Literal true_leaf) refl (deeper false _ _ K (omega (arith, depths_join ts (one t)))))
  items (suc (suc n)) K u h w s ts e x t = onto (InMany w s ts (suc (suc n))) K (values (suc (suc n)) ++ rest_pieces false K) _ refl refl e x t (after (items (suc n) K u h w s (and_last ts t) e Literal true_leaf) refl (deeper false _ _ K (omega (arith, depths_join ts (one t)))))

  -- from a chain to all
  expression : (f : Frame) (K : List Frame) → ((e : List (List ℕ)) (x : Shape) (t : Node) → closed x t e (f ∷ K) ≡ st (Have x t) e (f ∷ K)) → ((e : List (List ℕ)) (t : Node) → end_list t e (f ∷ K) ≡ st (Have Literal t) e (f ∷ K)) → (StatementTop (f ∷ K) → ⊥) → ((e : List (List ℕ)) (t : Node) → Supplied (f ∷ K) → Finishes (supply t e (f ∷ K)) (toks (rest_pieces false (f ∷ K))) (whole_depth false (depth t) (f ∷ K))) → ((e : List (List ℕ)) (x : Shape) (t : Node) → Finishes (st (Have x t) e (f ∷ K)) (toks (rest_pieces (is_literal x) (f ∷ K))) (whole_depth (is_literal x) (depth t) (f ∷ K))) → Hands (f ∷ K)
  expression f K c l n s h = record {
    have = λ u e x t. h e x t;
    closing = λ u e x t. subst (λ z. Finishes z (toks (rest_pieces (is_literal x) (f ∷ K))) (whole_depth (is_literal x) (depth t) (f ∷ K))) (sym (c e x t)) (h e x t);
    supplying = λ u e t. s e t u;
    stated = λ u e t. absurd (n u);
    listing = λ u e t. subst (λ z. Finishes z (toks (rest_pieces true (f ∷ K))) (whole_depth true (depth t) (f ∷ K))) (sym (l e t)) (h e Literal t);
  }

  bracketed : (x : Shape) (s : Span) (K : List Frame) → Expr K → Hands K → (e : List (List ℕ)) (t : Node) → Finishes (st (Shut x t) e (InBracket s ∷ K)) (toks (bracket_pieces (is_literal x) ++ rest_pieces (is_literal x) K)) (whole_depth (is_literal x) (depth t) (InBracket s ∷ K))
  bracketed Literal s K u h e t = after (h.listing (expr_under K u) e (node label.List s (one t))) refl (deeper true _ _ K (omega arith))
  bracketed Growing s K u h e t = after (through (InOf (codes "of") nowhere (node label.Reporter s (one t))) K (expr_callable K u) refl refl h e Literal true_leaf) refl (deeper false _ _ K (omega arith))
  bracketed Fixed s K u h e t = after (through (InOf (codes "of") nowhere (node label.Reporter s (one t))) K (expr_callable K u) refl refl h e Literal true_leaf) refl (deeper false _ _ K (omega arith))

  bracket_breaks : (b : Bool) (ps : List Piece) → Breaking (toks (bracket_pieces b ++ ps))
  bracket_breaks true ps = refl
  bracket_breaks false ps = refl

  -- an arrow block without a head
  headless : (s : Span) (n : ℕ) (K : List Frame) → BlockTop (blocks.Arrow contents.Reporter n) K → Hands K → (e : List (List ℕ)) (x : Shape) (t : Node) → Finishes (st (Shut x t) e (InNoHead s n ∷ K)) (toks (ItsBracket ∷ rest_pieces false K)) (whole_depth false (suc (depth t)) K)
  headless s n K u h e x t = after (h.supplying (block_supplied (blocks.Arrow contents.Reporter n) K u) e (node (label.Arrow []) s (one t))) (ap (λ z. run_from z (toks (rest_pieces false K))) (shut_no_head t s e K nowhere)) (deeper false _ _ K (omega arith))

  -- many items in parentheses may end with those that are there
  fewer : (n : ℕ) (w : List ℕ) (s : Span) (ts : Nodes) (p : Span) (K : List Frame) → Begins K → Hands K → (e : List (List ℕ)) (x : Shape) (t : Node) → Finishes (st (Have x t) e (InMany w s ts (suc n) ∷ InParen p ∷ K)) (toks (ItsParen ∷ rest_pieces false K)) (whole_depth false (suc (suc (max (max (depths ts) (depth t)) 1))) K)
  fewer n w s ts p K u h e x t = onto (InMany w s ts (suc n)) (InParen p ∷ K) (ItsParen ∷ rest_pieces false K) _ refl refl e x t (after (h.closing u e Fixed (node label.Paren p (one (node (label.Named w) s (and_last ts t))))) refl (deeper false _ _ K (omega (arith, depths_join ts (one t), depth_low t))))
    where
      depth_low : (t : Node) → 1 ≤ depth t
      depth_low (node l s ts) = omega arith

  hands : (K : List Frame) → Fine K → Hands K
  hands [] h = record {
    have = λ u e x t. record { tree = t; names = e; stack = []; over = refl; deep = refl };
    closing = λ u e x t. record { tree = t; names = e; stack = []; over = refl; deep = refl };
    supplying = λ u e t. absurd u;
    stated = λ u e t. absurd u;
    listing = λ u e t. record { tree = t; names = e; stack = []; over = refl; deep = refl };
  }
  hands (InBinary l w s r ∷ K) h = expression (InBinary l w s r) K (λ e x t. refl) (λ e t. refl) (λ u. u) (λ e t u. absurd u) (λ e x t. after (through (InBinary l w s r) K (expr_callable K h.1) (le-leb l top h.0) refl (hands K h.2) e x t) refl (deeper false _ _ K (omega arith)))
  hands (InWith w s r ∷ K) h = record {
    have = λ u e x t. absurd u;
    closing = λ u e x t. absurd u;
    supplying = λ u e t. after ((hands K h.1).have (expr_callable K h.0) e Fixed (node (label.Named w) s (two r t))) refl (deeper false _ _ K (omega arith));
    stated = λ u e t. absurd u;
    listing = λ u e t. absurd u;
  }
  hands (InNear w s ts zero ∷ K) h = record {
    have = λ u e x t. after (through (InNear w s ts zero) K (expr_callable K h.0) refl refl (hands K h.1) e x t) refl (deeper false _ _ K (omega (arith, depths_join ts (one t))));
    closing = λ u e x t. sides zero K h.0 (hands K h.1) w s ts e x t;
    supplying = λ u e t. absurd u;
    stated = λ u e t. absurd u;
    listing = λ u e t. sides zero K h.0 (hands K h.1) w s ts e Literal t;
  }
  hands (InNear w s ts (suc n) ∷ K) h = record {
    have = λ u e x t. absurd u;
    closing = λ u e x t. sides (suc n) K h.0 (hands K h.1) w s ts e x t;
    supplying = λ u e t. absurd u;
    stated = λ u e t. absurd u;
    listing = λ u e t. sides (suc n) K h.0 (hands K h.1) w s ts e Literal t;
  }
  hands (InOf w s b ∷ K) h = expression (InOf w s b) K (λ e x t. refl) (λ e t. refl) (λ u. u) (λ e t u. absurd u) (λ e x t. after (through (InOf w s b) K (expr_callable K h.0) refl refl (hands K h.1) e x t) refl (deeper false _ _ K (omega arith)))
  hands (InCall w s ts i is last ∷ K) h =
      let goes : (e : List (List ℕ)) (t : Node) → Finishes (next w s (and_last ts t) is last e K) (toks (input_pieces is last ++ rest_pieces false K)) (whole_depth false (suc (max (max (depths ts) (depth t)) (least_inputs is last))) K) = λ e t. after (inputs is last K h.0 (hands K h.1) w s (and_last ts t) e) refl (deeper false _ _ K (omega (arith, depths_join ts (one t)))) in
      expression (InCall w s ts i is last) K (λ e x t. refl) (λ e t. refl) (λ u. u) (λ e t u. goes e t) (λ e x t. onto (InCall w s ts i is last) K (input_pieces is last ++ rest_pieces false K) _ refl (input_breaks is last (rest_pieces false K) (rest_breaks false K)) e x t (goes e t))
  hands (InLastItem w s ts ∷ K) h = expression (InLastItem w s ts) K (λ e x t. refl) (λ e t. refl) (λ u. u) (λ e t u. absurd u) (λ e x t. after (through (InLastItem w s ts) K h.0 refl refl (hands K h.1) e x t) refl (deeper false _ _ K (omega (arith, depths_join ts (one t)))))
  hands (InLastBlock w s ts b ∷ K) h = record {
    have = λ u e x t. absurd u;
    closing = λ u e x t. absurd u;
    supplying = λ u e t. after ((hands K h.1).closing h.0 e Fixed (node (label.Named w) s (and_last ts t))) refl (deeper false _ _ K (omega (arith, depths_join ts (one t))));
    stated = λ u e t. absurd u;
    listing = λ u e t. absurd u;
  }
  hands (InMany w s ts (suc n) ∷ InParen p ∷ K) h = expression (InMany w s ts (suc n)) (InParen p ∷ K) (λ e x t. refl) (λ e t. refl) (λ u. u) (λ e t u. absurd u) (λ e x t. fewer n w s ts p K h.1.0 (hands K h.1.1) e x t)
  hands (InMany w s ts zero ∷ K) h = expression (InMany w s ts zero) K (λ e x t. refl) (λ e t. refl) (λ u. u) (λ e t u. absurd u) (λ e x t. items zero K h.0 (hands K h.1) w s ts e x t)
  hands (InMany w s ts (suc n) ∷ []) h = expression (InMany w s ts (suc n)) [] (λ e x t. refl) (λ e t. refl) (λ u. u) (λ e t u. absurd u) (λ e x t. items (suc n) [] h.0 (hands [] h.1) w s ts e x t)
  hands (InMany w s ts (suc n) ∷ f ∷ K) h = expression (InMany w s ts (suc n)) (f ∷ K) (λ e x t. refl) (λ e t. refl) (λ u. u) (λ e t u. absurd u) (λ e x t. items (suc n) (f ∷ K) h.0 (hands (f ∷ K) h.1) w s ts e x t)
  hands (InItems p l s ts ∷ K) h = expression (InItems p l s ts) K (λ e x t. refl) (λ e t. refl) (λ u. u) (λ e t u. absurd u) (λ e x t. onto (InItems p l s ts) K (ItsParen ∷ rest_pieces false K) _ refl refl e x t (after ((hands K h.1).closing h.0 e Fixed (node label.Paren p (one (node l s (and_last ts t))))) refl (deeper false _ _ K (omega (arith, depths_join ts (one t))))))
  hands (InParen p ∷ K) h = expression (InParen p) K (λ e x t. refl) (λ e t. refl) (λ u. u) (λ e t u. absurd u) (λ e x t. onto (InParen p) K (ItsParen ∷ rest_pieces false K) _ refl refl e x t (after ((hands K h.1).closing h.0 e Fixed (node label.Paren p (one t))) refl (deeper false _ _ K (omega arith))))
  hands (InMinus p s ∷ K) h = expression (InMinus p s) K (λ e x t. refl) (λ e t. refl) (λ u. u) (λ e t u. absurd u) (λ e x t. onto (InMinus p s) K (ItsParen ∷ rest_pieces false K) _ refl refl e x t (after ((hands K h.1).closing h.0 e Fixed (node label.Paren p (one (node label.Negate s (one t))))) refl (deeper false _ _ K (omega arith))))
  hands (InReporter s ∷ K) h = expression (InReporter s) K (λ e x t. refl) (λ e t. refl) (λ u. u) (λ e t u. absurd u) (λ e x t. onto (InReporter s) K (ItsBracket ∷ rest_pieces false K) _ refl refl e x t (after ((hands K h.1).supplying (block_supplied blocks.Reporter K h.0) e (node label.Reporter s (one t))) refl (deeper false _ _ K (omega arith))))
  hands (InNoHead s n ∷ K) h = expression (InNoHead s n) K (λ e x t. refl) (λ e t. refl) (λ u. u) (λ e t u. absurd u) (λ e x t. onto (InNoHead s n) K (ItsBracket ∷ rest_pieces false K) _ refl refl e x t (headless s n K h.0 (hands K h.1) e x t))
  hands (InArrowReporter s before ns ∷ K) h = expression (InArrowReporter s before ns) K (λ e x t. refl) (λ e t. refl) (λ u. u) (λ e t u. absurd u) (λ e x t. onto (InArrowReporter s before ns) K (ItsBracket ∷ rest_pieces false K) _ refl refl e x t (after ((hands K h.2).supplying (block_supplied (blocks.Arrow contents.Reporter h.0) K h.1) before (node (label.Arrow ns) s (one t))) refl (deeper false _ _ K (omega arith))))
  hands (InArrowCommands s before ns ts ∷ K) h = record {
    have = λ u e x t. absurd u;
    closing = λ u e x t. absurd u;
    supplying = λ u e t. absurd u;
    stated = λ u e t. after ((hands K h.2).supplying (block_supplied (blocks.Arrow contents.Commands h.0) K h.1) before (node (label.Arrow ns) s (one (node label.Commands s (and_last ts t))))) refl (deeper false _ _ K (omega (arith, depths_join ts (one t))));
    listing = λ u e t. absurd u;
  }
  hands (InBracket s ∷ K) h = expression (InBracket s) K (λ e x t. refl) (λ e t. refl) (λ u. u) (λ e t u. absurd u) (λ e x t. onto (InBracket s) K (bracket_pieces (is_literal x) ++ rest_pieces (is_literal x) K) _ refl (bracket_breaks (is_literal x) (rest_pieces (is_literal x) K)) e x t (bracketed x s K h.0 (hands K h.1) e t))
  hands (InList s ts ∷ K) h = record {
    have = λ u e x t. absurd u;
    closing = λ u e x t. absurd u;
    supplying = λ u e t. absurd u;
    stated = λ u e t. absurd u;
    listing = λ u e t. after ((hands K h.1).listing h.0 e (node label.List s (and_last ts t))) refl (deeper true _ _ K (omega (arith, depths_join ts (one t))));
  }
  hands (InLet w s n r ∷ K) h = expression (InLet w s n r) K (λ e x t. refl) (λ e t. refl) (λ u. u) (λ e t u. absurd u) (λ e x t. onto (InLet w s n r) K (rest_pieces false K) _ refl (rest_breaks false K) e x t (after ((hands K h.1).stated h.0 (n ∷ e) (node (label.Named w) s (two (leaf (label.Named n) r) t))) refl (deeper false _ _ K (omega arith))))
  hands (InStatementParen s ∷ K) h = record {
    have = λ u e x t. absurd u;
    closing = λ u e x t. absurd u;
    supplying = λ u e t. absurd u;
    stated = λ u e t. after ((hands K h.1).stated h.0 e (node label.Paren s (one t))) refl (deeper false _ _ K (omega arith));
    listing = λ u e t. absurd u;
  }
  hands (InStatements s AtBracket before ts ∷ K) h = record {
    have = λ u e x t. absurd u;
    closing = λ u e x t. absurd u;
    supplying = λ u e t. absurd u;
    stated = λ u e t. after ((hands K h.1).supplying (block_supplied blocks.Commands K h.0) before (node label.Commands s (and_last ts t))) refl (deeper false _ _ K (omega (arith, depths_join ts (one t))));
    listing = λ u e t. absurd u;
  }
  hands (InStatements s AtEnd before ts ∷ []) h = record {
    have = λ u e x t. absurd u;
    closing = λ u e x t. absurd u;
    supplying = λ u e t. absurd u;
    stated = λ u e t. record { tree = node label.Commands s (and_last ts t); names = before; stack = []; over = refl; deep = omega (arith, depths_join ts (one t)) };
    listing = λ u e t. absurd u;
  }
  hands (InStatements s AtEnd before ts ∷ f ∷ K) h = absurd h

  -- A state that tokens lead to can be completed.

  leaf_begins : (f : Frame) (K : List Frame) → Begins (f ∷ K) → Hands (f ∷ K) → (e : List (List ℕ)) → Finishes (st Begin e (f ∷ K)) (toks (AValue ∷ rest_pieces true (f ∷ K))) (whole_depth true 1 (f ∷ K))
  leaf_begins f K u h e = h.closing u e Literal true_leaf

  finish_begin : (e : List (List ℕ)) (K : List Frame) → Begins K → Fine K → Finishes (st Begin e K) (toks (begin_pieces K)) (begin_depth K)
  finish_begin e [] u h = record { tree = true_leaf; names = e; stack = []; over = refl; deep = refl }
  finish_begin e (InBracket s ∷ K) u h = (hands K h.1).closing (expr_begins K h.0) e Literal (node label.List s none)
  finish_begin e (InItems p l s ts ∷ K) u h = after ((hands K h.1).closing h.0 e Fixed (node label.Paren p (one (node l s ts)))) refl (deeper false _ _ K (omega arith))
  finish_begin e (InMany w s ts n ∷ InParen p ∷ K) u h = after ((hands K h.1.1).closing h.1.0 e Fixed (node label.Paren p (one (node (label.Named w) s ts)))) refl (deeper false _ _ K (omega arith))
  finish_begin e (InMany w s ts n ∷ []) u h = leaf_begins (InMany w s ts n) [] u (hands (InMany w s ts n ∷ []) h) e
  finish_begin e (InMany w s ts n ∷ f ∷ K) u h = leaf_begins (InMany w s ts n) (f ∷ K) u (hands (InMany w s ts n ∷ f ∷ K) h) e
  finish_begin e (f ∷ K) u h = leaf_begins f K u (hands (f ∷ K) h) e

  finish_opening : (b : Block) (e : List (List ℕ)) (K : List Frame) → BlockTop b K → Fine K → Finishes (st (Opening b) e K) (toks (block_pieces b ++ rest_pieces false K)) (whole_depth false (least_block b) K)
  finish_opening blocks.Commands e K u h = (hands K h).supplying (block_supplied blocks.Commands K u) e (node label.Commands nowhere none)
  finish_opening blocks.Reporter e K u h = (hands K h).supplying (block_supplied blocks.Reporter K u) e (node label.Reporter nowhere (one true_leaf))
  finish_opening (blocks.Arrow contents.Commands n) e K u h = (hands K h).supplying (block_supplied (blocks.Arrow contents.Commands n) K u) e empty_arrow
  finish_opening (blocks.Arrow contents.Reporter n) e K u h = (hands K h).supplying (block_supplied (blocks.Arrow contents.Reporter n) K u) e true_arrow

  -- in an arrow block: right behind its bracket, and behind its head
  finish_heading : (k : Content) (n : ℕ) (s : Span) (e : List (List ℕ)) (K : List Frame) → BlockTop (blocks.Arrow k n) K → Fine K → Finishes (st (Heading k n s) e K) (toks (content_pieces k ++ rest_pieces false K)) (whole_depth false 2 K)
  finish_heading contents.Commands n s e K u h = (hands K h).supplying (block_supplied (blocks.Arrow contents.Commands n) K u) e (node (label.Arrow []) s (one (node label.Commands s none)))
  finish_heading contents.Reporter n s e K u h = (hands K h).supplying (block_supplied (blocks.Arrow contents.Reporter n) K u) e (node (label.Arrow []) s (one true_leaf))

  finish_content : (k : Content) (n : ℕ) (s : Span) (before ns e : List (List ℕ)) (K : List Frame) → BlockTop (blocks.Arrow k n) K → Fine K → Finishes (begin_content k s before ns e K) (toks (content_pieces k ++ rest_pieces false K)) (whole_depth false 2 K)
  finish_content contents.Commands n s before ns e K u h = (hands K h).supplying (block_supplied (blocks.Arrow contents.Commands n) K u) before (node (label.Arrow ns) s (one (node label.Commands s none)))
  finish_content contents.Reporter n s before ns e K u h = (hands K h).supplying (block_supplied (blocks.Arrow contents.Reporter n) K u) before (node (label.Arrow ns) s (one true_leaf))

  finish_optional : (e : List (List ℕ)) (K : List Frame) → MaybeTop K → Fine K → Finishes (st Optional e K) (toks (optional_pieces K)) (optional_depth K)
  finish_optional e (InCall w s ts Maybe is last ∷ K) u h = after (inputs (Maybe ∷ is) last K h.0 (hands K h.1) w s ts e) refl (deeper false _ _ K (omega arith))
  finish_optional e K u h = absurd u

  finish_shut : (x : Shape) (t : Node) (e : List (List ℕ)) (K : List Frame) → ShutTop K → Fine K → Finishes (st (Shut x t) e K) (toks (rest_pieces (is_literal x) K)) (whole_depth (is_literal x) (depth t) K)
  finish_shut x t e [] u h = record { tree = t; names = e; stack = []; over = refl; deep = refl }
  finish_shut x t e (InParen p ∷ K) u h = after ((hands K h.1).closing h.0 e Fixed (node label.Paren p (one t))) refl (deeper false _ _ K (omega arith))
  finish_shut x t e (InMinus p s ∷ K) u h = after ((hands K h.1).closing h.0 e Fixed (node label.Paren p (one (node label.Negate s (one t))))) refl (deeper false _ _ K (omega arith))
  finish_shut x t e (InReporter s ∷ K) u h = after ((hands K h.1).supplying (block_supplied blocks.Reporter K h.0) e (node label.Reporter s (one t))) refl (deeper false _ _ K (omega arith))
  finish_shut x t e (InNoHead s n ∷ K) u h = headless s n K h.0 (hands K h.1) e x t
  finish_shut x t e (InArrowReporter s before ns ∷ K) u h = after ((hands K h.2).supplying (block_supplied (blocks.Arrow contents.Reporter h.0) K h.1) before (node (label.Arrow ns) s (one t))) refl (deeper false _ _ K (omega arith))
  finish_shut x t e (InBracket s ∷ K) u h = bracketed x s K h.0 (hands K h.1) e t
  finish_shut x t e (f ∷ K) u h = absurd u

  finish_listing : (e : List (List ℕ)) (K : List Frame) → ListTop K → Fine K → Finishes (st Listing e K) (toks (rest_pieces true K)) (whole_depth true 0 K)
  finish_listing e (InList s ts ∷ K) u h = after ((hands K h.1).listing h.0 e (node label.List s ts)) refl (deeper true _ _ K (omega arith))
  finish_listing e [] u h = absurd u
  finish_listing e (f ∷ K) u h = absurd u

  finish_stating : (e : List (List ℕ)) (K : List Frame) → StatementTop K → Fine K → Finishes (st Stating e K) (toks (statement_pieces K)) (statement_depth K)
  finish_stating e (InStatementParen s ∷ K) u h = after ((hands K h.1).stated h.0 e (node label.Paren s (one (node (label.Named (codes "stop")) nowhere none)))) refl (deeper false _ _ K (omega arith))
  finish_stating e (InArrowCommands s before ns ts ∷ K) u h = after ((hands K h.2).supplying (block_supplied (blocks.Arrow contents.Commands h.0) K h.1) before (node (label.Arrow ns) s (one (node label.Commands s ts)))) refl (deeper false _ _ K (omega arith))
  finish_stating e (InStatements s AtBracket before ts ∷ K) u h = after ((hands K h.1).supplying (block_supplied blocks.Commands K h.0) before (node label.Commands s ts)) refl (deeper false _ _ K (omega arith))
  finish_stating e (InStatements s AtEnd before ts ∷ []) u h = record { tree = node label.Commands s ts; names = before; stack = []; over = refl; deep = omega arith }
  finish_stating e (InStatements s AtEnd before ts ∷ f ∷ K) u h = absurd h
  finish_stating e [] u h = absurd u
  finish_stating e (f ∷ K) u h = absurd u

  finish_naming : (w : List ℕ) (s : Span) (e : List (List ℕ)) (K : List Frame) → StatementTop K → Fine K → Finishes (st (Naming w s) e K) (toks (AName e ∷ AValue ∷ rest_pieces false K)) (whole_depth false 2 K)
  finish_naming w s e K u h =
      let g = onto (InLet w s (fresh e) nowhere) K (rest_pieces false K) _ refl (rest_breaks false K) e Literal true_leaf ((hands K h).stated u (fresh e ∷ e) (node (label.Named w) s (two (leaf (label.Named (fresh e)) nowhere) true_leaf))) in
      after g (ap (λ b. run_from (feed_fresh (not b) w s (fresh e) nowhere e K) (toks (AValue ∷ rest_pieces false K))) (is_fresh e)) (deeper false _ _ K (omega arith))

  finish_ended : (t : Node) (e : List (List ℕ)) (K : List Frame) → EndedTop K → Fine K → Finishes (st (Ended t) e K) (toks (rest_pieces false K)) (whole_depth false (depth t) K)
  finish_ended t e (InStatementParen s ∷ K) u h = after ((hands K h.1).stated h.0 e (node label.Paren s (one t))) refl (deeper false _ _ K (omega arith))
  finish_ended t e [] u h = absurd u
  finish_ended t e (f ∷ K) u h = absurd u

  pub finishes : (s : State) → FineState s → Finishes s (toks (pieces s)) (least_depth s)
  finishes (st Begin e K) h = finish_begin e K h.0 h.1
  finishes (st (Opening b) e K) h = finish_opening b e K h.0 h.1
  finishes (st (Heading k n s) e K) h = finish_heading k n s e K h.0 h.1
  finishes (st (InHead k m s before ns) e K) h = finish_content k h.0 s before ns e K h.1 h.2
  finishes (st (Behind k s before ns) e K) h = finish_content k h.0 s before ns e K h.1 h.2
  finishes (st Optional e K) h = finish_optional e K h.0 h.1
  finishes (st Choosing e K) h = (hands K h.1).supplying (variable_supplied K h.0) e (leaf (label.Named (codes "color")) nowhere)
  finishes (st (Have x t) e K) h = (hands K h.1).have (expr_callable K h.0) e x t
  finishes (st (Blocked b) e K) h = after (through (InOf (codes "of") nowhere b) K (expr_callable K h.0) refl refl (hands K h.1) e Literal true_leaf) refl (deeper false _ _ K (omega arith))
  finishes (st (Shut x t) e K) h = finish_shut x t e K h.0 h.1
  finishes (st Listing e K) h = finish_listing e K h.0 h.1
  finishes (st Stating e K) h = finish_stating e K h.0 h.1
  finishes (st (Naming w s) e K) h = finish_naming w s e K h.0 h.1
  finishes (st (Ended t) e K) h = finish_ended t e K h.0 h.1
  finishes (st (Over t) e K) h = record { tree = t; names = e; stack = K; over = refl; deep = refl }
  finishes (st Dead e K) h = absurd h
