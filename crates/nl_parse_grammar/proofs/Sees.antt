-- The names that a reading of the grammar knows at a token are those of the machine's state before it.
use Rattle.std.proofs.Common.{◌≡◌, ℕ, zero, suc, ◌+◌, ◌==◌, Bool, true, false, not, ◌&&◌, ◌||◌, List, [], ◌∷◌, ◌++◌, length, append_assoc, append-nil, refl, sym, ◌∙◌, ap, subst, IsTrue, nat_lt, nat_le, ◌≤◌, arith, bytes_eq}
use Rattle.std.proofs.lemmas.Bool.{le-leb, lt-leb, lt-ltb, ltb-true, ltb-false, eq-eqb, ne_eqb, and_from, or_left, or_right}
use Rattle.nl_fixed.specs.declared.span.Span.{Span}
use Rattle.nl_tree.specs.declared.tree.Label.{Label}
use Rattle.nl_tree.specs.declared.tree.Label.TheVariants as label
use Rattle.nl_tree.specs.Tree.{Node, node, Nodes, none, more}
use Rattle.nl_tree.specs.Vocabulary.{among}
use Rattle.nl_tree.specs.Tokens.{Unknown, Constant, Plain, Named, Prefix, Many, Closing, Command, Let, With, Near, Of, Binary, Arrow, Tok, number, text, word, open_bracket, close_bracket, open_paren, close_paren}
use Rattle.nl_tree.specs.declared.needs.Block.TheVariants as blocks
use Rattle.nl_tree.specs.declared.needs.Content.{Content}
use Rattle.nl_tree.specs.declared.needs.Content.TheVariants as contents
use Rattle.nl_tree.specs.declared.needs.Need.{Need}
use Rattle.nl_tree.specs.declared.needs.Need.TheVariants.{Item, Whole, Within, Maybe, Variable}
use Rattle.nl_tree.specs.Grammar.{one, two, leaf, join, and_last, opens, top, Part, Closed, Chain, Sides, Call, LastCall, Items, AnyItems, Level, Literals, Arg, Args, Head, HeadNames, Statement, Statements, Reads, closed_number, closed_text, closed_constant, closed_plain, closed_variable, closed_local, closed_list, closed_block, paren, paren_many, paren_minus, chain_closed, chain_with, chain_near, one_side, more_sides, call_prefix, call_many, one_item, more_items, no_item, any_item, last_call, more_last, item_chain, item_call, item_near, item_of, level_up, level_binary, literal_end, literal_number, literal_text, literal_constant, literal_list, arg_item, arg_whole, arg_commands, arg_reporter, arg_arrow_commands, arg_arrow_reporter, arg_variable, arg_local, no_head, head_arrow, head_name, head_names, names_end, next_name, no_arg, arg, maybe_there, maybe_missing, command, make, statement_paren, at_bracket, at_end, statements, knows}
use Rattle.nl_tree.specs.declared.needs.Ending.{Ending}
use Rattle.nl_tree.specs.declared.needs.Ending.TheVariants.{AtBracket, AtEnd}
use Rattle.nl_parse_grammar.specs.Machine.{Frame, InBinary, InWith, InNear, InOf, InCall, InLastItem, InLastBlock, InMany, InItems, InParen, InMinus, InReporter, InNoHead, InArrowReporter, InArrowCommands, InBracket, InList, InLet, InStatementParen, InStatements, Begin, Opening, Heading, InHead, Behind, Optional, Choosing, Have, Blocked, Shut, Listing, Stating, Naming, Over, State, st, Step, go, stop, Got, got, end_statement, next, closed, supply, accept, end_list, closes, settle, begin_content, feed_local, begin_bracket, feed_variable, feed_fresh, feed_plain, without_maybes, feed_ready, feed_broken, feed_operator, feed_binary, feed}
use Rattle.nl_parse_grammar.specs.declared.pending.Last.{Last}
use Rattle.nl_parse_grammar.specs.declared.pending.Last.TheVariants as lasts
use Rattle.nl_parse_grammar.specs.declared.pending.Shape.{Shape}
use Rattle.nl_parse_grammar.specs.declared.pending.Shape.TheVariants.{Literal, Growing, Fixed}
use Rattle.nl_parse_grammar.specs.Fault.{known_got}
use Rattle.nl_parse_grammar.proofs.Complete.{breaks, Breaking, heads, first, join_none, join_last, Stays, NoList, TakesCall, TakesStatement, ready, settle_on, settle_stop, settle_got, settle_more, stays_settle, stays_down, stays_binary, takes, end_list_closed, closed_have, stays_no_list, stays_takes_call, begin_bracket_open, begin_many_next, begin_call_next, grow_paren, missing_at, stating, no_maybe}
use Rattle.nl_parse_grammar.proofs.Heads.{Starts, starts, begins_content, states_content, lone_name, first_name, next_one, shut_no_head}
use Rattle.nl_tree.proofs.Suffix.{Suffix, same, longer, beyond, shorter, suffix}

-- Names at a token.

abbrev pub state_names : State → List (List ℕ)
state_names (st m e K) = e

abbrev pub chain_names : Bool → List (List ℕ) → Got → List (List ℕ)
chain_names true e g = known_got e g
chain_names false e g = e

-- with which names the token is taken
abbrev pub names_at : State → Tok → List (List ℕ)
names_at (st (Have x t) e K) tok = chain_names (breaks tok) e (settle top x t K)
names_at (st m e K) tok = e

names_ended : (t : Node) (e : List (List ℕ)) (K : List Frame) (tok : Tok) → names_at (end_statement t e K) tok ≡ e
names_ended t e [] tok = refl
names_ended t e (InStatements s k before ts ∷ K) tok = refl
names_ended t e (InStatementParen s ∷ K) tok = refl
names_ended t e (f ∷ K) tok = refl

names_next : (w : List ℕ) (s : Span) (had : Nodes) (is : List Need) (last : Last) (e : List (List ℕ)) (K : List Frame) (tok : Tok) → names_at (next w s had is last e K) tok ≡ e
names_next w s had (Item ∷ is) last e K tok = refl
names_next w s had (Whole ∷ is) last e K tok = refl
names_next w s had (Within b ∷ is) last e K tok = refl
names_next w s had (Maybe ∷ is) last e K tok = refl
names_next w s had (Variable ∷ is) last e K tok = refl
names_next w s had [] lasts.Item e K tok = refl
names_next w s had [] (lasts.Block b) e K tok = refl
names_next w s had [] lasts.Nothing e K tok = names_ended (node (label.Named w) s had) e K tok

names_accept : (x : Shape) (t : Node) (e : List (List ℕ)) (K : List Frame) (tok : Tok) → names_at (accept x t e K) tok ≡ known_got e (got x t K)
names_accept x t e [] tok = refl
names_accept x t e (InCall w s ts i is last ∷ K) tok = names_next w s (and_last ts t) is last e K tok
names_accept x t e (InMany w s ts zero ∷ K) tok = refl
names_accept x t e (InMany w s ts (suc n) ∷ K) tok = refl
names_accept x t e (InItems p l s ts ∷ K) tok = refl
names_accept x t e (InLet w s n r ∷ K) tok = names_ended (node (label.Named w) s (two (leaf (label.Named n) r) t)) (n ∷ e) K tok
names_accept x t e (f ∷ K) tok = refl

pub or_false : (x : Bool) → (x || false) ≡ x
or_false true = refl
or_false false = refl

module _ (n : List ℕ) (left : ℕ) where
  -- whether the place is before these tokens
  abbrev pub past : List Tok → Bool
  past c = nat_lt (length c) left

  -- whether the place is in `a` and before `c`
  abbrev pub lies : List Tok → List Tok → Bool
  lies a c = past c && not (past a)

  -- whether the name is known at the place, as the machine comes to it
  abbrev pub sees_from : Step → List Tok → Bool
  sees_from a [] = false
  sees_from (go s) (tok ∷ toks) = (lies (tok ∷ toks) toks && among n (names_at s tok)) || sees_from (feed s tok) toks
  sees_from stop (tok ∷ toks) = false

  abbrev pub sees : State → List Tok → Bool
  sees s toks = sees_from (go s) toks

  past_rest : {c a : List Tok} → Suffix c a → past a ≡ true → past c ≡ true
  past_rest s h = lt-ltb _ left (omega (arith, shorter s, ltb-true _ left h))

  joins : (A B C E k l Z : Bool) → (A ≡ true → B ≡ true) → (B ≡ true → C ≡ true) → ((((B && not A) && E) || k) || ((((C && not B) && E) || l) || Z)) ≡ ((((C && not A) && E) || (k || l)) || Z)
  joins true false C E k l Z f g = cc (f refl)
  joins A true false E k l Z f g = cc (g refl)
  joins true true true E true l Z f g = refl
  joins true true true E false l Z f g = refl
  joins false true true true k l Z f g = refl
  joins false true true false true l Z f g = refl
  joins false true true false false l Z f g = refl
  joins false false true true true l Z f g = refl
  joins false false true true false l Z f g = refl
  joins false false true false true l Z f g = refl
  joins false false true false false l Z f g = refl
  joins false false false E true l Z f g = refl
  joins false false false E false l Z f g = refl

  -- from `a` to `c` the name is seen where it is one of `e`, and where `k` says so
  pub record Shows (e : List (List ℕ)) (a c : List Tok) (k X Z : Bool) : Type 0 where
    pub is : X ≡ (((lies a c && among n e) || k) || Z)

  then : {e : List (List ℕ)} {a b c : List Tok} {k l X Y Z : Bool} → Suffix b a → Suffix c b → Shows e a b k X Y → Shows e b c l Y Z → Shows e a c (k || l) X Z
  then {e} {a} {b} {c} {k} {l} {Z = Z} r s p q = record { is = p.is ∙ ap (λ y. ((lies a b && among n e) || k) || y) q.is ∙ joins (past a) (past b) (past c) (among n e) k l Z (past_rest r) (past_rest s) }

  -- where no names are made before `b`, or after it
  pub chain : {e : List (List ℕ)} {a b c : List Tok} {k X Y Z : Bool} → Suffix b a → Suffix c b → Shows e a b false X Y → Shows e b c k Y Z → Shows e a c k X Z
  chain r s p q = then r s p q

  pub ends : {e : List (List ℕ)} {a b c : List Tok} {k X Y Z : Bool} → Suffix b a → Suffix c b → Shows e a b k X Y → Shows e b c false Y Z → Shows e a c k X Z
  ends {e} {a} {c = c} {k = k} {X = X} {Z = Z} r s p q = subst (λ y. Shows e a c y X Z) (or_false k) (then r s p q)

  pub alike : {e : List (List ℕ)} {a c : List Tok} {k X Y Z : Bool} → Shows e a c k X Y → Y ≡ Z → Shows e a c k X Z
  alike {e} {a} {c} {k} p q = record { is = p.is ∙ ap (λ y. ((lies a c && among n e) || k) || y) q }

  from : {e : List (List ℕ)} {a c : List Tok} {k X Y Z : Bool} → X ≡ Y → Shows e a c k Y Z → Shows e a c k X Z
  from q p = record { is = q ∙ p.is }

  -- one token
  pub token : {e : List (List ℕ)} (s : State) (tok : Tok) (c : List Tok) → names_at s tok ≡ e → Shows e (tok ∷ c) c false (sees s (tok ∷ c)) (sees_from (feed s tok) c)
  token {e} s tok c q = record { is = ap (λ ns. (lies (tok ∷ c) c && among n ns) || sees_from (feed s tok) c) q ∙ ap (λ b. b || sees_from (feed s tok) c) (sym (or_false (lies (tok ∷ c) c && among n e))) }

  nothing : (x : Bool) → (x && not x) ≡ false
  nothing true = refl
  nothing false = refl

  -- no token
  idle : {e : List (List ℕ)} {c : List Tok} {X Y : Bool} → X ≡ Y → Shows e c c false X Y
  idle {e} {c} {Y = Y} q = record { is = q ∙ ap (λ b. ((b && among n e) || false) || Y) (sym (nothing (past c))) }

  -- such a token finds the tree that is complete before it
  pub break : (x' x : Shape) (t' t : Node) (K' K : List Frame) (e : List (List ℕ)) (c : List Tok) → Breaking c → settle top x' t' K' ≡ got x t K → sees (st (Have x' t') e K') c ≡ sees (accept x t e K) c
  break x' x t' t K' K e [] h q = absurd h
  break x' x t' t K' K e (word w With s ∷ c) h q = cc
  break x' x t' t K' K e (word w (Near m) s ∷ c) h q = cc
  break x' x t' t K' K e (word w Of s ∷ c) h q = cc
  break x' x t' t K' K e (word w (Binary l m) s ∷ c) h q = cc
  break x' x t' t K' K e (tok ∷ c) h q = ap (λ g. (lies (tok ∷ c) c && among n (known_got e g)) || sees_from (feed_broken e g tok) c) q ∙ ap (λ ns. (lies (tok ∷ c) c && among n ns) || sees_from (feed_ready (accept x t e K) tok) c) (sym (names_accept x t e K tok)) ∙ ap (λ s. (lies (tok ∷ c) c && among n (names_at (accept x t e K) tok)) || sees_from s c) (ready x t e K tok)

  pub record Arrives (l : ℕ) (e : List (List ℕ)) (S K : List Frame) (t : Node) (a c : List Tok) (k : Bool) : Type 0 where
    pub held : Shape
    pub tree : Node
    pub rest : List Frame
    pub shape : Shape
    pub shown : Shows e a c k (sees (st Begin e S) a) (sees (st (Have held tree) e rest) c)
    pub settles : settle l held tree rest ≡ settle l shape t K

  lift : (l m : ℕ) → l ≤ m → (e : List (List ℕ)) (S K : List Frame) (t : Node) (a c : List Tok) (k : Bool) → Arrives l e S K t a c k → Arrives m e S K t a c k
  lift l m low e S K t a c k g = record { held = g.held; tree = g.tree; rest = g.rest; shape = g.shape; shown = g.shown; settles = sym (settle_more l m low g.held g.tree g.rest) ∙ ap (settle_got m) g.settles ∙ settle_more l m low g.shape t K }

  -- from the left side of an operator to its right side
  operator : (l : ℕ) (w : List ℕ) (m : Bool) (s : Span) (e : List (List ℕ)) (K : List Frame) (t : Node) (a b : List Tok) (k : Bool) → suc l ≤ top → Stays (suc l) K → Suffix (word w (Binary l m) s ∷ b) a → Arrives (suc l) e K K t a (word w (Binary l m) s ∷ b) k → Shows e a b k (sees (st Begin e K) a) (sees (st Begin e (InBinary (suc l) w s t ∷ K)) b)
  operator l w m s e K t a b k low h r g =
      ends r (longer same) g.shown (alike (token (st (Have g.held g.tree) e g.rest) (word w (Binary l m) s) b refl) (
      ap (λ x. sees_from (feed_binary x l w s e (settle (suc l) g.held g.tree g.rest)) b) (lt-ltb l top (omega (arith, low)))
      ∙ ap (λ y. sees_from (feed_binary true l w s e y) b) (g.settles ∙ stays_settle l g.shape t K h)
      ∙ ap (λ x. sees_from (feed_operator x l w s e (got g.shape t K)) b) (takes l K h)
      ))

  right_side : (l : ℕ) (w : List ℕ) (s : Span) (e : List (List ℕ)) (K : List Frame) (t u : Node) (b c : List Tok) (k : Bool) → Arrives l e (InBinary (suc l) w s t ∷ K) (InBinary (suc l) w s t ∷ K) u b c k → Arrives (suc l) e (InBinary (suc l) w s t ∷ K) K (node (label.Named w) s (two t u)) b c k
  right_side l w s e K t u b c k m =
      let g : Arrives (suc l) e (InBinary (suc l) w s t ∷ K) (InBinary (suc l) w s t ∷ K) u b c k = lift l (suc l) (omega arith) e (InBinary (suc l) w s t ∷ K) (InBinary (suc l) w s t ∷ K) u b c k m in
      record { held = g.held; tree = g.tree; rest = g.rest; shape = Fixed; shown = g.shown; settles = g.settles ∙ settle_on (suc l) g.shape u (InBinary (suc l) w s t) K (le-leb (suc l) (suc l) (omega arith)) }

  bracket_of : (x : Shape) (t : Node) (s : Span) (e : List (List ℕ)) (K : List Frame) (q : Span) (w : List ℕ) (r : Span) (b : List Tok) → Stays zero K → Shows e (close_bracket q ∷ word w Of r ∷ b) b false (sees (st (Shut x t) e (InBracket s ∷ K)) (close_bracket q ∷ word w Of r ∷ b)) (sees (st Begin e (InOf w r (node label.Reporter s (one t)) ∷ K)) b)
  bracket_of Literal t s e K q w r b h =
      chain (longer same) (longer same)
      (alike (token (st (Shut Literal t) e (InBracket s ∷ K)) (close_bracket q) (word w Of r ∷ b) refl) (ap (λ z. sees z (word w Of r ∷ b)) (end_list_closed (node label.List s (one t)) e K (stays_no_list K h) ∙ closed_have Literal (node label.List s (one t)) e K h)))
      (token (st (Have Literal (node label.List s (one t))) e K) (word w Of r) b refl)
  bracket_of Growing t s e K q w r b h = chain (longer same) (longer same) (token (st (Shut Growing t) e (InBracket s ∷ K)) (close_bracket q) (word w Of r ∷ b) refl) (token (st (Blocked (node label.Reporter s (one t))) e K) (word w Of r) b refl)
  bracket_of Fixed t s e K q w r b h = chain (longer same) (longer same) (token (st (Shut Fixed t) e (InBracket s ∷ K)) (close_bracket q) (word w Of r ∷ b) refl) (token (st (Blocked (node label.Reporter s (one t))) e K) (word w Of r) b refl)

  list_after : {e : List (List ℕ)} {b c : List Tok} {ts : Nodes} → Reads Literals e b c ts → (s : Span) (t : Node) (K : List Frame) → sees (st (Have Literal t) e (InBracket s ∷ K)) b ≡ sees (st Listing e (InList s (one t) ∷ K)) b
  list_after literal_end s t K = refl
  list_after (literal_number d) s t K = refl
  list_after (literal_text d) s t K = refl
  list_after (literal_constant d) s t K = refl
  list_after (literal_list d f) s t K = refl

  ended : (l : ℕ) (t : Node) (e : List (List ℕ)) (K : List Frame) (a c : List Tok) (f : Frame) (k : Bool) → l ≤ top → ((m : ℕ) → closes m f ≡ false) → Breaking c → Arrives l e (f ∷ K) (f ∷ K) t a c k → (x : Shape) × Shows e a c k (sees (st Begin e (f ∷ K)) a) (sees (accept x t e (f ∷ K)) c)
  ended l t e K a c f k low h b m = (m.shape, alike m.shown (break m.held m.shape m.tree t m.rest (f ∷ K) e c b (sym (settle_more l top low m.held m.tree m.rest) ∙ ap (settle_got top) m.settles ∙ settle_more l top low m.shape t (f ∷ K) ∙ settle_stop top m.shape t f K (h top))))

  run_items : (l : Label) (s : Span) (ts : Nodes) (p : Span) (e : List (List ℕ)) (K : List Frame) (b : List Tok) → Breaking b → sees (st (Shut Growing (node l s ts)) e (InParen p ∷ K)) b ≡ sees (st Begin e (InItems p l s ts ∷ K)) b
  run_items l s ts p e K [] h = absurd h
  run_items l s ts p e K (tok ∷ b) h = ap (λ x. (lies (tok ∷ b) b && among n e) || sees_from x b) (grow_paren l s ts p e K tok)

  there : {e : List (List ℕ)} {a c : List Tok} {ts : Nodes} → Reads (Arg (Within blocks.Commands)) e a c ts → (w : List ℕ) (s : Span) (had : Nodes) (is : List Need) (last : Last) (K : List Frame) → sees (st Optional e (InCall w s had Maybe is last ∷ K)) a ≡ sees (st (Opening blocks.Commands) e (InCall w s had Maybe is last ∷ K)) a
  there (arg_commands d) w s had is last K = refl

  missing : (w : List ℕ) (s : Span) (had : Nodes) (is : List Need) (last : Last) (e : List (List ℕ)) (K : List Frame) (a : List Tok) → Breaking a → IsTrue (not (opens a)) → sees (st Optional e (InCall w s had Maybe is last ∷ K)) a ≡ sees (next w s had is last e K) a
  missing w s had is last e K [] b h = absurd b
  missing w s had is last e K (open_bracket r ∷ a) b h = cc
  missing w s had is last e K (tok ∷ a) b h = ap (λ ns. (lies (tok ∷ a) a && among n ns) || sees_from (feed_plain (next w s had (without_maybes is) last e K) tok) a) (sym (names_next w s had is last e K tok)) ∙ ap (λ x. (lies (tok ∷ a) a && among n (names_at (next w s had is last e K) tok)) || sees_from x a) (missing_at w s had is last e K tok refl)

  -- What a statement makes is known with what was known before.
  still_known : {f e : List (List ℕ)} {a c : List Tok} {ts : Nodes} → Reads (Statement f) e a c ts → among n e ≡ true → among n f ≡ true
  still_known (command d) h = h
  still_known {e = e} (make {n = m} q d) h = either (bytes_eq m n) (among n e) h
    where
      either : (x y : Bool) → y ≡ true → (x || y) ≡ true
      either true y h = refl
      either false y h = h
  still_known (statement_paren d) h = still_known d h

  -- and the names of a head with what is known before it
  names_known : {m : ℕ} {ns f e : List (List ℕ)} {a c : List Tok} {ts : Nodes} → Reads (HeadNames m ns f) e a c ts → among n e ≡ true → among n f ≡ true
  names_known names_end h = h
  names_known {e = e} (next_name {w = w} m d) h = names_known d (or_right (bytes_eq w n) (among n e) h)

  head_known : {m : ℕ} {ns f e : List (List ℕ)} {a c : List Tok} {ts : Nodes} → Reads (Head m ns f) e a c ts → among n e ≡ true → among n f ≡ true
  head_known no_head h = h
  head_known head_arrow h = h
  head_known {e = e} (head_name {w = w} m) h = or_right (bytes_eq w n) (among n e) h
  head_known (head_names d) h = names_known d h

  lies_split : (A B C : Bool) → (C && not A) ≡ true → (B && not A) ≡ false → (C && not B) ≡ true
  lies_split true B true h k = cc
  lies_split true B false h k = cc
  lies_split false true C h k = cc
  lies_split false false C h k = h

-- The places of the grammar.

here : (m left : ℕ) → (nat_lt m left && not (nat_lt (suc m) left)) ≡ (left == m + 1)
here m left = at (nat_lt m left) (nat_lt (suc m) left) refl refl
  where
    at : (x y : Bool) → nat_lt m left ≡ x → nat_lt (suc m) left ≡ y → (x && not y) ≡ (left == m + 1)
    at true true p q = sym (ne_eqb left (m + 1) (λ r. omega (arith, r, ltb-true (suc m) left q)))
    at true false p q = sym (eq-eqb left (m + 1) (omega (arith, ltb-true m left p, ltb-false (suc m) left q)))
    at false y p q = sym (ne_eqb left (m + 1) (λ r. omega (arith, r, ltb-false m left p)))

not_past : (m left : ℕ) → not (nat_lt m left) ≡ nat_le left m
not_past m left = at (nat_lt m left) refl
  where
    at : (x : Bool) → nat_lt m left ≡ x → not x ≡ nat_le left m
    at true p = sym (lt-leb left m (ltb-true m left p))
    at false p = sym (le-leb left m (ltb-false m left p))

module _ (n : List ℕ) (left : ℕ) where
  abbrev past' : List Tok → Bool
  past' c = past n left c

  lies_is : (a b : List Tok) → lies n left a b ≡ (nat_lt (length b) left && nat_le left (length a))
  lies_is a b = ap (λ x. nat_lt (length b) left && x) (not_past (length a) left)

  -- in a block, what is known outside is known
  pub inside_known : {k : Ending} {e : List (List ℕ)} {a c : List Tok} {ts : Nodes} (d : Reads (Statements k) e a c ts) → lies n left a c ≡ true → among n e ≡ true → knows n left d ≡ true
  inside_known (at_bracket {c = c}) h g = and_from _ _ (sym (here (length c) left) ∙ h) g
  inside_known at_end h g = and_from _ _ (sym (here 0 left) ∙ h) g
  inside_known {e = e} {a = a} {c = c} (statements {b = b} d f) h g = at (lies n left a b) refl (λ k. inside_known f k (still_known n left d g))
    where
      inner : Bool
      inner = (nat_lt (length b) left && nat_le left (length a)) && among n e

      at : (x : Bool) → lies n left a b ≡ x → (lies n left b c ≡ true → knows n left f ≡ true) → knows n left (statements d f) ≡ true
      at true q i = or_left (inner || knows n left d) (knows n left f) (or_left inner (knows n left d) (and_from _ _ (sym (lies_is a b) ∙ q) g))
      at false q i = or_right (inner || knows n left d) (knows n left f) (i (lies_split n left (past' a) (past' b) (past' c) h q))

  -- and in the brackets of a head
  names_inside : {m : ℕ} {ns f e : List (List ℕ)} {a c : List Tok} {ts : Nodes} (d : Reads (HeadNames m ns f) e a c ts) → lies n left a c ≡ true → among n e ≡ true → knows n left d ≡ true
  names_inside (names_end {c = c}) h g = and_from _ _ (sym (here (length c) left) ∙ h) g
  names_inside {e = e} {a = a} {c = c} (next_name {w = w} {s = r} {b = b} m d) h g = at (lies n left a b) refl (λ k. names_inside d k (or_right (bytes_eq w n) (among n e) g))
    where
      at : (x : Bool) → lies n left a b ≡ x → (lies n left b c ≡ true → knows n left d ≡ true) → knows n left (next_name {s = r} m d) ≡ true
      at true q i = or_left ((left == length b + 1) && among n e) (knows n left d) (and_from _ _ (sym (here (length b) left) ∙ q) g)
      at false q i = or_right ((left == length b + 1) && among n e) (knows n left d) (i (lies_split n left (past' a) (past' b) (past' c) h q))

-- What the machine sees over a reading is what the reading knows.

beside : (x y z : Bool) → (x || (y || z)) ≡ ((x || y) || z)
beside true y z = refl
beside false y z = refl

-- in a block that begins with `A` before `B` and ends at `C`
block : (A B C E k Z : Bool) → (A ≡ true → B ≡ true) → (B ≡ true → C ≡ true) → ((C && not B) ≡ true → E ≡ true → k ≡ true) → (((B && not A) && E) || (k || Z)) ≡ ((((C && not A) && E) || k) || Z)
block true false C E k Z f g h = cc (f refl)
block A true false E k Z f g h = cc (g refl)
block true true true E k Z f g h = refl
block false true true true k Z f g h = refl
block false true true false k Z f g h = refl
block false false true true true Z f g h = refl
block false false true true false Z f g h = cc (h refl refl)
block false false true false k Z f g h = refl
block false false false E k Z f g h = refl

-- in parentheses, where `F` is known at the one that closes
parens : (A B C E F k Z : Bool) → (A ≡ true → B ≡ true) → (B ≡ true → C ≡ true) → (E ≡ true → F ≡ true) → ((((B && not A) && E) || k) || (((C && not B) && F) || Z)) ≡ ((((C && not A) && E) || (((C && not B) && F) || k)) || Z)
parens true false C E F k Z f g h = cc (f refl)
parens A true false E F k Z f g h = cc (g refl)
parens true true true E F k Z f g h = refl
parens false true true E F k Z f g h = refl
parens false false true true true true Z f g h = refl
parens false false true true true false Z f g h = refl
parens false false true true false k Z f g h = cc (h refl)
parens false false true false true true Z f g h = refl
parens false false true false true false Z f g h = refl
parens false false true false false k Z f g h = refl
parens false false false E F k Z f g h = refl

-- an expression behind what is before `B`, where `F` is known
widen : (A B C E F k l Z : Bool) → (A ≡ true → B ≡ true) → (B ≡ true → C ≡ true) → (E ≡ true → F ≡ true) → ((((B && not A) && E) || k) || ((((C && not B) && F) || l) || Z)) ≡ ((((C && not A) && E) || ((k || ((C && not B) && F)) || l)) || Z)
widen true false C E F k l Z f g h = cc (f refl)
widen A true false E F k l Z f g h = cc (g refl)
widen true true true E F true l Z f g h = refl
widen true true true E F false l Z f g h = refl
widen false true true true F k l Z f g h = refl
widen false true true false F true l Z f g h = refl
widen false true true false F false l Z f g h = refl
widen false false false E F true l Z f g h = refl
widen false false false E F false l Z f g h = refl
widen false false true true F true l Z f g h = refl
widen false false true false F true l Z f g h = refl
widen false false true true true false l Z f g h = refl
widen false false true true false false l Z f g h = cc (h refl)
widen false false true false true false l Z f g h = refl
widen false false true false false false l Z f g h = refl

-- and statements
widen_block : (A B C E k l Z : Bool) → (A ≡ true → B ≡ true) → (B ≡ true → C ≡ true) → ((C && not B) ≡ true → E ≡ true → l ≡ true) → ((((B && not A) && E) || k) || (l || Z)) ≡ ((((C && not A) && E) || (k || l)) || Z)
widen_block true false C E k l Z f g h = cc (f refl)
widen_block A true false E k l Z f g h = cc (g refl)
widen_block true true true E true l Z f g h = refl
widen_block true true true E false l Z f g h = refl
widen_block false true true true k l Z f g h = refl
widen_block false true true false true l Z f g h = refl
widen_block false true true false false l Z f g h = refl
widen_block false false false E true l Z f g h = refl
widen_block false false false E false l Z f g h = refl
widen_block false false true true true l Z f g h = refl
widen_block false false true false true l Z f g h = refl
widen_block false false true true false true Z f g h = refl
widen_block false false true true false false Z f g h = cc (h refl refl)
widen_block false false true false false l Z f g h = refl

-- the state after the statements of an arrow block and its bracket
abbrev end_commands : Span → Nodes → List (List ℕ) → List (List ℕ) → List Frame → State
end_commands s ts before ns K = supply (node (label.Arrow ns) s (one (node label.Commands s ts))) before K

module _ (n : List ℕ) (left : ℕ) where
  abbrev pub Looks : {p : Part} {e : List (List ℕ)} {a c : List Tok} {ts : Nodes} → Reads p e a c ts → Type 0
  Looks {p = Closed} {e = e} {a = a} {c = c} {ts = ts} d = (K : List Frame) → NoList K → (x : Shape) × Shows n left e a c (knows n left d) (sees n left (st Begin e K) a) (sees n left (closed x (first ts) e K) c)
  Looks {p = Chain} {e = e} {a = a} {c = c} {ts = ts} d = (K : List Frame) → Stays zero K → (x : Shape) × Shows n left e a c (knows n left d) (sees n left (st Begin e K) a) (sees n left (st (Have x (first ts)) e K) c)
  Looks {p = Sides m} {e = e} {a = a} {c = c} {ts = ts} d = (w : List ℕ) (s : Span) (had : Nodes) (K : List Frame) → Shows n left e a c (knows n left d) (sees n left (st Begin e (InNear w s had m ∷ K)) a) (sees n left (st (Have Fixed (node (label.Named w) s (join had ts))) e K) c)
  Looks {p = Call} {e = e} {a = a} {c = c} {ts = ts} d = (K : List Frame) → TakesCall K → Arrives n left zero e K K (first ts) a c (knows n left d)
  Looks {p = LastCall m} {e = e} {a = a} {c = c} {ts = ts} d = (w : List ℕ) (s : Span) (had : Nodes) (K : List Frame) → Arrives n left zero e (InNear w s had m ∷ K) K (node (label.Named w) s (join had ts)) a c (knows n left d)
  Looks {p = Items m} {e = e} {a = a} {c = c} {ts = ts} d = (w : List ℕ) (s : Span) (had : Nodes) (K : List Frame) → Arrives n left zero e (InMany w s had m ∷ K) K (node (label.Named w) s (join had ts)) a c (knows n left d)
  Looks {p = AnyItems} {e = e} {a = a} {c = c} {ts = ts} d =
      ((p : Span) (l : Label) (s : Span) (had : Nodes) (K : List Frame) → Breaking c → Shows n left e a c (knows n left d) (sees n left (st Begin e (InItems p l s had ∷ K)) a) (sees n left (st Begin e (InItems p l s (join had ts) ∷ K)) c))
      × ((w : List ℕ) (s : Span) (had : Nodes) (m : ℕ) (p : Span) (K : List Frame) (q : Span) (z : List Tok) → c ≡ close_paren q ∷ z → Shows n left e a z (knows n left d) (sees n left (st Begin e (InMany w s had m ∷ InParen p ∷ K)) a) (sees n left (closed Fixed (node label.Paren p (one (node (label.Named w) s (join had ts)))) e K) z))
  Looks {p = Level l} {e = e} {a = a} {c = c} {ts = ts} d = (K : List Frame) → l ≤ top → Stays l K → Arrives n left l e K K (first ts) a c (knows n left d)
  Looks {p = Literals} {e = e} {a = a} {c = c} {ts = ts} d =
      ((s : Span) (had : Nodes) (K : List Frame) → Shows n left e a c (knows n left d) (sees n left (st Listing e (InList s had ∷ K)) a) (sees n left (end_list (node label.List s (join had ts)) e K) c))
      × ((s : Span) (K : List Frame) → NoList K → Shows n left e a c (knows n left d) (sees n left (st Begin e (InBracket s ∷ K)) a) (sees n left (closed Literal (node label.List s ts) e K) c))
  Looks {p = Arg (Within b)} {e = e} {a = a} {c = c} {ts = ts} d = (K : List Frame) → Shows n left e a c (knows n left d) (sees n left (st (Opening b) e K) a) (sees n left (supply (first ts) e K) c)
  Looks {p = Arg Variable} {e = e} {a = a} {c = c} {ts = ts} d = (K : List Frame) → Shows n left e a c (knows n left d) (sees n left (st Choosing e K) a) (sees n left (supply (first ts) e K) c)
  Looks {p = Arg Maybe} d = Unit {0}
  Looks {p = Arg i} {e = e} {a = a} {c = c} {ts = ts} d = (w : List ℕ) (s : Span) (had : Nodes) (is : List Need) (last : Last) (K : List Frame) → Breaking c → Shows n left e a c (knows n left d) (sees n left (st Begin e (InCall w s had i is last ∷ K)) a) (sees n left (next w s (and_last had (first ts)) is last e K) c)
  Looks {p = Args is} {e = e} {a = a} {c = c} {ts = ts} d = (w : List ℕ) (s : Span) (had : Nodes) (last : Last) (K : List Frame) → Breaking c → Shows n left e a c (knows n left d) (sees n left (next w s had is last e K) a) (sees n left (next w s (join had ts) [] last e K) c)
  Looks {p = Head m ns f} d = Unit {0}
  Looks {p = HeadNames m ns f} {e = e} {a = a} {c = c} d = (k : Content) (s : Span) (before had : List (List ℕ)) (K : List Frame) → sees n left (st (InHead k m s before had) e K) a ≡ (knows n left d || sees n left (st (Behind k s before (had ++ ns)) f K) c)
  Looks {p = Statement f} {e = e} {a = a} {c = c} {ts = ts} d = (K : List Frame) → TakesStatement K → Breaking c → Shows n left e a c (knows n left d) (sees n left (st Stating e K) a) (sees n left (end_statement (first ts) f K) c)
  Looks {p = Statements AtBracket} {e = e} {a = a} {c = c} {ts = ts} d =
      ((s : Span) (before : List (List ℕ)) (had : Nodes) (K : List Frame) → sees n left (st Stating e (InStatements s AtBracket before had ∷ K)) a ≡ (knows n left d || sees n left (supply (node label.Commands s (join had ts)) before K) c))
      × ((s : Span) (before ns : List (List ℕ)) (had : Nodes) (K : List Frame) → sees n left (st Stating e (InArrowCommands s before ns had ∷ K)) a ≡ (knows n left d || sees n left (end_commands s (join had ts) before ns K) c))
  Looks {p = Statements AtEnd} {e = e} {a = a} {c = c} {ts = ts} d = (s : Span) (before : List (List ℕ)) (had : Nodes) (K : List Frame) → sees n left (st Stating e (InStatements s AtEnd before had ∷ K)) a ≡ (knows n left d || sees n left (st (Over (node label.Commands s (join had ts))) before K) c)

  -- one more statement
  stated_more : {k : Ending} {e f : List (List ℕ)} {a b c : List Tok} {t : Node} {ts : Nodes} {X Y : Bool} (Z : Bool) (d : Reads (Statement f) e a b (one t)) (g : Reads (Statements k) f b c ts) → Shows n left e a b (knows n left d) X Y → Y ≡ (knows n left g || Z) → X ≡ (knows n left (statements d g) || Z)
  stated_more {e = e} {a = a} {b = b} Z d g p q =
      p.is
      ∙ ap (λ y. ((lies n left a b && among n e) || knows n left d) || y) q
      ∙ beside ((lies n left a b && among n e) || knows n left d) (knows n left g) Z
      ∙ ap (λ y. (((y && among n e) || knows n left d) || knows n left g) || Z) (lies_is n left a b)

  -- the arrow of a head, where its names are known
  arrow_after : {e : List (List ℕ)} (f : List (List ℕ)) {a c : List Tok} {w : List ℕ} {r : Span} {k X Y Z : Bool} → Suffix (word w Arrow r ∷ c) a → (among n e ≡ true → among n f ≡ true) → Shows n left e a (word w Arrow r ∷ c) k X Y → Y ≡ ((lies n left (word w Arrow r ∷ c) c && among n f) || Z) → Shows n left e a c (((left == length c + 1) && among n f) || k) X Z
  arrow_after {e} f {a} {c} {w} {r} {k} {Z = Z} t g p q = record {
    is =
        p.is
        ∙ ap (λ y. ((lies n left a (word w Arrow r ∷ c) && among n e) || k) || y) q
        ∙ parens (past n left a) (past n left (word w Arrow r ∷ c)) (past n left c) (among n e) (among n f) k Z (past_rest n left t) (past_rest n left (longer {t = word w Arrow r} same)) g
        ∙ ap (λ y. ((lies n left a c && among n e) || ((y && among n f) || k)) || Z) (here (length c) left);
  }

  -- names in brackets, and the arrow
  bracketed : {e f ns : List (List ℕ)} {m : ℕ} {b c : List Tok} {w : List ℕ} {q r : Span} {X Y Z : Bool} (d : Reads (HeadNames m ns f) e b (word w Arrow r ∷ c) none) → X ≡ ((lies n left (open_bracket q ∷ b) b && among n e) || Y) → Y ≡ (knows n left d || ((lies n left (word w Arrow r ∷ c) c && among n f) || Z)) → Shows n left e (open_bracket q ∷ b) c (knows n left (head_names {s = q} d)) X Z
  bracketed {e} {f} {b = b} {c = c} {w = w} {q = q} {r = r} {Z = Z} d x y =
      let Y' = (lies n left (word w Arrow r ∷ c) c && among n f) || Z in
      arrow_after f {Y = Y'} (longer (suffix d)) (names_known n left d) (record {
        is =
            x
            ∙ ap (λ v. (lies n left (open_bracket q ∷ b) b && among n e) || v) y
            ∙ block (past n left (open_bracket q ∷ b)) (past n left b) (past n left (word w Arrow r ∷ c)) (among n e) (knows n left d) Y' (past_rest n left (longer {t = open_bracket q} same)) (past_rest n left (suffix d)) (names_inside n left d);
      }) refl

  -- the content of an arrow block behind its head, or behind its bracket
  expressed : {e f : List (List ℕ)} {a b c : List Tok} {k l X Y Z : Bool} → Suffix b a → Suffix c b → (among n e ≡ true → among n f ≡ true) → Shows n left e a b k X Y → Shows n left f b c l Y Z → Shows n left e a c ((k || ((nat_lt (length c) left && nat_le left (length b)) && among n f)) || l) X Z
  expressed {e} {f} {a} {b} {c} {k} {l} {Z = Z} r t g p q = record {
    is =
        p.is
        ∙ ap (λ y. ((lies n left a b && among n e) || k) || y) q.is
        ∙ widen (past n left a) (past n left b) (past n left c) (among n e) (among n f) k l Z (past_rest n left r) (past_rest n left t) g
        ∙ ap (λ y. ((lies n left a c && among n e) || ((k || (y && among n f)) || l)) || Z) (lies_is n left b c);
  }

  commanded : {e f : List (List ℕ)} {a b c : List Tok} {ts : Nodes} {k X Y Z : Bool} (d : Reads (Statements AtBracket) f b c ts) → Suffix b a → (among n e ≡ true → among n f ≡ true) → Shows n left e a b k X Y → Y ≡ (knows n left d || Z) → Shows n left e a c (k || knows n left d) X Z
  commanded {e} {f} {a} {b} {c} {k = k} {Z = Z} d r g p q = record {
    is =
        p.is
        ∙ ap (λ y. ((lies n left a b && among n e) || k) || y) q
        ∙ widen_block (past n left a) (past n left b) (past n left c) (among n e) k (knows n left d) Z (past_rest n left r) (past_rest n left (suffix d)) (λ h i. inside_known n left d h (g i));
  }

  many_step : (m : ℕ) (w : List ℕ) (s : Span) (had : Nodes) (p : Span) (K : List Frame) (q : Span) (z : List Tok) (e : List (List ℕ)) (a b c : List Tok) (t : Node) (us : Nodes) (f : Reads AnyItems e b c us) → Suffix b a → Breaking b → c ≡ close_paren q ∷ z → (known : Bool) → ((K : List Frame) → Stays zero K → Arrives n left zero e K K t a b known) → Looks f → Shows n left e a z (known || knows n left f) (sees n left (st Begin e (InMany w s had m ∷ InParen p ∷ K)) a) (sees n left (closed Fixed (node label.Paren p (one (node (label.Named w) s (join had (more t us))))) e K) z)
  many_step (suc m) w s had p K q z e a b c t us f r h eq known g k =
      alike n left (then n left r (beyond (suffix f) (subst (λ x. Suffix z x) (sym eq) (longer same)))
      (ended n left zero t e (InParen p ∷ K) a b (InMany w s had (suc m)) known (omega arith) (λ l. refl) h (g (InMany w s had (suc m) ∷ InParen p ∷ K) tt)).1
      (k.1 w s (and_last had t) m p K q z eq))
      (ap (λ ts. sees n left (closed Fixed (node label.Paren p (one (node (label.Named w) s ts))) e K) z) (join_last had t us))
  many_step zero w s had p K q z e a b c t us f r h eq known g k =
      let m : Arrives n left zero e (InMany w s had zero ∷ InParen p ∷ K) (InMany w s had zero ∷ InParen p ∷ K) t a b known = g (InMany w s had zero ∷ InParen p ∷ K) tt in
      let grown : Shows n left e a b known (sees n left (st Begin e (InMany w s had zero ∷ InParen p ∷ K)) a) (sees n left (st Begin e (InItems p (label.Named w) s (and_last had t) ∷ K)) b) =
      alike n left m.shown (break n left m.held Growing m.tree (node (label.Named w) s (and_last had t)) m.rest (InParen p ∷ K) e b h (sym (settle_more zero top (omega arith) m.held m.tree m.rest) ∙ ap (settle_got top) m.settles) ∙ run_items n left (label.Named w) s (and_last had t) p e K b h) in
      let rest : Shows n left e b c (knows n left f) (sees n left (st Begin e (InItems p (label.Named w) s (and_last had t) ∷ K)) b) (sees n left (st Begin e (InItems p (label.Named w) s (join (and_last had t) us) ∷ K)) c) = k.0 p (label.Named w) s (and_last had t) K (subst Breaking (sym eq) refl) in
      let closing : Shows n left e (close_paren q ∷ z) z false (sees n left (st Begin e (InItems p (label.Named w) s (join (and_last had t) us) ∷ K)) (close_paren q ∷ z)) (sees n left (closed Fixed (node label.Paren p (one (node (label.Named w) s (join (and_last had t) us)))) e K) z) = token n left (st Begin e (InItems p (label.Named w) s (join (and_last had t) us) ∷ K)) (close_paren q) z refl in
      let last : Shows n left e c z false (sees n left (st Begin e (InItems p (label.Named w) s (join (and_last had t) us) ∷ K)) c) (sees n left (closed Fixed (node label.Paren p (one (node (label.Named w) s (join (and_last had t) us)))) e K) z) = subst (λ x. Shows n left e x z false (sees n left (st Begin e (InItems p (label.Named w) s (join (and_last had t) us) ∷ K)) x) (sees n left (closed Fixed (node label.Paren p (one (node (label.Named w) s (join (and_last had t) us)))) e K) z)) (sym eq) closing in
      let end : Suffix z c = subst (λ x. Suffix z x) (sym eq) (longer same) in
      alike n left (then n left r (beyond (suffix f) end) grown (ends n left (suffix f) end rest last))
      (ap (λ ts. sees n left (closed Fixed (node label.Paren p (one (node (label.Named w) s ts))) e K) z) (join_last had t us))

  -- the step from the bracket of an arrow block to its head
  opened : (k : Content) (m : ℕ) (s : Span) (e : List (List ℕ)) (K : List Frame) (b : List Tok) → Shows n left e (open_bracket s ∷ b) b false (sees n left (st (Opening (blocks.Arrow k m)) e K) (open_bracket s ∷ b)) (sees n left (st (Heading k m s) e K) b)
  opened k m s e K b = token n left (st (Opening (blocks.Arrow k m)) e K) (open_bracket s) b refl

  -- where there is no head
  headless : (m : ℕ) (s : Span) (e : List (List ℕ)) (K : List Frame) (b : List Tok) → Starts e b → sees n left (st (Heading contents.Reporter m s) e K) b ≡ sees n left (st Begin e (InNoHead s m ∷ K)) b
  headless m s e K [] h = absurd h
  headless m s e K (tok ∷ b) h = ap (λ x. (lies n left (tok ∷ b) b && among n e) || sees_from n left x b) (begins_content m s e K tok b h)

  headless_block : (m : ℕ) (s : Span) (K : List Frame) {e : List (List ℕ)} {b c : List Tok} {ts : Nodes} → Reads (Statements AtBracket) e b c ts → sees n left (st (Heading contents.Commands m s) e K) b ≡ sees n left (st Stating e (InArrowCommands s e [] none ∷ K)) b
  headless_block m s K {b = []} d = refl
  headless_block m s K {e} {b = tok ∷ b} d = ap (λ x. (lies n left (tok ∷ b) b && among n e) || sees_from n left x b) (states_content m s K d)

  -- a head, up to the content
  abbrev Headed : Content → {m : ℕ} {ns f e : List (List ℕ)} {a c : List Tok} → Reads (Head m ns f) e a c none → Type 0
  Headed k {m} {ns} {f} {e} {a} {c} d = (s : Span) (K : List Frame) → Shows n left e a c (knows n left d) (sees n left (st (Heading k m s) e K) a) (sees n left (begin_content k s e ns f K) c)

  headed_arrow : (k : Content) (m : ℕ) {e : List (List ℕ)} {w : List ℕ} {r : Span} {c : List Tok} → Headed k (head_arrow {e = e} {n = m} {w = w} {s = r} {c = c})
  headed_arrow contents.Commands m {e} {w} {r} {c} = λ s K. token n left (st (Heading contents.Commands m s) e K) (word w Arrow r) c refl
  headed_arrow contents.Reporter m {e} {w} {r} {c} = λ s K. token n left (st (Heading contents.Reporter m s) e K) (word w Arrow r) c refl

  headed_name : (k : Content) (m : ℕ) {e : List (List ℕ)} {w v : List ℕ} {q r : Span} {c : List Tok} (h : IsTrue (not (among w e))) → Headed k {e = e} (head_name {n = m} {w = w} {v = v} {s = q} {r = r} {c = c} h)
  headed_name k m {e} {w} {v} {q} {r} {c} h = λ s K.
      let first = alike n left (token n left (st (Heading k (suc m) s) e K) (word w Unknown q) (word v Arrow r ∷ c) refl) (ap (λ x. sees_from n left x (word v Arrow r ∷ c)) (lone_name k m s w q e K h)) in
      subst (λ y. Shows n left e (word w Unknown q ∷ word v Arrow r ∷ c) c y (sees n left (st (Heading k (suc m) s) e K) (word w Unknown q ∷ word v Arrow r ∷ c)) (sees n left (begin_content k s e (w ∷ []) (w ∷ e) K) c)) (or_false ((left == length c + 1) && among n (w ∷ e))) (arrow_after (w ∷ e) (longer same) (or_right (bytes_eq w n) (among n e)) first refl)

  -- in a reporter's block the bracket of an expression becomes that of the head
  into_head : (s q : Span) (K : List Frame) {m : ℕ} {ns f e : List (List ℕ)} {b c : List Tok} {w : List ℕ} {r : Span} → Reads (HeadNames m ns f) e b (word w Arrow r ∷ c) none → sees n left (st Begin e (InBracket q ∷ InNoHead s m ∷ K)) b ≡ sees n left (st (InHead contents.Reporter m s e []) e K) b
  into_head s q K names_end = refl
  into_head s q K {e = e} (next_name {n = m} {w = w} {s = r} {b = b} h d) = ap (λ x. (lies n left (word w Unknown r ∷ b) b && among n e) || sees_from n left x b) (first_name m s q w r e K h ∙ sym (next_one contents.Reporter m s e [] w r e K h))

  headed_names : (k : Content) {m : ℕ} {ns f e : List (List ℕ)} {b c : List Tok} {w : List ℕ} {q r : Span} (d : Reads (HeadNames m ns f) e b (word w Arrow r ∷ c) none) → Looks d → Headed k (head_names {s = q} d)
  headed_names contents.Commands {e = e} d l = λ s K. bracketed d refl (l contents.Commands s e [] K)
  headed_names contents.Reporter {e = e} {q = q} d l = λ s K. bracketed d refl (into_head s q K d ∙ l contents.Reporter s e [] K)

  -- an arrow block with a head
  commands_block : {m : ℕ} {ns f e : List (List ℕ)} {s : Span} {b c z : List Tok} {ts : Nodes} (h : Reads (Head m ns f) e b c none) → Headed contents.Commands h → (d : Reads (Statements AtBracket) f c z ts) → Looks d → Looks (arg_arrow_commands {s = s} h d)
  commands_block {m} {ns} {e = e} {s = s} {b = b} h g d l = λ K. commanded d (longer (suffix h)) (head_known n left h) (chain n left (longer same) (suffix h) (opened contents.Commands m s e K b) (g s K)) (l.1 s e ns none K)

  reporter_block : {m : ℕ} {ns f e : List (List ℕ)} {s r : Span} {b c z : List Tok} {t : Node} (h : Reads (Head m ns f) e b c none) → Headed contents.Reporter h → (d : Reads (Level top) f c (close_bracket r ∷ z) (one t)) → Looks d → Looks (arg_arrow_reporter {s = s} {r = r} {t = t} h d)
  reporter_block {m} {ns} {f} {e} {s} {r} {b} {c} {z} {t} h g d l = λ K.
      let x = ended n left top t f K c (close_bracket r ∷ z) (InArrowReporter s e ns) (knows n left d) (omega arith) (λ l. refl) refl (l (InArrowReporter s e ns ∷ K) (omega arith) (refl, refl)) in
      expressed (longer (suffix h)) (beyond (suffix d) (longer same)) (head_known n left h) (chain n left (longer same) (suffix h) (opened contents.Reporter m s e K b) (g s K)) (ends n left (suffix d) (longer same) x.1 (token n left (st (Shut x.0 t) f (InArrowReporter s e ns ∷ K)) (close_bracket r) z refl))

  pub looks : {p : Part} {e : List (List ℕ)} {a c : List Tok} {ts : Nodes} (d : Reads p e a c ts) → Looks d
  looks {e = e} {c = c} (closed_number {n = v} {s = s}) = λ K g. (Literal, token n left (st Begin e K) (number v s) c refl)
  looks {e = e} {c = c} (closed_text {bytes = v} {s = s}) = λ K g. (Literal, token n left (st Begin e K) (text v s) c refl)
  looks {e = e} {c = c} (closed_constant {w = w} {s = s}) = λ K g. (Literal, token n left (st Begin e K) (word w Constant s) c refl)
  looks {e = e} {c = c} (closed_plain {w = w} {s = s}) = λ K g. (Fixed, token n left (st Begin e K) (word w Plain s) c refl)
  looks {e = e} {c = c} (closed_variable {w = w} {s = s}) = λ K g. (Fixed, token n left (st Begin e K) (word w Named s) c refl)
  looks {e = e} {c = c} (closed_local {w = w} {s = s} m) = λ K g. (Fixed, alike n left (token n left (st Begin e K) (word w Unknown s) c refl) (ap (λ x. sees_from n left (feed_local x w s e K) c) m))
  looks {e = e} {c = c} (closed_list {s = s} {b = b} {ts = ts} d) = λ K g. (Literal, chain n left (longer same) (suffix d) (token n left (st Begin e K) (open_bracket s) b refl) (at (looks d) K g))
    where
      at : Looks d → (K : List Frame) → NoList K → Shows n left e b c (knows n left d) (sees_from n left (begin_bracket s e K) b) (sees n left (closed Literal (node label.List s ts) e K) c)
      at m [] g = m.1 s [] g
      at m (InNear w r us k ∷ K) g = m.0 s none (InNear w r us k ∷ K)
      at m (f ∷ K) g = m.1 s (f ∷ K) g
  looks {e = e} (closed_block {w = w} {is = is} {k = k} {s = s} {a = a} {ts = ts} d f) = λ K g. (
    Fixed,
    chain n left (longer same) (beyond (suffix d) (suffix f)) (token n left (st Begin e K) (word w (Closing is k) s) a refl)
        (then n left (suffix d) (suffix f) (looks d w s none (lasts.Block k) K (heads f)) (looks f (InLastBlock w s ts k ∷ K))),
  )
  looks {e = e} (paren {s = s} {r = r} {b = b} {c = c} {t = t} d) = λ K g.
      let m = ended n left top t e K b (close_paren r ∷ c) (InParen s) (knows n left d) (omega arith) (λ m. refl) refl (looks d (InParen s ∷ K) (omega arith) (refl, refl)) in
      (Fixed, chain n left (longer same) (beyond (suffix d) (longer same)) (token n left (st Begin e K) (open_paren s) b refl) (ends n left (suffix d) (longer same) m.1 (token n left (st (Shut m.0 t) e (InParen s ∷ K)) (close_paren r) c refl)))
  looks {e = e} (paren_many {w = w} {n = m} {s = s} {r = r} {q = q} {b = b} {c = c} d) = λ K g. (
    Fixed,
    chain n left (longer same) (longer (beyond (suffix d) (longer same))) (token n left (st Begin e K) (open_paren s) (word w (Many m) r ∷ b) refl)
        (chain n left (longer same) (beyond (suffix d) (longer same)) (token n left (st Begin e (InParen s ∷ K)) (word w (Many m) r) b refl) ((looks d).1 w r none m s K q c refl)),
  )
  looks {e = e} (paren_minus {w = w} {l = l} {s = s} {r = r} {q = q} {b = b} {c = c} {t = t} d) = λ K g.
      let m = ended n left zero t e K b (close_paren q ∷ c) (InMinus s r) (knows n left d) (omega arith) (λ m. refl) refl (looks d (InMinus s r ∷ K) (omega arith) tt) in (
        Fixed,
        chain n left (longer same) (longer (beyond (suffix d) (longer same))) (token n left (st Begin e K) (open_paren s) (word w (Binary l true) r ∷ b) refl)
            (chain n left (longer same) (beyond (suffix d) (longer same)) (token n left (st Begin e (InParen s ∷ K)) (word w (Binary l true) r) b refl) (ends n left (suffix d) (longer same) m.1 (token n left (st (Shut m.0 t) e (InMinus s r ∷ K)) (close_paren q) c refl))),
      )
  looks {e = e} {c = c} (chain_closed {t = t} d) = λ K g. let m = looks d K (stays_no_list K g) in (m.0, alike n left m.1 (ap (λ s. sees n left s c) (closed_have m.0 t e K g)))
  looks {e = e} (chain_with {w = w} {s = s} {b = b} {t = t} d f) = λ K g. let m = looks d K g in
      (Fixed, then n left (beyond (suffix d) (longer same)) (suffix f) (ends n left (suffix d) (longer same) m.1 (token n left (st (Have m.0 t) e K) (word w With s) b refl)) (looks f (InWith w s t ∷ K)))
  looks {e = e} (chain_near {w = w} {n = k} {s = s} {b = b} {t = t} d f) = λ K g. let m = looks d K g in
      (Fixed, then n left (beyond (suffix d) (longer same)) (suffix f) (ends n left (suffix d) (longer same) m.1 (token n left (st (Have m.0 t) e K) (word w (Near k) s) b refl)) (looks f w s (one t) K))
  looks (one_side d) = λ w s had K. (looks d (InNear w s had zero ∷ K) tt).1
  looks {e = e} {c = c} (more_sides {n = k} {t = t} {us = us} d f) = λ w s had K. alike n left (then n left (suffix d) (suffix f) (looks d (InNear w s had (suc k) ∷ K) tt).1 (looks f w s (and_last had t) K)) (ap (λ ts. sees n left (st (Have Fixed (node (label.Named w) s ts)) e K) c) (join_last had t us))
  looks {e = e} {c = c} (call_prefix {w = w} {is = is} {s = s} {a = a} {b = b} {ts = ts} {t = t} d f) = λ K g.
      let m = looks f (InLastItem w s ts ∷ K) (omega arith) tt in
      record { held = m.held; tree = m.tree; rest = m.rest; shape = Fixed; shown = chain n left (longer same) (beyond (suffix d) (suffix f)) (alike n left (token n left (st Begin e K) (word w (Prefix is) s) a refl) (ap (λ x. sees_from n left x a) (begin_call_next w s is e K g))) (then n left (suffix d) (suffix f) (looks d w s none lasts.Item K (heads f)) m.shown); settles = m.settles }
  looks {e = e} {c = c} (call_many {w = w} {n = k} {s = s} {a = a} {ts = ts} d) = λ K g.
      let m = looks d w s none K in
      record { held = m.held; tree = m.tree; rest = m.rest; shape = m.shape; shown = chain n left (longer same) (suffix d) (alike n left (token n left (st Begin e K) (word w (Many k) s) a refl) (ap (λ x. sees_from n left x a) (begin_many_next w s k e K g))) m.shown; settles = m.settles }
  looks (one_item {t = t} d) = λ w s had K.
      let m = looks d (InMany w s had zero ∷ K) (omega arith) tt in
      record { held = m.held; tree = m.tree; rest = m.rest; shape = Growing; shown = m.shown; settles = m.settles }
  looks {e = e} {a = a} (more_items {n = k} {b = b} {t = t} {us = us} d f) = λ w s had K.
      let m = looks f w s (and_last had t) K in
      record { held = m.held; tree = m.tree; rest = m.rest; shape = m.shape; shown = then n left (suffix d) (suffix f) (ended n left zero t e K a b (InMany w s had (suc k)) (knows n left d) (omega arith) (λ l. refl) (heads f) (looks d (InMany w s had (suc k) ∷ K) (omega arith) tt)).1 m.shown; settles = m.settles ∙ ap (λ ts. settle zero m.shape (node (label.Named w) s ts) K) (join_last had t us) }
  looks {e = e} {c = c} no_item = (
    λ p l s had K b. idle n left (ap (λ ts. sees n left (st Begin e (InItems p l s ts ∷ K)) c) (sym (join_none had))),
    λ w s had m p K q z eq. subst (λ x. Shows n left e x z false (sees n left (st Begin e (InMany w s had m ∷ InParen p ∷ K)) x) (sees n left (closed Fixed (node label.Paren p (one (node (label.Named w) s (join had none)))) e K) z)) (sym eq) (alike n left (token n left (st Begin e (InMany w s had m ∷ InParen p ∷ K)) (close_paren q) z refl) (ap (λ ts. sees n left (closed Fixed (node label.Paren p (one (node (label.Named w) s ts))) e K) z) (sym (join_none had)))),
  )
  looks {e = e} {a = a} {c = c} (any_item {b = b} {t = t} {us = us} d f) = (
    λ p l s had K g. alike n left (then n left (suffix d) (suffix f) (ended n left zero t e K a b (InItems p l s had) (knows n left d) (omega arith) (λ m. refl) (heads f g) (looks d (InItems p l s had ∷ K) (omega arith) tt)).1 ((looks f).0 p l s (and_last had t) K g)) (ap (λ ts. sees n left (st Begin e (InItems p l s ts ∷ K)) c) (join_last had t us)),
    λ w s had m p K q z eq. many_step m w s had p K q z e a b c t us f (suffix d) (heads f (subst Breaking (sym eq) refl)) eq (knows n left d) (λ K g. looks d K (omega arith) g) (looks f),
  )
  looks (last_call {t = t} d) = λ w s had K.
      let m = looks d (InNear w s had zero ∷ K) tt in
      record { held = m.held; tree = m.tree; rest = m.rest; shape = Fixed; shown = m.shown; settles = m.settles }
  looks (more_last {n = k} {b = b} {t = t} {us = us} d f) = λ w s had K.
      let m = looks f w s (and_last had t) K in
      record { held = m.held; tree = m.tree; rest = m.rest; shape = m.shape; shown = then n left (suffix d) (suffix f) (looks d (InNear w s had (suc k) ∷ K) tt).1 m.shown; settles = m.settles ∙ ap (λ ts. settle zero m.shape (node (label.Named w) s ts) K) (join_last had t us) }
  looks (item_chain {t = t} d) = λ K low g. let m = looks d K g in record { held = m.0; tree = t; rest = K; shape = m.0; shown = m.1; settles = refl }
  looks (item_call d) = λ K low g. looks d K (stays_takes_call K g)
  looks {e = e} (item_near {w = w} {n = k} {s = s} {b = b} {t = t} {us = us} d f) = λ K low g.
      let y = looks d K g in
      let m = looks f w s (one t) K in
      record { held = m.held; tree = m.tree; rest = m.rest; shape = m.shape; shown = then n left (beyond (suffix d) (longer same)) (suffix f) (ends n left (suffix d) (longer same) y.1 (token n left (st (Have y.0 t) e K) (word w (Near k) s) b refl)) m.shown; settles = m.settles }
  looks {e = e} (item_of {w = w} {s = r} {b = b} {u = u} (arg_reporter {s = s} {r = q} {b = a} {t = t} d) f) = λ K low g.
      let m = looks f (InOf w r (node label.Reporter s (one t)) ∷ K) low tt in
      let y = ended n left top t e K a (close_bracket q ∷ word w Of r ∷ b) (InBracket s) (knows n left d) (omega arith) (λ m. refl) refl (looks d (InBracket s ∷ K) (omega arith) (refl, refl)) in
      record { held = m.held; tree = m.tree; rest = m.rest; shape = Fixed; shown = chain n left (longer same) (beyond (suffix d) (longer (longer (suffix f)))) (alike n left (token n left (st Begin e K) (open_bracket s) a refl) (ap (λ x. sees_from n left x a) (begin_bracket_open s e K g))) (then n left (suffix d) (longer (longer (suffix f))) y.1 (chain n left (longer (longer same)) (suffix f) (bracket_of n left y.0 t s e K q w r b g) m.shown)); settles = m.settles }
  looks {e = e} {a = a} {c = c} (level_up {l = l} {t = t} d) = λ K low g. lift n left l (suc l) (omega arith) e K K t a c (knows n left d) (looks d K (omega (arith, low)) (stays_down l K g))
  looks {e = e} {a = a} {c = c} (level_binary {w = w} {l = l} {m = m} {s = s} {b = b} {t = t} {u = u} d f) = λ K low g.
      let y = right_side n left l w s e K t u b c (knows n left f) (looks f (InBinary (suc l) w s t ∷ K) (omega (arith, low)) (stays_binary l w s t K)) in
      record { held = y.held; tree = y.tree; rest = y.rest; shape = y.shape; shown = then n left (beyond (suffix d) (longer same)) (suffix f) (operator n left l w m s e K t a b (knows n left d) low g (suffix d) (looks d K low g)) y.shown; settles = y.settles }
  looks {e = e} {c = c} (literal_end {s = q}) = (
    λ s ts K. alike n left (token n left (st Listing e (InList s ts ∷ K)) (close_bracket q) c refl) (ap (λ us. sees n left (end_list (node label.List s us) e K) c) (sym (join_none ts))),
    λ s K g. token n left (st Begin e (InBracket s ∷ K)) (close_bracket q) c refl,
  )
  looks {e = e} {c = c} (literal_number {n = v} {s = r} {b = b} {ts = us} d) = (
    λ s ts K. alike n left (chain n left (longer same) (suffix d) (token n left (st Listing e (InList s ts ∷ K)) (number v r) b refl) ((looks d).0 s (and_last ts (leaf (label.Number v) r)) K)) (ap (λ us. sees n left (end_list (node label.List s us) e K) c) (join_last ts (leaf (label.Number v) r) us)),
    λ s K g. alike n left (chain n left (longer same) (suffix d) (alike n left (token n left (st Begin e (InBracket s ∷ K)) (number v r) b refl) (list_after n left d s (leaf (label.Number v) r) K)) ((looks d).0 s (one (leaf (label.Number v) r)) K)) (ap (λ z. sees n left z c) (end_list_closed (node label.List s (more (leaf (label.Number v) r) us)) e K g)),
  )
  looks {e = e} {c = c} (literal_text {bytes = v} {s = r} {b = b} {ts = us} d) = (
    λ s ts K. alike n left (chain n left (longer same) (suffix d) (token n left (st Listing e (InList s ts ∷ K)) (text v r) b refl) ((looks d).0 s (and_last ts (leaf (label.Text v) r)) K)) (ap (λ us. sees n left (end_list (node label.List s us) e K) c) (join_last ts (leaf (label.Text v) r) us)),
    λ s K g. alike n left (chain n left (longer same) (suffix d) (alike n left (token n left (st Begin e (InBracket s ∷ K)) (text v r) b refl) (list_after n left d s (leaf (label.Text v) r) K)) ((looks d).0 s (one (leaf (label.Text v) r)) K)) (ap (λ z. sees n left z c) (end_list_closed (node label.List s (more (leaf (label.Text v) r) us)) e K g)),
  )
  looks {e = e} {c = c} (literal_constant {w = v} {s = r} {b = b} {ts = us} d) = (
    λ s ts K. alike n left (chain n left (longer same) (suffix d) (token n left (st Listing e (InList s ts ∷ K)) (word v Constant r) b refl) ((looks d).0 s (and_last ts (leaf (label.Named v) r)) K)) (ap (λ us. sees n left (end_list (node label.List s us) e K) c) (join_last ts (leaf (label.Named v) r) us)),
    λ s K g. alike n left (chain n left (longer same) (suffix d) (alike n left (token n left (st Begin e (InBracket s ∷ K)) (word v Constant r) b refl) (list_after n left d s (leaf (label.Named v) r) K)) ((looks d).0 s (one (leaf (label.Named v) r)) K)) (ap (λ z. sees n left z c) (end_list_closed (node label.List s (more (leaf (label.Named v) r) us)) e K g)),
  )
  looks {e = e} (literal_list {s = r} {b = b} {c = y} {d = z} {ts = xs} {us = us} d f) = (
    λ s ts K. alike n left (chain n left (longer same) (beyond (suffix d) (suffix f)) (token n left (st Listing e (InList s ts ∷ K)) (open_bracket r) b refl) (then n left (suffix d) (suffix f) ((looks d).0 r none (InList s ts ∷ K)) ((looks f).0 s (and_last ts (node label.List r xs)) K))) (ap (λ us. sees n left (end_list (node label.List s us) e K) z) (join_last ts (node label.List r xs) us)),
    λ s K g. alike n left (chain n left (longer same) (beyond (suffix d) (suffix f)) (token n left (st Begin e (InBracket s ∷ K)) (open_bracket r) b refl) (then n left (suffix d) (suffix f) (alike n left ((looks d).1 r (InBracket s ∷ K) tt) (list_after n left f s (node label.List r xs) K)) ((looks f).0 s (one (node label.List r xs)) K))) (ap (λ y. sees n left y z) (end_list_closed (node label.List s (more (node label.List r xs) us)) e K g)),
  )
  looks {e = e} {a = a} {c = c} (arg_item {t = t} d) = λ w s ts is last K b. (ended n left zero t e K a c (InCall w s ts Item is last) (knows n left d) (omega arith) (λ m. refl) b (looks d (InCall w s ts Item is last ∷ K) (omega arith) tt)).1
  looks {e = e} {a = a} {c = c} (arg_whole {t = t} d) = λ w s ts is last K b. (ended n left top t e K a c (InCall w s ts Whole is last) (knows n left d) (omega arith) (λ m. refl) b (looks d (InCall w s ts Whole is last ∷ K) (omega arith) (refl, refl))).1
  looks {e = e} {c = c} (arg_commands {s = s} {b = b} {ts = ts} d) = λ K. record { is = ap (λ y. (lies n left (open_bracket s ∷ b) b && among n e) || y) ((looks d).0 s e none K) ∙ block (past n left (open_bracket s ∷ b)) (past n left b) (past n left c) (among n e) (knows n left d) (sees n left (supply (node label.Commands s ts) e K) c) (past_rest n left (longer {t = open_bracket s} same)) (past_rest n left (suffix d)) (inside_known n left d) }
  looks {e = e} (arg_reporter {s = s} {r = r} {b = b} {c = c} {t = t} d) = λ K.
      let m = ended n left top t e K b (close_bracket r ∷ c) (InReporter s) (knows n left d) (omega arith) (λ m. refl) refl (looks d (InReporter s ∷ K) (omega arith) (refl, refl)) in
      chain n left (longer same) (beyond (suffix d) (longer same)) (token n left (st (Opening blocks.Reporter) e K) (open_bracket s) b refl) (ends n left (suffix d) (longer same) m.1 (token n left (st (Shut m.0 t) e (InReporter s ∷ K)) (close_bracket r) c refl))
  looks {e = e} (arg_arrow_commands {n = m} {s = s} {b = b} no_head d) = λ K. commanded d (longer same) (λ h. h) (alike n left (opened contents.Commands m s e K b) (headless_block m s K d)) ((looks d).1 s e [] none K)
  looks (arg_arrow_commands {n = m} (head_arrow {w = w} {s = r}) d) = commands_block {m = m} (head_arrow {w = w} {s = r}) (headed_arrow contents.Commands m) d (looks d)
  looks (arg_arrow_commands (head_name {n = m} {w = w} {v = v} {s = q} {r = r} h) d) = commands_block (head_name {w = w} {v = v} {s = q} {r = r} h) (headed_name contents.Commands m h) d (looks d)
  looks (arg_arrow_commands (head_names {s = q} h) d) = commands_block (head_names {s = q} h) (headed_names contents.Commands h (looks h)) d (looks d)
  looks {e = e} (arg_arrow_reporter {n = m} {s = s} {r = r} {b = b} {d = z} {t = t} no_head d) = λ K.
      let x = ended n left top t e K b (close_bracket r ∷ z) (InNoHead s m) (knows n left d) (omega arith) (λ l. refl) refl (looks d (InNoHead s m ∷ K) (omega arith) (refl, refl)) in
      expressed (longer same) (beyond (suffix d) (longer same)) (λ h. h) (alike n left (opened contents.Reporter m s e K b) (headless m s e K b (starts d)))
      (ends n left (suffix d) (longer same) x.1 (alike n left (token n left (st (Shut x.0 t) e (InNoHead s m ∷ K)) (close_bracket r) z refl) (ap (λ y. sees_from n left y z) (shut_no_head t s e K r))))
  looks (arg_arrow_reporter {n = m} {s = s} (head_arrow {w = w} {s = r}) d) = reporter_block {m = m} (head_arrow {w = w} {s = r}) (headed_arrow contents.Reporter m) d (looks d)
  looks (arg_arrow_reporter (head_name {n = m} {w = w} {v = v} {s = q} {r = r} h) d) = reporter_block (head_name {w = w} {v = v} {s = q} {r = r} h) (headed_name contents.Reporter m h) d (looks d)
  looks (arg_arrow_reporter (head_names {s = q} h) d) = reporter_block (head_names {s = q} h) (headed_names contents.Reporter h (looks h)) d (looks d)
  looks {e = e} {c = c} (arg_variable {w = w} {s = s}) = λ K. token n left (st Choosing e K) (word w Named s) c refl
  looks {e = e} {c = c} (arg_local {w = w} {s = s} m) = λ K. alike n left (token n left (st Choosing e K) (word w Unknown s) c refl) (ap (λ x. sees_from n left (feed_variable x w s e K) c) m)
  looks no_head = tt
  looks head_arrow = tt
  looks (head_name h) = tt
  looks (head_names d) = tt
  looks {e = e} {c = c} names_end = λ k s before had K. ap (λ y. (y && among n e) || sees n left (st (Behind k s before had) e K) c) (here (length c) left) ∙ ap (λ ns. ((left == length c + 1) && among n e) || sees n left (st (Behind k s before ns) e K) c) (sym (append-nil had))
  looks {e = e} {c = c} (next_name {f = f} {ns = ns} {n = m} {w = w} {s = r} {b = b} h d) = λ k s before had K.
      ap (λ x. (lies n left (word w Unknown r ∷ b) b && among n e) || sees_from n left x b) (next_one k m s before had w r e K h)
      ∙ ap (λ y. (y && among n e) || sees n left (st (InHead k m s before (had ++ w ∷ [])) (w ∷ e) K) b) (here (length b) left)
      ∙ ap (λ y. ((left == length b + 1) && among n e) || y) (looks d k s before (had ++ w ∷ []) K)
      ∙ beside ((left == length b + 1) && among n e) (knows n left d) (sees n left (st (Behind k s before ((had ++ w ∷ []) ++ ns)) f K) c)
      ∙ ap (λ all. (((left == length b + 1) && among n e) || knows n left d) || sees n left (st (Behind k s before all) f K) c) (append_assoc had (w ∷ []) ns)
  looks {e = e} {c = c} no_arg = λ w s ts last K b. idle n left (ap (λ us. sees n left (next w s us [] last e K) c) (sym (join_none ts)))
  looks {e = e} {c = c} (arg {i = Item} {is = is} {t = t} {ts = us} d f) = λ w s ts last K g. alike n left (then n left (suffix d) (suffix f) (looks d w s ts is last K (heads f g)) (looks f w s (and_last ts t) last K g)) (ap (λ us. sees n left (next w s us [] last e K) c) (join_last ts t us))
  looks {e = e} {c = c} (arg {i = Whole} {is = is} {t = t} {ts = us} d f) = λ w s ts last K g. alike n left (then n left (suffix d) (suffix f) (looks d w s ts is last K (heads f g)) (looks f w s (and_last ts t) last K g)) (ap (λ us. sees n left (next w s us [] last e K) c) (join_last ts t us))
  looks {e = e} {c = c} (arg {i = Within k} {is = is} {t = t} {ts = us} d f) = λ w s ts last K g. alike n left (then n left (suffix d) (suffix f) (looks d (InCall w s ts (Within k) is last ∷ K)) (looks f w s (and_last ts t) last K g)) (ap (λ us. sees n left (next w s us [] last e K) c) (join_last ts t us))
  looks {e = e} {c = c} (arg {i = Variable} {is = is} {t = t} {ts = us} d f) = λ w s ts last K g. alike n left (then n left (suffix d) (suffix f) (looks d (InCall w s ts Variable is last ∷ K)) (looks f w s (and_last ts t) last K g)) (ap (λ us. sees n left (next w s us [] last e K) c) (join_last ts t us))
  looks (arg {i = Maybe} d f) = λ w s ts last K g. absurd (no_maybe d)
  looks {e = e} {c = c} (maybe_there {is = is} {t = t} {ts = us} d f) = λ w s ts last K g. alike n left (then n left (suffix d) (suffix f) (from n left (there n left d w s ts is last K) (looks d (InCall w s ts Maybe is last ∷ K))) (looks f w s (and_last ts t) last K g)) (ap (λ us. sees n left (next w s us [] last e K) c) (join_last ts t us))
  looks {e = e} {a = a} (maybe_missing {is = is} m d) = λ w s ts last K g. from n left (missing n left w s ts is last e K a (heads d g) m) (looks d w s ts last K g)
  looks {e = e} (command {w = w} {is = is} {s = s} {b = b} d) = λ K g m. chain n left (longer same) (suffix d) (alike n left (token n left (st Stating e K) (word w (Command is) s) b refl) (ap (λ x. sees_from n left x b) (stating e K (word w (Command is) s) g refl))) (looks d w s none lasts.Nothing K m)
  looks {e = e} {c = c} (make {w = w} {n = v} {s = s} {r = r} {b = b} {t = t} q d) = λ K g m.
      chain n left (longer same) (longer (suffix d)) (alike n left (token n left (st Stating e K) (word w Let s) (word v Unknown r ∷ b) refl) (ap (λ x. sees_from n left x (word v Unknown r ∷ b)) (stating e K (word w Let s) g refl)))
      (chain n left (longer same) (suffix d) (alike n left (token n left (st (Naming w s) e K) (word v Unknown r) b refl) (ap (λ x. sees_from n left (feed_fresh x w s v r e K) b) q)) (ended n left top t e K b c (InLet w s v r) (knows n left d) (omega arith) (λ l. refl) m (looks d (InLet w s v r ∷ K) (omega arith) (refl, refl))).1)
  looks {e = e} (statement_paren {f = f} {s = s} {r = r} {b = b} {c = c} {t = t} d) = λ K g m.
      let p = chain n left (longer same) (suffix d) (alike n left (token n left (st Stating e K) (open_paren s) b refl) (ap (λ x. sees_from n left x b) (stating e K (open_paren s) g refl))) (looks d (InStatementParen s ∷ K) tt refl) in
      record { is = p.is ∙ parens (past n left (open_paren s ∷ b)) (past n left (close_paren r ∷ c)) (past n left c) (among n e) (among n f) (knows n left d) (sees n left (end_statement (node label.Paren s (one t)) f K) c) (past_rest n left (longer {t = open_paren s} (suffix d))) (past_rest n left (longer {t = close_paren r} same)) (still_known n left d) ∙ ap (λ y. ((lies n left (open_paren s ∷ b) c && among n e) || ((y && among n f) || knows n left d)) || sees n left (end_statement (node label.Paren s (one t)) f K) c) (here (length c) left) }
  looks {e = e} {c = c} (at_bracket {s = q}) = (
    (λ s before ts K. ap (λ y. (y && among n e) || sees n left (supply (node label.Commands s ts) before K) c) (here (length c) left) ∙ ap (λ us. ((left == length c + 1) && among n e) || sees n left (supply (node label.Commands s us) before K) c) (sym (join_none ts))),
    λ s before ns ts K. ap (λ y. (y && among n e) || sees n left (end_commands s ts before ns K) c) (here (length c) left) ∙ ap (λ us. ((left == length c + 1) && among n e) || sees n left (end_commands s us before ns K) c) (sym (join_none ts)),
  )
  looks {e = e} (at_end {s = q}) = λ s before ts K. ap (λ y. (y && among n e) || false) (here 0 left)
  looks {c = c} (statements {k = AtBracket} {t = t} {ts = us} d f) = (
    (λ s before ts K. stated_more _ d f (looks d (InStatements s AtBracket before ts ∷ K) tt (heads f)) ((looks f).0 s before (and_last ts t) K) ∙ ap (λ vs. knows n left (statements d f) || sees n left (supply (node label.Commands s vs) before K) c) (join_last ts t us)),
    λ s before ns ts K. stated_more _ d f (looks d (InArrowCommands s before ns ts ∷ K) tt (heads f)) ((looks f).1 s before ns (and_last ts t) K) ∙ ap (λ vs. knows n left (statements d f) || sees n left (end_commands s vs before ns K) c) (join_last ts t us),
  )
  looks {c = c} (statements {k = AtEnd} {t = t} {ts = us} d f) = λ s before ts K. stated_more _ d f (looks d (InStatements s AtEnd before ts ∷ K) tt (heads f)) (looks f s before (and_last ts t) K) ∙ ap (λ vs. knows n left (statements d f) || sees n left (st (Over (node label.Commands s vs)) before K) c) (join_last ts t us)
