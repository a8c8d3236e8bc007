-- The words of a text come in the order of the text: by induction over the reading of its tokens.
use Rattle.std.proofs.Common.{◌≡◌, ℕ, zero, suc, ◌+◌, Bool, true, false, not, ◌||◌, ◌&&◌, List, [], ◌∷◌, ◌++◌, map, Option, Some, None, refl, sym, ap, subst, ◌∙◌, cond, bytes_eq, append_assoc, length, ◌≤◌, arith}
use Rattle.std.proofs.lemmas.List.{map-append}
use Rattle.std.specs.Prelude.{if◌then◌else◌, ◌==◌, nat_le, ◌-◌, codes}
use Rattle.std.specs.List.{list_any, list_all}
use Rattle.std.specs.Cmp.{first_so, second_so}
use Rattle.nl_fixed.specs.Nouns.{Name, Names}
use Rattle.nl_fixed.specs.declared.span.Span.{Span}
use Rattle.nl_words.specs.Row.{Row, row_named}
use Rattle.nl_words.specs.Rows.{rows}
use Rattle.nl_words.specs.declared.entry.Kinds.{Kinds}
use Rattle.nl_words.specs.declared.entry.Role.{Role}
use Rattle.nl_words.specs.declared.entry.Role.TheVariants as role
use Rattle.nl_words.specs.declared.entry.Input.{Input}
use Rattle.nl_words.specs.declared.entry.Input.TheVariants as input
use Rattle.nl_words.specs.declared.entry.Manner.TheVariants as manner
use Rattle.nl_tree.specs.declared.needs.Block.{Block}
use Rattle.nl_tree.specs.declared.needs.Need.{Need}
use Rattle.nl_tree.specs.declared.needs.Need.TheVariants.{Item, Whole, Within, Maybe, Variable}
use Rattle.nl_tree.specs.declared.tree.Label.{Label}
use Rattle.nl_tree.specs.declared.tree.Label.TheVariants as label
use Rattle.nl_tree.specs.Tree.{Node, node, Nodes, none, more}
use Rattle.nl_tree.specs.Term.{Term}
use Rattle.nl_tree.specs.Tokens.{Class, Unknown, Constant, Plain, Named, Prefix, Many, Closing, Command, Let, With, Near, Of, Binary, Nowhere, is_new, need_of_command, need_of_reporter, repeated, inputs_of, before, last_need, reporter_of, reporter_class, one_more, many_class, command_class, near_class, operator_class, class_by, reserved_class, names_of, class_of, class_of_term, Arrow, Tok, word, close_bracket}
use Rattle.nl_tree.specs.Grammar as grammar
use Rattle.nl_tree.specs.Grammar.{one, two, leaf, join, and_last, Part, Arg, Args, Reads}
use Rattle.nl_tree.specs.Vocabulary.{term_named}
use Rattle.nl_tree.specs.Context.{Piece, Pieces, use_of, block_of, no_piece, a_piece, packed, Sub, text_of, inner_pieces, parts_pieces, all_pieces, after_first, is_operator, is_block, runs_itself, word_pieces, flat, label_at, span_at, pieces, subs, given, Use, with_piece, uses_in, uses_among, uses, block_kinds, kinds_of_subs, manner_by, row_of_what}
use Rattle.nl_tree.specs.Order.{Spot, spot, spot_of, Behind, a_paren, a_head, another, behind_word, meets_arrow, meets_names, behind_bracket, is_no_use, behind_no_use, words_from, used_words, UsesAreWords}
use Rattle.nl_tree.specs.Order.{AscendFrom, UsesAscend}
use Rattle.nl_tree.specs.declared.declared.Breed.{Breed}
use Rattle.nl_tree.specs.declared.declared.Declared.{Declared}
use Rattle.nl_tree.specs.declared.declared.Form.{Form}
use Rattle.nl_tree.specs.declared.declared.Form.TheVariants as form
use Rattle.nl_tree.specs.declared.declared.Procedure.{Procedure}
use Rattle.nl_tree.specs.Grammar.{IsText}
use Rattle.nl_tree.specs.Tokens as lexeme
use Rattle.nl_tree.specs.Tokens.{Lexeme, Token, marked_as, marked}
use Rattle.nl_tree.specs.Vocabulary.{Pattern, base_term, counted, global_names, global_term, owned_names, owned_term, made_as, made_name, made_terms, patterns, breed_terms, procedure_term, terms}
use Rattle.nl_tree.proofs.Marked.{AreMarked, all_marked}
use Rattle.nl_tree.proofs.Range.{found_passes}

-- ---- the spots of pieces

abbrev mutual
  pub spots_at : Piece → List Spot
  spots_at (use_of w s m) = spot w s ∷ []
  spots_at (block_of first ps) = spots_in ps

  pub spots_in : Pieces → List Spot
  spots_in no_piece = []
  spots_in (a_piece p ps) = spots_at p ++ spots_in ps

abbrev pub spots : List Piece → List Spot
spots ps = spots_in (packed ps)

pub spots-append : (ps qs : List Piece) → spots (ps ++ qs) ≡ spots ps ++ spots qs
spots-append [] qs = refl
spots-append (p ∷ ps) qs = ap (λ x. spots_at p ++ x) (spots-append ps qs) ∙ sym (append_assoc (spots_at p) (spots ps) (spots qs))

mutual
  spots_used : (first : Kinds) (in_block : Bool) (ws : Names) (p : Piece) → map spot_of (uses_in first in_block ws p) ≡ spots_at p
  spots_used first in_block ws (use_of w s m) = refl
  spots_used first in_block ws (block_of inner ps) = all_used inner true [] ps

  all_used : (first : Kinds) (in_block : Bool) (ws : Names) (ps : Pieces) → map spot_of (uses_among first in_block ws ps) ≡ spots_in ps
  all_used first in_block ws no_piece = refl
  all_used first in_block ws (a_piece p ps) =
      map-append spot_of (uses_in first in_block ws p) (uses_among first in_block (with_piece ws p) ps)
      ∙ ap (λ x. x ++ map spot_of (uses_among first in_block (with_piece ws p) ps)) (spots_used first in_block ws p)
      ∙ ap (λ x. spots_at p ++ x) (all_used first in_block (with_piece ws p) ps)

pub uses_spots : (table : List Term) (first : Kinds) (t : Node) → map spot_of (uses table first t) ≡ spots (pieces table t)
uses_spots table first t = all_used first false [] (packed (pieces table t))

-- ---- what a class says of the row of its word

abbrev is_named_input : Input → Bool
is_named_input input.Variable = true
is_named_input input.Fresh = true
is_named_input i = false

abbrev is_value : Input → Bool
is_value input.Value = true
is_value i = false

abbrev Says : ℕ → Class → Role → List Input → Type 0
Says n (Prefix ns) r is = (is_operator r ≡ false) × (map (need_of_reporter n) is ≡ ns ++ Item ∷ []) × (list_any is_new is ≡ false)
Says n (Closing ns b) r is = (is_operator r ≡ false) × (map (need_of_reporter n) is ≡ ns ++ Within b ∷ []) × (list_any is_new is ≡ false)
Says n (Many m) r is = (is_operator r ≡ false) × (list_all is_value is ≡ true)
Says n (Command ns) r is = (is_operator r ≡ false) × (map (need_of_command n) is ≡ ns) × (list_any is_new is ≡ false)
Says n Let r is = (is_operator r ≡ false) × (is ≡ input.Fresh ∷ input.Value ∷ [])
Says n With r is = is_operator r ≡ true
Says n (Near m) r is = is_operator r ≡ true
Says n Of r is = is_operator r ≡ true
Says n (Binary l m) r is = is_operator r ≡ true
Says n c r is = Unit {0}

command_by : (n : ℕ) (is : List Input) (b : Bool) → list_any is_new is ≡ b → Says n (if b then Nowhere else Command (map (need_of_command n) is)) role.Command is
command_by n is true h = tt
command_by n is false h = (refl, refl, h)

says_command : (n : ℕ) (is : List Input) → Says n (command_class n is) role.Command is
says_command n (input.Fresh ∷ input.Value ∷ []) = (refl, refl)
says_command n is = command_by n is (list_any is_new is) refl

says_before : (n : ℕ) (i : Input) (js : List Input) (c : Class) → list_any is_new (i ∷ js) ≡ false → Says n c role.Reporter js → Says n (before (need_of_reporter n i) c) role.Reporter (i ∷ js)
says_before n i js (Prefix ns) e h = (refl, ap (λ x. need_of_reporter n i ∷ x) h.1, e)
says_before n i js (Closing ns b) e h = (refl, ap (λ x. need_of_reporter n i ∷ x) h.1, e)
says_before n i js c e h = tt

second_new : (a b : Bool) → (a || b) ≡ false → b ≡ false
second_new true b h = cc
second_new false b h = h

says_reporter : (n : ℕ) (is : List Input) → list_any is_new is ≡ false → Says n (reporter_of n is) role.Reporter is
says_reporter n [] e = tt
says_reporter n (input.Value ∷ []) e = (refl, refl, e)
says_reporter n (input.Commands ∷ []) e = (refl, refl, e)
says_reporter n (input.Reporter ∷ []) e = (refl, refl, e)
says_reporter n (input.ArrowCommands ∷ []) e = (refl, refl, e)
says_reporter n (input.ArrowReporter ∷ []) e = (refl, refl, e)
says_reporter n (i ∷ []) e = tt
says_reporter n (i ∷ j ∷ is) e = says_before n i (j ∷ is) (reporter_of n (j ∷ is)) e (says_reporter n (j ∷ is) (second_new (is_new i) (list_any is_new (j ∷ is)) e))

reporter_by : (n : ℕ) (is : List Input) (b : Bool) → list_any is_new is ≡ b → Says n (if b then Nowhere else reporter_of n is) role.Reporter is
reporter_by n is true h = tt
reporter_by n is false h = says_reporter n is h

says_more : (n : ℕ) (is : List Input) (c : Class) → Says n c role.Reporter is → Says n (one_more c) role.Reporter (input.Value ∷ is)
says_more n is (Many m) h = h
says_more n is c h = tt

says_many : (n : ℕ) (is : List Input) → Says n (many_class is) role.Reporter is
says_many n (input.Value ∷ []) = (refl, refl)
says_many n (input.Value ∷ j ∷ is) = says_more n (j ∷ is) (many_class (j ∷ is)) (says_many n (j ∷ is))
says_many n is = tt

says_near : (n l : ℕ) (is : List Input) → Says n (near_class is) (role.Operator l) is
says_near n l (input.Value ∷ input.Reporter ∷ []) = refl
says_near n l (input.Value ∷ input.Value ∷ []) = refl
says_near n l (input.Value ∷ input.Value ∷ input.Value ∷ []) = refl
says_near n l is = tt

says_operator : (n l : ℕ) (m : Bool) (is : List Input) (one two within : Bool)
    → Says n (if one then near_class is else (if two then Of else (if within then Binary (l - 4) m else Nowhere))) (role.Operator l) is
says_operator n l m is true two within = says_near n l is
says_operator n l m is false true within = refl
says_operator n l m is false false true = refl
says_operator n l m is false false false = tt

says_reserved : (n : ℕ) (is : List Input) (b : Bool) → Says n (reserved_class b) role.Reserved is
says_reserved n is true = tt
says_reserved n is false = tt

says : (name : Name) (r : Role) (many : Bool) (n : ℕ) (is : List Input) → Says n (class_by name r many n is) r is
says name role.Command many n is = says_command n is
says name role.Reporter true zero is = says_many zero is
says name role.Reporter true (suc n) is = reporter_by (suc n) is (list_any is_new is) refl
says name role.Reporter false n is = reporter_by n is (list_any is_new is) refl
says name (role.Operator level) many n is = says_operator n level (bytes_eq name (codes "-")) is (level == 1) (level == 2) (nat_le 4 level && nat_le level 9)
says name role.Constant many n is = tt
says name role.Variable many n is = tt
says name role.Reserved many n is = says_reserved n is (bytes_eq name (codes "->"))

-- the row behind a class that isn't that of a word without one
row_says : (o : Option Term) (c : Class) → c ≡ class_of o → (c ≡ Unknown → ⊥) → (t : Term) × ((o ≡ Some t) × Says (names_of t.turns) c t.role (inputs_of t))
row_says None c same known = absurd (known same)
row_says (Some t) c same known =
    (t, (refl, subst (λ k. Says (names_of t.turns) k t.role (inputs_of t)) (sym same) (says t.name t.role t.many (names_of t.turns) (inputs_of t))))

-- ---- rows that are in order: no input that is a name stands behind a block that may be missing, and none in an operator

abbrev is_calm : List Input → Bool
is_calm [] = true
is_calm (input.MaybeCommands ∷ is) = not (list_any is_named_input is)
is_calm (i ∷ is) = is_calm is

abbrev is_orderly : Term → Bool
is_orderly t = is_calm (inputs_of t) && (not (is_operator t.role) || not (list_any is_named_input (inputs_of t)))

-- ---- parts that their inputs fit

abbrev IsName : Node → Type 0
IsName t = (w : Name) × (s : Span) × (t ≡ leaf (label.Named w) s)

abbrev Fitting : List Input → Nodes → Type 0
Fitting is none = Unit {0}
Fitting [] (more t ts) = Unit {0}
Fitting (input.Fresh ∷ is) (more t ts) = ⊥
Fitting (input.Variable ∷ is) (more t ts) = IsName t × Fitting is ts
Fitting (i ∷ is) (more t ts) = Fitting is ts

neither : (a b : Bool) → (a || b) ≡ false → (a ≡ false) × (b ≡ false)
neither true b h = cc
neither false b h = (refl, h)

no_names_fit : (is : List Input) (ts : Nodes) → list_any is_named_input is ≡ false → Fitting is ts
no_names_fit is none h = tt
no_names_fit [] (more t ts) h = tt
no_names_fit (input.Fresh ∷ is) (more t ts) h = cc
no_names_fit (input.Variable ∷ is) (more t ts) h = cc
no_names_fit (i ∷ is) (more t ts) h = no_names_fit is ts h

values_have_no_names : (is : List Input) → list_all is_value is ≡ true → list_any is_named_input is ≡ false
values_have_no_names [] h = refl
values_have_no_names (input.Value ∷ is) h = values_have_no_names is h
values_have_no_names (i ∷ is) h = cc

-- the parts that needs read
abbrev NeedsFit : List Need → Nodes → Type 0
NeedsFit [] none = Unit {0}
NeedsFit [] (more t ts) = ⊥
NeedsFit (Maybe ∷ is) ts = Unit {0}
NeedsFit (i ∷ is) none = ⊥
NeedsFit (Variable ∷ is) (more t ts) = IsName t × NeedsFit is ts
NeedsFit (i ∷ is) (more t ts) = NeedsFit is ts

-- with a last part that is no name
item_last : (is : List Need) (ts : Nodes) (t : Node) → NeedsFit is ts → NeedsFit (is ++ Item ∷ []) (and_last ts t)
item_last [] none t h = tt
item_last [] (more u us) t h = absurd h
item_last (Maybe ∷ is) ts t h = tt
item_last (Variable ∷ is) (more u us) t h = (h.0, item_last is us t h.1)
item_last (i ∷ is) none t h = absurd h
item_last (i ∷ is) (more u us) t h = item_last is us t h

block_last : (b : Block) (is : List Need) (ts : Nodes) (t : Node) → NeedsFit is ts → NeedsFit (is ++ Within b ∷ []) (and_last ts t)
block_last b [] none t h = tt
block_last b [] (more u us) t h = absurd h
block_last b (Maybe ∷ is) ts t h = tt
block_last b (Variable ∷ is) (more u us) t h = (h.0, block_last b is us t h.1)
block_last b (i ∷ is) none t h = absurd h
block_last b (i ∷ is) (more u us) t h = block_last b is us t h

abbrev need_by : Bool → ℕ → Input → Need
need_by true n i = need_of_command n i
need_by false n i = need_of_reporter n i

not_true : (b : Bool) → not b ≡ true → b ≡ false
not_true true h = cc
not_true false h = refl

needs_are_inputs : (command : Bool) (n : ℕ) (is : List Input) (ts : Nodes) → list_any is_new is ≡ false → is_calm is ≡ true → NeedsFit (map (need_by command n) is) ts → Fitting is ts
needs_are_inputs command n is none e calm h = tt
needs_are_inputs command n [] (more t ts) e calm h = tt
needs_are_inputs command n (input.Fresh ∷ is) (more t ts) e calm h = cc
needs_are_inputs command n (input.MaybeCommands ∷ is) (more t ts) e calm h = no_names_fit is ts (not_true (list_any is_named_input is) calm)
needs_are_inputs true n (input.Variable ∷ is) (more t ts) e calm h = (h.0, needs_are_inputs true n is ts e calm h.1)
needs_are_inputs false n (input.Variable ∷ is) (more t ts) e calm h = (h.0, needs_are_inputs false n is ts e calm h.1)
needs_are_inputs true n (i ∷ is) (more t ts) e calm h = needs_are_inputs true n is ts e calm h
needs_are_inputs false n (i ∷ is) (more t ts) e calm h = needs_are_inputs false n is ts e calm h

-- ---- the spots of nodes

append-nil : (xs : List Spot) → xs ++ [] ≡ xs
append-nil [] = refl
append-nil (x ∷ xs) = ap (λ ys. x ∷ ys) (append-nil xs)

module _ (table : List Term) where
  abbrev spots_of_node : Node → List Spot
  spots_of_node t = spots (pieces table t)

  abbrev spots_of_nodes : Nodes → List Spot
  spots_of_nodes none = []
  spots_of_nodes (more t ts) = spots_of_node t ++ spots_of_nodes ts

  spots_of_nodes-join : (ts us : Nodes) → spots_of_nodes (join ts us) ≡ spots_of_nodes ts ++ spots_of_nodes us
  spots_of_nodes-join none us = refl
  spots_of_nodes-join (more t ts) us = ap (λ x. spots_of_node t ++ x) (spots_of_nodes-join ts us) ∙ sym (append_assoc (spots_of_node t) (spots_of_nodes ts) (spots_of_nodes us))

  flat_spots : (ts : Nodes) → spots (flat (subs table ts)) ≡ spots_of_nodes ts
  flat_spots none = refl
  flat_spots (more t ts) = spots-append (pieces table t) (flat (subs table ts)) ∙ ap (λ x. spots_of_node t ++ x) (flat_spots ts)

  inner_by : (b : Bool) (first : Kinds) (p : Sub) → spots (if b then block_of first (packed p.pieces) ∷ [] else p.pieces) ≡ spots p.pieces
  inner_by true first p = append-nil (spots p.pieces)
  inner_by false first p = refl

  inner_spots : (t : Term) (first : Kinds) (p : Sub) → spots (inner_pieces t first p) ≡ spots p.pieces
  inner_spots t first p = inner_by (is_block p.top && not (runs_itself t)) first p

  -- a word without parts
  alone : (o : Option Term) (w : Name) (s : Span) → spots (word_pieces o (use_of w s manner.Run) []) ≡ spot w s ∷ []
  alone None w s = refl
  alone (Some t) w s = by (is_operator t.role)
    where
      by : (b : Bool) → spots (if b then after_first (use_of w s manner.Run) [] else use_of w s manner.Run ∷ all_pieces []) ≡ spot w s ∷ []
      by true = refl
      by false = refl

  leaf_spots : (w : Name) (s : Span) → spots_of_node (leaf (label.Named w) s) ≡ spot w s ∷ []
  leaf_spots w s = alone (term_named table w) w s

  abbrev sub_of : Node → Sub
  sub_of t = record { top = label_at t; place = span_at t; pieces = pieces table t; gives = given table t }

  name_spots : (m : _) (t : Node) → IsName t → spots (use_of (text_of (label_at t)) (span_at t) m ∷ []) ≡ spots_of_node t
  name_spots m t (w, s, is) = subst (λ x. spots (use_of (text_of (label_at x)) (span_at x) m ∷ []) ≡ spots_of_node x) (sym is) (sym (leaf_spots w s))

  -- the parts of a word, one by one
  parts_spots : (t : Term) (first : Kinds) (is : List Input) (ts : Nodes) → Fitting is ts → spots (all_pieces (parts_pieces t first is (subs table ts))) ≡ spots_of_nodes ts
  parts_spots t first is none h = refl
  parts_spots t first [] (more u us) h =
      spots-append (inner_pieces t first (sub_of u)) (all_pieces (parts_pieces t first [] (subs table us)))
      ∙ ap (λ x. x ++ spots (all_pieces (parts_pieces t first [] (subs table us)))) (inner_spots t first (sub_of u))
      ∙ ap (λ x. spots_of_node u ++ x) (parts_spots t first [] us tt')
    where
      tt' : Fitting [] us
      tt' = no_names_fit [] us refl
  parts_spots t first (input.Fresh ∷ is) (more u us) h = absurd h
  parts_spots t first (input.Variable ∷ is) (more u us) h =
      spots-append (use_of (text_of (label_at u)) (span_at u) (manner_by (row_of_what t.what)) ∷ []) (all_pieces (parts_pieces t first is (subs table us)))
      ∙ ap (λ x. x ++ spots (all_pieces (parts_pieces t first is (subs table us)))) (name_spots (manner_by (row_of_what t.what)) u h.0)
      ∙ ap (λ x. spots_of_node u ++ x) (parts_spots t first is us h.1)
  parts_spots t first (i ∷ is) (more u us) h =
      spots-append (inner_pieces t first (sub_of u)) (all_pieces (parts_pieces t first is (subs table us)))
      ∙ ap (λ x. x ++ spots (all_pieces (parts_pieces t first is (subs table us)))) (inner_spots t first (sub_of u))
      ∙ ap (λ x. spots_of_node u ++ x) (parts_spots t first is us h)

  -- a word before its parts
  word_first : (o : Option Term) (t : Term) (w : Name) (s : Span) (ts : Nodes) → o ≡ Some t → is_operator t.role ≡ false → Fitting (inputs_of t) ts
      → spots (word_pieces o (use_of w s manner.Run) (subs table ts)) ≡ spot w s ∷ spots_of_nodes ts
  word_first o t w s ts row plain h =
      let here = use_of w s manner.Run in
      let first = block_kinds t (kinds_of_subs (subs table ts)) in
      let inner = parts_pieces t first (inputs_of t) (subs table ts) in
      subst (λ x. spots (word_pieces x here (subs table ts)) ≡ spot w s ∷ spots_of_nodes ts) (sym row)
      (subst (λ b. spots (if b then after_first here inner else here ∷ all_pieces inner) ≡ spot w s ∷ spots_of_nodes ts) (sym plain)
      (ap (λ x. spot w s ∷ x) (parts_spots t first (inputs_of t) ts h)))

  -- an operator behind its first part
  after_spots : (t : Term) (first : Kinds) (is : List Input) (w : Name) (s : Span) (l : Node) (us : Nodes) → list_any is_named_input is ≡ false
      → spots (after_first (use_of w s manner.Run) (parts_pieces t first is (subs table (more l us)))) ≡ spots_of_node l ++ (spot w s ∷ spots_of_nodes us)
  after_spots t first [] w s l us h =
      spots-append (inner_pieces t first (sub_of l)) (use_of w s manner.Run ∷ all_pieces (parts_pieces t first [] (subs table us)))
      ∙ ap (λ x. x ++ (spot w s ∷ spots (all_pieces (parts_pieces t first [] (subs table us))))) (inner_spots t first (sub_of l))
      ∙ ap (λ x. spots_of_node l ++ (spot w s ∷ x)) (parts_spots t first [] us (no_names_fit [] us refl))
  after_spots t first (input.Fresh ∷ is) w s l us h = cc
  after_spots t first (input.Variable ∷ is) w s l us h = cc
  after_spots t first (i ∷ is) w s l us h =
      spots-append (inner_pieces t first (sub_of l)) (use_of w s manner.Run ∷ all_pieces (parts_pieces t first is (subs table us)))
      ∙ ap (λ x. x ++ (spot w s ∷ spots (all_pieces (parts_pieces t first is (subs table us))))) (inner_spots t first (sub_of l))
      ∙ ap (λ x. spots_of_node l ++ (spot w s ∷ x)) (parts_spots t first is us (no_names_fit is us h))

  word_after : (o : Option Term) (t : Term) (w : Name) (s : Span) (l : Node) (us : Nodes) → o ≡ Some t → is_operator t.role ≡ true → list_any is_named_input (inputs_of t) ≡ false
      → spots (word_pieces o (use_of w s manner.Run) (subs table (more l us))) ≡ spots_of_node l ++ (spot w s ∷ spots_of_nodes us)
  word_after o t w s l us row operator h =
      let here = use_of w s manner.Run in
      let ps = subs table (more l us) in
      let first = block_kinds t (kinds_of_subs ps) in
      let inner = parts_pieces t first (inputs_of t) ps in
      subst (λ x. spots (word_pieces x here ps) ≡ spots_of_node l ++ (spot w s ∷ spots_of_nodes us)) (sym row)
      (subst (λ b. spots (if b then after_first here inner else here ∷ all_pieces inner) ≡ spots_of_node l ++ (spot w s ∷ spots_of_nodes us)) (sym operator)
      (after_spots t first (inputs_of t) w s l us h))

-- ---- the reading

lead : (nn xs a c : List Spot) (x : Spot) → nn ≡ x ∷ xs → a ≡ xs ++ c → x ∷ a ≡ (nn ++ []) ++ c
lead nn xs a c x h k = ap (λ z. x ∷ z) k ∙ ap (λ z. z ++ c) (sym h ∙ sym (append-nil nn))

wrap : (nn xs a c : List Spot) → nn ≡ xs → a ≡ xs ++ c → a ≡ (nn ++ []) ++ c
wrap nn xs a c h k = k ∙ ap (λ z. z ++ c) (sym h ∙ sym (append-nil nn))

both : (xs ys a b c : List Spot) → a ≡ xs ++ b → b ≡ ys ++ c → a ≡ (xs ++ ys) ++ c
both xs ys a b c h k = h ∙ ap (λ z. xs ++ z) k ∙ sym (append_assoc xs ys c)

single : (xs a c : List Spot) → a ≡ (xs ++ []) ++ c → a ≡ xs ++ c
single xs a c h = h ∙ ap (λ z. z ++ c) (append-nil xs)

-- an operator between its sides
between : (nn l us a b c : List Spot) (x : Spot) → nn ≡ l ++ (x ∷ us) → a ≡ l ++ (x ∷ b) → b ≡ us ++ c → a ≡ (nn ++ []) ++ c
between nn l us a b c x h k m =
    k ∙ ap (λ z. l ++ (x ∷ z)) m ∙ sym (append_assoc l (x ∷ us) c) ∙ ap (λ z. z ++ c) (sym h ∙ sym (append-nil nn))

-- ---- where heads are

-- neither an arrow comes next nor what ends a head's names
abbrev Quiet : List Tok → Type 0
Quiet c = (meets_arrow c ≡ false) × (meets_names c ≡ false)

-- what may come behind a part that is no head
abbrev Rest : Part → List Tok → Type 0
Rest (grammar.Head n ns f) c = ⊥
Rest (grammar.HeadNames n ns f) c = ⊥
Rest p c = Quiet c

-- so no such part begins with it
quiet : {p : Part} {e : Names} {a c : List Tok} {ts : Nodes} → Reads p e a c ts → Rest p c → Quiet a
quiet (grammar.closed_number) z = (refl, refl)
quiet (grammar.closed_text) z = (refl, refl)
quiet (grammar.closed_constant) z = (refl, refl)
quiet (grammar.closed_plain) z = (refl, refl)
quiet (grammar.closed_variable) z = (refl, refl)
quiet (grammar.closed_local h) z = (refl, z.1)
quiet (grammar.closed_list d) z = (refl, refl)
quiet (grammar.closed_block d f) z = (refl, refl)
quiet (grammar.paren d) z = (refl, refl)
quiet (grammar.paren_many d) z = (refl, refl)
quiet (grammar.paren_minus d) z = (refl, refl)
quiet (grammar.chain_closed d) z = quiet d z
quiet (grammar.chain_with d f) z = quiet d (refl, refl)
quiet (grammar.chain_near d f) z = quiet d (refl, refl)
quiet (grammar.one_side d) z = quiet d z
quiet (grammar.more_sides d f) z = quiet d (quiet f z)
quiet (grammar.call_prefix d f) z = (refl, refl)
quiet (grammar.call_many d) z = (refl, refl)
quiet (grammar.one_item d) z = quiet d z
quiet (grammar.more_items d f) z = quiet d (quiet f z)
quiet (grammar.no_item) z = z
quiet (grammar.any_item d f) z = quiet d (quiet f z)
quiet (grammar.last_call d) z = quiet d z
quiet (grammar.more_last d f) z = quiet d (quiet f z)
quiet (grammar.item_chain d) z = quiet d z
quiet (grammar.item_call d) z = quiet d z
quiet (grammar.item_near d f) z = quiet d (refl, refl)
quiet (grammar.item_of d f) z = quiet d (refl, refl)
quiet (grammar.level_up d) z = quiet d z
quiet (grammar.level_binary d f) z = quiet d (refl, refl)
quiet (grammar.literal_end) z = (refl, z.0)
quiet (grammar.literal_number d) z = (refl, refl)
quiet (grammar.literal_text d) z = (refl, refl)
quiet (grammar.literal_constant d) z = (refl, refl)
quiet (grammar.literal_list d f) z = (refl, refl)
quiet (grammar.arg_item d) z = quiet d z
quiet (grammar.arg_whole d) z = quiet d z
quiet (grammar.arg_commands d) z = (refl, refl)
quiet (grammar.arg_reporter d) z = (refl, refl)
quiet (grammar.arg_arrow_commands d f) z = (refl, refl)
quiet (grammar.arg_arrow_reporter d f) z = (refl, refl)
quiet (grammar.arg_variable) z = (refl, refl)
quiet (grammar.arg_local h) z = (refl, z.1)
quiet (grammar.no_arg) z = z
quiet (grammar.arg d f) z = quiet d (quiet f z)
quiet (grammar.no_head) z = absurd z
quiet (grammar.head_arrow) z = absurd z
quiet (grammar.head_name h) z = absurd z
quiet (grammar.head_names d) z = absurd z
quiet (grammar.names_end) z = absurd z
quiet (grammar.next_name h d) z = absurd z
quiet (grammar.maybe_there d f) z = quiet d (quiet f z)
quiet (grammar.maybe_missing h d) z = quiet d z
quiet (grammar.command d) z = (refl, refl)
quiet (grammar.make h d) z = (refl, refl)
quiet (grammar.statement_paren d) z = (refl, refl)
quiet (grammar.at_bracket) z = (refl, z.0)
quiet (grammar.at_end) z = (refl, refl)
quiet (grammar.statements d f) z = quiet d (quiet f z)

module _ (table : List Term) (orderly : (w : Name) (t : Term) → term_named table w ≡ Some t → is_orderly t ≡ true) where
  abbrev W : List Tok → List Spot
  W a = words_from another a

  abbrev NS : Nodes → List Spot
  NS ts = spots_of_nodes table ts

  abbrev N : Node → List Spot
  N t = spots_of_node table t

  abbrev Same : List Tok → Type 0
  Same a = words_from a_paren a ≡ W a

  abbrev OneName : Nodes → Type 0
  OneName (more t none) = IsName t
  OneName ts = ⊥

  abbrev ArgFits : Need → Nodes → Type 0
  ArgFits Variable ts = OneName ts
  ArgFits i ts = Unit {0}

  -- what else a part says: a negation's minus sign doesn't begin it, and its parts are what its needs ask for
  abbrev Also : Part → List Tok → Nodes → Type 0
  Also grammar.Closed a ts = Same a
  Also grammar.Chain a ts = Same a
  Also grammar.Call a ts = Same a
  Also (grammar.Level l) a ts = Same a
  Also (grammar.Statement f) a ts = Same a
  Also (grammar.Arg i) a ts = ArgFits i ts
  Also (grammar.Args is) a ts = NeedsFit is ts
  Also p a ts = Unit {0}

  abbrev Reading : Part → List Tok → List Tok → Nodes → Type 0
  Reading p a c ts = (W a ≡ NS ts ++ W c) × AreMarked table c × Also p a ts

  needs_cons : (i : Need) (is : List Need) (t : Node) (ts : Nodes) → ArgFits i (one t) → NeedsFit is ts → NeedsFit (i ∷ is) (more t ts)
  needs_cons Item is t ts h k = k
  needs_cons Whole is t ts h k = k
  needs_cons (Within b) is t ts h k = k
  needs_cons Maybe is t ts h k = tt
  needs_cons Variable is t ts h k = (h, k)

  calm_of : (w : Name) (t : Term) → term_named table w ≡ Some t → is_calm (inputs_of t) ≡ true
  calm_of w t row = first_so (is_calm (inputs_of t)) (not (is_operator t.role) || not (list_any is_named_input (inputs_of t))) (orderly w t row)

  operator_by : (o n : Bool) → o ≡ true → (not o || not n) ≡ true → n ≡ false
  operator_by true true is h = cc
  operator_by true false is h = refl
  operator_by false n is h = cc

  operator_of : (w : Name) (t : Term) → term_named table w ≡ Some t → is_operator t.role ≡ true → list_any is_named_input (inputs_of t) ≡ false
  operator_of w t row is =
      operator_by (is_operator t.role) (list_any is_named_input (inputs_of t)) is
      (second_so (is_calm (inputs_of t)) (not (is_operator t.role) || not (list_any is_named_input (inputs_of t))) (orderly w t row))

  -- a word before parts that its class reads

  head_spots : (w : Name) (s : Span) (ts : Nodes) (t : Term) → term_named table w ≡ Some t → is_operator t.role ≡ false → Fitting (inputs_of t) ts → N (node (label.Named w) s ts) ≡ spot w s ∷ NS ts
  head_spots w s ts t row plain fit = word_first table (term_named table w) t w s ts row plain fit

  command_spots : (w : Name) (ns : List Need) (s : Span) (ts : Nodes) → Command ns ≡ class_of (term_named table w) → NeedsFit ns ts → N (node (label.Named w) s ts) ≡ spot w s ∷ NS ts
  command_spots w ns s ts same fit =
      let (t, (row, said)) = row_says (term_named table w) (Command ns) same (λ e. cc) in
      head_spots w s ts t row said.0 (needs_are_inputs true (names_of t.turns) (inputs_of t) ts said.2 (calm_of w t row) (subst (λ x. NeedsFit x ts) (sym said.1) fit))

  prefix_spots : (w : Name) (ns : List Need) (s : Span) (ts : Nodes) (u : Node) → Prefix ns ≡ class_of (term_named table w) → NeedsFit ns ts → N (node (label.Named w) s (and_last ts u)) ≡ spot w s ∷ NS (and_last ts u)
  prefix_spots w ns s ts u same fit =
      let (t, (row, said)) = row_says (term_named table w) (Prefix ns) same (λ e. cc) in
      head_spots w s (and_last ts u) t row said.0 (needs_are_inputs false (names_of t.turns) (inputs_of t) (and_last ts u) said.2 (calm_of w t row) (subst (λ x. NeedsFit x (and_last ts u)) (sym said.1) (item_last ns ts u fit)))

  closing_spots : (w : Name) (ns : List Need) (b : Block) (s : Span) (ts : Nodes) (u : Node) → Closing ns b ≡ class_of (term_named table w) → NeedsFit ns ts → N (node (label.Named w) s (and_last ts u)) ≡ spot w s ∷ NS (and_last ts u)
  closing_spots w ns b s ts u same fit =
      let (t, (row, said)) = row_says (term_named table w) (Closing ns b) same (λ e. cc) in
      head_spots w s (and_last ts u) t row said.0 (needs_are_inputs false (names_of t.turns) (inputs_of t) (and_last ts u) said.2 (calm_of w t row) (subst (λ x. NeedsFit x (and_last ts u)) (sym said.1) (block_last b ns ts u fit)))

  many_spots : (w : Name) (n : ℕ) (s : Span) (ts : Nodes) → Many n ≡ class_of (term_named table w) → N (node (label.Named w) s ts) ≡ spot w s ∷ NS ts
  many_spots w n s ts same =
      let (t, (row, said)) = row_says (term_named table w) (Many n) same (λ e. cc) in
      head_spots w s ts t row said.0 (no_names_fit (inputs_of t) ts (values_have_no_names (inputs_of t) said.1))

  operator_spots : (w : Name) (s : Span) (l : Node) (us : Nodes) (c : Class) → c ≡ class_of (term_named table w) → (c ≡ Unknown → ⊥) → ((t : Term) → Says (names_of t.turns) c t.role (inputs_of t) → is_operator t.role ≡ true)
      → N (node (label.Named w) s (more l us)) ≡ N l ++ (spot w s ∷ NS us)
  operator_spots w s l us c same known operator =
      let (t, (row, said)) = row_says (term_named table w) c same known in
      word_after table (term_named table w) t w s l us row (operator t said) (operator_of w t row (operator t said))

  -- `let`: the new name is no use
  let_parts : (t : Term) (first : Kinds) (is : List Input) (n : Name) (r : Span) (u : Node) → is ≡ input.Fresh ∷ input.Value ∷ []
      → spots (all_pieces (parts_pieces t first is (subs table (two (leaf (label.Named n) r) u)))) ≡ NS (one u)
  let_parts t first is n r u same =
      subst (λ x. spots (all_pieces (parts_pieces t first x (subs table (two (leaf (label.Named n) r) u)))) ≡ NS (one u)) (sym same)
      (spots-append (inner_pieces t first (sub_of table u)) [] ∙ ap (λ x. x ++ []) (inner_spots table t first (sub_of table u)))

  let_spots : (w : Name) (s : Span) (n : Name) (r : Span) (u : Node) → Let ≡ class_of (term_named table w) → N (node (label.Named w) s (two (leaf (label.Named n) r) u)) ≡ spot w s ∷ NS (one u)
  let_spots w s n r u same =
      let (t, (row, said)) = row_says (term_named table w) Let same (λ e. cc) in
      let here = use_of w s manner.Run in
      let ps = subs table (two (leaf (label.Named n) r) u) in
      let first = block_kinds t (kinds_of_subs ps) in
      let inner = parts_pieces t first (inputs_of t) ps in
      subst (λ x. spots (word_pieces x here ps) ≡ spot w s ∷ NS (one u)) (sym row)
      (subst (λ b. spots (if b then after_first here inner else here ∷ all_pieces inner) ≡ spot w s ∷ NS (one u)) (sym said.0)
      (ap (λ x. spot w s ∷ x) (let_parts t first (inputs_of t) n r u said.1)))

  join_spots : (ts : Nodes) (u : Node) → NS (and_last ts u) ≡ NS ts ++ NS (one u)
  join_spots ts u = spots_of_nodes-join table ts (one u)

  -- a word, parts and a last one
  parts_then : (w : Name) (s : Span) (ts : Nodes) (u : Node) (a b c : List Tok) → N (node (label.Named w) s (and_last ts u)) ≡ spot w s ∷ NS (and_last ts u) → W a ≡ NS ts ++ W b → W b ≡ NS (one u) ++ W c
      → spot w s ∷ W a ≡ (N (node (label.Named w) s (and_last ts u)) ++ []) ++ W c
  parts_then w s ts u a b c head x y =
      lead (N (node (label.Named w) s (and_last ts u))) (NS (and_last ts u)) (W a) (W c) (spot w s) head
      (both (NS ts) (NS (one u)) (W a) (W b) (W c) x y ∙ ap (λ z. z ++ W c) (sym (join_spots ts u)))

  -- an operator behind its left side
  sides : (w : Name) (s : Span) (l : Node) (us : Nodes) (a b c : List Tok) → N (node (label.Named w) s (more l us)) ≡ N l ++ (spot w s ∷ NS us) → W a ≡ (N l ++ []) ++ (spot w s ∷ W b) → W b ≡ NS us ++ W c
      → W a ≡ (N (node (label.Named w) s (more l us)) ++ []) ++ W c
  sides w s l us a b c head x y = between (N (node (label.Named w) s (more l us))) (N l) (NS us) (W a) (W b) (W c) (spot w s) head (single (N l) (W a) (spot w s ∷ W b) x) y

  bracketed : (l : Label) (s : Span) (ts : Nodes) (a c : List Tok) → N (node l s ts) ≡ NS ts → W a ≡ NS ts ++ W c → W a ≡ (N (node l s ts) ++ []) ++ W c
  bracketed l s ts a c flat x = wrap (N (node l s ts)) (NS ts) (W a) (W c) flat x

  leaf_then : (w : Name) (s : Span) (c : List Tok) → spot w s ∷ W c ≡ (N (leaf (label.Named w) s) ++ []) ++ W c
  leaf_then w s c = lead (N (leaf (label.Named w) s)) [] (W c) (W c) (spot w s) (leaf_spots table w s) refl

  -- behind a bracket in which there are no names of a head
  opened : (b : List Tok) → meets_names b ≡ false → words_from (behind_bracket b) b ≡ W b
  opened b h = ap (λ q. words_from (if q then a_head else another) b) h

  -- a local that no arrow follows
  local_then : (w : Name) (s : Span) (c : List Tok) → meets_arrow c ≡ false → W (word w Unknown s ∷ c) ≡ (N (leaf (label.Named w) s) ++ []) ++ W c
  local_then w s c h = ap (λ q. if q then W c else spot w s ∷ W c) h ∙ leaf_then w s c

  -- the names of a head, and the head of an arrow block, are passed over
  names_words : {n : ℕ} {ns f e : Names} {b c : List Tok} {ts : Nodes} → Reads (grammar.HeadNames n ns f) e b c ts → AreMarked table b → (words_from a_head b ≡ W c) × AreMarked table c
  names_words (grammar.names_end) m = (refl, m.1)
  names_words (grammar.next_name h r) m = names_words r m.1

  names_meet : {n : ℕ} {ns f e : Names} {b c : List Tok} {ts : Nodes} → Reads (grammar.HeadNames n ns f) e b c ts → meets_arrow c ≡ true → meets_names b ≡ true
  names_meet (grammar.names_end) h = h
  names_meet (grammar.next_name k r) h = names_meet r h

  head_words : {n : ℕ} {ns f e : Names} {b c : List Tok} {ts : Nodes} → Reads (grammar.Head n ns f) e b c ts → AreMarked table b → meets_names c ≡ false → (words_from (behind_bracket b) b ≡ W c) × AreMarked table c
  head_words (grammar.no_head {c = c}) m h = (opened c h, m)
  head_words (grammar.head_arrow) m h = (refl, m.1)
  head_words (grammar.head_name k) m h = (refl, m.1.1)
  head_words (grammar.head_names {b = b} r) m h =
      let x = names_words r m.1 in
      (ap (λ q. words_from (if q then a_head else another) b) (names_meet r refl) ∙ x.0, x.1.1)

  read : {p : Part} {e : Names} {a c : List Tok} {ts : Nodes} → Reads p e a c ts → AreMarked table a → Rest p c → Reading p a c ts
  read (grammar.closed_number) m z = (refl, m.1, refl)
  read (grammar.closed_text) m z = (refl, m.1, refl)
  read (grammar.closed_constant {w = w} {s = s} {c = c}) m z = (leaf_then w s c, m.1, refl)
  read (grammar.closed_plain {w = w} {s = s} {c = c}) m z = (leaf_then w s c, m.1, refl)
  read (grammar.closed_variable {w = w} {s = s} {c = c}) m z = (leaf_then w s c, m.1, refl)
  read (grammar.closed_local {w = w} {s = s} {c = c} h) m z = (local_then w s c z.0, m.1, refl)
  read (grammar.closed_list {s = s} {b = b} {c = c} {ts = ts} r) m z =
      let x = read r m.1 z in
      (opened b (quiet r z).1 ∙ bracketed label.List s ts b c (flat_spots table ts) x.0, x.1, refl)
  read (grammar.closed_block {w = w} {is = is} {k = k} {s = s} {a = a} {b = b} {c = c} {ts = ts} {t = t} r q) m z =
      let x = read r m.1 (quiet q z) in
      let y = read q x.1 z in
      (parts_then w s ts t a b c (closing_spots w is k s ts t m.0 x.2) x.0 y.0, y.1, refl)
  read (grammar.paren {s = s} {b = b} {c = c} {t = t} r) m z =
      let x = read r m.1 (refl, refl) in
      (x.2 ∙ bracketed label.Paren s (one t) b c (flat_spots table (one t)) x.0, x.1.1, refl)
  read (grammar.paren_many {w = w} {n = n} {s = s} {r = r} {b = b} {c = c} {ts = ts} d) m z =
      let x = read d m.1.1 (refl, refl) in
      let head = many_spots w n r ts m.1.0 in
      let t = node (label.Named w) r ts in
      (lead (N (node label.Paren s (one t))) (NS ts) (W b) (W c) (spot w r) (flat_spots table (one t) ∙ append-nil (N t) ∙ head) x.0, x.1.1, refl)
  read (grammar.paren_minus {s = s} {r = r} {b = b} {c = c} {t = t} d) m z =
      let x = read d m.1.1 (refl, refl) in
      let u = node label.Negate r (one t) in
      (wrap (N (node label.Paren s (one u))) (NS (one t)) (W b) (W c) (flat_spots table (one u) ∙ append-nil (N u) ∙ flat_spots table (one t)) x.0, x.1.1, refl)
  read (grammar.chain_closed r) m z = read r m z
  read (grammar.chain_with {w = w} {s = s} {a = a} {b = b} {c = c} {t = t} {u = u} r q) m z =
      let x = read r m (refl, refl) in
      let y = read q x.1.1 z in
      (sides w s t (one u) a b c (operator_spots w s t (one u) With x.1.0 (λ e. cc) (λ k said. said)) x.0 y.0, y.1, x.2)
  read (grammar.chain_near {w = w} {n = n} {s = s} {a = a} {b = b} {c = c} {t = t} {us = us} r q) m z =
      let x = read r m (refl, refl) in
      let y = read q x.1.1 z in
      (sides w s t us a b c (operator_spots w s t us (Near n) x.1.0 (λ e. cc) (λ k said. said)) x.0 y.0, y.1, x.2)
  read (grammar.one_side r) m z = let x = read r m z in (x.0, x.1, tt)
  read (grammar.more_sides {a = a} {b = b} {c = c} {t = t} {us = us} r q) m z =
      let x = read r m (quiet q z) in
      let y = read q x.1 z in
      (both (N t) (NS us) (W a) (W b) (W c) (single (N t) (W a) (W b) x.0) y.0, y.1, tt)
  read (grammar.call_prefix {w = w} {is = is} {s = s} {a = a} {b = b} {c = c} {ts = ts} {t = t} r q) m z =
      let x = read r m.1 (quiet q z) in
      let y = read q x.1 z in
      (parts_then w s ts t a b c (prefix_spots w is s ts t m.0 x.2) x.0 y.0, y.1, refl)
  read (grammar.call_many {w = w} {n = n} {s = s} {a = a} {c = c} {ts = ts} r) m z =
      let x = read r m.1 z in
      (lead (N (node (label.Named w) s ts)) (NS ts) (W a) (W c) (spot w s) (many_spots w n s ts m.0) x.0, x.1, refl)
  read (grammar.one_item r) m z = let x = read r m z in (x.0, x.1, tt)
  read (grammar.more_items {a = a} {b = b} {c = c} {t = t} {us = us} r q) m z =
      let x = read r m (quiet q z) in
      let y = read q x.1 z in
      (both (N t) (NS us) (W a) (W b) (W c) (single (N t) (W a) (W b) x.0) y.0, y.1, tt)
  read (grammar.no_item) m z = (refl, m, tt)
  read (grammar.any_item {a = a} {b = b} {c = c} {t = t} {us = us} r q) m z =
      let x = read r m (quiet q z) in
      let y = read q x.1 z in
      (both (N t) (NS us) (W a) (W b) (W c) (single (N t) (W a) (W b) x.0) y.0, y.1, tt)
  read (grammar.last_call r) m z = let x = read r m z in (x.0, x.1, tt)
  read (grammar.more_last {a = a} {b = b} {c = c} {t = t} {us = us} r q) m z =
      let x = read r m (quiet q z) in
      let y = read q x.1 z in
      (both (N t) (NS us) (W a) (W b) (W c) (single (N t) (W a) (W b) x.0) y.0, y.1, tt)
  read (grammar.item_chain r) m z = read r m z
  read (grammar.item_call r) m z = read r m z
  read (grammar.item_near {w = w} {n = n} {s = s} {a = a} {b = b} {c = c} {t = t} {us = us} r q) m z =
      let x = read r m (refl, refl) in
      let y = read q x.1.1 z in
      (sides w s t us a b c (operator_spots w s t us (Near n) x.1.0 (λ e. cc) (λ k said. said)) x.0 y.0, y.1, x.2)
  read (grammar.item_of {w = w} {s = s} {a = a} {b = b} {c = c} {t = t} {u = u} r q) m z =
      let x = read r m (refl, refl) in
      let y = read q x.1.1 z in
      (sides w s t (one u) a b c (operator_spots w s t (one u) Of x.1.0 (λ e. cc) (λ k said. said)) x.0 y.0, y.1, block_begins r)
    where
      block_begins : {k : Block} {e : Names} {a c : List Tok} {ts : Nodes} → Reads (grammar.Arg (Within k)) e a c ts → Same a
      block_begins (grammar.arg_commands r) = refl
      block_begins (grammar.arg_reporter r) = refl
      block_begins (grammar.arg_arrow_commands h r) = refl
      block_begins (grammar.arg_arrow_reporter h r) = refl
  read (grammar.level_up r) m z = read r m z
  read (grammar.level_binary {w = w} {l = l} {m = minus} {s = s} {a = a} {b = b} {c = c} {t = t} {u = u} r q) m z =
      let x = read r m (refl, refl) in
      let y = read q x.1.1 z in
      (sides w s t (one u) a b c (operator_spots w s t (one u) (Binary l minus) x.1.0 (λ e. cc) (λ k said. said)) x.0 y.0, y.1, x.2)
  read (grammar.literal_end) m z = (refl, m.1, tt)
  read (grammar.literal_number r) m z = let x = read r m.1 z in (x.0, x.1, tt)
  read (grammar.literal_text r) m z = let x = read r m.1 z in (x.0, x.1, tt)
  read (grammar.literal_constant {w = w} {s = s} {b = b} {c = c} {ts = ts} r) m z =
      let x = read r m.1 z in
      (ap (λ z. spot w s ∷ z) x.0 ∙ ap (λ z. (z ++ NS ts) ++ W c) (sym (leaf_spots table w s)), x.1, tt)
  read (grammar.literal_list {s = s} {b = b} {c = c} {d = d} {ts = ts} {us = us} r q) m z =
      let x = read r m.1 (quiet q z) in
      let y = read q x.1 z in
      (opened b (quiet r (quiet q z)).1 ∙ both (N (node label.List s ts)) (NS us) (W b) (W c) (W d) (x.0 ∙ ap (λ z. z ++ W c) (sym (flat_spots table ts))) y.0, y.1, tt)
  read (grammar.arg_item r) m z = let x = read r m z in (x.0, x.1, tt)
  read (grammar.arg_whole r) m z = let x = read r m z in (x.0, x.1, tt)
  read (grammar.arg_commands {s = s} {b = b} {c = c} {ts = ts} r) m z =
      let x = read r m.1 z in
      (opened b (quiet r z).1 ∙ bracketed label.Commands s ts b c (flat_spots table ts) x.0, x.1, tt)
  read (grammar.arg_reporter {s = s} {b = b} {c = c} {t = t} r) m z =
      let x = read r m.1 (refl, z.0) in
      (opened b (quiet r (refl, z.0)).1 ∙ bracketed label.Reporter s (one t) b c (flat_spots table (one t)) x.0, x.1.1, tt)
  read (grammar.arg_arrow_commands {ns = ns} {s = s} {b = b} {c = c} {d = d} {ts = ts} h r) m z =
      let x = head_words h m.1 (quiet r z).1 in
      let y = read r x.1 z in
      let u = node label.Commands s ts in
      (x.0 ∙ bracketed (label.Arrow ns) s (one u) c d (flat_spots table (one u)) (bracketed label.Commands s ts c d (flat_spots table ts) y.0), y.1, tt)
  read (grammar.arg_arrow_reporter {ns = ns} {s = s} {b = b} {c = c} {d = d} {t = t} h r) m z =
      let x = head_words h m.1 (quiet r (refl, z.0)).1 in
      let y = read r x.1 (refl, z.0) in
      (x.0 ∙ bracketed (label.Arrow ns) s (one t) c d (flat_spots table (one t)) y.0, y.1.1, tt)
  read (grammar.no_head) m z = absurd z
  read (grammar.head_arrow) m z = absurd z
  read (grammar.head_name h) m z = absurd z
  read (grammar.head_names r) m z = absurd z
  read (grammar.names_end) m z = absurd z
  read (grammar.next_name h r) m z = absurd z
  read (grammar.arg_variable {w = w} {s = s} {c = c}) m z = (leaf_then w s c, m.1, (w, s, refl))
  read (grammar.arg_local {w = w} {s = s} {c = c} h) m z = (local_then w s c z.0, m.1, (w, s, refl))
  read (grammar.no_arg) m z = (refl, m, tt)
  read (grammar.arg {i = i} {is = is} {a = a} {b = b} {c = c} {t = t} {ts = ts} r q) m z =
      let x = read r m (quiet q z) in
      let y = read q x.1 z in
      (both (N t) (NS ts) (W a) (W b) (W c) (single (N t) (W a) (W b) x.0) y.0, y.1, needs_cons i is t ts x.2 y.2)
  read (grammar.maybe_there {a = a} {b = b} {c = c} {t = t} {ts = ts} r q) m z =
      let x = read r m (quiet q z) in
      let y = read q x.1 z in
      (both (N t) (NS ts) (W a) (W b) (W c) (single (N t) (W a) (W b) x.0) y.0, y.1, tt)
  read (grammar.maybe_missing h r) m z = let x = read r m z in (x.0, x.1, tt)
  read (grammar.command {w = w} {is = is} {s = s} {b = b} {c = c} {ts = ts} r) m z =
      let x = read r m.1 z in
      (lead (N (node (label.Named w) s ts)) (NS ts) (W b) (W c) (spot w s) (command_spots w is s ts m.0 x.2) x.0, x.1, refl)
  read (grammar.make {w = w} {n = n} {s = s} {r = r} {b = b} {c = c} {t = t} h d) m z =
      let x = read d m.1.1 z in
      (lead (N (node (label.Named w) s (two (leaf (label.Named n) r) t))) (NS (one t)) (W b) (W c) (spot w s) (let_spots w s n r t m.0) x.0, x.1, refl)
  read (grammar.statement_paren {s = s} {b = b} {c = c} {t = t} r) m z =
      let x = read r m.1 (refl, refl) in
      (x.2 ∙ bracketed label.Paren s (one t) b c (flat_spots table (one t)) x.0, x.1.1, refl)
  read (grammar.at_bracket) m z = (refl, m.1, tt)
  read (grammar.at_end) m z = (refl, m.1, tt)
  read (grammar.statements {a = a} {b = b} {c = c} {t = t} {ts = ts} r q) m z =
      let x = read r m (quiet q z) in
      let y = read q x.1 z in
      (both (N t) (NS ts) (W a) (W b) (W c) (single (N t) (W a) (W b) x.0) y.0, y.1, tt)

-- ---- a model's own rows are in order

all_orderly : list_all (λ r. is_orderly (base_term r)) rows ≡ true
unfolding rows
all_orderly = refl

abbrev AreOrderly : List Term → Type 0
AreOrderly [] = Unit {0}
AreOrderly (t ∷ ts) = (is_orderly t ≡ true) × AreOrderly ts

orderly-append : (ts us : List Term) → AreOrderly ts → AreOrderly us → AreOrderly (ts ++ us)
orderly-append [] us h k = k
orderly-append (t ∷ ts) us h k = (h.0, orderly-append ts us h.1 k)

orderly_base : (rs : List Row) → list_all (λ r. is_orderly (base_term r)) rs ≡ true → AreOrderly (map base_term rs)
orderly_base [] h = tt
orderly_base (r ∷ rs) h =
    (first_so (is_orderly (base_term r)) (list_all (λ (x : Row). is_orderly (base_term x)) rs) h, orderly_base rs (second_so (is_orderly (base_term r)) (list_all (λ (x : Row). is_orderly (base_term x)) rs) h))

orderly_counted : {A : Type 0} (f : ℕ → A → Term) → ((n : ℕ) (x : A) → is_orderly (f n x) ≡ true) → (n : ℕ) (xs : List A) → AreOrderly (counted f n xs)
orderly_counted f each n [] = tt
orderly_counted f each n (x ∷ xs) = (each n x, orderly_counted f each (n + 1) xs)

orderly_made_as : (n : ℕ) (name : Name) (o : Option Row) → ((r : Row) → o ≡ Some r → is_orderly (base_term r) ≡ true) → AreOrderly (made_as n name o)
orderly_made_as n name None each = tt
orderly_made_as n name (Some r) each = (each r refl, tt)

orderly_made : (n : ℕ) (b : Breed) (ps : List Pattern) → AreOrderly (made_terms n b ps)
orderly_made n b [] = tt
orderly_made n b (p ∷ ps) =
    orderly-append (made_as n (made_name b p) (row_named rows p.base)) (made_terms n b ps)
    (orderly_made_as n (made_name b p) (row_named rows p.base) (λ r here. found_passes (λ x. bytes_eq x.name p.base) (λ x. is_orderly (base_term x)) rows r all_orderly here))
    (orderly_made n b ps)

orderly_breeds : (n : ℕ) (bs : List Breed) → AreOrderly (breed_terms n bs)
orderly_breeds n [] = tt
orderly_breeds n (b ∷ bs) = orderly-append (made_terms n b (patterns b)) (breed_terms (n + 1) bs) (orderly_made n b (patterns b)) (orderly_breeds (n + 1) bs)

calm_values : (n : ℕ) → is_calm (repeated n) ≡ true
calm_values zero = refl
calm_values (suc n) = calm_values n

orderly_procedure : (n : ℕ) (p : Procedure) → is_orderly (procedure_term n p) ≡ true
orderly_procedure n p = by p.reporter (calm_values (length p.inputs))
  where
    by : (r : Bool) → is_calm (repeated (length p.inputs)) ≡ true → (is_calm (repeated (length p.inputs)) && (not (is_operator (if r then role.Reporter else role.Command)) || not (list_any is_named_input (repeated (length p.inputs))))) ≡ true
    by true h = rw h refl
    by false h = rw h refl

orderly_terms : (d : Declared) → AreOrderly (terms d)
orderly_terms d =
    orderly-append _ _ (orderly_base rows all_orderly)
    (orderly-append _ _
    (orderly-append _ _
    (orderly-append _ _
    (orderly_counted global_term (λ n x. refl) 0 (global_names d))
    (orderly_counted (owned_term d) (λ n x. refl) 0 (owned_names d)))
    (orderly_breeds 1 d.breeds))
    (orderly_counted procedure_term orderly_procedure 0 d.procedures))

named_orderly : (name : Name) (t : Term) (ts : List Term) → AreOrderly ts → term_named ts name ≡ Some t → is_orderly t ≡ true
named_orderly name t [] all here = cc
named_orderly name t (u ∷ us) all here = by (bytes_eq u.name name) here (named_orderly name t us all.1)
  where
    by : (same : Bool) → cond same (Some u) (term_named us name) ≡ Some t → (term_named us name ≡ Some t → is_orderly t ≡ true) → is_orderly t ≡ true
    by true found later = let it : u ≡ t = cc in subst (λ (x : Term). is_orderly x ≡ true) it all.0
    by false found later = later found

-- ---- the laws

text_words : (table : List Term) → ((w : Name) (t : Term) → term_named table w ≡ Some t → is_orderly t ≡ true) → (f : Form) (e : Names) (ts : List Token) (t : Node) → IsText f e (marked table ts) t
    → spots (pieces table t) ≡ used_words (marked table ts)
text_words table orderly form.Commands e ts t (parts, is, r) =
    let x = read table orderly r (all_marked table ts) (refl, refl) in
    subst (λ u. spots (pieces table u) ≡ used_words (marked table ts)) (sym is) (flat_spots table parts ∙ sym (append-nil (spots_of_nodes table parts)) ∙ sym x.0)
text_words table orderly form.Reporter e ts t (s, r) =
    let x = read table orderly r (all_marked table ts) (refl, refl) in
    sym (append-nil (spots (pieces table t))) ∙ sym (append-nil (spots (pieces table t) ++ [])) ∙ sym x.0

pub uses_are_words : UsesAreWords
uses_are_words d fit f e ts t first r = uses_spots (terms d) first t ∙ text_words (terms d) (λ w u here. named_orderly w u (terms d) (orderly_terms d) here) f e ts t r

ascend_lower : (m n : ℕ) (xs : List ℕ) → m ≤ n → AscendFrom n xs → AscendFrom m xs
ascend_lower m n [] h k = tt
ascend_lower m n (x ∷ xs) h k = (omega (arith, h, k.0), k.1)

abbrev starts : List Spot → List ℕ
starts xs = map (λ (x : Spot). x.span.start) xs

module _ (table : List Term) where
  words_ascend : (b : Behind) (n : ℕ) (ts : List Token) → AscendFrom n (map (λ (k : Token). k.span.start) ts) → AscendFrom n (starts (words_from b (marked table ts)))
  words_ascend b n [] h = tt
  words_ascend b n (t ∷ ts) h = by t.lexeme (λ c. words_ascend c (t.span.start + 1) ts h.1)
    where
      lower : (xs : List ℕ) → AscendFrom (t.span.start + 1) xs → AscendFrom n xs
      lower xs k = ascend_lower n (t.span.start + 1) xs (omega (arith, h.0)) k

      use_by : (none : Bool) (name : Name) (c : Class) → ((c : Behind) → AscendFrom (t.span.start + 1) (starts (words_from c (marked table ts))))
          → AscendFrom n (starts (if none then words_from (behind_no_use b) (marked table ts) else spot name t.span ∷ words_from (behind_word c) (marked table ts)))
      use_by true name c rest = lower (starts (words_from (behind_no_use b) (marked table ts))) (rest (behind_no_use b))
      use_by false name c rest = (h.0, rest (behind_word c))

      by : (l : Lexeme) → ((c : Behind) → AscendFrom (t.span.start + 1) (starts (words_from c (marked table ts)))) → AscendFrom n (starts (words_from b (marked_as table t.span l ∷ marked table ts)))
      by (lexeme.Word name) rest = use_by (is_no_use b (class_of (term_named table name)) (marked table ts)) name (class_of (term_named table name)) rest
      by lexeme.OpenParen rest = lower (starts (words_from a_paren (marked table ts))) (rest a_paren)
      by lexeme.Open rest = lower (starts (words_from (behind_bracket (marked table ts)) (marked table ts))) (rest (behind_bracket (marked table ts)))
      by l rest = lower (starts (words_from another (marked table ts))) (rest another)

starts_of_uses : (us : List Use) → starts (map spot_of us) ≡ map (λ (u : Use). u.span.start) us
starts_of_uses [] = refl
starts_of_uses (u ∷ us) = ap (λ x. u.span.start ∷ x) (starts_of_uses us)

pub uses_ascend : UsesAscend
uses_ascend d fit f e ts t first r tokens =
    let is = ap starts (uses_are_words d fit f e ts t first r) in
    subst (AscendFrom 0) (starts_of_uses (uses (terms d) first t)) (subst (AscendFrom 0) (sym is) (words_ascend (terms d) another 0 ts tokens))
