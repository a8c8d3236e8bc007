-- What a right text sets can be set: by its uses, each of which is the use of a word, or of a variable that a word names.
use Rattle.std.proofs.Common.{◌≡◌, inl, inr, ℕ, zero, suc, ℤ, Bool, true, false, not, ◌||◌, ◌&&◌, IsTrue, IsSome, List, [], ◌∷◌, ◌++◌, Option, Some, None, All, length, refl, sym, ap, subst, ◌∙◌}
use Rattle.std.specs.Prelude.{if◌then◌else◌, is_some}
use Rattle.std.specs.List.{list_any, list_all}
use Rattle.std.specs.Cmp.{first_so, second_so}
use Rattle.std.proofs.lemmas.List.Elements.{All-nil, All-cons, All-head, All-tail, All-weaker}
use Rattle.nl_fixed.specs.Nouns.{Name, Names}
use Rattle.nl_fixed.specs.declared.span.Span.{Span}
use Rattle.nl_words.specs.Row.{Row, Code}
use Rattle.nl_words.specs.Rows.{rows}
use Rattle.nl_words.specs.Kinds.{everyone, observers}
use Rattle.nl_words.specs.declared.entry.Kinds.{Kinds}
use Rattle.nl_words.specs.declared.entry.Role.TheVariants as role
use Rattle.nl_words.specs.declared.entry.Input.{Input}
use Rattle.nl_words.specs.declared.entry.Input.TheVariants as input
use Rattle.nl_words.specs.declared.entry.Manner.{Manner}
use Rattle.nl_words.specs.declared.entry.Manner.TheVariants as manner
use Rattle.nl_value.specs.Colors.{color_named}
use Rattle.nl_tree.specs.declared.declared.Declared.{Declared}
use Rattle.nl_tree.specs.declared.declared.Procedure.{Procedure}
use Rattle.nl_tree.specs.declared.faults.CheckKind.TheVariants.{WrongContext, NotSettable}
use Rattle.nl_tree.specs.declared.tree.Label.{Label}
use Rattle.nl_tree.specs.declared.tree.Label.TheVariants as label
use Rattle.nl_tree.specs.Context.{Piece, Pieces, use_of, block_of, no_piece, a_piece, packed, Sub, text_of, is_block, runs_itself, inner_pieces, parts_pieces, all_pieces, after_first, is_operator, word_pieces, flat, label_at, span_at, pieces, subs, given, Use, with_piece, uses_in, uses_among, uses, block_kinds, kinds_of_subs, manner_by, fixed_by, row_of_what, row_of_term, is_on_patches, is_not_settable, is_variable, IsRight}
use Rattle.nl_tree.specs.Term.{Term}
use Rattle.nl_tree.specs.Tokens.{inputs_of, names_of, repeated}
use Rattle.nl_tree.specs.Tree as tree
use Rattle.nl_tree.specs.Tree.{Node, node, Nodes, none, more, listed}
use Rattle.nl_tree.specs.Vocabulary.{base_term, directed_patterns, procedure_term, term_named, terms, turtle_patterns, undirected_patterns}
use Rattle.nl_agents_layout.specs.BuiltIn.{slot_of_code}
use Rattle.nl_agents_layout.specs.Nouns.{Slot}
use Rattle.nl_exec_meaning.specs.declared.words.Built.{Built}
use Rattle.nl_exec_meaning.specs.declared.words.Built.TheVariants as built
use Rattle.nl_exec_meaning.specs.declared.words.Control.TheVariants as control
use Rattle.nl_exec_meaning.specs.Cases.{Case, built_case, slot_case, apart_case, color_case, word_case, case_of, case_of_term, case_of_what}
use Rattle.nl_exec_meaning.specs.Cases as case
use Rattle.nl_exec_meaning.specs.Meaning.{slot_in}
use Rattle.nl_exec_meaning.specs.Words.{apart_word, built_word}
use Rattle.nl_exec_whole.specs.Parts.{Each, EachIn, is_local, is_settable, IsName, AreInputs, AreTaken, takes_any, AreOfWord, AreOf}
use Rattle.nl_exec_whole.specs.Settings.{can_be_set, SetsWhatItMay, TextsSetWhatTheyMay}
use Rattle.nl_exec_whole.proofs.Terms.{each_row, made_term, of_each_breed, pattern_by}
use Rattle.nl_exec_whole.proofs.Finding.{each_more}
use Rattle.nl_exec_whole.proofs.TextParts.{nodes_have_their_parts}

-- ---- lists

module _ {X : Type 0} (P : X → Type 0) where
  all_first : (xs ys : List X) → All P (xs ++ ys) → All P xs
  all_first [] ys h = All-nil P
  all_first (x ∷ xs) ys h = All-cons P x xs (All-head P x (xs ++ ys) h) (all_first xs ys (All-tail P x (xs ++ ys) h))

  all_last : (xs ys : List X) → All P (xs ++ ys) → All P ys
  all_last [] ys h = h
  all_last (x ∷ xs) ys h = all_last xs ys (All-tail P x (xs ++ ys) h)

-- ---- what holds of each use holds in all pieces

module _ (Q : Name → Manner → Type 0) where
  abbrev mutual
    OfPiece : Piece → Type 0
    OfPiece (use_of w s m) = Q w m
    OfPiece (block_of first ps) = OfPieces ps

    OfPieces : Pieces → Type 0
    OfPieces no_piece = Unit {0}
    OfPieces (a_piece p ps) = OfPiece p × OfPieces ps

  abbrev OfUse : Use → Type 0
  OfUse u = Q u.name u.manner

  mutual
    piece_from : (p : Piece) (first : Kinds) (in_block : Bool) (ws : Names) → All OfUse (uses_in first in_block ws p) → OfPiece p
    piece_from (use_of w s m) first in_block ws h = All-head OfUse _ [] h
    piece_from (block_of inner ps) first in_block ws h = pieces_from ps inner true [] h

    pieces_from : (ps : Pieces) (first : Kinds) (in_block : Bool) (ws : Names) → All OfUse (uses_among first in_block ws ps) → OfPieces ps
    pieces_from no_piece first in_block ws h = tt
    pieces_from (a_piece p ps) first in_block ws h = (
      piece_from p first in_block ws (all_first OfUse (uses_in first in_block ws p) (uses_among first in_block (with_piece ws p) ps) h),
      pieces_from ps first in_block (with_piece ws p) (all_last OfUse (uses_in first in_block ws p) (uses_among first in_block (with_piece ws p) ps) h),
    )

  first_pieces : (ps qs : List Piece) → OfPieces (packed (ps ++ qs)) → OfPieces (packed ps)
  first_pieces [] qs h = tt
  first_pieces (p ∷ ps) qs h = (h.0, first_pieces ps qs h.1)

  last_pieces : (ps qs : List Piece) → OfPieces (packed (ps ++ qs)) → OfPieces (packed qs)
  last_pieces [] qs h = h
  last_pieces (p ∷ ps) qs h = last_pieces ps qs h.1

  both_pieces : (ps qs : List Piece) → OfPieces (packed ps) → OfPieces (packed qs) → OfPieces (packed (ps ++ qs))
  both_pieces [] qs h k = k
  both_pieces (p ∷ ps) qs h k = (h.0, both_pieces ps qs h.1 k)

  -- the pieces of a word's parts, without those of the word itself
  of_parts : (operator : Bool) (w : Piece) (pss : List (List Piece)) → OfPieces (packed (if operator then after_first w pss else w ∷ all_pieces pss)) → OfPieces (packed (all_pieces pss))
  of_parts true w [] h = tt
  of_parts true w (ps ∷ pss) h = both_pieces ps (all_pieces pss) (first_pieces ps (w ∷ all_pieces pss) h) (last_pieces ps (w ∷ all_pieces pss) h).1
  of_parts false w pss h = h.1

  of_inner : (t : Term) (first : Kinds) (p : Sub) → OfPieces (packed (inner_pieces t first p)) → OfPieces (packed p.pieces)
  of_inner t first p h = by (is_block p.top && not (runs_itself t)) h
    where
      by : (b : Bool) → OfPieces (packed (if b then block_of first (packed p.pieces) ∷ [] else p.pieces)) → OfPieces (packed p.pieces)
      by true h = h.0
      by false h = h

-- ---- rows in which a name stands in no place of another input

abbrev is_named : Input → Bool
is_named input.Variable = true
is_named input.Fresh = true
is_named i = false

abbrev is_calm : List Input → Bool
is_calm [] = true
is_calm (input.MaybeCommands ∷ is) = not (list_any is_named is)
is_calm (i ∷ is) = is_calm is

abbrev keeps_places : Term → Bool
keeps_places t = if takes_any t then not (list_any is_named (inputs_of t)) else is_calm (inputs_of t)

not_true : (b : Bool) → not b ≡ true → b ≡ false
not_true true h = cc
not_true false h = refl

module _ (table : List Term) where
  -- names stand in the places of names
  abbrev Placed : List Input → List Node → Type 0
  Placed [] ts = Unit {0}
  Placed (i ∷ is) [] = Unit {0}
  Placed (input.Variable ∷ is) (t ∷ ts) = IsName table is_settable t × Placed is ts
  Placed (input.Fresh ∷ is) (t ∷ ts) = IsName table is_local t × Placed is ts
  Placed (i ∷ is) (t ∷ ts) = Placed is ts

  no_names : (is : List Input) (ts : List Node) → list_any is_named is ≡ false → Placed is ts
  no_names [] ts h = tt
  no_names (i ∷ is) [] h = tt
  no_names (input.Variable ∷ is) (t ∷ ts) h = cc
  no_names (input.Fresh ∷ is) (t ∷ ts) h = cc
  no_names (i ∷ is) (t ∷ ts) h = no_names is ts h

  calm_places : (n : ℕ) (is : List Input) (ts : List Node) → is_calm is ≡ true → AreInputs table n is ts → Placed is ts
  calm_places n [] ts c h = tt
  calm_places n (i ∷ is) [] c h = tt
  calm_places n (input.MaybeCommands ∷ is) (t ∷ ts) c h = no_names is ts (not_true (list_any is_named is) c)
  calm_places n (input.Variable ∷ is) (t ∷ ts) c h = (h.0, calm_places n is ts c h.1)
  calm_places n (input.Fresh ∷ is) (t ∷ ts) c h = (h.0, calm_places n is ts c h.1)
  calm_places n (i ∷ is) (t ∷ ts) c h = calm_places n is ts c h.1

  places : (n : ℕ) (any : Bool) (is : List Input) (ts : List Node) → (if any then not (list_any is_named is) else is_calm is) ≡ true → AreTaken table n any is ts → Placed is ts
  places n true is ts c h = no_names is ts (not_true (list_any is_named is) c)
  places n false is ts c h = calm_places n is ts c h

-- ---- each variable that a word names is a use

module _ (table : List Term) (Q : Name → Manner → Type 0) (tame : (w : Name) (t : Term) → term_named table w ≡ Some t → keeps_places t ≡ true) where
  abbrev Named : Manner → List Input → List Node → Type 0
  Named m [] ts = Unit {0}
  Named m (i ∷ is) [] = Unit {0}
  Named m (input.Variable ∷ is) (t ∷ ts) = (IsName table is_settable t × Q (text_of (tree.label t)) m) × Named m is ts
  Named m (i ∷ is) (t ∷ ts) = Named m is ts

  abbrev NamedBy : Option Term → List Node → Type 0
  NamedBy None ts = Unit {0}
  NamedBy (Some r) ts = Named (manner_by (row_of_what r.what)) (inputs_of r) ts

  abbrev NamedAt : Label → List Node → Type 0
  NamedAt (label.Named w) ts = NamedBy (term_named table w) ts
  NamedAt other ts = Unit {0}

  abbrev NamesUsed : Node → Type 0
  NamesUsed t = NamedAt (tree.label t) (tree.parts t)

  abbrev HasParts : Node → Type 0
  HasParts t = AreOf table (tree.label t) (tree.parts t)

  no_parts : (m : Manner) (is : List Input) → Named m is []
  no_parts m [] = tt
  no_parts m (i ∷ is) = tt

  leaf_used : (passes : Option Term → Bool) (t : Node) → IsName table passes t → Each NamesUsed t
  leaf_used passes t (w, s, (is, pass)) = subst (Each NamesUsed) (sym is) (by (term_named table w), tt)
    where
      by : (o : Option Term) → NamedBy o []
      by None = tt
      by (Some r) = no_parts (manner_by (row_of_what r.what)) (inputs_of r)

  label_same : (t : Node) → label_at t ≡ tree.label t
  label_same (node l s ts) = refl

  abbrev sub_of : Node → Sub
  sub_of t = record { top = label_at t; place = span_at t; pieces = pieces table t; gives = given table t }

  abbrev OfAll : List Piece → Type 0
  OfAll ps = OfPieces Q (packed ps)

  word_used : (o : Option Term) (w : Name) (s : Span) (ts : Nodes) → ((t : Term) → o ≡ Some t → keeps_places t ≡ true) → AreOfWord table o (listed ts)
      → OfAll (word_pieces o (use_of w s manner.Run) (subs table ts))
      → ((r : Term) (is : List Input) (first : Kinds) → Placed table is (listed ts) → OfAll (all_pieces (parts_pieces r first is (subs table ts)))
      → Named (manner_by (row_of_what r.what)) is (listed ts) × EachIn NamesUsed ts)
      → NamedBy o (listed ts) × EachIn NamesUsed ts
  word_used None w s none fit h k parts = (tt, tt)
  word_used None w s (more t ts) fit h k parts = cc
  word_used (Some r) w s ts fit h k parts =
      let first = block_kinds r (kinds_of_subs (subs table ts)) in
      parts r (inputs_of r) first (places table (names_of r.turns) (takes_any r) (inputs_of r) (listed ts) (fit r refl) h.1)
      (of_parts Q (is_operator r.role) (use_of w s manner.Run) (parts_pieces r first (inputs_of r) (subs table ts)) k)

  mutual
    used : (t : Node) → Each HasParts t → OfAll (pieces table t) → Each NamesUsed t
    used (node (label.Named w) s ts) h k =
        word_used (term_named table w) w s ts (tame w) h.0 k (λ r is c. parts_used ts r is c h.1)
    used (node (label.Number count) s ts) h k = (tt, flat_used ts h.1 k)
    used (node (label.Text bytes) s ts) h k = (tt, flat_used ts h.1 k)
    used (node label.List s ts) h k = (tt, flat_used ts h.1 k)
    used (node label.Negate s ts) h k = (tt, flat_used ts h.1 k)
    used (node label.Paren s ts) h k = (tt, flat_used ts h.1 k)
    used (node label.Commands s ts) h k = (tt, flat_used ts h.1 k)
    used (node label.Reporter s ts) h k = (tt, flat_used ts h.1 k)
    used (node (label.Arrow names) s ts) h k = (tt, flat_used ts h.1 k)

    flat_used : (ts : Nodes) → EachIn HasParts ts → OfAll (flat (subs table ts)) → EachIn NamesUsed ts
    flat_used none h k = tt
    flat_used (more t ts) h k =
        (used t h.0 (first_pieces Q (pieces table t) (flat (subs table ts)) k), flat_used ts h.1 (last_pieces Q (pieces table t) (flat (subs table ts)) k))

    parts_used : (ts : Nodes) (r : Term) (is : List Input) (first : Kinds) → EachIn HasParts ts → Placed table is (listed ts)
        → OfAll (all_pieces (parts_pieces r first is (subs table ts))) → Named (manner_by (row_of_what r.what)) is (listed ts) × EachIn NamesUsed ts
    parts_used none r is first h p k = (no_parts (manner_by (row_of_what r.what)) is, tt)
    parts_used (more t ts) r [] first h p k =
        let here = inner_pieces r first (sub_of t) in
        let rest = all_pieces (parts_pieces r first [] (subs table ts)) in
        let x = parts_used ts r [] first h.1 tt (last_pieces Q here rest k) in
        (tt, (used t h.0 (of_inner Q r first (sub_of t) (first_pieces Q here rest k)), x.1))
    parts_used (more t ts) r (input.Variable ∷ is) first h p k =
        let x = parts_used ts r is first h.1 p.1 k.1 in
        (((p.0, subst (λ l. Q (text_of l) (manner_by (row_of_what r.what))) (label_same t) k.0), x.0), (leaf_used is_settable t p.0, x.1))
    parts_used (more t ts) r (input.Fresh ∷ is) first h p k =
        let x = parts_used ts r is first h.1 p.1 k in
        (x.0, (leaf_used is_local t p.0, x.1))
    parts_used (more t ts) r (i ∷ is) first h p k =
        let here = inner_pieces r first (sub_of t) in
        let rest = all_pieces (parts_pieces r first is (subs table ts)) in
        let x = parts_used ts r is first h.1 p (last_pieces Q here rest k) in
        (x.0, (used t h.0 (of_inner Q r first (sub_of t) (first_pieces Q here rest k)), x.1))

-- ---- the rows of words that set

abbrev begins_with_name : List Input → Bool
begins_with_name (input.Variable ∷ is) = true
begins_with_name is = false

abbrev is_set : Manner → Bool
is_set manner.Set = true
is_set m = false

abbrev is_spread : Manner → Bool
is_spread manner.Spread = true
is_spread m = false

abbrev sets_by : Case → List Input → Manner → Bool
sets_by (case.Word runs breed (built.Control control.Set)) is m = begins_with_name is && is_set m
sets_by (case.Word runs breed (built.Spread word)) is m = begins_with_name is && is_spread m
sets_by other is m = true

abbrev term_sets : Term → Case → Bool
term_sets t it = sets_by it (inputs_of t) (manner_by (row_of_what t.what))

-- a variable that isn't fixed can be set, and one of patches that isn't fixed has a slot
abbrev term_yields : Term → Case → Bool
term_yields t it = can_be_set it || fixed_by (row_of_what t.what)

abbrev is_barred : Term → Bool
is_barred t = fixed_by (row_of_what t.what) || not (is_on_patches (Some t))

abbrev term_spreads : Term → Case → Bool
term_spreads t it = is_some (slot_in it) || is_barred t

pub record Yields (t : Term) (it : Case) : Type 0 where
  pub sets : term_sets t it ≡ true
  pub yields : term_yields t it ≡ true
  pub spreads : term_spreads t it ≡ true

abbrev row_passes : Row → Bool
row_passes r =
    let it = built_case (base_term r) None r.code in
    term_sets (base_term r) it && term_yields (base_term r) it && term_spreads (base_term r) it

rows_pass : list_all row_passes rows ≡ true
unfolding rows
rows_pass = refl

abbrev no_setter : Option Built → Bool
no_setter None = true
no_setter (Some (built.Control control.Set)) = false
no_setter (Some (built.Spread word)) = false
no_setter (Some other) = true

abbrev is_none : {A : Type 0} → Option A → Bool
is_none None = true
is_none (Some x) = false

abbrev breed_passes : Row → Bool
breed_passes r = is_none (slot_of_code r.code) && is_none (apart_word r.code) && not (is_variable r.role) && no_setter (built_word r.code)

turtles_pass : list_all (pattern_by breed_passes) turtle_patterns ≡ true
unfolding rows
turtles_pass = refl

undirected_pass : list_all (pattern_by breed_passes) undirected_patterns ≡ true
unfolding rows
undirected_pass = refl

directed_pass : list_all (pattern_by breed_passes) directed_patterns ≡ true
unfolding rows
directed_pass = refl

or_last : (a b : Bool) → b ≡ true → (a || b) ≡ true
or_last true b h = refl
or_last false b h = h

none_there : {A : Type 0} (o : Option A) → is_none o ≡ true → o ≡ None
none_there None h = refl
none_there (Some x) h = cc

-- a word that is no variable is barred
no_variable : (variable patch observer fixed : Bool) → variable ≡ false → (fixed || not (variable && patch && not observer)) ≡ true
no_variable true patch observer fixed h = cc
no_variable false patch observer fixed h = or_last fixed true refl

yields_base : (r : Row) → row_passes r ≡ true → Yields (base_term r) (built_case (base_term r) None r.code)
yields_base r h =
    let it = built_case (base_term r) None r.code in
    let a = term_sets (base_term r) it in
    let b = term_yields (base_term r) it in
    let c = term_spreads (base_term r) it in
    let two = first_so (a && b) c h in
    record { sets = first_so a b two; yields = second_so a b two; spreads = second_so (a && b) c h }

-- what is no variable and sets nothing
yields_other : (t : Term) (it : Case) → can_be_set it ≡ true → sets_by it (inputs_of t) (manner_by (row_of_what t.what)) ≡ true → is_variable t.role ≡ false → Yields t it
yields_other t it can sets plain =
    record {
      sets = sets;
      yields = ap (λ b. b || fixed_by (row_of_what t.what)) can;
      spreads = or_last (is_some (slot_in it)) (is_barred t) (no_variable (is_variable t.role) t.runs.patch t.runs.observer (fixed_by (row_of_what t.what)) plain);
    }

yields_word : (t : Term) (n : ℕ) (word : Option Built) → is_variable t.role ≡ false → no_setter word ≡ true → Yields t (word_case t.runs (Some n) word)
yields_word t n None plain h = yields_other t case.Nothing refl refl plain
yields_word t n (Some (built.Control control.Set)) plain h = cc
yields_word t n (Some (built.Spread word)) plain h = cc
yields_word t n (Some (built.Control word)) plain h = yields_other t _ refl refl plain
yields_word t n (Some (built.Over word)) plain h = yields_other t _ refl refl plain
yields_word t n (Some (built.Arrow word)) plain h = yields_other t _ refl refl plain
yields_word t n (Some (built.Making word)) plain h = yields_other t _ refl refl plain
yields_word t n (Some (built.Act which)) plain h = yields_other t _ refl refl plain

yields_color : (t : Term) (n : ℕ) (code : Code) (color : Option ℤ) → is_variable t.role ≡ false → no_setter (built_word code) ≡ true → Yields t (color_case t (Some n) code color)
yields_color t n code (Some count) plain h = yields_other t _ refl refl plain
yields_color t n code None plain h = yields_word t n (built_word code) plain h

yields_made : (n : ℕ) (name : Name) (r : Row) → breed_passes r ≡ true → Yields (made_term n name r) (built_case (made_term n name r) (Some n) r.code)
yields_made n name r h =
    let t = made_term n name r in
    let a = is_none (slot_of_code r.code) in
    let b = is_none (apart_word r.code) in
    let c = not (is_variable r.role) in
    let e = no_setter (built_word r.code) in
    let three = first_so (a && b && c) e h in
    let two = first_so (a && b) c three in
    subst (λ o. Yields t (slot_case t (Some n) r.code o)) (sym (none_there (slot_of_code r.code) (first_so a b two)))
    (subst (λ o. Yields t (apart_case t (Some n) r.code o)) (sym (none_there (apart_word r.code) (second_so a b two)))
    (yields_color t n r.code (color_named name) (not_true (is_variable r.role) (second_so (a && b) c three)) (second_so (a && b && c) e h)))

calm_values : (n : ℕ) → is_calm (repeated n) ≡ true
calm_values zero = refl
calm_values (suc n) = calm_values n

places_kept : list_all (λ r. keeps_places (base_term r)) rows ≡ true
unfolding rows
places_kept = refl

abbrev base_keeps : Row → Bool
base_keeps r = keeps_places (base_term r)

turtles_keep : list_all (pattern_by base_keeps) turtle_patterns ≡ true
unfolding rows
turtles_keep = refl

undirected_keep : list_all (pattern_by base_keeps) undirected_patterns ≡ true
unfolding rows
undirected_keep = refl

directed_keep : list_all (pattern_by base_keeps) directed_patterns ≡ true
unfolding rows
directed_keep = refl

module _ (d : Declared) where
  yields_procedure : (n : ℕ) (p : Procedure) → Yields (procedure_term n p) (case.Procedure n)
  yields_procedure n p = yields_other (procedure_term n p) (case.Procedure n) refl refl (by p.reporter)
    where
      by : (b : Bool) → is_variable (if b then role.Reporter else role.Command) ≡ false
      by true = refl
      by false = refl

  yield : (name : Name) (t : Term) → term_named (terms d) name ≡ Some t → Yields t (case_of_what t t.what)
  yield name t here =
      each_row (λ x. Yields x (case_of_what x x.what)) d row_passes breed_passes rows_pass (of_each_breed breed_passes turtles_pass undirected_pass directed_pass)
      yields_base yields_made
      (λ n g at. record { sets = refl; yields = refl; spreads = refl })
      (λ n o at. record { sets = refl; yields = refl; spreads = refl })
      (λ n p at. yields_procedure n p) name t here

  keeps : (name : Name) (t : Term) → term_named (terms d) name ≡ Some t → keeps_places t ≡ true
  keeps name t here =
      each_row (λ x. keeps_places x ≡ true) d base_keeps base_keeps places_kept (of_each_breed base_keeps turtles_keep undirected_keep directed_keep)
      (λ r h. h) (λ n made r h. h) (λ n g at. refl) (λ n o at. refl) (λ n p at. calm_values (length p.inputs)) name t here

  -- ---- what a text sets

  abbrev MayBe : Name → Manner → Type 0
  MayBe w m = is_not_settable (terms d) m w ≡ false

  set_there : (t : Node) → IsName (terms d) is_settable t → MayBe (text_of (tree.label t)) manner.Set → IsTrue (can_be_set (case_of d (tree.label t)))
  set_there t (w, s, (is, pass)) may =
      subst (λ u. IsTrue (can_be_set (case_of d (tree.label u)))) (sym is)
      (by (term_named (terms d) w) (yield w) (subst (λ u. MayBe (text_of (tree.label u)) manner.Set) is may))
    where
      freed : (a b : Bool) → (a || b) ≡ true → b ≡ false → a ≡ true
      freed true b h k = refl
      freed false b h k = let bad : true ≡ false = sym h ∙ k in cc

      by : (o : Option Term) → ((r : Term) → o ≡ Some r → Yields r (case_of_what r r.what)) → fixed_by (row_of_term o) ≡ false → IsTrue (can_be_set (case_of_term w o))
      by None each k = refl
      by (Some r) each k = freed (can_be_set (case_of_what r r.what)) (fixed_by (row_of_what r.what)) (each r refl).yields k

  spread_there : (t : Node) → IsName (terms d) is_settable t → MayBe (text_of (tree.label t)) manner.Spread → IsSome (slot_in (case_of d (tree.label t)))
  spread_there t (w, s, (is, pass)) may =
      subst (λ u. IsSome (slot_in (case_of d (tree.label u)))) (sym is)
      (by (term_named (terms d) w) (yield w) (subst (λ u. MayBe (text_of (tree.label u)) manner.Spread) is may))
    where
      some : (o : Option Slot) (b : Bool) → (is_some o || b) ≡ true → b ≡ false → IsSome o
      some (Some slot) b h k = refl
      some None b h k = let bad : true ≡ false = sym h ∙ k in cc

      by : (o : Option Term) → ((r : Term) → o ≡ Some r → Yields r (case_of_what r r.what))
          → (fixed_by (row_of_term o) || not (is_on_patches o)) ≡ false → IsSome (slot_in (case_of_term w o))
      by None each k = cc
      by (Some r) each k = some (slot_in (case_of_what r r.what)) (is_barred r) (each r refl).spreads k

  by_case : (it : Case) (is : List Input) (m : Manner) (ts : List Node) → sets_by it is m ≡ true → Named (terms d) MayBe keeps m is ts → SetsWhatItMay d it ts
  by_case (case.Word runs breed (built.Control control.Set)) is m [] h n = tt
  by_case (case.Word runs breed (built.Control control.Set)) (input.Variable ∷ is) manner.Set (t ∷ ts) h n = set_there t n.0.0 n.0.1
  by_case (case.Word runs breed (built.Control control.Set)) is m (t ∷ ts) h n = cc
  by_case (case.Word runs breed (built.Spread word)) is m [] h n = tt
  by_case (case.Word runs breed (built.Spread word)) (input.Variable ∷ is) manner.Spread (t ∷ ts) h n = spread_there t n.0.0 n.0.1
  by_case (case.Word runs breed (built.Spread word)) is m (t ∷ ts) h n = cc
  by_case (case.Word runs breed (built.Control word)) is m ts h n = tt
  by_case (case.Word runs breed (built.Over word)) is m ts h n = tt
  by_case (case.Word runs breed (built.Making word)) is m ts h n = tt
  by_case (case.Word runs breed (built.Act which)) is m ts h n = tt
  by_case other is m ts h n = tt

  by_row : (w : Name) (o : Option Term) (ts : List Node) → ((r : Term) → o ≡ Some r → Yields r (case_of_what r r.what)) → NamedBy (terms d) MayBe keeps o ts
      → SetsWhatItMay d (case_of_term w o) ts
  by_row w None ts each n = tt
  by_row w (Some r) ts each n = by_case (case_of_what r r.what) (inputs_of r) (manner_by (row_of_what r.what)) ts (each r refl).sets n

  by_label : (l : Label) (ts : List Node) → NamedAt (terms d) MayBe keeps l ts → SetsWhatItMay d (case_of d l) ts
  by_label (label.Named w) ts n = by_row w (term_named (terms d) w) ts (yield w) n
  by_label (label.Number count) ts n = tt
  by_label (label.Text bytes) ts n = tt
  by_label label.List ts n = tt
  by_label label.Negate ts n = tt
  by_label label.Paren ts n = tt
  by_label label.Commands ts n = tt
  by_label label.Reporter ts n = tt
  by_label (label.Arrow names) ts n = tt

  may_be : (bodies : List Node) (reporter : Bool) (u : Use) → IsRight (terms d) bodies reporter u → MayBe u.name u.manner
  may_be bodies reporter u right = by (is_not_settable (terms d) u.manner u.name) (λ is. right NotSettable (right WrongContext, is))
    where
      by : (b : Bool) → (IsTrue b → ⊥) → b ≡ false
      by true h = absurd (h refl)
      by false h = refl

  right_sets : (bodies : List Node) (reporter : Bool) (first : Kinds) (t : Node) → Each (λ u. AreOf (terms d) (tree.label u) (tree.parts u)) t
      → All (IsRight (terms d) bodies reporter) (uses (terms d) first t) → Each (λ u. SetsWhatItMay d (case_of d (tree.label u)) (tree.parts u)) t
  right_sets bodies reporter first t parts right =
      let each = All-weaker (IsRight (terms d) bodies reporter) (OfUse MayBe) (may_be bodies reporter) (uses (terms d) first t) right in
      let all = pieces_from MayBe (packed (pieces (terms d) t)) first false [] each in
      each_more (NamesUsed (terms d) MayBe keeps) (λ u. SetsWhatItMay d (case_of d (tree.label u)) (tree.parts u))
      (λ u n. by_label (tree.label u) (tree.parts u) n) t (used (terms d) MayBe keeps t parts all)

pub texts_set_what_they_may : TextsSetWhatTheyMay
texts_set_what_they_may d bodies form names ts t r (inl (reporter, right)) =
    right_sets d bodies reporter everyone t (nodes_have_their_parts d form names ts t r) right
texts_set_what_they_may d bodies form names ts t r (inr right) =
    right_sets d bodies false observers t (nodes_have_their_parts d form names ts t r) right
