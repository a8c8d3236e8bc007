-- Every name of a tree that fits has a slot, or is an input or made in the tree: by induction over the reading of its tokens.
use Rattle.std.proofs.Common.{◌≡◌, ℕ, Bool, true, false, ◌||◌, IsTrue, List, [], ◌∷◌, ◌++◌, map, Option, Some, None, All, ◌⊎◌, inl, inr, bytes_eq, find, refl, sym, ap, subst, ◌∙◌, cond}
use Rattle.std.proofs.lemmas.Slice.Eq.{bytes_eq-Decides}
use Rattle.std.proofs.lemmas.List.Elements.{All-nil, All-cons, All-append}
use Rattle.std.specs.Prelude.{slice_get, IfSome}
use Rattle.std.specs.Option.{option_copied, option_map}
use Rattle.std.specs.Borrow.{Bor}
use Rattle.nl_tree.specs.declared.tree.Tree.{Tree}
use Rattle.nl_tree.specs.declared.declared.Procedure.{Procedure}
use Rattle.nl_tree.specs.Views.{plain}
use Rattle.nl_tree.specs.Checked.{BodiesFit}
use Rattle.nl_tree.specs.declared.tree.Label.{Label}
use Rattle.nl_tree.specs.declared.tree.Label.TheVariants as label
use Rattle.nl_tree.specs.declared.declared.Declared.{Declared}
use Rattle.nl_tree.specs.declared.declared.NamedWhat.{NamedWhat}
use Rattle.nl_tree.specs.declared.declared.Form.{Form}
use Rattle.nl_tree.specs.declared.declared.Form.TheVariants as form
use Rattle.nl_tree.specs.Tree.{Node, node, Nodes, none, more}
use Rattle.nl_tree.specs.Term.{Term}
use Rattle.nl_tree.specs.Tokens.{Token, Class, Unknown, Constant, Plain, Named, Prefix, Many, Closing, Command, Let, With, Near, Of, Binary, Arrow, Nowhere, class_of, Tok, marked}
use Rattle.nl_tree.specs.Grammar as grammar
use Rattle.nl_tree.specs.Grammar.{one, two, leaf, join, and_last, Part, Closed, Chain, Sides, Call, LastCall, Items, AnyItems, Level, Literals, Arg, Args, Head, HeadNames, Statement, Statements, Reads, IsText}
use Rattle.nl_tree.specs.BodyFault.{Fits, ends_at}
use Rattle.nl_tree.specs.Vocabulary.{among, term_named, terms, named_what, what_of}
use Rattle.nl_tree.specs.Slots.{name_at, names, names_in, is_let, made_at, made, made_in, HasSlot, NamesHaveSlots}
use Rattle.nl_tree.proofs.Marked.{AreMarked, all_marked}
use Rattle.nl_tree.proofs.Range.{named_in_range}

abbrev pub HasRow : List Term → List ℕ → Type 0
HasRow table w = (t : Term) × (term_named table w ≡ Some t)

abbrev is_unknown : Class → Bool
is_unknown Unknown = true
is_unknown Constant = false
is_unknown Plain = false
is_unknown Named = false
is_unknown (Prefix is) = false
is_unknown (Many n) = false
is_unknown (Closing is k) = false
is_unknown (Command is) = false
is_unknown Let = false
is_unknown With = false
is_unknown (Near n) = false
is_unknown Of = false
is_unknown (Binary l m) = false
is_unknown Arrow = false
is_unknown Nowhere = false

row_there : (o : Option Term) (c : Class) → c ≡ class_of o → is_unknown c ≡ false → (t : Term) × (o ≡ Some t)
row_there None c same known = let bad : true ≡ false = sym (ap is_unknown same) ∙ known in cc
row_there (Some t) c same known = (t, refl)

module _ (table : List Term) (K : List ℕ → Type 0) where
  -- each name has a row or is known
  abbrev Stands : Label → Type 0
  Stands (label.Named w) = K w ⊎ HasRow table w
  Stands (label.Number n) = Unit {0}
  Stands (label.Text bytes) = Unit {0}
  Stands label.List = Unit {0}
  Stands label.Negate = Unit {0}
  Stands label.Paren = Unit {0}
  Stands label.Commands = Unit {0}
  Stands label.Reporter = Unit {0}
  Stands (label.Arrow names) = Unit {0}

  abbrev mutual
    Stand : Node → Type 0
    Stand (node l s ts) = Stands l × StandIn ts

    StandIn : Nodes → Type 0
    StandIn none = Unit {0}
    StandIn (more t ts) = Stand t × StandIn ts

  -- each name that is made is known
  abbrev Made : List (List ℕ) → Type 0
  Made ns = (n : List ℕ) → IsTrue (among n ns) → K n

  abbrev mutual
    Makes : Node → Type 0
    Makes (node l s ts) = Made (made_at table l ts) × MakeIn ts

    MakeIn : Nodes → Type 0
    MakeIn none = Unit {0}
    MakeIn (more t ts) = Makes t × MakeIn ts

  stand_join : (ts us : Nodes) → StandIn ts → StandIn us → StandIn (join ts us)
  stand_join none us h k = k
  stand_join (more t ts) us h k = (h.0, stand_join ts us h.1 k)

  make_left : (ts us : Nodes) → MakeIn (join ts us) → MakeIn ts
  make_left none us h = tt
  make_left (more t ts) us h = (h.0, make_left ts us h.1)

  make_right : (ts us : Nodes) → MakeIn (join ts us) → MakeIn us
  make_right none us h = h
  make_right (more t ts) us h = make_right ts us h.1

  -- what is known after a part
  abbrev Then : Part → Type 0
  Then (Statement f) = Made f
  Then Closed = Unit {0}
  Then Chain = Unit {0}
  Then (Sides n) = Unit {0}
  Then Call = Unit {0}
  Then (LastCall n) = Unit {0}
  Then (Items n) = Unit {0}
  Then AnyItems = Unit {0}
  Then (Level l) = Unit {0}
  Then Literals = Unit {0}
  Then (Arg i) = Unit {0}
  Then (Args is) = Unit {0}
  Then (Head n ns f) = Unit {0}
  Then (HeadNames n ns f) = Unit {0}
  Then (Statements k) = Unit {0}

  row : (w : List ℕ) (c : Class) → c ≡ class_of (term_named table w) → is_unknown c ≡ false → K w ⊎ HasRow table w
  row w c same known = inr (row_there (term_named table w) c same known)

  let_there : (w : List ℕ) (n : List ℕ) (s : _) (ts : Nodes) → Let ≡ class_of (term_named table w) → Made (made_at table (label.Named w) (more (leaf (label.Named n) s) ts)) → K n
  let_there w n s ts same made_known =
      let it : is_let (class_of (term_named table w)) ≡ true = sym (ap is_let same) in
      made_known n (rw it (rw ((bytes_eq-Decides n n).1 refl) refl))

  name_known : (n : List ℕ) (e : List (List ℕ)) → K n → Made e → Made (n ∷ e)
  name_known n e here known m h = elim (bytes_eq n m) as (λ b. bytes_eq n m ≡ b → IsTrue (b || among m e) → K m) [
    | true ↦ λ same _. subst K ((bytes_eq-Decides n m).0 same) here
    | false ↦ λ same later. known m later
  ] refl h

  -- the names of a head are known behind it
  first_made : (n : List ℕ) (ns : List (List ℕ)) → Made (n ∷ ns) → K n
  first_made n ns known = known n (rw ((bytes_eq-Decides n n).1 refl) refl)

  rest_made : (n : List ℕ) (ns : List (List ℕ)) → Made (n ∷ ns) → Made ns
  rest_made n ns known m here = known m (elim (bytes_eq n m) as (λ b. IsTrue (b || among m ns)) [ true ↦ refl | false ↦ here ])

  names_known : {n : ℕ} {ns e f : List (List ℕ)} {a c : List Tok} {ts : Nodes} → Reads (HeadNames n ns f) e a c ts → Made e → Made ns → Made f
  names_known (grammar.names_end) k known = k
  names_known (grammar.next_name {e = e} {ns = ns} {w = w} h r) k known = names_known r (name_known w e (first_made w ns known) k) (rest_made w ns known)

  names_marked : {n : ℕ} {ns e f : List (List ℕ)} {a c : List Tok} {ts : Nodes} → Reads (HeadNames n ns f) e a c ts → AreMarked table a → AreMarked table c
  names_marked (grammar.names_end) m = m.1
  names_marked (grammar.next_name h r) m = names_marked r m.1

  head_known : {n : ℕ} {ns e f : List (List ℕ)} {a c : List Tok} {ts : Nodes} → Reads (Head n ns f) e a c ts → Made e → Made ns → Made f
  head_known (grammar.no_head) k known = k
  head_known (grammar.head_arrow) k known = k
  head_known (grammar.head_name {e = e} {w = w} h) k known = name_known w e (first_made w [] known) k
  head_known (grammar.head_names r) k known = names_known r k known

  read : {p : Part} {e : List (List ℕ)} {a c : List Tok} {ts : Nodes} → Reads p e a c ts → Made e → AreMarked table a → MakeIn ts → StandIn ts × AreMarked table c × Then p
  read (grammar.closed_number) k m d = (((tt, tt), tt), m.1, tt)
  read (grammar.closed_text) k m d = (((tt, tt), tt), m.1, tt)
  read (grammar.closed_constant {w = w}) k m d = (((row w Constant m.0 refl, tt), tt), m.1, tt)
  read (grammar.closed_plain {w = w}) k m d = (((row w Plain m.0 refl, tt), tt), m.1, tt)
  read (grammar.closed_variable {w = w}) k m d = (((row w Named m.0 refl, tt), tt), m.1, tt)
  read (grammar.closed_local {w = w} h) k m d = (((inl (k w h), tt), tt), m.1, tt)
  read (grammar.closed_list r) k m d = let x = read r k m.1 d.0.1 in (((tt, x.0), tt), x.1, tt)
  read (grammar.closed_block {w = w} {is = is} {k = b} {ts = ts} {t = t} r q) k m d =
      let x = read r k m.1 (make_left ts (one t) d.0.1) in
      let y = read q k x.1 (make_right ts (one t) d.0.1) in
      (((row w (Closing is b) m.0 refl, stand_join ts (one t) x.0 y.0), tt), y.1, tt)
  read (grammar.paren r) k m d = let x = read r k m.1 d.0.1 in (((tt, x.0), tt), x.1.1, tt)
  read (grammar.paren_many {w = w} {n = n} r) k m d =
      let x = read r k m.1.1 d.0.1.0.1 in
      (((tt, ((row w (Many n) m.1.0 refl, x.0), tt)), tt), x.1.1, tt)
  read (grammar.paren_minus r) k m d = let x = read r k m.1.1 d.0.1.0.1 in (((tt, ((tt, x.0), tt)), tt), x.1.1, tt)
  read (grammar.chain_closed r) k m d = read r k m d
  read (grammar.chain_with {w = w} r q) k m d =
      let x = read r k m (d.0.1.0, tt) in
      let y = read q k x.1.1 d.0.1.1 in
      (((row w With x.1.0 refl, (x.0.0, y.0)), tt), y.1, tt)
  read (grammar.chain_near {w = w} {n = n} r q) k m d =
      let x = read r k m (d.0.1.0, tt) in
      let y = read q k x.1.1 d.0.1.1 in
      (((row w (Near n) x.1.0 refl, (x.0.0, y.0)), tt), y.1, tt)
  read (grammar.one_side r) k m d = read r k m d
  read (grammar.more_sides r q) k m d =
      let x = read r k m (d.0, tt) in
      let y = read q k x.1 d.1 in
      ((x.0.0, y.0), y.1, tt)
  read (grammar.call_prefix {w = w} {is = is} {ts = ts} {t = t} r q) k m d =
      let x = read r k m.1 (make_left ts (one t) d.0.1) in
      let y = read q k x.1 (make_right ts (one t) d.0.1) in
      (((row w (Prefix is) m.0 refl, stand_join ts (one t) x.0 y.0), tt), y.1, tt)
  read (grammar.call_many {w = w} {n = n} r) k m d = let x = read r k m.1 d.0.1 in (((row w (Many n) m.0 refl, x.0), tt), x.1, tt)
  read (grammar.one_item r) k m d = read r k m d
  read (grammar.more_items r q) k m d =
      let x = read r k m (d.0, tt) in
      let y = read q k x.1 d.1 in
      ((x.0.0, y.0), y.1, tt)
  read (grammar.no_item) k m d = (tt, m, tt)
  read (grammar.any_item r q) k m d =
      let x = read r k m (d.0, tt) in
      let y = read q k x.1 d.1 in
      ((x.0.0, y.0), y.1, tt)
  read (grammar.last_call r) k m d = read r k m d
  read (grammar.more_last r q) k m d =
      let x = read r k m (d.0, tt) in
      let y = read q k x.1 d.1 in
      ((x.0.0, y.0), y.1, tt)
  read (grammar.item_chain r) k m d = read r k m d
  read (grammar.item_call r) k m d = read r k m d
  read (grammar.item_near {w = w} {n = n} r q) k m d =
      let x = read r k m (d.0.1.0, tt) in
      let y = read q k x.1.1 d.0.1.1 in
      (((row w (Near n) x.1.0 refl, (x.0.0, y.0)), tt), y.1, tt)
  read (grammar.item_of {w = w} r q) k m d =
      let x = read r k m (d.0.1.0, tt) in
      let y = read q k x.1.1 d.0.1.1 in
      (((row w Of x.1.0 refl, (x.0.0, y.0)), tt), y.1, tt)
  read (grammar.level_up r) k m d = read r k m d
  read (grammar.level_binary {w = w} {l = l} {m = b} r q) k m d =
      let x = read r k m (d.0.1.0, tt) in
      let y = read q k x.1.1 d.0.1.1 in
      (((row w (Binary l b) x.1.0 refl, (x.0.0, y.0)), tt), y.1, tt)
  read (grammar.literal_end) k m d = (tt, m.1, tt)
  read (grammar.literal_number r) k m d = let x = read r k m.1 d.1 in (((tt, tt), x.0), x.1, tt)
  read (grammar.literal_text r) k m d = let x = read r k m.1 d.1 in (((tt, tt), x.0), x.1, tt)
  read (grammar.literal_constant {w = w} r) k m d = let x = read r k m.1 d.1 in (((row w Constant m.0 refl, tt), x.0), x.1, tt)
  read (grammar.literal_list r q) k m d =
      let x = read r k m.1 d.0.1 in
      let y = read q k x.1 d.1 in
      (((tt, x.0), y.0), y.1, tt)
  read (grammar.arg_item r) k m d = read r k m d
  read (grammar.arg_whole r) k m d = read r k m d
  read (grammar.arg_commands r) k m d = let x = read r k m.1 d.0.1 in (((tt, x.0), tt), x.1, tt)
  read (grammar.arg_reporter r) k m d = let x = read r k m.1 d.0.1 in (((tt, x.0), tt), x.1.1, tt)
  read (grammar.arg_arrow_commands r q) k m d =
      let x = read r k m.1 tt in
      let y = read q (head_known r k d.0.0) x.1 d.0.1.0.1 in
      (((tt, ((tt, y.0), tt)), tt), y.1, tt)
  read (grammar.arg_arrow_reporter r q) k m d =
      let x = read r k m.1 tt in
      let y = read q (head_known r k d.0.0) x.1 d.0.1 in
      (((tt, y.0), tt), y.1.1, tt)
  read (grammar.no_head) k m d = (tt, m, tt)
  read (grammar.head_arrow) k m d = (tt, m.1, tt)
  read (grammar.head_name h) k m d = (tt, m.1.1, tt)
  read (grammar.head_names r) k m d = (tt, (names_marked r m.1).1, tt)
  read (grammar.names_end) k m d = (tt, m.1, tt)
  read (grammar.next_name h r) k m d = (tt, names_marked r m.1, tt)
  read (grammar.arg_variable {w = w}) k m d = (((row w Named m.0 refl, tt), tt), m.1, tt)
  read (grammar.arg_local {w = w} h) k m d = (((inl (k w h), tt), tt), m.1, tt)
  read (grammar.no_arg) k m d = (tt, m, tt)
  read (grammar.arg r q) k m d =
      let x = read r k m (d.0, tt) in
      let y = read q k x.1 d.1 in
      ((x.0.0, y.0), y.1, tt)
  read (grammar.maybe_there r q) k m d =
      let x = read r k m (d.0, tt) in
      let y = read q k x.1 d.1 in
      ((x.0.0, y.0), y.1, tt)
  read (grammar.maybe_missing h r) k m d = read r k m d
  read (grammar.command {w = w} {is = is} r) k m d = let x = read r k m.1 d.0.1 in (((row w (Command is) m.0 refl, x.0), tt), x.1, k)
  read (grammar.make {e = e} {w = w} {n = n} {r = s} {t = t} h q) k m d =
      let x = read q k m.1.1 d.0.1.1 in
      let here = let_there w n s (one t) m.0 d.0.0 in
      (((row w Let m.0 refl, ((inl here, tt), x.0)), tt), x.1, name_known n e here k)
  read (grammar.statement_paren r) k m d = let x = read r k m.1 d.0.1 in (((tt, x.0), tt), x.1.1, x.2)
  read (grammar.at_bracket) k m d = (tt, m.1, tt)
  read (grammar.at_end) k m d = (tt, m.1, tt)
  read (grammar.statements r q) k m d =
      let x = read r k m (d.0, tt) in
      let y = read q x.2 x.1 d.1 in
      ((x.0.0, y.0), y.1, tt)

among_left : (n : List ℕ) (xs ys : List (List ℕ)) → IsTrue (among n xs) → IsTrue (among n (xs ++ ys))
among_left n (x ∷ xs) ys h = elim (bytes_eq x n) as (λ b. IsTrue (b || among n xs) → IsTrue (b || among n (xs ++ ys))) [ true ↦ λ _. refl | false ↦ among_left n xs ys ] h
among_left n [] ys h = cc

or_true : (b : Bool) → IsTrue (b || true)
or_true true = refl
or_true false = refl

among_right : (n : List ℕ) (xs ys : List (List ℕ)) → IsTrue (among n ys) → IsTrue (among n (xs ++ ys))
among_right n [] ys h = h
among_right n (x ∷ xs) ys h = let later : among n (xs ++ ys) ≡ true = among_right n xs ys h in rw later (or_true (bytes_eq x n))

module _ (table : List Term) (K : List ℕ → Type 0) where
  mutual
    all_make : (t : Node) → Made table K (made table t) → Makes table K t
    all_make (node l s ts) h = (λ n here. h n (among_left n (made_at table l ts) (made_in table ts) here), all_make_in ts (λ n here. h n (among_right n (made_at table l ts) (made_in table ts) here)))

    all_make_in : (ts : Nodes) → Made table K (made_in table ts) → MakeIn table K ts
    all_make_in none h = tt
    all_make_in (more t ts) h = (all_make t (λ n here. h n (among_left n (made table t) (made_in table ts) here)), all_make_in ts (λ n here. h n (among_right n (made table t) (made_in table ts) here)))

  abbrev IsFound : List ℕ → Type 0
  IsFound w = K w ⊎ HasRow table w

  found_at : (l : Label) → Stands table K l → All IsFound (name_at l)
  found_at (label.Named w) h = All-cons IsFound w [] h (All-nil IsFound)
  found_at (label.Number n) h = All-nil IsFound
  found_at (label.Text bytes) h = All-nil IsFound
  found_at label.List h = All-nil IsFound
  found_at label.Negate h = All-nil IsFound
  found_at label.Paren h = All-nil IsFound
  found_at label.Commands h = All-nil IsFound
  found_at label.Reporter h = All-nil IsFound
  found_at (label.Arrow names) h = All-nil IsFound

  mutual
    all_found : (t : Node) → Stand table K t → All IsFound (names t)
    all_found (node l s ts) h = All-append IsFound (name_at l) (names_in ts) (found_at l h.0) (all_found_in ts h.1)

    all_found_in : (ts : Nodes) → StandIn table K ts → All IsFound (names_in ts)
    all_found_in none h = All-nil IsFound
    all_found_in (more t ts) h = All-append IsFound (names t) (names_in ts) (all_found t h.0) (all_found_in ts h.1)

  text_stands : (f : Form) (e : List (List ℕ)) (ts : List Token) (t : Node) → IsText f e (marked table ts) t → Made table K e → Makes table K t → Stand table K t
  text_stands form.Commands e ts t (parts, is, r) known makes =
      subst (Stand table K) (sym is) (tt, (read table K r known (all_marked table ts) (subst (Makes table K) is makes).1).0)
  text_stands form.Reporter e ts t (s, r) known makes = (read table K r known (all_marked table ts) (makes, tt)).0.0

named_first : (name : List ℕ) (t u : Term) (us : List Term) (same : Bool) → cond same (Some u) (term_named us name) ≡ Some t
    → (term_named us name ≡ Some t → find (λ (r : NamedWhat). bytes_eq r.name name) (map named_what us) ≡ Some (named_what t))
    → cond same (Some (named_what u)) (find (λ (r : NamedWhat). bytes_eq r.name name) (map named_what us)) ≡ Some (named_what t)
named_first name t u us true here later = let it : u ≡ t = cc in ap (λ x. Some (named_what x)) it
named_first name t u us false here later = later here

named_too : (name : List ℕ) (t : Term) (ts : List Term) → term_named ts name ≡ Some t → find (λ (r : NamedWhat). bytes_eq r.name name) (map named_what ts) ≡ Some (named_what t)
named_too name t [] here = cc
named_too name t (u ∷ us) here = named_first name t u us (bytes_eq u.name name) here (named_too name t us)

-- a row is a slot
pub slot_there : (d : Declared) (name : List ℕ) (t : Term) → term_named (terms d) name ≡ Some t → HasSlot d name
slot_there d name t here = (t.what, (ap what_of (named_too name t (terms d) here), named_in_range d name t here))

one_of_two : (d : Declared) (inputs : List (List ℕ)) (t : Node) (name : List ℕ)
    → IsTrue (among name inputs || among name (made (terms d) t)) ⊎ HasRow (terms d) name → HasSlot d name ⊎ IsTrue (among name inputs || among name (made (terms d) t))
one_of_two d inputs t name (inl known) = inr known
one_of_two d inputs t name (inr (row, here)) = inl (slot_there d name row here)

or_left : (a b : Bool) → IsTrue a → IsTrue (a || b)
or_left true b h = refl
or_left false b h = cc

or_right : (a b : Bool) → IsTrue b → IsTrue (a || b)
or_right true b h = refl
or_right false b h = h

-- every name of a tree that fits has a slot, or is an input or made in the tree
pub have_slots : (d : Declared) (f : Form) (inputs : List (List ℕ)) (t : Node) → Fits f inputs (terms d) t → NamesHaveSlots d inputs t
have_slots d f inputs t (ts, s, (words, (read_as, low))) =
    let K = λ (name : List ℕ). IsTrue (among name inputs || among name (made (terms d) t)) in
    let known : Made (terms d) K inputs = λ n here. or_left (among n inputs) (among n (made (terms d) t)) here in
    let makes = all_make (terms d) K t (λ n here. or_right (among n inputs) (among n (made (terms d) t)) here) in
    let found = all_found (terms d) K t (text_stands (terms d) K f inputs (ts ++ ends_at s ∷ []) t read_as known makes) in
    λ k name within. one_of_two d inputs t _ (found k name within)

-- so are those of a body that is found
pub body_has_slots : (d : Declared) (bodies : List Node) (i : ℕ) (r : Option (Bor Tree)) → option_map plain (option_copied r) ≡ slice_get bodies i → BodiesFit d bodies
    → (p : Procedure) → slice_get d.procedures i ≡ Some p → IfSome r (λ b. NamesHaveSlots d p.inputs (plain b.now))
body_has_slots d bodies i None is fit p there = tt
body_has_slots d bodies i (Some b) is fit p there = have_slots d form.Commands p.inputs (plain b.now) (fit i p (plain b.now) there (sym is))
