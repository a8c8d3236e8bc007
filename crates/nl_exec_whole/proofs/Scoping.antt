-- Each name of a text is known at its place: by induction over the reading of its tokens.
use Rattle.std.proofs.Common.{◌≡◌, Bool, true, false, IsTrue, List, [], ◌∷◌, ◌++◌, Option, Some, None, bytes_eq, refl, sym, ap, subst, ◌∙◌}
use Rattle.std.specs.Prelude.{if◌then◌else◌, ◌||◌}
use Rattle.nl_fixed.specs.Nouns.{Name, Names}
use Rattle.nl_tree.specs.declared.declared.Form.{Form}
use Rattle.nl_tree.specs.declared.declared.Form.TheVariants as form
use Rattle.nl_tree.specs.declared.tree.Label.{Label}
use Rattle.nl_tree.specs.declared.tree.Label.TheVariants as label
use Rattle.nl_tree.specs.Tree.{Node, node, Nodes, none, more}
use Rattle.nl_tree.specs.Term.{Term}
use Rattle.nl_tree.specs.Vocabulary.{among, term_named, terms}
use Rattle.nl_tree.specs.Tokens.{Token, Tok, Class, Unknown, Constant, Plain, Named, Prefix, Many, Closing, Command, Let, With, Near, Of, Binary, class_of, marked}
use Rattle.nl_tree.specs.Slots.{is_let, made_at, first_name}
use Rattle.nl_tree.specs.Grammar as grammar
use Rattle.nl_tree.specs.Grammar.{one, two, leaf, join, and_last, Part, Closed, Chain, Sides, Call, LastCall, Items, AnyItems, Level, Literals, Arg, Args, Head, HeadNames, Statement, Statements, Reads, IsText}
use Rattle.nl_exec_whole.specs.Scopes.{makes, head_of, Order, Beside, Sequence, Naming, order_by, order_of, IsKnownBy, IsKnown, InScope, InParts, NamesAreKnown}
use Rattle.nl_exec_whole.proofs.Marked.{AreMarked, all_marked}
use Rattle.nl_exec_whole.proofs.Rows.{is_unknown, no_row}

-- ---- more names

abbrev Within : Names → Names → Type 0
Within e f = (v : Name) → IsTrue (among v e) → IsTrue (among v f)

-- a name in front of both
in_front : (here e f : Bool) → (IsTrue e → IsTrue f) → IsTrue (here || e) → IsTrue (here || f)
in_front true e f h k = refl
in_front false e f h k = h k

within_front : (ns e f : Names) → Within e f → Within (ns ++ e) (ns ++ f)
within_front [] e f h v k = h v k
within_front (n ∷ ns) e f h v k = in_front (bytes_eq n v) (among v (ns ++ e)) (among v (ns ++ f)) (within_front ns e f h v) k

-- the first name of a head goes before those behind it
passed : (first here e f : Bool) → (IsTrue e → IsTrue (first || f)) → IsTrue (here || e) → IsTrue (first || (here || f))
passed true true e f h k = refl
passed true false e f h k = refl
passed false true e f h k = refl
passed false false e f h k = h k

first_passes : (n : Name) (ns e : Names) → Within (ns ++ (n ∷ e)) (n ∷ (ns ++ e))
first_passes n [] e v k = k
first_passes n (m ∷ ns) e v k = passed (bytes_eq n v) (bytes_eq m v) (among v (ns ++ (n ∷ e))) (among v (ns ++ e)) (first_passes n ns e v) k

module _ (table : List Term) where
  known_within : (e f : Names) (w : Name) (o : Option Term) → Within e f → IsKnownBy o e w → IsKnownBy o f w
  known_within e f w None wide h = wide w h
  known_within e f w (Some t) wide h = tt

  label_within : (e f : Names) (l : Label) → Within e f → IsKnown table e l → IsKnown table f l
  label_within e f (label.Named w) wide h = known_within e f w (term_named table w) wide h
  label_within e f l wide h = tt

  mutual
    scope_within : (t : Node) (e f : Names) → Within e f → InScope table e t → InScope table f t
    scope_within (node l s ts) e f wide h =
        (label_within e f l wide h.0, parts_within ts (order_of table l) (head_of l ++ e) (head_of l ++ f) (within_front (head_of l) e f wide) h.1)

    parts_within : (ts : Nodes) (order : Order) (e f : Names) → Within e f → InParts table e order ts → InParts table f order ts
    parts_within none order e f wide h = tt
    parts_within (more t ts) Beside e f wide h = (scope_within t e f wide h.0, parts_within ts Beside e f wide h.1)
    parts_within (more t ts) Sequence e f wide h =
        (scope_within t e f wide h.0, parts_within ts Sequence (makes table t ++ e) (makes table t ++ f) (within_front (makes table t) e f wide) h.1)
    parts_within (more t ts) Naming e f wide h = parts_within ts Beside e f wide h

  -- ---- the reading

  join_scopes : (e : Names) (ts us : Nodes) → InParts table e Beside ts → InParts table e Beside us → InParts table e Beside (join ts us)
  join_scopes e none us h k = k
  join_scopes e (more t ts) us h k = (h.0, join_scopes e ts us h.1 k)

  -- a word with a row
  row_known : (e : Names) (w : Name) (o : Option Term) (c : Class) → c ≡ class_of o → is_unknown c ≡ false → IsKnownBy o e w
  row_known e w None c same known = let bad : true ≡ false = sym (ap is_unknown same) ∙ known in cc
  row_known e w (Some t) c same known = tt

  word : (e : Names) (w : Name) (s : _) (ts : Nodes) (c : Class) → c ≡ class_of (term_named table w) → is_unknown c ≡ false → is_let c ≡ false → InParts table e Beside ts
      → InScope table e (node (label.Named w) s ts)
  word e w s ts c same known plain h = (
    row_known e w (term_named table w) c same known,
    subst (λ b. InParts table e (order_by b) ts) (sym (sym (ap is_let same) ∙ plain)) h,
  )

  local : (e : Names) (w : Name) (s : _) → IsTrue (among w e) → Unknown ≡ class_of (term_named table w) → InScope table e (leaf (label.Named w) s)
  local e w s here same = (subst (λ o. IsKnownBy o e w) (sym (no_row (term_named table w) same)) here, tt)

  made : (e : Names) (w n : Name) (s r : _) (t : Node) → Let ≡ class_of (term_named table w) → InScope table e t → InScope table e (node (label.Named w) s (two (leaf (label.Named n) r) t))
  made e w n s r t same h = (
    row_known e w (term_named table w) Let same refl,
    subst (λ b. InParts table e (order_by b) (two (leaf (label.Named n) r) t)) (ap is_let same) (h, tt),
  )

  -- what a part says of its trees where these names are known
  abbrev Scoped : Part → Names → Nodes → Type 0
  Scoped (Statements k) e ts = InParts table e Sequence ts
  Scoped p e ts = InParts table e Beside ts

  abbrev first_makes : Nodes → Names
  first_makes none = []
  first_makes (more t ts) = makes table t

  -- what is known after a statement, and behind a head
  abbrev Then : Part → Names → Nodes → Type 0
  Then (Statement f) e ts = first_makes ts ++ e ≡ f
  Then (Head n ns f) e ts = Within f (ns ++ e)
  Then (HeadNames n ns f) e ts = Within f (ns ++ e)
  Then p e ts = Unit {0}

  no_name : (e : Names) (w : Name) (ts : Nodes) (c : Class) → c ≡ class_of (term_named table w) → is_let c ≡ false → made_at table (label.Named w) ts ++ e ≡ e
  no_name e w ts c same plain = ap (λ (b : Bool). (if b then first_name ts else []) ++ e) (sym (ap is_let same) ∙ plain)

  one_name : (e : Names) (w n : Name) (r : _) (t : Node) → Let ≡ class_of (term_named table w) → made_at table (label.Named w) (two (leaf (label.Named n) r) t) ++ e ≡ n ∷ e
  one_name e w n r t same = ap (λ (b : Bool). (if b then n ∷ [] else []) ++ e) (sym (ap is_let same))

  read : {p : Part} {e : Names} {a c : List Tok} {ts : Nodes} → Reads p e a c ts → AreMarked table a → Scoped p e ts × AreMarked table c × Then p e ts
  read (grammar.closed_number) m = (((tt, tt), tt), m.1, tt)
  read (grammar.closed_text) m = (((tt, tt), tt), m.1, tt)
  read (grammar.closed_constant {e = e} {w = w} {s = s}) m = ((word e w s none Constant m.0 refl refl tt, tt), m.1, tt)
  read (grammar.closed_plain {e = e} {w = w} {s = s}) m = ((word e w s none Plain m.0 refl refl tt, tt), m.1, tt)
  read (grammar.closed_variable {e = e} {w = w} {s = s}) m = ((word e w s none Named m.0 refl refl tt, tt), m.1, tt)
  read (grammar.closed_local {e = e} {w = w} {s = s} h) m = ((local e w s h m.0, tt), m.1, tt)
  read (grammar.closed_list r) m = let x = read r m.1 in (((tt, x.0), tt), x.1, tt)
  read (grammar.closed_block {e = e} {w = w} {is = is} {k = b} {s = s} {ts = ts} {t = t} r q) m =
      let x = read r m.1 in
      let y = read q x.1 in
      ((word e w s (and_last ts t) (Closing is b) m.0 refl refl (join_scopes e ts (one t) x.0 y.0), tt), y.1, tt)
  read (grammar.paren r) m = let x = read r m.1 in (((tt, x.0), tt), x.1.1, tt)
  read (grammar.paren_many {e = e} {w = w} {n = n} {r = s} {ts = ts} r) m =
      let x = read r m.1.1 in
      (((tt, (word e w s ts (Many n) m.1.0 refl refl x.0, tt)), tt), x.1.1, tt)
  read (grammar.paren_minus r) m = let x = read r m.1.1 in (((tt, ((tt, x.0), tt)), tt), x.1.1, tt)
  read (grammar.chain_closed r) m = read r m
  read (grammar.chain_with {e = e} {w = w} {s = s} {t = t} {u = u} r q) m =
      let x = read r m in
      let y = read q x.1.1 in
      ((word e w s (two t u) With x.1.0 refl refl (x.0.0, y.0), tt), y.1, tt)
  read (grammar.chain_near {e = e} {w = w} {n = n} {s = s} {t = t} {us = us} r q) m =
      let x = read r m in
      let y = read q x.1.1 in
      ((word e w s (more t us) (Near n) x.1.0 refl refl (x.0.0, y.0), tt), y.1, tt)
  read (grammar.one_side r) m = read r m
  read (grammar.more_sides r q) m =
      let x = read r m in
      let y = read q x.1 in
      ((x.0.0, y.0), y.1, tt)
  read (grammar.call_prefix {e = e} {w = w} {is = is} {s = s} {ts = ts} {t = t} r q) m =
      let x = read r m.1 in
      let y = read q x.1 in
      ((word e w s (and_last ts t) (Prefix is) m.0 refl refl (join_scopes e ts (one t) x.0 y.0), tt), y.1, tt)
  read (grammar.call_many {e = e} {w = w} {n = n} {s = s} {ts = ts} r) m = let x = read r m.1 in ((word e w s ts (Many n) m.0 refl refl x.0, tt), x.1, tt)
  read (grammar.one_item r) m = read r m
  read (grammar.more_items r q) m =
      let x = read r m in
      let y = read q x.1 in
      ((x.0.0, y.0), y.1, tt)
  read (grammar.no_item) m = (tt, m, tt)
  read (grammar.any_item r q) m =
      let x = read r m in
      let y = read q x.1 in
      ((x.0.0, y.0), y.1, tt)
  read (grammar.last_call r) m = read r m
  read (grammar.more_last r q) m =
      let x = read r m in
      let y = read q x.1 in
      ((x.0.0, y.0), y.1, tt)
  read (grammar.item_chain r) m = read r m
  read (grammar.item_call r) m = read r m
  read (grammar.item_near {e = e} {w = w} {n = n} {s = s} {t = t} {us = us} r q) m =
      let x = read r m in
      let y = read q x.1.1 in
      ((word e w s (more t us) (Near n) x.1.0 refl refl (x.0.0, y.0), tt), y.1, tt)
  read (grammar.item_of {e = e} {w = w} {s = s} {t = t} {u = u} r q) m =
      let x = read r m in
      let y = read q x.1.1 in
      ((word e w s (two t u) Of x.1.0 refl refl (x.0.0, y.0), tt), y.1, tt)
  read (grammar.level_up r) m = read r m
  read (grammar.level_binary {e = e} {w = w} {l = l} {m = b} {s = s} {t = t} {u = u} r q) m =
      let x = read r m in
      let y = read q x.1.1 in
      ((word e w s (two t u) (Binary l b) x.1.0 refl refl (x.0.0, y.0), tt), y.1, tt)
  read (grammar.literal_end) m = (tt, m.1, tt)
  read (grammar.literal_number r) m = let x = read r m.1 in (((tt, tt), x.0), x.1, tt)
  read (grammar.literal_text r) m = let x = read r m.1 in (((tt, tt), x.0), x.1, tt)
  read (grammar.literal_constant {e = e} {w = w} {s = s} r) m = let x = read r m.1 in ((word e w s none Constant m.0 refl refl tt, x.0), x.1, tt)
  read (grammar.literal_list r q) m =
      let x = read r m.1 in
      let y = read q x.1 in
      (((tt, x.0), y.0), y.1, tt)
  read (grammar.arg_item r) m = read r m
  read (grammar.arg_whole r) m = read r m
  read (grammar.arg_commands r) m = let x = read r m.1 in (((tt, x.0), tt), x.1, tt)
  read (grammar.arg_reporter r) m = let x = read r m.1 in (((tt, x.0), tt), x.1.1, tt)
  read (grammar.arg_arrow_commands {e = e} {f = f} {ns = ns} {ts = ts} r q) m =
      let x = read r m.1 in
      let y = read q x.1 in
      (((tt, ((tt, parts_within ts Sequence f (ns ++ e) x.2 y.0), tt)), tt), y.1, tt)
  read (grammar.arg_arrow_reporter {e = e} {f = f} {ns = ns} {t = t} r q) m =
      let x = read r m.1 in
      let y = read q x.1 in
      (((tt, (scope_within t f (ns ++ e) x.2 y.0.0, tt)), tt), y.1.1, tt)
  read (grammar.no_head) m = (tt, m, λ v k. k)
  read (grammar.head_arrow) m = (tt, m.1, λ v k. k)
  read (grammar.head_name h) m = (tt, m.1.1, λ v k. k)
  read (grammar.head_names r) m = let x = read r m.1 in (tt, x.1.1, x.2)
  read (grammar.names_end) m = (tt, m.1, λ v k. k)
  read (grammar.next_name {e = e} {ns = ns} {w = w} h r) m =
      let x = read r m.1 in
      (tt, x.1, λ v k. first_passes w ns e v (x.2 v k))
  read (grammar.arg_variable {e = e} {w = w} {s = s}) m = ((word e w s none Named m.0 refl refl tt, tt), m.1, tt)
  read (grammar.arg_local {e = e} {w = w} {s = s} h) m = ((local e w s h m.0, tt), m.1, tt)
  read (grammar.no_arg) m = (tt, m, tt)
  read (grammar.arg r q) m =
      let x = read r m in
      let y = read q x.1 in
      ((x.0.0, y.0), y.1, tt)
  read (grammar.maybe_there r q) m =
      let x = read r m in
      let y = read q x.1 in
      ((x.0.0, y.0), y.1, tt)
  read (grammar.maybe_missing h r) m = read r m
  read (grammar.command {e = e} {w = w} {is = is} {s = s} {ts = ts} r) m =
      let x = read r m.1 in
      ((word e w s ts (Command is) m.0 refl refl x.0, tt), x.1, no_name e w ts (Command is) m.0 refl)
  read (grammar.make {e = e} {w = w} {n = n} {s = s} {r = r} {t = t} h q) m =
      let x = read q m.1.1 in
      ((made e w n s r t m.0 x.0.0, tt), x.1, one_name e w n r t m.0)
  read (grammar.statement_paren r) m = let x = read r m.1 in (((tt, x.0), tt), x.1.1, x.2)
  read (grammar.at_bracket) m = (tt, m.1, tt)
  read (grammar.at_end) m = (tt, m.1, tt)
  read (grammar.statements {ts = ts} r q) m =
      let x = read r m in
      let y = read q x.1 in
      ((x.0.0, subst (λ f. InParts table f Sequence ts) (sym x.2) y.0), y.1, tt)

  text_in_scope : (f : Form) (e : Names) (ts : List Token) (t : Node) → IsText f e (marked table ts) t → InScope table e t
  text_in_scope form.Commands e ts t (parts, is, r) = subst (InScope table e) (sym is) (tt, (read r (all_marked table ts)).0)
  text_in_scope form.Reporter e ts t (s, r) = (read r (all_marked table ts)).0.0

pub names_are_known : NamesAreKnown
names_are_known d form inputs ts t r = text_in_scope (terms d) form inputs ts t r
