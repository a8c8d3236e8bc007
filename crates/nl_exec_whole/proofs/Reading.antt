-- Each node of a text has its parts: by induction over the reading of its tokens.
use Rattle.std.proofs.Common.{◌≡◌, ◌⊎◌, inl, inr, ℕ, suc, ◌≤◌, Bool, true, false, IsTrue, List, [], ◌∷◌, ◌++◌, map, length, Some, All, refl, sym, ap, subst, arith}
use Rattle.std.proofs.lemmas.List.Elements.{All-nil, All-cons}
use Rattle.std.specs.List.{list_any}
use Rattle.nl_fixed.specs.Nouns.{Name, Names}
use Rattle.nl_words.specs.Table.{is_cases}
use Rattle.nl_words.specs.declared.entry.Input.{Input}
use Rattle.nl_words.specs.declared.entry.Input.TheVariants as input
use Rattle.nl_tree.specs.declared.needs.Block.{Block}
use Rattle.nl_tree.specs.declared.needs.Block.TheVariants as blocks
use Rattle.nl_tree.specs.declared.needs.Content.TheVariants as contents
use Rattle.nl_tree.specs.declared.needs.Need.{Need}
use Rattle.nl_tree.specs.declared.needs.Need.TheVariants.{Item, Whole, Within, Maybe, Variable}
use Rattle.nl_tree.specs.declared.declared.Form.{Form}
use Rattle.nl_tree.specs.declared.declared.Form.TheVariants as form
use Rattle.nl_tree.specs.declared.tree.Label.TheVariants as label
use Rattle.nl_tree.specs.Tree as tree
use Rattle.nl_tree.specs.Tree.{Node, node, Nodes, none, more, listed}
use Rattle.nl_tree.specs.Term.{Term}
use Rattle.nl_tree.specs.Vocabulary.{term_named}
use Rattle.nl_tree.specs.Tokens.{Token, Tok, Class, Unknown, Constant, Plain, Named, Prefix, Many, Closing, Command, Let, With, Near, Of, Binary, is_new, names_of, need_of_command, need_of_reporter, repeated, inputs_of, class_of, marked}
use Rattle.nl_tree.specs.Grammar as grammar
use Rattle.nl_tree.specs.Grammar.{one, leaf, join, and_last, Part, Closed, Chain, Sides, Call, LastCall, Items, AnyItems, Level, Literals, Arg, Args, Head, HeadNames, Statement, Statements, Reads, IsText}
use Rattle.nl_exec_whole.specs.Parts.{Each, EachIn, IsValue, is_local, is_settable, IsName, IsCommands, AreNew, IsArrow, AreInputs, AreTaken, takes_any, AreOfWord, AreOf}
use Rattle.nl_exec_whole.proofs.Marked.{AreMarked, all_marked}
use Rattle.nl_exec_whole.proofs.Rows.{term_fits, Says, is_unknown, names_none, no_row, row_says}

listed_join : (ts us : Nodes) → listed (join ts us) ≡ listed ts ++ listed us
listed_join none us = refl
listed_join (more t ts) us = ap (λ x. t ∷ x) (listed_join ts us)

-- each node is as it is said, in a tree and in others beside it
each_join : (Holds : Node → Type 0) (ts us : Nodes) → EachIn Holds ts → EachIn Holds us → EachIn Holds (join ts us)
each_join Holds none us h k = k
each_join Holds (more t ts) us h k = (h.0, each_join Holds ts us h.1 k)

abbrev need_by : Bool → ℕ → Input → Need
need_by true n i = need_of_command n i
need_by false n i = need_of_reporter n i

module _ (table : List Term) where
  -- ---- what a need reads

  abbrev NeedIs : Need → Node → Type 0
  NeedIs Item t = IsValue t
  NeedIs Whole t = IsValue t
  NeedIs (Within blocks.Commands) t = IsCommands t
  NeedIs (Within blocks.Reporter) t = tree.label t ≡ label.Reporter
  NeedIs (Within (blocks.Arrow contents.Commands n)) t = IsArrow table IsCommands n t
  NeedIs (Within (blocks.Arrow contents.Reporter n)) t = IsArrow table IsValue n t
  NeedIs Maybe t = IsCommands t
  NeedIs Variable t = IsName table is_settable t

  abbrev NeedsAre : List Need → List Node → Type 0
  NeedsAre [] [] = Unit {0}
  NeedsAre [] (t ∷ ts) = ⊥
  NeedsAre (Maybe ∷ is) [] = NeedsAre is []
  NeedsAre (Maybe ∷ is) (t ∷ ts) = NeedsAre is (t ∷ ts) ⊎ (NeedIs Maybe t × NeedsAre is ts)
  NeedsAre (i ∷ is) [] = ⊥
  NeedsAre (i ∷ is) (t ∷ ts) = NeedIs i t × NeedsAre is ts

  may_be_missing : (is : List Need) (ts : List Node) → NeedsAre is ts → NeedsAre (Maybe ∷ is) ts
  may_be_missing is [] h = h
  may_be_missing is (t ∷ ts) h = inl h

  needs_cons : (i : Need) (is : List Need) (t : Node) (ts : List Node) → NeedIs i t → NeedsAre is ts → NeedsAre (i ∷ is) (t ∷ ts)
  needs_cons Item is t ts h k = (h, k)
  needs_cons Whole is t ts h k = (h, k)
  needs_cons (Within b) is t ts h k = (h, k)
  needs_cons Maybe is t ts h k = inr (h, k)
  needs_cons Variable is t ts h k = (h, k)

  item_last : (is : List Need) (ts : List Node) (t : Node) → NeedsAre is ts → IsValue t → NeedsAre (is ++ Item ∷ []) (ts ++ t ∷ [])
  item_last [] [] t h k = (k, tt)
  item_last [] (u ∷ us) t h k = absurd h
  item_last (Maybe ∷ is) [] t h k = inl (item_last is [] t h k)
  item_last (Maybe ∷ is) (u ∷ us) t (inl h) k = inl (item_last is (u ∷ us) t h k)
  item_last (Maybe ∷ is) (u ∷ us) t (inr h) k = inr (h.0, item_last is us t h.1 k)
  item_last (i ∷ is) [] t h k = absurd h
  item_last (i ∷ is) (u ∷ us) t h k = (h.0, item_last is us t h.1 k)

  block_last : (b : Block) (is : List Need) (ts : List Node) (t : Node) → NeedsAre is ts → NeedIs (Within b) t → NeedsAre (is ++ Within b ∷ []) (ts ++ t ∷ [])
  block_last b [] [] t h k = (k, tt)
  block_last b [] (u ∷ us) t h k = absurd h
  block_last b (Maybe ∷ is) [] t h k = inl (block_last b is [] t h k)
  block_last b (Maybe ∷ is) (u ∷ us) t (inl h) k = inl (block_last b is (u ∷ us) t h k)
  block_last b (Maybe ∷ is) (u ∷ us) t (inr h) k = inr (h.0, block_last b is us t h.1 k)
  block_last b (i ∷ is) [] t h k = absurd h
  block_last b (i ∷ is) (u ∷ us) t h k = (h.0, block_last b is us t h.1 k)

  -- what the needs of a row read are its inputs
  inputs_from : (command : Bool) (n : ℕ) (is : List Input) (ts : List Node) → list_any is_new is ≡ false → list_any is_cases is ≡ false → NeedsAre (map (need_by command n) is) ts → AreInputs table n is ts
  inputs_from command n [] [] e cases h = tt
  inputs_from command n [] (t ∷ ts) e cases h = absurd h
  inputs_from command n (input.Fresh ∷ is) ts e cases h = cc
  inputs_from command n (input.Cases ∷ is) ts e cases h = cc
  inputs_from true n (input.MaybeCommands ∷ is) [] e cases h = inputs_from true n is [] e cases h
  inputs_from false n (input.MaybeCommands ∷ is) [] e cases h = inputs_from false n is [] e cases h
  inputs_from true n (input.MaybeCommands ∷ is) (t ∷ ts) e cases (inl h) = inl (inputs_from true n is (t ∷ ts) e cases h)
  inputs_from true n (input.MaybeCommands ∷ is) (t ∷ ts) e cases (inr h) = inr (h.0, inputs_from true n is ts e cases h.1)
  inputs_from false n (input.MaybeCommands ∷ is) (t ∷ ts) e cases (inl h) = inl (inputs_from false n is (t ∷ ts) e cases h)
  inputs_from false n (input.MaybeCommands ∷ is) (t ∷ ts) e cases (inr h) = inr (h.0, inputs_from false n is ts e cases h.1)
  inputs_from true n (i ∷ is) [] e cases h = absurd h
  inputs_from false n (i ∷ is) [] e cases h = absurd h
  inputs_from true n (i ∷ is) (t ∷ ts) e cases h = (h.0, inputs_from true n is ts e cases h.1)
  inputs_from false n (i ∷ is) (t ∷ ts) e cases h = (h.0, inputs_from false n is ts e cases h.1)

  -- ---- a word by its row

  abbrev OfRow : Term → List Node → Type 0
  OfRow r ts = AreTaken table (names_of r.turns) (takes_any r) (inputs_of r) ts

  of_inputs : (r : Term) (ts : List Node) → takes_any r ≡ false → AreInputs table (names_of r.turns) (inputs_of r) ts → OfRow r ts
  of_inputs r ts few h = subst (λ (b : Bool). AreTaken table (names_of r.turns) b (inputs_of r) ts) (sym few) h

  of_these : (is : List Input) (r : Term) (ts : List Node) → takes_any r ≡ false → inputs_of r ≡ is → AreInputs table (names_of r.turns) is ts → OfRow r ts
  of_these is r ts few these h = of_inputs r ts few (subst (λ x. AreInputs table (names_of r.turns) x ts) (sym these) h)

  of_any : (r : Term) (ts : List Node) → takes_any r ≡ true → All IsValue ts → OfRow r ts
  of_any r ts any h = subst (λ (b : Bool). AreTaken table (names_of r.turns) b (inputs_of r) ts) (sym any) h

module _ (table : List Term) (fit : (w : Name) (t : Term) → term_named table w ≡ Some t → term_fits t ≡ true) where
  abbrev Holds : Node → Type 0
  Holds u = AreOf table (tree.label u) (tree.parts u)

  by_row : (w : Name) (c : Class) (ts : List Node) → c ≡ class_of (term_named table w) → is_unknown c ≡ false → names_none c ≡ false
      → ((r : Term) → list_any is_cases (inputs_of r) ≡ false → Says (names_of r.turns) c r.role (takes_any r) (inputs_of r) → OfRow table r ts) → AreOfWord table (term_named table w) ts
  by_row w c ts same known named of =
      let (r, (row, here, cases, said)) = row_says (term_named table w) c (fit w) same known named in
      subst (λ o. AreOfWord table o ts) (sym row) (here, of r cases said)

  local : (w : Name) → Unknown ≡ class_of (term_named table w) → AreOfWord table (term_named table w) []
  local w same = subst (λ o. AreOfWord table o []) (sym (no_row (term_named table w) same)) refl

  settable_local : (w : Name) → Unknown ≡ class_of (term_named table w) → IsTrue (is_settable (term_named table w))
  settable_local w same = subst (λ o. IsTrue (is_settable o)) (sym (no_row (term_named table w) same)) refl

  new_local : (w : Name) → Unknown ≡ class_of (term_named table w) → IsTrue (is_local (term_named table w))
  new_local w same = subst (λ o. IsTrue (is_local o)) (sym (no_row (term_named table w) same)) refl

  settable : (w : Name) → Named ≡ class_of (term_named table w) → IsTrue (is_settable (term_named table w))
  settable w same =
      let (r, (row, here, cases, said)) = row_says (term_named table w) Named (fit w) same refl refl in
      subst (λ o. IsTrue (is_settable o)) (sym row) said.2

  -- the names of a head
  abbrev IsNew : Name → Type 0
  IsNew w = IsTrue (is_local (term_named table w))

  no_names : (n : ℕ) → AreNew table n []
  no_names n = let few : 0 ≤ n = omega arith in (few, All-nil IsNew)

  one_more_name : (n : ℕ) (w : Name) (ns : Names) → Unknown ≡ class_of (term_named table w) → AreNew table n ns → AreNew table (suc n) (w ∷ ns)
  one_more_name n w ns same h =
      let few : suc (length ns) ≤ suc n = omega (arith, h.0) in
      (few, All-cons IsNew w ns (new_local w same) h.1)

  -- words without parts
  constant : (w : Name) → Constant ≡ class_of (term_named table w) → AreOfWord table (term_named table w) []
  constant w same = by_row w Constant [] same refl refl (λ r cases said. of_these table [] r [] said.0 said.1 tt)

  plain : (w : Name) → Plain ≡ class_of (term_named table w) → AreOfWord table (term_named table w) []
  plain w same = by_row w Plain [] same refl refl (λ r cases said. of_these table [] r [] said.0 said.1 tt)

  variable : (w : Name) → Named ≡ class_of (term_named table w) → AreOfWord table (term_named table w) []
  variable w same = by_row w Named [] same refl refl (λ r cases said. of_these table [] r [] said.0 said.1 tt)

  -- words with parts
  many : (w : Name) (n : ℕ) (ts : List Node) → Many n ≡ class_of (term_named table w) → All IsValue ts → AreOfWord table (term_named table w) ts
  many w n ts same h = by_row w (Many n) ts same refl refl (λ r cases said. of_any table r ts said h)

  command : (w : Name) (ns : List Need) (ts : List Node) → Command ns ≡ class_of (term_named table w) → NeedsAre table ns ts → AreOfWord table (term_named table w) ts
  command w ns ts same h =
      by_row w (Command ns) ts same refl refl
      (λ r cases said. of_inputs table r ts said.0 (inputs_from table true (names_of r.turns) (inputs_of r) ts said.2 cases (subst (λ x. NeedsAre table x ts) (sym said.1) h)))

  prefix : (w : Name) (ns : List Need) (ts : Nodes) (t : Node) → Prefix ns ≡ class_of (term_named table w) → NeedsAre table ns (listed ts) → IsValue t
      → AreOfWord table (term_named table w) (listed (and_last ts t))
  prefix w ns ts t same h k =
      subst (AreOfWord table (term_named table w)) (sym (listed_join ts (one t)))
      (by_row w (Prefix ns) (listed ts ++ t ∷ []) same refl refl
      (λ r cases said. of_inputs table r (listed ts ++ t ∷ []) said.0
      (inputs_from table false (names_of r.turns) (inputs_of r) (listed ts ++ t ∷ []) said.2 cases
      (subst (λ x. NeedsAre table x (listed ts ++ t ∷ [])) (sym said.1) (item_last table ns (listed ts) t h k)))))

  closing : (w : Name) (ns : List Need) (b : Block) (ts : Nodes) (t : Node) → Closing ns b ≡ class_of (term_named table w) → NeedsAre table ns (listed ts) → NeedIs table (Within b) t
      → AreOfWord table (term_named table w) (listed (and_last ts t))
  closing w ns b ts t same h k =
      subst (AreOfWord table (term_named table w)) (sym (listed_join ts (one t)))
      (by_row w (Closing ns b) (listed ts ++ t ∷ []) same refl refl
      (λ r cases said. of_inputs table r (listed ts ++ t ∷ []) said.0
      (inputs_from table false (names_of r.turns) (inputs_of r) (listed ts ++ t ∷ []) said.2 cases
      (subst (λ x. NeedsAre table x (listed ts ++ t ∷ [])) (sym said.1) (block_last table b ns (listed ts) t h k)))))

  made : (w n : Name) (s : _) (t : Node) → Let ≡ class_of (term_named table w) → Unknown ≡ class_of (term_named table n) → IsValue t
      → AreOfWord table (term_named table w) (leaf (label.Named n) s ∷ t ∷ [])
  made w n s t same new h =
      let ts = leaf (label.Named n) s ∷ t ∷ [] in
      by_row w Let ts same refl refl (λ r cases said. of_these table (input.Fresh ∷ input.Value ∷ []) r ts said.0 said.1 ((n, s, (refl, new_local n new)), (h, tt)))

  with_block : (w : Name) (t u : Node) → With ≡ class_of (term_named table w) → IsValue t → NeedIs table (Within blocks.Reporter) u → AreOfWord table (term_named table w) (t ∷ u ∷ [])
  with_block w t u same h k = by_row w With (t ∷ u ∷ []) same refl refl (λ r cases said. of_these table (input.Value ∷ input.Reporter ∷ []) r (t ∷ u ∷ []) said.0 said.1 (h, (k, tt)))

  near : (w : Name) (n : ℕ) (t : Node) (us : List Node) → Near n ≡ class_of (term_named table w) → IsValue t → ((names : ℕ) → AreInputs table names (repeated (suc n)) us) → AreOfWord table (term_named table w) (t ∷ us)
  near w n t us same h k = by_row w (Near n) (t ∷ us) same refl refl (λ r cases said. of_these table (input.Value ∷ repeated (suc n)) r (t ∷ us) said.0 said.1 (h, k (names_of r.turns)))

  of_agents : (w : Name) (t u : Node) → Of ≡ class_of (term_named table w) → NeedIs table (Within blocks.Reporter) t → IsValue u → AreOfWord table (term_named table w) (t ∷ u ∷ [])
  of_agents w t u same h k = by_row w Of (t ∷ u ∷ []) same refl refl (λ r cases said. of_these table (input.Reporter ∷ input.Value ∷ []) r (t ∷ u ∷ []) said.0 said.1 (h, (k, tt)))

  binary : (w : Name) (l : ℕ) (m : Bool) (t u : Node) → Binary l m ≡ class_of (term_named table w) → IsValue t → IsValue u → AreOfWord table (term_named table w) (t ∷ u ∷ [])
  binary w l m t u same h k = by_row w (Binary l m) (t ∷ u ∷ []) same refl refl (λ r cases said. of_these table (input.Value ∷ input.Value ∷ []) r (t ∷ u ∷ []) said.0 said.1 (h, (k, tt)))

  -- ---- the reading

  abbrev OneValue : Nodes → Type 0
  OneValue none = ⊥
  OneValue (more t none) = IsValue t
  OneValue (more t (more u us)) = ⊥

  abbrev OneNeed : Need → Nodes → Type 0
  OneNeed i none = ⊥
  OneNeed i (more t none) = NeedIs table i t
  OneNeed i (more t (more u us)) = ⊥

  -- what else a part says of its trees
  abbrev Also : Part → Nodes → Type 0
  Also Closed ts = OneValue ts
  Also Chain ts = OneValue ts
  Also Call ts = OneValue ts
  Also (Level l) ts = OneValue ts
  Also (Sides n) ts = (names : ℕ) → AreInputs table names (repeated (suc n)) (listed ts)
  Also (LastCall n) ts = (names : ℕ) → AreInputs table names (repeated (suc n)) (listed ts)
  Also (Items n) ts = All IsValue (listed ts)
  Also AnyItems ts = All IsValue (listed ts)
  Also (Arg i) ts = OneNeed i ts
  Also (Args is) ts = NeedsAre table is (listed ts)
  Also Literals ts = Unit {0}
  Also (Head n ns f) ts = AreNew table n ns
  Also (HeadNames n ns f) ts = AreNew table n ns
  Also (Statement f) ts = Unit {0}
  Also (Statements k) ts = Unit {0}

  read : {p : Part} {e : Names} {a c : List Tok} {ts : Nodes} → Reads p e a c ts → AreMarked table a → EachIn Holds ts × AreMarked table c × Also p ts
  read (grammar.closed_number) m = (((refl, tt), tt), m.1, refl)
  read (grammar.closed_text) m = (((refl, tt), tt), m.1, refl)
  read (grammar.closed_constant {w = w}) m = (((constant w m.0, tt), tt), m.1, refl)
  read (grammar.closed_plain {w = w}) m = (((plain w m.0, tt), tt), m.1, refl)
  read (grammar.closed_variable {w = w}) m = (((variable w m.0, tt), tt), m.1, refl)
  read (grammar.closed_local {w = w} h) m = (((local w m.0, tt), tt), m.1, refl)
  read (grammar.closed_list r) m = let x = read r m.1 in (((tt, x.0), tt), x.1, refl)
  read (grammar.closed_block {w = w} {is = is} {k = b} {ts = ts} {t = t} r q) m =
      let x = read r m.1 in
      let y = read q x.1 in
      (((closing w is b ts t m.0 x.2 y.2, each_join Holds ts (one t) x.0 y.0), tt), y.1, refl)
  read (grammar.paren {t = t} r) m = let x = read r m.1 in ((((t, refl), x.0), tt), x.1.1, refl)
  read (grammar.paren_many {w = w} {n = n} {r = s} {ts = ts} r) m =
      let x = read r m.1.1 in
      ((((node (label.Named w) s ts, refl), ((many w n (listed ts) m.1.0 x.2, x.0), tt)), tt), x.1.1, refl)
  read (grammar.paren_minus {r = s} {t = t} r) m =
      let x = read r m.1.1 in
      ((((node label.Negate s (one t), refl), (((t, refl), x.0), tt)), tt), x.1.1, refl)
  read (grammar.chain_closed r) m = read r m
  read (grammar.chain_with {w = w} {t = t} {u = u} r q) m =
      let x = read r m in
      let y = read q x.1.1 in
      (((with_block w t u x.1.0 x.2 y.2, (x.0.0, y.0)), tt), y.1, refl)
  read (grammar.chain_near {w = w} {n = n} {t = t} {us = us} r q) m =
      let x = read r m in
      let y = read q x.1.1 in
      (((near w n t (listed us) x.1.0 x.2 y.2, (x.0.0, y.0)), tt), y.1, refl)
  read (grammar.one_side r) m = let x = read r m in (x.0, x.1, λ names. (x.2, tt))
  read (grammar.more_sides r q) m =
      let x = read r m in
      let y = read q x.1 in
      ((x.0.0, y.0), y.1, λ names. (x.2, y.2 names))
  read (grammar.call_prefix {w = w} {is = is} {ts = ts} {t = t} r q) m =
      let x = read r m.1 in
      let y = read q x.1 in
      (((prefix w is ts t m.0 x.2 y.2, each_join Holds ts (one t) x.0 y.0), tt), y.1, refl)
  read (grammar.call_many {w = w} {n = n} {ts = ts} r) m = let x = read r m.1 in (((many w n (listed ts) m.0 x.2, x.0), tt), x.1, refl)
  read (grammar.one_item {t = t} r) m = let x = read r m in (x.0, x.1, All-cons IsValue t [] x.2 (All-nil IsValue))
  read (grammar.more_items {t = t} {us = us} r q) m =
      let x = read r m in
      let y = read q x.1 in
      ((x.0.0, y.0), y.1, All-cons IsValue t (listed us) x.2 y.2)
  read (grammar.no_item) m = (tt, m, All-nil IsValue)
  read (grammar.any_item {t = t} {us = us} r q) m =
      let x = read r m in
      let y = read q x.1 in
      ((x.0.0, y.0), y.1, All-cons IsValue t (listed us) x.2 y.2)
  read (grammar.last_call r) m = let x = read r m in (x.0, x.1, λ names. (x.2, tt))
  read (grammar.more_last r q) m =
      let x = read r m in
      let y = read q x.1 in
      ((x.0.0, y.0), y.1, λ names. (x.2, y.2 names))
  read (grammar.item_chain r) m = read r m
  read (grammar.item_call r) m = read r m
  read (grammar.item_near {w = w} {n = n} {t = t} {us = us} r q) m =
      let x = read r m in
      let y = read q x.1.1 in
      (((near w n t (listed us) x.1.0 x.2 y.2, (x.0.0, y.0)), tt), y.1, refl)
  read (grammar.item_of {w = w} {t = t} {u = u} r q) m =
      let x = read r m in
      let y = read q x.1.1 in
      (((of_agents w t u x.1.0 x.2 y.2, (x.0.0, y.0)), tt), y.1, refl)
  read (grammar.level_up r) m = read r m
  read (grammar.level_binary {w = w} {l = l} {m = b} {t = t} {u = u} r q) m =
      let x = read r m in
      let y = read q x.1.1 in
      (((binary w l b t u x.1.0 x.2 y.2, (x.0.0, y.0)), tt), y.1, refl)
  read (grammar.literal_end) m = (tt, m.1, tt)
  read (grammar.literal_number r) m = let x = read r m.1 in (((refl, tt), x.0), x.1, tt)
  read (grammar.literal_text r) m = let x = read r m.1 in (((refl, tt), x.0), x.1, tt)
  read (grammar.literal_constant {w = w} r) m = let x = read r m.1 in (((constant w m.0, tt), x.0), x.1, tt)
  read (grammar.literal_list r q) m =
      let x = read r m.1 in
      let y = read q x.1 in
      (((tt, x.0), y.0), y.1, tt)
  read (grammar.arg_item r) m = read r m
  read (grammar.arg_whole r) m = read r m
  read (grammar.arg_commands r) m = let x = read r m.1 in (((tt, x.0), tt), x.1, refl)
  read (grammar.arg_reporter {t = t} r) m = let x = read r m.1 in ((((t, refl), x.0), tt), x.1.1, refl)
  read (grammar.arg_arrow_commands {ns = ns} {s = s} {ts = ts} r q) m =
      let x = read r m.1 in
      let y = read q x.1 in
      let block = node label.Commands s ts in
      ((((block, refl), ((tt, y.0), tt)), tt), y.1, (ns, s, block, (refl, x.2, refl)))
  read (grammar.arg_arrow_reporter {ns = ns} {s = s} {t = t} r q) m =
      let x = read r m.1 in
      let y = read q x.1 in
      ((((t, refl), y.0), tt), y.1.1, (ns, s, t, (refl, x.2, y.2)))
  read (grammar.no_head {n = n}) m = (tt, m, no_names n)
  read (grammar.head_arrow {n = n}) m = (tt, m.1, no_names n)
  read (grammar.head_name {n = n} {w = w} h) m = (tt, m.1.1, one_more_name n w [] m.0 (no_names n))
  read (grammar.head_names r) m = let x = read r m.1 in (tt, x.1.1, x.2)
  read (grammar.names_end {n = n}) m = (tt, m.1, no_names n)
  read (grammar.next_name {ns = ns} {n = n} {w = w} h r) m = let x = read r m.1 in (tt, x.1, one_more_name n w ns m.0 x.2)
  read (grammar.arg_variable {w = w} {s = s}) m = (((variable w m.0, tt), tt), m.1, (w, s, (refl, settable w m.0)))
  read (grammar.arg_local {w = w} {s = s} h) m = (((local w m.0, tt), tt), m.1, (w, s, (refl, settable_local w m.0)))
  read (grammar.no_arg) m = (tt, m, tt)
  read (grammar.arg {i = i} {is = is} {t = t} {ts = ts} r q) m =
      let x = read r m in
      let y = read q x.1 in
      ((x.0.0, y.0), y.1, needs_cons table i is t (listed ts) x.2 y.2)
  read (grammar.maybe_there r q) m =
      let x = read r m in
      let y = read q x.1 in
      ((x.0.0, y.0), y.1, inr (x.2, y.2))
  read (grammar.maybe_missing {is = is} {ts = ts} h r) m = let x = read r m in (x.0, x.1, may_be_missing table is (listed ts) x.2)
  read (grammar.command {w = w} {is = is} {ts = ts} r) m = let x = read r m.1 in (((command w is (listed ts) m.0 x.2, x.0), tt), x.1, tt)
  read (grammar.make {w = w} {n = n} {r = s} {t = t} h q) m =
      let x = read q m.1.1 in
      (((made w n s t m.0 m.1.0 x.2, ((local n m.1.0, tt), x.0)), tt), x.1, tt)
  read (grammar.statement_paren {t = t} r) m = let x = read r m.1 in ((((t, refl), x.0), tt), x.1.1, tt)
  read (grammar.at_bracket) m = (tt, m.1, tt)
  read (grammar.at_end) m = (tt, m.1, tt)
  read (grammar.statements r q) m =
      let x = read r m in
      let y = read q x.1 in
      ((x.0.0, y.0), y.1, tt)

  pub text_has_parts : (f : Form) (e : Names) (ts : List Token) (t : Node) → IsText f e (marked table ts) t → Each Holds t
  text_has_parts form.Commands e ts t (parts, is, r) = subst (Each Holds) (sym is) (tt, (read r (all_marked table ts)).0)
  text_has_parts form.Reporter e ts t (s, r) = (read r (all_marked table ts)).0.0
